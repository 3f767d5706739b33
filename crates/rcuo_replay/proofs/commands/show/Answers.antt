use Rattle.std.proofs.Common.{[], arith}
use Rattle.std.proofs.lemmas.List.{take_all}
use Rattle.rcuo_script.proofs.Written.{Appends-none}
use Rattle.rcu_lists.proofs.Outcomes.{if_ok_never}
use Rattle.rcuo_replay.proofs.Writing.{why_output}
use Rattle.rcuo_replay.proofs.ShowingParts.{all_shown, one_shown, shows_none}
use Rattle.rcuo_replay.proofs.commands.show.Goals as goal

pub loop-cpu-init : goal.loop-cpu-init
loop-cpu-init g c = ([], shows_none c.args.groups.now.items 0, Appends-none (g.W.Write.contents c.args.writer.now))

pub loop-cpu-preserved : goal.loop-cpu-preserved
loop-cpu-preserved g c =
    one_shown c.args.groups.now.items c.args.processors.now.items c.loop-cpu.cpu c.index.result.now (omega arith) c.index.ensures (g.W.Write.contents c.args.writer.now) (g.W.Write.contents c.loop-cpu.writer) (g.W.Write.contents c.show_one.new.writer) c.loop-cpu.invariant c.in_ok-show_one.ensures.shows.written

pub show_one-requires-send-J : goal.show_one-requires-send-J
show_one-requires-send-J g c κs within = c.type_bounds.send-J

pub show_one-requires-send-J-Receipt : goal.show_one-requires-send-J-Receipt
show_one-requires-send-J-Receipt g c κs within = c.type_bounds.send-J-Receipt

pub show_one-requires-after_bounds : goal.show_one-requires-after_bounds
show_one-requires-after_bounds g c κs within = assumption

pub returns : goal.returns
returns g c = record {
  shows = record {
    written = all_shown c.args.groups.now.items c.args.processors.now.items c.loop-cpu.cpu (take_all c.loop-cpu.cpu c.args.processors.now.items (omega arith)) (g.W.Write.contents c.args.writer.now) (g.W.Write.contents c.loop-cpu.writer) c.loop-cpu.invariant;
    why = tt;
  };
}

pub returns-in_err-show_one : goal.returns-in_err-show_one
returns-in_err-show_one g c = record {
  shows = record {
    written = if_ok_never _ _ c.from_residual.ensures;
    why = why_output c.from_residual.result c.in_err-show_one.field-0.0 c.from_residual.ensures c.in_err-show_one.ensures.shows.why;
  };
}
