use Rattle.std.proofs.Common.{rules, ◌<◌, ◌≡◌, ◌∙◌, subst}
use Rattle.std.specs.Io.KnownBytes.{Appends}
use Rattle.rcu_world.specs.Views.{state}
use Rattle.rcu_world_replay.specs.Outcomes.{shown}
use Rattle.rcu_world.proofs.Wholes.{if_ok_never}
use Rattle.rcu_world_replay.proofs.Printing.{why_output}
use Rattle.rcu_world_replay.proofs.Showing.{shown_first, shown_more}
use Rattle.rcu_world_replay.proofs.commands.show.Goals as goal

pub loop-cpu-init : goal.loop-cpu-init
loop-cpu-init g c = shown_first _ _

pub loop-cpu-preserved : goal.loop-cpu-preserved
loop-cpu-preserved g c = shown_more _ c.loop-cpu.cpu _ _ _ c.loop-cpu.invariant c.in_ok-show_one.ensures.shows.written

pub processors-cpu-end-requires-send-J : goal.processors-cpu-end-requires-send-J
processors-cpu-end-requires-send-J g c κs within = c.type_bounds.send-J

pub show_one-requires-send-J : goal.show_one-requires-send-J
show_one-requires-send-J g c κs within = c.type_bounds.send-J

pub show_one-requires-send-J-Receipt : goal.show_one-requires-send-J-Receipt
show_one-requires-send-J-Receipt g c κs within = c.type_bounds.send-J-Receipt

pub processors-cpu-end-requires-after_bounds : goal.processors-cpu-end-requires-after_bounds
processors-cpu-end-requires-after_bounds g c κs within = assumption

pub show_one-requires-after_bounds : goal.show_one-requires-after_bounds
show_one-requires-after_bounds g c κs within = (assumption, subst (λ n. c.loop-cpu.cpu < n) c.processors-cpu-end.ensures c.loop-cpu-test.true)

pub returns : goal.returns
returns g c = record {
  shows = record {
    written = let all : c.loop-cpu.cpu ≡ c.processors-cpu-end.result = search rules in
        subst (λ n. Appends (g.W.Write.contents c.args.writer.now) (g.W.Write.contents c.loop-cpu.writer) (shown n (state g.J.Job.key_of c.args.world.now.core))) (all ∙ c.processors-cpu-end.ensures) c.loop-cpu.invariant;
    why = tt;
  };
}

pub returns-in_err-show_one : goal.returns-in_err-show_one
returns-in_err-show_one g c = record {
  shows = record {
    written = if_ok_never _ _ c.from_residual.ensures;
    why = why_output c.from_residual.result c.in_err-show_one.field-0.0 c.from_residual.ensures c.in_err-show_one.ensures.shows.why;
  };
}
