use Rattle.std.proofs.Common.{rules}
use Rattle.rcu_lists.proofs.Outcomes.{if_ok_never}
use Rattle.rcuo_replay.proofs.ShowingParts.{own_alone, own_and_group}
use Rattle.rcuo_replay.proofs.commands.show_one.Goals as goal

pub lists_of-requires-send-J : goal.lists_of-requires-send-J
lists_of-requires-send-J g c κs within = c.type_bounds.send-J

pub lists_of-requires-after_bounds : goal.lists_of-requires-after_bounds
lists_of-requires-after_bounds g c κs within = assumption

pub shown_in-requires-send-J : goal.shown_in-requires-send-J
shown_in-requires-send-J g c κs within = c.type_bounds.send-J

pub shown_in-requires-after_bounds : goal.shown_in-requires-after_bounds
shown_in-requires-after_bounds g c κs within = assumption

pub returns-in-Some : goal.returns-in-Some
returns-in-Some g c = record {
  shows = record {
    written = own_and_group c.args.groups.now.items c.args.cpu c.args.processor.now c.lists_of.result c.lists_of.ensures _ _ c.in_ok-write_lists.ensures.writes c.write_lists-in-Some.result _ c.in-Some.lists c.in-Some.ensures c.write_lists-in-Some.ensures.writes;
    why = c.write_lists-in-Some.ensures.why;
  };
}

pub returns-in-None : goal.returns-in-None
returns-in-None g c = record {
  shows = record {
    written = own_alone c.args.groups.now.items c.args.cpu c.args.processor.now c.lists_of.result c.lists_of.ensures _ _ c.in_ok-write_lists.ensures.writes c.in-None.ensures;
    why = tt;
  };
}

pub returns-in_err-write_lists : goal.returns-in_err-write_lists
returns-in_err-write_lists g c = record {
  shows = record {
    written = if_ok_never _ _ c.from_residual.ensures;
    why = search rules;
  };
}
