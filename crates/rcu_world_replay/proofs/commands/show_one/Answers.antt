use Rattle.std.proofs.Common.{rules, ◌≡◌, None, Some}
use Rattle.rcu_world.proofs.Wholes.{if_ok_never}
use Rattle.rcu_world_replay.proofs.Showing.{own_alone, own_and_group}
use Rattle.rcu_world_replay.proofs.commands.show_one.Goals as goal

pub lists-requires-send-J : goal.lists-requires-send-J
lists-requires-send-J g c κs within = c.type_bounds.send-J

pub group_lists-requires-send-J : goal.group_lists-requires-send-J
group_lists-requires-send-J g c κs within = c.type_bounds.send-J

pub lists-requires-after_bounds : goal.lists-requires-after_bounds
lists-requires-after_bounds g c κs within = (assumption, c.requires)

pub group_lists-requires-after_bounds : goal.group_lists-requires-after_bounds
group_lists-requires-after_bounds g c κs within = assumption

pub returns-in-Some : goal.returns-in-Some
returns-in-Some g c = record {
  shows = record {
    written = let some : c.group_lists.result ≡ Some c.in-Some.lists = search rules in
        own_and_group _ c.args.cpu _ _ c.lists.result c.group_lists.result c.lists.ensures c.group_lists.ensures c.in_ok-write_lists.ensures.writes c.write_lists-in-Some.result _ c.in-Some.lists some c.write_lists-in-Some.ensures.writes;
    why = c.write_lists-in-Some.ensures.why;
  };
}

pub returns-in-None : goal.returns-in-None
returns-in-None g c = record {
  shows = record {
    written = let none : c.group_lists.result ≡ None = search rules in
        own_alone _ c.args.cpu _ _ c.lists.result c.group_lists.result c.lists.ensures c.group_lists.ensures c.in_ok-write_lists.ensures.writes none;
    why = tt;
  };
}

pub returns-in_err-write_lists : goal.returns-in_err-write_lists
returns-in_err-write_lists g c = record {
  shows = record {
    written = if_ok_never _ _ c.from_residual.ensures;
    why = search rules;
  };
}
