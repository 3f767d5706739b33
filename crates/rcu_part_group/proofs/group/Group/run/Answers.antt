use Rattle.rcu_part_group.specs.Groups.{members_of}
use Rattle.rcu_part_group.proofs.GroupTurns.{places_again, places_same, same_group, same_group_again}
use Rattle.std.proofs.Common.{◌≡◌, false, true}
use Rattle.rcu_part_group.proofs.group.Group.run.Goals as goal

pub loop-init : goal.loop-init
loop-init g c = let p = c.args.self.state in record { next = tt; finite = tt; same = same_group p; places = places_same (members_of p) }

pub loop-preserved : goal.loop-preserved
loop-preserved g c = let i = c.loop.invariant in let e = c.turn_unless_halted.ensures in let p = c.args.self.state in let q = c.loop.group.state in let r = c.turn_unless_halted.new.self.state in record {
  next = tt;
  finite = tt;
  same = same_group_again p q r i.same e.same;
  places = places_again (members_of p) (members_of q) (members_of r) i.places e.places;
}

pub loop-preserved-in-Some-true : goal.loop-preserved-in-Some-true
loop-preserved-in-Some-true g c = let i = c.loop.invariant in let e = c.turn_unless_halted.ensures in let p = c.args.self.state in let q = c.loop.group.state in let r = c.turn_unless_halted.new.self.state in record {
  next = tt;
  finite = tt;
  same = same_group_again p q r i.same e.same;
  places = places_again (members_of p) (members_of q) (members_of r) i.places e.places;
}

pub returns-in-None-turn_unless_halted-clause-same : goal.returns-in-None-turn_unless_halted-clause-same
returns-in-None-turn_unless_halted-clause-same g c = same_group_again c.args.self.state c.loop.group.state c.turn_unless_halted.new.self.state c.loop.invariant.same c.turn_unless_halted.ensures.same

pub returns-in-None-turn_unless_halted-clause-places : goal.returns-in-None-turn_unless_halted-clause-places
returns-in-None-turn_unless_halted-clause-places g c = places_again (members_of c.args.self.state) (members_of c.loop.group.state) (members_of c.turn_unless_halted.new.self.state) c.loop.invariant.places c.turn_unless_halted.ensures.places

pub turn_unless_halted-requires : goal.turn_unless_halted-requires
turn_unless_halted-requires g c = assumption

pub loop-smaller : goal.loop-smaller
loop-smaller g c = (c.in-Some.ensures.goes.on tt).2

pub unreachable-requires : goal.unreachable-requires
unreachable-requires g c = let f : false ≡ true = c.in-None.ensures.steps in cc

pub loop-smaller-in-Some-true : goal.loop-smaller-in-Some-true
loop-smaller-in-Some-true g c = (c.in-Some.ensures.goes.on tt).2

pub returns-in-None-turn_unless_halted-clause-halted : goal.returns-in-None-turn_unless_halted-clause-halted
returns-in-None-turn_unless_halted-clause-halted g c = c.in-None-turn_unless_halted.ensures.halted
