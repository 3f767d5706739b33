use Rattle.std.proofs.Common.{List, subst, sym}
use Rattle.std.specs.Arc.{arc_value}
use Rattle.rcu_board.proofs.Facts.{saw-halt}
use Rattle.std.specs.List.{AllZip}
use Rattle.rcu_part_group.specs.Groups.{PassesOn, members_of}
use Rattle.rcu_part_group.specs.declared.members.GroupMember.{GroupMember}
use Rattle.rcu_part_group.proofs.GroupTurns.{places_same, same_group_again}
use Rattle.rcu_part_group.proofs.group.Group.turn_unless_halted.Goals as goal

pub returns-then-is_halted-clause-places : goal.returns-then-is_halted-clause-places
returns-then-is_halted-clause-places g c = let ms = members_of c.args.self.now.state in
    subst (λ (ns : List (GroupMember g.row.J.Denot)). AllZip PassesOn ms ns) (sym c.is_halted.ensures.members) (places_same ms)

pub is_halted-requires : goal.is_halted-requires
is_halted-requires g c = assumption

pub turn-turned-requires : goal.turn-turned-requires
turn-turned-requires g c = assumption

pub returns-then-is_halted-clause-same : goal.returns-then-is_halted-clause-same
returns-then-is_halted-clause-same g c = c.is_halted.ensures.same

pub returns-then-turned-gt0-clause-same : goal.returns-then-turned-gt0-clause-same
returns-then-turned-gt0-clause-same g c = same_group_again c.args.self.now.state c.is_halted.new.self.state c.turn-turned.new.self.state c.is_halted.ensures.same c.turn-turned.ensures.same

pub returns-then-turned-gt0-clause-places : goal.returns-then-turned-gt0-clause-places
returns-then-turned-gt0-clause-places g c = subst (λ (ms : List (GroupMember g.row.J.Denot)). AllZip PassesOn ms (members_of c.turn-turned.new.self.state)) c.is_halted.ensures.members c.turn-turned.ensures.places

pub returns-else-turned-gt0-clause-same : goal.returns-else-turned-gt0-clause-same
returns-else-turned-gt0-clause-same g c = same_group_again c.args.self.now.state c.is_halted.new.self.state c.turn-turned.new.self.state c.is_halted.ensures.same c.turn-turned.ensures.same

pub returns-else-turned-gt0-clause-places : goal.returns-else-turned-gt0-clause-places
returns-else-turned-gt0-clause-places g c = subst (λ (ms : List (GroupMember g.row.J.Denot)). AllZip PassesOn ms (members_of c.turn-turned.new.self.state)) c.is_halted.ensures.members c.turn-turned.ensures.places

pub returns-then-is_halted-clause-halted : goal.returns-then-is_halted-clause-halted
returns-then-is_halted-clause-halted g c = let s = c.args.self.now.state in saw-halt (arc_value s.board) s.seat c.is_halted.new.self.state.seat c.is_halted.result s.here c.is_halted.ensures.view c.if-is_halted.true
