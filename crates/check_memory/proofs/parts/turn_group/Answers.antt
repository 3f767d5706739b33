use Rattle.std.proofs.Common.{◌∙◌, sym}
use Rattle.rcu_part_group.proofs.GroupTurns.{same_group}
use Rattle.rcu_part_group.specs.Groups.{SameGroup}
use Rattle.check_memory.proofs.Nonempty.{not_none}
use Rattle.check_memory.proofs.parts.turn_group.Goals as goal
use Rattle.rcu_lemmas.proofs.Zips.{zip_same}
use Rattle.rcu_lemmas.proofs.Changed.{zip_changed}

pub returns-then-is_empty : goal.returns-then-is_empty
returns-then-is_empty c = zip_same (λ x y. SameGroup x.state y.state) (λ x. same_group x.state) c.args.groups.now.items

pub returns : goal.returns
returns c = zip_changed (λ x y. SameGroup x.state y.state) (λ x. same_group x.state) c.args.groups.now.items 0 c.index_mut.result.now c.turn.new.self (not_none c.args.groups.now (sym c.is_empty.ensures ∙ c.if-is_empty.false)) c.index_mut.ensures.value c.turn.ensures.same
