use Rattle.std.proofs.lemmas.Bool.{false≢true}
use Rattle.std.proofs.Common.{sym, ◌∙◌}
use Rattle.std.specs.Mem.{FitsInMemory}
use Rattle.rcu_lists.proofs.Rooms.{most-left}
use Rattle.rcu_lists.proofs.Sizes.{in_first, in_places}
use Rattle.rcu_lists.specs.contracts.batch.Batch as row
use denote.Param.{param}
use Rattle.rcu_lists.proofs.batch.Batch.pack_into.Goals as goal

pub spilled-requires : goal.spilled-requires
spilled-requires g c = let h : FitsInMemory (row.the_row (param 0 g.row.J)) = assumption in in_first _ _ _ _ _ _ _ h

pub pack-requires : goal.pack-requires
pack-requires g c = assumption

pub unreachable-requires : goal.unreachable-requires
unreachable-requires g c = absurd (false≢true (c.in-Err.ensures.heap (c.spilled.ensures.value.0 c.if-spilled.true)))

pub unreachable-unreachable : goal.unreachable-unreachable
unreachable-unreachable g c = c.unreachable.result

pub returns-then-spilled : goal.returns-then-spilled
returns-then-spilled g c = record { packed = c.in-Ok.ensures.packed }

pub move_into-requires : goal.move_into-requires
move_into-requires g c = (assumption, most-left c.args.self (λ lt. false≢true (sym c.if-spilled.false ∙ c.spilled.ensures.value.1 lt)))

pub array_drop-self-requires : goal.array_drop-self-requires
array_drop-self-requires g c = let h : FitsInMemory (row.the_row (param 0 g.row.J)) = assumption in in_places _ _ _ _ _ _ _ _ _ _ _ _ _ _ _ _ _ _ _ _ h

pub returns : goal.returns
returns g c = record { packed = c.move_into.ensures.moved }
