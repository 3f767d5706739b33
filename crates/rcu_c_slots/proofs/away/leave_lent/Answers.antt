use Rattle.std.proofs.Common.{sym, ◌∙◌, refl}
use Rattle.rcu_c_slots.proofs.LentParts.{finishes_some, leaves_resting, none_if, some_if}
use Rattle.rcu_c_slots.proofs.away.leave_lent.Goals as goal

pub into_processor-requires : goal.into_processor-requires
into_processor-requires c = none_if c.args.lent.job (sym c.is_some.ensures ∙ c.if-is_some.false)

pub returns-then-is_some : goal.returns-then-is_some
returns-then-is_some c = let k = some_if c.args.lent.job (sym c.is_some.ensures ∙ c.if-is_some.true) in finishes_some c.args.lent.job _ _ k.0 k.1 (refl, refl)

pub returns : goal.returns
returns c = leaves_resting c.args.lent.job _ _ (none_if c.args.lent.job (sym c.is_some.ensures ∙ c.if-is_some.false)) (c.into_processor.result, c.into_processor.ensures, c.leave_one.ensures)
