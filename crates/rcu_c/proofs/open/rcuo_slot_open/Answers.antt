use Rattle.std.proofs.Common.{subst}
use Rattle.rcu_c_slots.specs.Opens.{OpensInto}
use Rattle.rcu_part_order.specs.declared.recorded.Kept.{Kept}
use Rattle.rcu_c.proofs.open.rcuo_slot_open.Goals as goal

pub returns-in-Ok-clause-opened : goal.returns-in-Ok-clause-opened
returns-in-Ok-clause-opened c = λ _. record {
  shape = c.in-Some.shape;
  is = c.in-Some.ensures.some;
  opens = subst (λ (kept : Kept). OpensInto kept c.in-Some.shape c.args.number c.open_into.new.slots) c.kept_by.ensures c.in-Ok.ensures.opened;
}
