use Rattle.std.proofs.Common.{subst, sym}
use Rattle.rcu_c_slots.specs.Away.{LeavesBy, LeavesLent}
use Rattle.rcu_c_slots.proofs.part.Part.leave.Goals as goal

pub returns-in-Processor : goal.returns-in-Processor
returns-in-Processor c = let l = c.leave_lent-part in
    subst (λ old. LeavesBy l.result.1 old c.fill.new.self) c.in-Processor.ensures.value (subst (λ part. LeavesLent l.result.1 c.in-Processor.lent part) (sym c.fill.ensures) l.ensures)
