-- A finish and then a begin of what a part has are those of the part.
use Rattle.std.proofs.Common.{◌≡◌, ℕ, Result, inl, inr, refl, sym, subst, ◌⊎◌}
use Rattle.rcu_c_slots.specs.Runs.{BeginsBy, BeginsCpu, BeginsHand, FinishesBy, FinishesCpu, FinishesHand, GoesOn, GoesOnBy, GoesOnCpu, GoesOnHand}
use Rattle.rcu_c_slots.specs.declared.fault.Fault.{Fault}
use Rattle.rcu_c_slots.specs.declared.job.ForeignJob.{ForeignJob}
use Rattle.rcu_c_slots.specs.declared.lent.LentHand.{LentHand}
use Rattle.rcu_c_slots.specs.declared.lent.LentProcessor.{LentProcessor}
use Rattle.rcu_c_slots.specs.declared.part.Part.{Part}
use Rattle.rcu_c_slots.specs.declared.part.Part.TheVariants.{Hand, Processor}

processor_goes_on : (moment : ℕ) (result : Result ForeignJob Fault) (p q : LentProcessor) → GoesOnCpu moment result p q → GoesOnBy moment result (Processor p) (Processor q)
processor_goes_on moment result p q (inl stays) = inl (stays.0, stays.1, (q, refl, stays.2))
processor_goes_on moment result p q (inr goes) = inr (Processor goes.0, (goes.0, refl, goes.1), (q, refl, goes.2))

pub processor_part_goes_on : (moment : ℕ) (result : Result ForeignJob Fault) (part : Part) (p q : LentProcessor) → part ≡ Processor p → GoesOnCpu moment result p q → GoesOnBy moment result part (Processor q)
processor_part_goes_on moment result part p q is goes = subst (λ (x : Part). GoesOnBy moment result x (Processor q)) (sym is) (processor_goes_on moment result p q goes)

hand_goes_on : (moment : ℕ) (result : Result ForeignJob Fault) (h i : LentHand) → GoesOnHand result h i → GoesOnBy moment result (Hand h) (Hand i)
hand_goes_on moment result h i (inl stays) = inl (stays.0, stays.1, (i, refl, stays.2))
hand_goes_on moment result h i (inr goes) = inr (Hand goes.0, (goes.0, refl, goes.1), (i, refl, goes.2))

pub hand_part_goes_on : (moment : ℕ) (result : Result ForeignJob Fault) (part : Part) (h i : LentHand) → part ≡ Hand h → GoesOnHand result h i → GoesOnBy moment result part (Hand i)
hand_part_goes_on moment result part h i is goes = subst (λ (x : Part). GoesOnBy moment result x (Hand i)) (sym is) (hand_goes_on moment result h i goes)
