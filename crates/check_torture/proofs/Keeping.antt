-- A processor is driven: one act, and one act more.
use Rattle.std.proofs.Common.{◌≡◌, ◌∙◌, ℕ, ◌+◌, Result, Ok, Err, IfOk, IfErr, arith, refl, ap}
use Rattle.rcu_board.proofs.Stepping.{same_again}
use Rattle.rcu_part_processor.specs.Away.{SameLeft, SameReturned}
use Rattle.rcu_part_processor.specs.Processors.{IsSound, SameProcessor}
use Rattle.rcu_part_processor.specs.declared.away.AwayState.{AwayState}
use Rattle.check_torture.specs.declared.retire.Retire.{Retire}
use Rattle.rcu_part_processor.proofs.TickRuns.{same_processor, same_processor_again}
use Rattle.check_torture.specs.Ends.{CpuKeeps}
use Rattle.check_torture.specs.Kept.{Cpu, Keeps, SteersOn}
use Rattle.check_torture.specs.declared.steerer.Steerer.{Steerer}
use Rattle.check_torture.specs.Retired.{IsVersion, version_of}

-- nothing was done
pub keeps_none : (n : ℕ) (p : Cpu) → Keeps n n p p
keeps_none n p = record { same = same_processor p.state; sound = λ s. s; pace = refl }

-- a call that accepts nothing
pub keeps_count : (n : ℕ) (p q : Cpu) → SameProcessor p.state q.state → (IsSound version_of IsVersion p.state → IsSound version_of IsVersion q.state) → q.state.accepted ≡ p.state.accepted → Keeps n n p q
keeps_count n p q same sound count = record { same = same; sound = sound; pace = ap (λ k. k + n) count }

-- a call that was accepted, whose key was counted
pub keeps_one : (n m : ℕ) (p q : Cpu) → SameProcessor p.state q.state → (IsSound version_of IsVersion p.state → IsSound version_of IsVersion q.state) → q.state.accepted ≡ p.state.accepted + 1 → m ≡ n + 1 → Keeps n m p q
keeps_one n m p q same sound count more = record { same = same; sound = sound; pace = omega (arith, count, more) }

-- it was away, and is back
pub keeps_away : (p : Cpu) (a : AwayState Retire ℕ) (q : Cpu) → SameLeft p.state a → SameReturned a q.state → (IsSound version_of IsVersion p.state → IsSound version_of IsVersion q.state) → q.state.accepted ≡ p.state.accepted → Keeps 0 0 p q
keeps_away p a q left back sound count = keeps_count 0 p q (record {
  part = same_again _ _ _ _ _ _ left.part back.part;
  lane = back.lane ∙ left.lane;
  cpu = back.cpu ∙ left.cpu;
  offloadable = back.offloadable ∙ left.offloadable;
  limit = back.limit ∙ left.limit;
  blimit = back.blimit ∙ left.blimit;
  kept = back.kept ∙ left.kept;
}) sound count

-- and then more was done
pub keeps_again : (a b c : ℕ) (p q r : Cpu) → Keeps a b p q → Keeps b c q r → Keeps a c p r
keeps_again a b c p q r h k = record {
  same = same_processor_again p.state q.state r.state h.same k.same;
  sound = λ s. k.sound (h.sound s);
  pace = omega (arith, h.pace, k.pace);
}

-- what the end asks for
pub cpu_keeps : (a b : ℕ) (p q : Cpu) → Keeps a b p q → CpuKeeps p q
cpu_keeps a b p q h = record { same = h.same; sound = h.sound }

-- a call of either kind, as far as it answered that the job was accepted
pub keeps_if_ok : {T E : Type 0} (r : Result T E) (P : T → Type 0) (p q : Cpu) → SameProcessor p.state q.state → (IsSound version_of IsVersion p.state → IsSound version_of IsVersion q.state) → ((t : T) → P t → q.state.accepted ≡ p.state.accepted + 1) → IfOk r P → IfOk r (λ _. Keeps 0 1 p q)
keeps_if_ok (Ok t) P p q same sound one h = keeps_one 0 1 p q same sound (one t h) refl
keeps_if_ok (Err e) P p q same sound one h = tt

-- and as far as it answered that it was not
pub keeps_if_err : {T E : Type 0} (r : Result T E) (P : E → Type 0) (p q : Cpu) → SameProcessor p.state q.state → (IsSound version_of IsVersion p.state → IsSound version_of IsVersion q.state) → ((e : E) → P e → q.state.accepted ≡ p.state.accepted) → IfErr r P → IfErr r (λ _. Keeps 0 0 p q)
keeps_if_err (Ok t) P p q same sound none h = tt
keeps_if_err (Err e) P p q same sound none h = keeps_count 0 p q same sound (none e h)

-- control steered on, and then did so again
pub steers_again : (a b c : Steerer) → SteersOn a b → SteersOn b c → SteersOn a c
steers_again a b c h k = record {
  steers = same_again _ _ _ _ _ _ h.steers k.steers;
  drained = k.drained ∙ h.drained;
  many = k.many ∙ h.many;
}
