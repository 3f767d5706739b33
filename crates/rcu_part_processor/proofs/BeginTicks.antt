-- What a begin of a processor comes to.
use Rattle.std.proofs.Common.{◌≡◌, ℕ, ◌≤◌, true, false, sym, ◌∙◌, refl, subst, arith}
use Rattle.rcu_board.specs.Views.{seen_at}
use Rattle.rcu_board.specs.Words.{turns_word}
use Rattle.rcu_jobs.specs.declared.Stop.{Stop}
use Rattle.rcu_part_processor.specs.Begins.{BeginsTick, ClaimsFirst, ClaimsNone, StopsBegin, TakesNone}
use Rattle.rcu_part_processor.specs.Processors.{SameProcessor, records_of, view_of}
use Rattle.rcu_part_processor.specs.Ticks.{CatchesUp, Heeds, Settles, StopsTick}
use Rattle.rcu_part_processor.specs.declared.processor.ProcessorState.{ProcessorState}
use Rattle.rcu_part_processor.specs.declared.running_processor.RunningProcessorState.{RunningProcessorState}
use Rattle.rcu_part_processor.proofs.TickRuns.{done_untaken}

module _ {J R : Type 0} where
  -- no claim was won
  pub none_claimed : (seen : ℕ) (stop : Stop) (p q : ProcessorState J R) → TakesNone R p.cpu stop (view_of p) (view_of q) p.lists q.lists → q.cpu ≡ p.cpu → records_of q ≡ records_of p
      → seen_at (view_of p) (turns_word p.cpu) ≤ seen_at (view_of q) (turns_word p.cpu) → ClaimsNone seen stop p q
  none_claimed seen stop p q t cpu records later = record { tried = t.tried; ran = done_untaken seen stop p q t records later; why = subst (λ (k : ℕ). StopsTick stop 0 k q) (omega arith) (t.why q cpu refl t.lists 0) }

  -- a processor that isn't offloadable only catches up before
  pub begins_local : (seen moment : ℕ) (p q : ProcessorState J R) (r : RunningProcessorState J R) (job : J) → SameProcessor p q → CatchesUp seen p q → p.offloadable ≡ false → ClaimsFirst seen q r job → BeginsTick moment p r job
  begins_local seen moment p q r job same c off claims = record {
    seen = seen;
    first = q;
    second = q;
    third = q;
    same = (same, same, same);
    catches_up = c;
    local = λ _. (refl, refl);
    heeds = λ on. (let f : true ≡ false = sym on ∙ off in cc);
    settles = λ on. (let f : true ≡ false = sym on ∙ off in cc);
    claims = claims;
  }

  pub stops_local : (seen moment : ℕ) (stop : Stop) (p q r : ProcessorState J R) → SameProcessor p q → CatchesUp seen p q → p.offloadable ≡ false → ClaimsNone seen stop q r → StopsBegin moment stop p r
  stops_local seen moment stop p q r same c off none = record {
    seen = seen;
    tried = none.tried;
    first = q;
    second = q;
    third = q;
    same = (same, same, same);
    catches_up = c;
    local = λ _. (refl, refl);
    heeds = λ on. (let f : true ≡ false = sym on ∙ off in cc);
    settles = λ on. (let f : true ≡ false = sym on ∙ off in cc);
    ran = none.ran;
    stop = none.why;
  }

  -- an offloadable one heeds what is asked, and settles
  pub begins_switching : (seen moment : ℕ) (p q s t : ProcessorState J R) (r : RunningProcessorState J R) (job : J) → SameProcessor p q × SameProcessor p s × SameProcessor p t → CatchesUp seen p q → p.offloadable ≡ true → Heeds moment q s → Settles s t → ClaimsFirst seen t r job → BeginsTick moment p r job
  begins_switching seen moment p q s t r job same c on heeds settles claims = record {
    seen = seen;
    first = q;
    second = s;
    third = t;
    same = same;
    catches_up = c;
    local = λ off. (let f : true ≡ false = sym on ∙ off in cc);
    heeds = λ _. heeds;
    settles = λ _. settles;
    claims = claims;
  }

  pub stops_switching : (seen moment : ℕ) (stop : Stop) (p q s t r : ProcessorState J R) → SameProcessor p q × SameProcessor p s × SameProcessor p t → CatchesUp seen p q → p.offloadable ≡ true → Heeds moment q s → Settles s t → ClaimsNone seen stop t r → StopsBegin moment stop p r
  stops_switching seen moment stop p q s t r same c on heeds settles none = record {
    seen = seen;
    tried = none.tried;
    first = q;
    second = s;
    third = t;
    same = same;
    catches_up = c;
    local = λ off. (let f : true ≡ false = sym on ∙ off in cc);
    heeds = λ _. heeds;
    settles = λ _. settles;
    ran = none.ran;
    stop = none.why;
  }
