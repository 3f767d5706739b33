-- What a command prints, as it is written.
use Rattle.std.proofs.Common.{◌≡◌, ℕ, ◌++◌, true, false, codes, List, Option, OnOk, IfErr, IsErr, Result, Ok, Err, refl, sym, true≢false, ◌∙◌, inl, subst}
use Rattle.std.proofs.lemmas.Result.{on_ok_weaker}
use Rattle.std.specs.Io.KnownBytes.{Appends}
use Rattle.std.specs.Result.{IsErrAnd}
use Rattle.rcu_part_control.specs.declared.barrier.Barrier.{Barrier}
use Rattle.rcuo_script.specs.Calls.{is_barrier, is_show}
use Rattle.rcuo_script.specs.Faults.{IsFaultOfOutput}
use Rattle.rcuo_script.specs.declared.fault.Fault.{Fault}
use Rattle.rcuo_script.specs.declared.fault.Fault.TheVariants.{Setup}
use Rattle.rcu_setup.specs.declared.fault.SetupFault.TheVariants.{Memory}
use Rattle.rcuo_script.specs.Lines.{line_text}
use Rattle.rcuo_script.specs.declared.lines.Line.{Line}
use Rattle.rcu_setup.specs.declared.line.Command.{Command}
use Rattle.rcuo_replay.specs.Outcomes.{ShowsFrom}
use Rattle.rcuo_replay.specs.Printed.{IsAnswer, Prints}
use Rattle.rcuo_replay.specs.ScriptParts.{ScriptParts}

-- why a run ends early: by the fault of one output, or for want of memory
pub why_output : (r : Result (Unit {0}) Fault) (fault : Fault) → IsErr r × IsErrAnd r (λ f. f ≡ fault) → IsFaultOfOutput fault → IfErr r IsFaultOfOutput
why_output (Ok x) fault h why = tt
why_output (Err e) fault h why = subst IsFaultOfOutput (sym h.1) why

pub why_memory : (r : Result (Unit {0}) Fault) → IsErr r × IsErrAnd r (λ f. f ≡ Setup Memory) → IfErr r IsFaultOfOutput
why_memory (Ok x) h = tt
why_memory (Err e) h = inl h.1

module _ {J R E : Type 0} (key_of : J → ℕ) (old : ScriptParts J R) (opened : Option Barrier) (c : Command) (job : Option J) (result : Result (Unit {0}) E) (a b : Option (List ℕ)) where
  pub lists_written : is_show c ≡ true → OnOk result ((text : List ℕ) × ShowsFrom 0 old.processors.items old.groups.items text × Appends a b text)
      → OnOk result ((text : List ℕ) × Prints key_of old opened c job text old opened × Appends a b text)
  lists_written shows h = on_ok_weaker {Q = (text : List ℕ) × Prints key_of old opened c job text old opened × Appends a b text} result
      (λ s. (s.0, record { lists = λ _. (s.1, refl, refl); line = λ other. absurd (true≢false (sym shows ∙ other)) }, s.2)) h

  pub line_written : (new : ScriptParts J R) (still : Option Barrier) (l : Line) → is_show c ≡ false → IsAnswer key_of old opened c job l new still → (is_barrier c ≡ false → still ≡ opened)
      → OnOk result (Appends a b (line_text l ++ codes "\n")) → OnOk result ((text : List ℕ) × Prints key_of old opened c job text new still × Appends a b text)
  line_written new still l other answers keeps h = on_ok_weaker {Q = (text : List ℕ) × Prints key_of old opened c job text new still × Appends a b text} result
      (λ written. (line_text l ++ codes "\n", record { lists = λ shows. absurd (true≢false (sym shows ∙ other)); line = λ _. (l, answers, keeps, refl) }, written)) h
