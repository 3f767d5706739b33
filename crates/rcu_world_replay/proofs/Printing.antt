-- What a command prints, as it is written.
use Rattle.std.proofs.Common.{◌≡◌, ℕ, ◌++◌, true, false, codes, List, Option, OnOk, IfErr, IsErr, Result, Ok, Err, length, refl, sym, subst, inl}
use Rattle.std.proofs.lemmas.Result.{on_ok_weaker}
use Rattle.std.specs.Io.KnownBytes.{Appends}
use Rattle.std.specs.Result.{IsErrAnd}
use Rattle.rcu_world_law.specs.States.{State}
use Rattle.rcu_setup.specs.declared.line.Command.{Command}
use Rattle.rcu_world.specs.GroupTurns.{Where}
use Rattle.rcuo_script.specs.declared.lines.Line.{Line}
use Rattle.rcuo_script.specs.Calls.{is_barrier, is_show}
use Rattle.rcuo_script.specs.Faults.{IsFaultOfOutput}
use Rattle.rcuo_script.specs.declared.fault.Fault.{Fault}
use Rattle.rcuo_script.specs.declared.fault.Fault.TheVariants.{Setup}
use Rattle.rcu_setup.specs.declared.fault.SetupFault.TheVariants.{Memory}
use Rattle.rcuo_script.specs.Lines.{line_text}
use Rattle.rcu_world_replay.specs.Outcomes.{shown}
use Rattle.rcu_world_replay.specs.Printed.{IsAnswer, Prints, PrintsLine, PrintsLists}

-- why a run ends early: by the fault of one output, or for want of memory
pub why_output : (r : Result (Unit {0}) Fault) (fault : Fault) → IsErr r × IsErrAnd r (λ f. f ≡ fault) → IsFaultOfOutput fault → IfErr r IsFaultOfOutput
why_output (Ok x) fault h why = tt
why_output (Err e) fault h why = subst IsFaultOfOutput (sym h.1) why

pub why_memory : (r : Result (Unit {0}) Fault) → IsErr r × IsErrAnd r (λ f. f ≡ Setup Memory) → IfErr r IsFaultOfOutput
why_memory (Ok x) h = tt
why_memory (Err e) h = inl h.1

module _ {J E : Type 0} (key_of : J → ℕ) (old : State) (opened : Option ℕ) (c : Command) (job : Option J) (result : Result (Unit {0}) E) (a b : Option (List ℕ)) where
  pub lists_written : is_show c ≡ true → OnOk result (Appends a b (shown (length old.cpus) old)) → OnOk result ((text : List ℕ) × Prints key_of old opened c job text old opened × Appends a b text)
  lists_written shows h =
      let text = shown (length old.cpus) old in
      let prints : Prints key_of old opened c job text old opened =
      subst (λ t. Where t (PrintsLists key_of old opened text old opened) (PrintsLine key_of old opened c job text old opened)) (sym shows) (refl, refl, refl) in
      on_ok_weaker {Q = (text : List ℕ) × Prints key_of old opened c job text old opened × Appends a b text} result (λ written. (text, prints, written)) h

  pub line_written : (new : State) (still : Option ℕ) (l : Line) → is_show c ≡ false → IsAnswer key_of old opened c job l new still → (is_barrier c ≡ false → still ≡ opened)
      → OnOk result (Appends a b (line_text l ++ codes "\n")) → OnOk result ((text : List ℕ) × Prints key_of old opened c job text new still × Appends a b text)
  line_written new still l other answers keeps h =
      let text = line_text l ++ codes "\n" in
      let prints : Prints key_of old opened c job text new still =
      subst (λ t. Where t (PrintsLists key_of old opened text new still) (PrintsLine key_of old opened c job text new still)) (sym other) (l, answers, keeps, refl) in
      on_ok_weaker {Q = (text : List ℕ) × Prints key_of old opened c job text new still × Appends a b text} result (λ written. (text, prints, written)) h
