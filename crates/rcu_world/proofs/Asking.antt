-- What is answered to a switch that is asked for
use Rattle.std.proofs.Common.{◌≡◌, ℕ, ◌<◌, ◌≤◌, Bool, true, false, not, cond, length, ap, sym, ◌∙◌, Ok, Err, Result}
use Rattle.std.proofs.lemmas.Bool.{le-ltb, lt-ltb}
use Rattle.rcu_jobs.specs.declared.SwitchFault.{SwitchFault}
use Rattle.rcu_jobs.specs.declared.SwitchFault.TheVariants as faults
use Rattle.rcu_world_law.specs.States.{State, has, is_offloadable}
use Rattle.rcu_world.specs.Turns.{switch_answer}

abbrev pub answer_of : ℕ → Bool → Bool → Result (Unit {0}) SwitchFault
answer_of p there offloadable = cond (not there) (Err (faults.NoProcessor p)) (cond (not offloadable) (Err (faults.NotOffloadable p)) (Ok tt))

answered : (w : State) (p : ℕ) (there offloadable : Bool) → has w p ≡ there → is_offloadable w p ≡ offloadable → answer_of p there offloadable ≡ switch_answer w p
answered w p there offloadable h o = sym (ap (λ b. answer_of p b (is_offloadable w p)) h ∙ ap (answer_of p there) o)

pub none_asked : (w : State) (p : ℕ) → length w.cpus ≤ p → answer_of p false false ≡ switch_answer w p
none_asked w p l = sym (ap (λ b. answer_of p b (is_offloadable w p)) (le-ltb p (length w.cpus) l))

pub local_asked : (w : State) (p : ℕ) → p < length w.cpus → is_offloadable w p ≡ false → answer_of p true false ≡ switch_answer w p
local_asked w p l o = answered w p true false (lt-ltb p (length w.cpus) l) o

pub switch_asked : (w : State) (p : ℕ) → p < length w.cpus → is_offloadable w p ≡ true → answer_of p true true ≡ switch_answer w p
switch_asked w p l o = answered w p true true (lt-ltb p (length w.cpus) l) o
