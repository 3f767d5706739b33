-- Which refusal a command meets.
use Rattle.std.proofs.Common.{◌≡◌, ℕ, ◌<◌, ◌≤◌, length, true, false, nat_lt, arith, Bool, not, if◌then◌else◌, Result, Ok, Err, refl, sym, subst, true≢false}
use Rattle.std.proofs.lemmas.Bool.Decides.{nat_tests}
use Rattle.rcu_jobs.specs.declared.SwitchFault.{SwitchFault}
use Rattle.rcu_jobs.specs.declared.SwitchFault.TheVariants.{NoProcessor, NotOffloadable}
use Rattle.rcu_world_law.specs.States.{State, cpu_at, has, is_offloadable}
use Rattle.rcu_world.specs.Turns.{switch_answer}
use Rattle.rcuo_script.specs.declared.lines.Line.{Line}
use Rattle.rcuo_script.specs.declared.lines.Line.TheVariants.{Refused}
use Rattle.rcuo_script.specs.declared.lines.Verb.{Verb}
use Rattle.rcuo_script.specs.declared.lines.Verb.TheVariants.{Hand}
use Rattle.rcu_world_replay.specs.Outcomes.{IsCall, IsHand, call_refusal}

module _ (w : State) (p : ℕ) where
  pub no_call : length w.cpus ≤ p → call_refusal w p ≡ 6
  no_call h = let t : nat_lt p (length w.cpus) ≡ false = grind (arith, nat_tests) in rw t

  pub away_call : p < length w.cpus → (cpu_at w p).away ≡ true → call_refusal w p ≡ 21
  away_call h a = let t : nat_lt p (length w.cpus) ≡ true = grind (arith, nat_tests) in rw (t, a) refl

  pub no_hand : length w.cpus ≤ p → (l : Line) → l ≡ Refused Hand p 6 → IsHand w p l w
  no_hand h l is =
      let t : nat_lt p (length w.cpus) ≡ false = grind (arith, nat_tests) in
      let e : switch_answer w p ≡ Err (NoProcessor p) = rw t in
      subst (λ x. IsHand w p x w) (sym is) (refl, refl, (NoProcessor p, e, refl), refl)

  abbrev answer_of : Bool → Bool → Result (Unit {0}) SwitchFault
  answer_of there offloadable = if not there then Err (NoProcessor p) else if not offloadable then Err (NotOffloadable p) else Ok tt

  answer_without : (there offloadable : Bool) → there ≡ true → offloadable ≡ false → answer_of there offloadable ≡ Err (NotOffloadable p)
  answer_without true false t o = refl
  answer_without true true t o = absurd (true≢false o)
  answer_without false offloadable t o = absurd (true≢false (sym t))

  pub not_offloadable : p < length w.cpus → is_offloadable w p ≡ false → IsHand w p (Refused Hand p 5) w
  not_offloadable h none =
      let t : nat_lt p (length w.cpus) ≡ true = grind (arith, nat_tests) in
      (refl, refl, (NotOffloadable p, answer_without (has w p) (is_offloadable w p) t none, refl), refl)

  pub no_call_line : length w.cpus ≤ p → (l : Line) → (v : Verb) → (moment key : ℕ) → l ≡ Refused v p 6 → IsCall w v p moment key l w
  no_call_line h l v moment key is = subst (λ x. IsCall w v p moment key x w) (sym is) (refl, refl, sym (no_call h), refl)

  pub away_call_line : p < length w.cpus → (cpu_at w p).away ≡ true → (l : Line) → (v : Verb) → (moment key : ℕ) → l ≡ Refused v p 21 → IsCall w v p moment key l w
  away_call_line h a l v moment key is = subst (λ x. IsCall w v p moment key x w) (sym is) (refl, refl, sym (away_call h a), refl)
