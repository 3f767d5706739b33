-- What `show` writes, one list and one processor further.
use Rattle.std.proofs.Common.{◌≡◌, ℕ, suc, ◌+◌, arith, ◌++◌, ◌∙◌, ap, sym, subst, append-nil, if◌then◌else◌, List, Option, Some, None, Result, OnOk}
use Rattle.std.proofs.lemmas.Result.{on_ok_weaker}
use Rattle.std.specs.Io.KnownBytes.{Appends}
use Rattle.rcu_jobs.specs.declared.Lists.{Lists}
use Rattle.rcu_world_law.specs.States.{State, cpu_at, is_offloadable}
use Rattle.rcu_world_processor.specs.Shown.{cpu_lists, folk_lists}
use Rattle.rcuo_script.specs.Lines.{lists_line}
use Rattle.rcu_world_replay.specs.Outcomes.{group_line, shown, shown_one}
use Rattle.rcuo_script.proofs.Written.{Appends-append, Appends-none}

module _ (w : State) (p : ℕ) (a b : Option (List ℕ)) (own : Lists) (group : Option Lists) (is_own : own ≡ cpu_lists (cpu_at w p)) (is_group : group ≡ (if is_offloadable w p then Some (folk_lists (cpu_at w p)) else None)) (first : Appends a b (lists_line p own)) where
  lines : lists_line p own ++ group_line p group ≡ shown_one w p
  unfolding shown_one
  lines = ap (λ l. lists_line p l ++ group_line p group) is_own ∙ ap (λ g. lists_line p (cpu_lists (cpu_at w p)) ++ group_line p g) is_group

  pub own_alone : group ≡ None → Appends a b (shown_one w p)
  own_alone none = subst (Appends a b) (sym (append-nil (lists_line p own)) ∙ ap (λ g. lists_line p own ++ group_line p g) (sym none) ∙ lines) first

  pub own_and_group : {E : Type 0} (r : Result (Unit {0}) E) (c : Option (List ℕ)) (l : Lists) → group ≡ Some l → OnOk r (Appends b c (lists_line p l)) → OnOk r (Appends a c (shown_one w p))
  own_and_group r c l some h =
      on_ok_weaker r (λ second. subst (Appends a c) (ap (λ g. lists_line p own ++ group_line p g) (sym some) ∙ lines) (Appends-append a b c (lists_line p own) (lists_line p l) first second)) h

pub shown_first : (w : State) (a : Option (List ℕ)) → Appends a a (shown 0 w)
unfolding shown
shown_first w a = Appends-none a

pub shown_more : (w : State) (n : ℕ) (a b c : Option (List ℕ)) → Appends a b (shown n w) → Appends b c (shown_one w n) → Appends a c (shown (n + 1) w)
unfolding shown
shown_more w n a b c h k = subst (λ m. Appends a c (shown m w)) (let z : suc n ≡ n + 1 = omega arith in z) (Appends-append a b c (shown n w) (shown_one w n) h k)
