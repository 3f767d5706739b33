-- What came of a draw into a batch that held nothing, and of a put out of one.
use Rattle.std.proofs.Common.{◌≡◌, ◌≢◌, Bool, true, false, not, List, [], ◌++◌, Option, None, Some, refl, sym, ap, ◌∙◌, subst}
use Rattle.std.specs.Prelude.{is_some}
use Rattle.std.proofs.lemmas.List.{append-nil}
use Rattle.std.proofs.lemmas.List.Elements.{All-nil}
use Rattle.rcu_jobs.specs.declared.callback.Callback.{Callback}
use Rattle.rcu_part_lists.specs.Limits.{AreFew, AreSafe, IsSafe}
use Rattle.rcu_part_lists.proofs.Relays.{put-out}

module _ {A : Type 0} where
  pub some≢none : (x : A) → Some x ≢ None
  some≢none x e = cc

  -- what a test of it says
  pub none-tested : (r : Option A) (b : Bool) → is_some r ≡ not b → b ≡ true → r ≡ None
  none-tested None b e t = refl
  none-tested (Some x) true e t = absurd cc
  none-tested (Some x) false e t = absurd cc

  pub some-tested : (r : Option A) (b : Bool) → is_some r ≡ not b → b ≡ false → r ≢ None
  some-tested None true e f n = absurd cc
  some-tested None false e f n = absurd cc
  some-tested (Some x) b e f n = cc

module _ {A J : Type 0} where
  pub fetched-drawn : (r : Option A) (old new batch : List (Callback J)) → (r ≡ None → new ≡ old ++ batch) → (r ≢ None → new ≡ old) → (r ≢ None → batch ≡ []) → new ≡ old ++ batch
  fetched-drawn None old new batch got stays none = got refl
  fetched-drawn (Some x) old new batch got stays none = stays (some≢none x) ∙ sym (ap (λ l. old ++ l) (none (some≢none x)) ∙ append-nil old)

  pub fetched-safe : (r : Option A) (batch : List (Callback J)) → (r ≡ None → AreSafe batch) → (r ≢ None → batch ≡ []) → AreSafe batch
  fetched-safe None batch got none = got refl
  fetched-safe (Some x) batch got none = subst AreSafe (sym (none (some≢none x))) (All-nil IsSafe)

  pub fetched-few : (r : Option A) (old new : List (Callback J)) → (r ≡ None → AreFew new) → (r ≢ None → new ≡ old) → AreFew old → AreFew new
  fetched-few None old new got stays few = got refl
  fetched-few (Some x) old new got stays few = subst AreFew (sym (stays (some≢none x))) few

module _ {J : Type 0} where
  -- a put that was made, or not
  pub put-order : (b : Bool) (received put out rest more left : List (Callback J)) → (b ≡ true → more ≡ put ++ out) → (b ≡ true → left ≡ []) → (b ≡ false → more ≡ put) → (b ≡ false → left ≡ out)
      → received ≡ put ++ (out ++ rest) → received ≡ more ++ (left ++ rest)
  put-order true received put out rest more left p l q m h = put-out received put out rest h ∙ (ap (λ x. x ++ rest) (sym (p refl)) ∙ ap (λ x. more ++ (x ++ rest)) (sym (l refl)))
  put-order false received put out rest more left p l q m h = h ∙ (ap (λ x. x ++ (out ++ rest)) (sym (q refl)) ∙ ap (λ x. more ++ (x ++ rest)) (sym (m refl)))

  pub put-safe : (b : Bool) (out left : List (Callback J)) → (b ≡ true → left ≡ []) → (b ≡ false → left ≡ out) → AreSafe out → AreSafe left
  put-safe true out left l m s = subst AreSafe (sym (l refl)) (All-nil IsSafe)
  put-safe false out left l m s = subst AreSafe (sym (m refl)) s
