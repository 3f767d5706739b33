-- A list of segments is a labelled list of the law
use Rattle.std.proofs.Common.{◌≡◌, ℕ, ◌+◌, ◌≤◌, ◌*◌, max, Bool, true, false, cond, ◌||◌, ◌&&◌, List, [], ◌∷◌, ◌++◌, map, take, drop, length, Option, Some, None, inl, inr, refl, ap, sym, ◌∙◌, arith}
use Rattle.std.specs.Prelude.{◌==◌, nat_lt, if◌then◌else◌, slice_get}
use Rattle.std.proofs.lemmas.Bool.{cases_Bool, lt-ltb}
use Rattle.std.proofs.lemmas.List.Elements.{All-nil, All-cons}
use Rattle.std.proofs.lemmas.List.Sums.{sum_by-cons}
use Rattle.std.proofs.lemmas.List.{map-append, length-map, append_assoc}
use Rattle.std.proofs.Math.Seq.{take-append_seam, drop-append_seam}
use Rattle.rcu_jobs.specs.declared.Callback.{Callback}
use Rattle.rcu_world_law.specs.Calls.{Call}
use Rattle.rcu_numbers.specs.Numbers.{snap_of}
use Rattle.rcu_world_law.specs.Lists.{is_nil, tail}
use Rattle.rcu_world_law.specs.Steps.{front, can_claim_own}
use Rattle.rcu_world_law.specs.LabelledLists as law
use Rattle.rcu_world_law.specs.declared.labels.Label.{Label as LawLabel}
use Rattle.rcu_lists.specs.Labels.{Label, Done, Numbered, Bare, Labelled, marked, advanced, given, relabel, is_done, is_bare, is_numbered, numbers_in, in_order, may_follow, count, count_of, carries, has_two_below, IsLabelledList, callbacks_of, after_advance, after_accelerate, lengths_of, numbers_of, IsUpTo, MayAccelerate}
use Rattle.rcu_lists.specs.Stamps.{greater, newest_of}
use Rattle.rcu_world_processor.specs.Waits.{label, call, calls, wait, waits}
use Rattle.rcu_world_processor.proofs.Labels.{label_advanced, label_given, label_with_number, label_done, label_at, label_bare, up_to}
use Rattle.rcu_world_processor.proofs.Below.{below}
use Rattle.rcu_world_processor.proofs.Orders.{both, bare_done, number_done, two_as}

module _ {J : Type 0} (key_of : J → ℕ) where
  relabelled_as : (f : Label → Label) (g : LawLabel → LawLabel) → ((l : Label) → label (f l) ≡ g (label l)) → (xs : List (Labelled J)) → waits key_of (map (relabel f) xs) ≡ map (law.relabelled g) (waits key_of xs)
  relabelled_as f g h [] = refl
  relabelled_as f g h (x ∷ xs) = ap (λ l. record { call = call key_of x.callback; label = l } ∷ waits key_of (map (relabel f) xs)) (h x.label)
      ∙ ap (λ l. record { call = call key_of x.callback; label = g (label x.label) } ∷ l) (relabelled_as f g h xs)

  pub advance_as : (s : ℕ) (xs : List (Labelled J)) → waits key_of (after_advance s xs) ≡ law.advance s (waits key_of xs)
  advance_as s xs = relabelled_as (advanced s) (law.advanced_label s) (label_advanced s) xs

  -- the greatest stamp
  newest_greater : (s t : ℕ) (o : Option ℕ) → greater (max s t) o ≡ max s (greater t o)
  newest_greater s t None = refl
  newest_greater s t (Some k) = omega arith

  pub newest_as : (s : ℕ) (xs : List (Labelled J)) → law.newest s (waits key_of xs) ≡ greater s (newest_of (callbacks_of xs))
  newest_as s [] = refl
  newest_as s (x ∷ xs) = newest_as (max s x.callback.stamp) xs ∙ newest_greater s x.callback.stamp (newest_of (callbacks_of xs))

  -- what accelerate asks
  pub may_as : (s : ℕ) (xs : List (Labelled J)) → law.MayAccelerate s (waits key_of xs) → MayAccelerate s xs
  may_as s [] h = All-nil (λ (x : Labelled J). IsUpTo s x.label × (snap_of x.callback.stamp ≤ s))
  may_as s (x ∷ xs) h = All-cons (λ (x : Labelled J). IsUpTo s x.label × (snap_of x.callback.stamp ≤ s)) x xs (up_to s x.label h.numbers.0, h.stamps.0)
      (may_as s xs (record { numbers = h.numbers.1; stamps = h.stamps.1 }))

  -- counts
  counts_as : (test : LawLabel → Bool) (same : Label → Bool) → ((l : Label) → test (label l) ≡ same l) → (xs : List (Labelled J)) → law.count_labels test (waits key_of xs) ≡ count same xs
  counts_as test same h [] = refl
  counts_as test same h (x ∷ xs) = sum_by-cons (λ (w : law.Labelled). cond (test w.label) 1 0) (wait key_of x) (waits key_of xs)
      ∙ ap (λ n. cond (test (label x.label)) 1 0 + n) (counts_as test same h xs) ∙ ap (λ b. cond b 1 0 + count same xs) (h x.label)
      ∙ sym (sum_by-cons (λ (y : Labelled J). cond (same y.label) 1 0) x xs)

  numbers_as : (xs : List (Labelled J)) → law.numbers_in (waits key_of xs) ≡ numbers_in xs
  numbers_as [] = refl
  numbers_as (x ∷ xs) = ap (law.with_number (label x.label)) (numbers_as xs) ∙ label_with_number x.label (numbers_in xs)

  count_number_as : (o : Option ℕ) (xs : List (Labelled J)) → law.count_number o (waits key_of xs) ≡ count_of o xs
  count_number_as None xs = refl
  count_number_as (Some n) xs = counts_as (law.is_at n) (is_numbered n) (label_at n) xs

  pub numbers_of_as : (xs : List (Labelled J)) → numbers_of xs ≡ law.numbers_of (waits key_of xs)
  numbers_of_as xs = rw (numbers_as xs) refl

  pub lengths_of_as : (xs : List (Labelled J)) → lengths_of xs ≡ law.lengths_of (waits key_of xs)
  lengths_of_as xs = rw (
    numbers_as xs,
    counts_as law.is_done is_done label_done xs,
    counts_as law.is_bare is_bare label_bare xs,
    count_number_as (slice_get (numbers_in xs) 0) xs,
    count_number_as (slice_get (numbers_in xs) 1) xs,
  ) refl

  pub accelerate_as : (s : ℕ) (xs : List (Labelled J)) → IsLabelledList xs → waits key_of (after_accelerate s xs) ≡ law.accelerate s (waits key_of xs)
  unfolding below
  accelerate_as s xs h = let e : law.has_two s (waits key_of xs) ≡ has_two_below s xs = two_as key_of s Done xs h.0 in
      rw e (elim (cases_Bool (has_two_below s xs)) [ inl t ↦ rw t refl | inr t ↦ rw t (relabelled_as (given s) (law.accelerated_label s) (label_given s) xs) ])

  -- what accelerate answers
  carries_step : (b r : Bool) (k : ℕ) → nat_lt 0 k ≡ r → nat_lt 0 (cond b 1 0 + k) ≡ (b || r)
  carries_step true r k h = lt-ltb 0 (1 + k) (omega arith)
  carries_step false r k h = let z : 0 + k ≡ k = omega arith in ap (nat_lt 0) z ∙ h

  pub carries_as : (s : ℕ) (xs : List (Labelled J)) → carries s xs ≡ law.carries s (waits key_of xs)
  carries_as s [] = refl
  carries_as s (x ∷ xs) = ap (nat_lt 0) (sum_by-cons (λ (y : Labelled J). cond (is_numbered s y.label) 1 0) x xs)
      ∙ carries_step (is_numbered s x.label) (law.carries s (waits key_of xs)) (count (is_numbered s) xs) (carries_as s xs)
      ∙ ap (λ b. b || law.carries s (waits key_of xs)) (sym (label_at s x.label))

  -- how many are done
  done_step : (l : Label) (xs : List (Labelled J)) → in_order l xs ≡ true → count is_done xs ≡ law.done_count (waits key_of xs)
      → cond (is_done l) 1 0 + count is_done xs ≡ (if law.is_done (label l) then 1 + law.done_count (waits key_of xs) else 0)
  done_step Done xs o h = ap (λ n. 1 + n) h
  done_step (Numbered n) xs o h = ap (λ k. 0 + k) (number_done key_of n xs o)
  done_step Bare xs o h = ap (λ k. 0 + k) (bare_done key_of xs o)

  done_from : (before : Label) (xs : List (Labelled J)) → in_order before xs ≡ true → count is_done xs ≡ law.done_count (waits key_of xs)
  done_from before [] h = refl
  done_from before (x ∷ xs) h = let p = both (may_follow before x.label) (in_order x.label xs) h in
      sum_by-cons (λ (y : Labelled J). cond (is_done y.label) 1 0) x xs ∙ done_step x.label xs p.1 (done_from x.label xs p.1)

  pub done_as : (xs : List (Labelled J)) → IsLabelledList xs → count is_done xs ≡ law.done_count (waits key_of xs)
  done_as xs h = done_from Done xs h.0

  -- where none is done, the first one isn't
  none_step : (l : Label) (k : ℕ) (b : Bool) (n : ℕ) → cond (is_done l) 1 0 + k ≡ 0 → (false ≡ (law.is_done (label l) && b)) × ((if law.is_done (label l) then 1 + n else 0) ≡ 0)
  none_step Done k b n h = absurd (omega arith)
  none_step (Numbered m) k b n h = (refl, refl)
  none_step Bare k b n h = (refl, refl)

  pub none_done : (xs : List (Labelled J)) (turn : ℕ) → count is_done xs ≡ 0 → (false ≡ can_claim_own (waits key_of xs) turn) × (law.done_count (waits key_of xs) ≡ 0)
  none_done [] turn h = (refl, refl)
  none_done (x ∷ xs) turn h = none_step x.label (count is_done xs) (turn == 2 * x.callback.number) (law.done_count (waits key_of xs)) (sym (sum_by-cons (λ (y : Labelled J). cond (is_done y.label) 1 0) x xs) ∙ h)

  -- the first done ones
  marked_calls : (items : List (Callback J)) → map law.call_of (waits key_of (marked Done items)) ≡ calls key_of items
  marked_calls [] = refl
  marked_calls (c ∷ cs) = ap (λ l. call key_of c ∷ l) (marked_calls cs)

  pub taken_as : (n : ℕ) (xs new : List (Labelled J)) (items : List (Callback J)) → xs ≡ marked Done items ++ new → length items ≡ n
      → (calls key_of items ≡ map law.call_of (take n (waits key_of xs))) × (waits key_of new ≡ drop n (waits key_of xs))
  taken_as n xs new items e l =
      let f : waits key_of xs ≡ waits key_of (marked Done items) ++ waits key_of new = ap (waits key_of) e ∙ map-append (wait key_of) (marked Done items) new in
      let k : length (waits key_of (marked Done items)) ≡ n = length-map (marked Done items) (wait key_of) ∙ length-map items (λ c. record { label = Done; callback = c }) ∙ l in
      rw (f, sym k) (sym (ap (map law.call_of) (take-append_seam (waits key_of (marked Done items)) (waits key_of new)) ∙ marked_calls items), sym (drop-append_seam (waits key_of (marked Done items)) (waits key_of new)))

-- who may claim has a callback that is done
both_and : (x y : Bool) → (x && y) ≡ true → x ≡ true
both_and true y h = refl
both_and false y h = h

pub claims_done : (ws : List law.Labelled) (turn : ℕ) → can_claim_own ws turn ≡ true → 1 ≤ law.done_count ws
claims_done [] turn h = absurd cc
claims_done (w ∷ ws) turn h = rw (both_and (law.is_done w.label) (turn == 2 * w.call.number) h) (omega arith)

-- one more joins
pub join_more : (ws : List law.Labelled) (xs : List Call) (c : Call) → is_nil xs ≡ false → c ≡ front xs → (ws ++ law.bare c ∷ []) ++ map law.bare (tail xs) ≡ ws ++ map law.bare xs
join_more ws [] c h e = absurd cc
join_more ws (x ∷ xs) c h e = rw e (append_assoc ws (law.bare x ∷ []) (map law.bare xs))

-- the callbacks of a list, without their labels
module _ {J : Type 0} (key_of : J → ℕ) where
  pub calls_as : (xs : List (Labelled J)) → map law.call_of (waits key_of xs) ≡ calls key_of (callbacks_of xs)
  calls_as [] = refl
  calls_as (x ∷ xs) = ap (λ l. call key_of x.callback ∷ l) (calls_as xs)

-- a look, in its steps
module _ {J : Type 0} (key_of : J → ℕ) where
  pub look_steps : (s aim n : ℕ) (old mid new : List (Labelled J)) (b : Bool) → IsLabelledList mid → mid ≡ after_advance s old → n ≡ law.newest s (waits key_of mid) → aim ≡ snap_of n
      → new ≡ after_accelerate aim mid → b ≡ carries aim new → (waits key_of new ≡ law.looked s (waits key_of old)) × (cond b (Some aim) None ≡ law.wanted_by_look s (waits key_of old))
  look_steps s aim n old mid new b h m e a w c =
      let f : waits key_of mid ≡ law.advance s (waits key_of old) = ap (waits key_of) m ∙ advance_as key_of s old in
      let k : aim ≡ snap_of (law.newest s (law.advance s (waits key_of old))) = a ∙ ap snap_of e ∙ ap (λ x. snap_of (law.newest s x)) f in
      let l : waits key_of new ≡ law.looked s (waits key_of old) = ap (waits key_of) w ∙ accelerate_as key_of aim mid h ∙ ap (law.accelerate aim) f ∙ ap (λ z. law.accelerate z (law.advance s (waits key_of old))) k in
      let d : b ≡ law.carries (snap_of (law.newest s (law.advance s (waits key_of old)))) (law.looked s (waits key_of old)) = c ∙ carries_as key_of aim new ∙ ap (law.carries aim) l ∙ ap (λ z. law.carries z (law.looked s (waits key_of old))) k in
      (l, ap (λ x. cond x (Some aim) None) d ∙ ap (λ z. cond (law.carries (snap_of (law.newest s (law.advance s (waits key_of old)))) (law.looked s (waits key_of old))) (Some z) None) k)

-- the first of some calls leaves
pub tail_shorter : (xs : List Call) → is_nil xs ≡ false → length xs ≡ length (tail xs) + 1
tail_shorter [] e = absurd cc
tail_shorter (x ∷ xs) e = omega arith

pub nil_of : {X : Type 0} → (xs : List X) → is_nil xs ≡ true → xs ≡ []
nil_of [] e = refl
nil_of (x ∷ xs) e = absurd cc
