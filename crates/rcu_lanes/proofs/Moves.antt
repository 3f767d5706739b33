-- Each step keeps the lane law.
use Rattle.std.proofs.Common.{◌≡◌, ◌≢◌, ℕ, zero, suc, true, false, true≢false, List, [], ◌∷◌, ◌++◌, length, drop, set, sym, refl, ap, ◌∙◌, subst, ⊎_elim, append_assoc, append-nil}
use mathlib.Core.Option.{some, some-ne-none}
use lib.ListN.{get_elem?}
use lib.Seq.{drop-append_seam}
use Rattle.crossbeam_deque.specs.Tasks.{Pushes, Takes, Finds, Forks, Merges, Learns}
use Rattle.crossbeam_deque.proofs.Lists.{at_set, at_snoc}
use Rattle.rcu_lanes.specs.declared.law.Log.{Log}
use Rattle.rcu_lanes.specs.Lane.{log, Fits, KeepsLaneLaw, rest_of, AllowedAfter}

module _ {T : Type 0} (allows : List T → T → Type 0) where
  -- what stands in a longer list and not in the list stands at its end
  at_end : (l : List (Log T)) (a b : Log T) (j : ℕ) → get_elem? l j ≢ some b → get_elem? (l ++ a ∷ []) j ≡ some b → j ≡ length l
  at_end [] a b zero n e = refl
  at_end [] a b (suc j) n e = absurd (some-ne-none b (sym e))
  at_end (x ∷ xs) a b zero n e = absurd (n e)
  at_end (x ∷ xs) a b (suc j) n e = ap suc (at_end xs a b j n e)

  -- a fact of each end's view, by its number
  abbrev Each : (ℕ → Log T → Type 0) → List (Log T) → Type 0
  Each F views = (port : ℕ) (v : Log T) → get_elem? views port ≡ some v → F port v

  -- it holds after one view changed, where it holds of the new one and of the others
  each_set : (F : ℕ → Log T → Type 0) (views : List (Log T)) (port : ℕ) (w : Log T) → F port w → ((j : ℕ) (u : Log T) → j ≢ port → get_elem? views j ≡ some u → F j u) → Each F (set views port w)
  each_set F views port w mine others j u e = ⊎_elim (λ (x : (j ≡ port) × (w ≡ u)). subst (λ (y : ℕ × Log T). F y.0 y.1) (λ i. (sym x.0 i, x.1 i)) mine)
      (λ (x : (j ≢ port) × (get_elem? views j ≡ some u)). others j u x.0 x.1) (at_set views port j w u e)

  allowed_snoc : (before xs : List T) (x : T) → AllowedAfter allows before xs → allows (before ++ xs) x → AllowedAfter allows before (xs ++ x ∷ [])
  allowed_snoc before [] x h a = (subst (λ l. allows l x) (append-nil before) a, tt)
  allowed_snoc before (y ∷ xs) x h a = (h.0, allowed_snoc (before ++ y ∷ []) xs x h.1 (subst (λ l. allows l x) (sym (append_assoc before (y ∷ []) xs)) a))

  -- of items that are all allowed, those in the middle are allowed after the ones before them
  allowed_at : (before done xs items : List T) → AllowedAfter allows before (done ++ (xs ++ items)) → AllowedAfter allows (before ++ done) xs
  allowed_at before [] [] items h = tt
  allowed_at before [] (x ∷ xs) items h = (
    subst (λ l. allows l x) (sym (append-nil before)) h.0,
    subst (λ l. AllowedAfter allows l xs) (append-nil (before ++ x ∷ []) ∙ ap (λ l. l ++ x ∷ []) (sym (append-nil before))) (allowed_at (before ++ x ∷ []) [] xs items h.1),
  )
  allowed_at before (y ∷ done) xs items h = subst (λ l. AllowedAfter allows l xs) (append_assoc before (y ∷ []) done) (allowed_at (before ++ y ∷ []) done xs items h.1)

  -- a new lane, whose one view may put and draw
  pub begins : KeepsLaneLaw {T = T} allows [] (log true true [] [] ∷ [])
  begins = record {
    writer = 0;
    reader = 0;
    put = [];
    drawn = [];
    in_order = refl;
    allowed = tt;
    known = each_set (Fits 0 0 [] []) (log true true [] [] ∷ []) 0 (log true true [] []) ((λ _. (refl, refl)), λ _. (refl, refl))
        (λ j u other e. absurd (other (at_end [] _ u j (λ x. some-ne-none u (sym x)) e)));
  }

  -- a put
  pub puts : (port : ℕ) (v : Log T) (x : T) → v.puts ≡ true → allows v.put x → Pushes (KeepsLaneLaw allows) port v (x ∷ []) (λ w. w ≡ log v.puts v.draws (v.put ++ x ∷ []) v.drawn)
  puts port v x may fits items views h at =
      let xs = x ∷ [] in
      let w : Log T = log v.puts v.draws (v.put ++ xs) v.drawn in
      let mine = h.known port v at in (
        w,
        record {
          writer = h.writer;
          reader = h.reader;
          put = h.put ++ xs;
          drawn = h.drawn;
          in_order = ap (λ l. l ++ xs) h.in_order ∙ append_assoc h.drawn items xs;
          allowed = allowed_snoc [] h.put x h.allowed (subst (λ l. allows l x) (mine.0 may).1 fits);
          known = each_set (Fits h.writer h.reader (h.put ++ xs) h.drawn) views port w ((λ _. ((mine.0 may).0, ap (λ l. l ++ xs) (mine.0 may).1)), mine.1)
              (λ j u other e. ((λ p. absurd (other (((h.known j u e).0 p).0 ∙ sym (mine.0 may).0))), (h.known j u e).1));
        },
        refl,
      )

  -- a draw
  pub draws : (port : ℕ) (v : Log T) → v.draws ≡ true
      → Takes (KeepsLaneLaw allows) port v 1 (λ xs w. (w ≡ log v.puts v.draws v.put (v.drawn ++ xs)) × AllowedAfter allows v.drawn xs)
  draws port v may xs items views _ _ h at =
      let w : Log T = log v.puts v.draws v.put (v.drawn ++ xs) in
      let mine = h.known port v at in (
        w,
        record {
          writer = h.writer;
          reader = h.reader;
          put = h.put;
          drawn = h.drawn ++ xs;
          in_order = h.in_order ∙ sym (append_assoc h.drawn xs items);
          allowed = h.allowed;
          known = each_set (Fits h.writer h.reader h.put (h.drawn ++ xs)) views port w (mine.0, λ _. ((mine.1 may).0, ap (λ l. l ++ xs) (mine.1 may).1))
              (λ j u other e. ((h.known j u e).0, λ p. absurd (other (((h.known j u e).1 p).0 ∙ sym (mine.1 may).0))));
        },
        (refl, subst (λ l. AllowedAfter allows l xs) (sym (mine.1 may).1) (allowed_at [] h.drawn xs items (subst (AllowedAfter allows []) h.in_order h.allowed))),
      )

  -- the ends part
  pub forks : (port : ℕ) (v : Log T) → v.puts ≡ true → v.draws ≡ true → Forks (KeepsLaneLaw allows) port v (log true false v.put []) (log false true [] v.drawn)
  forks port v a b items views h at =
      let l : Log T = log true false v.put [] in
      let r : Log T = log false true [] v.drawn in
      let mine = h.known port v at in
      let vs : List (Log T) = set views port l in
      let Old : ℕ → Log T → Type 0 = λ j u. (u.puts ≡ true → (j ≡ h.writer) × (u.put ≡ h.put)) × (u.draws ≢ true) in
      let old : Each Old vs = each_set Old views port l ((λ _. mine.0 a), λ p. true≢false (sym p)) (λ j u other e. ((h.known j u e).0, λ p. other (((h.known j u e).1 p).0 ∙ sym (mine.1 b).0))) in record {
        writer = h.writer;
        reader = length vs;
        put = h.put;
        drawn = h.drawn;
        in_order = h.in_order;
        allowed = h.allowed;
        known = λ j u e. ⊎_elim (λ x. ((old j u x).0, λ p. absurd ((old j u x).1 p)))
            (λ (is : r ≡ u). ((λ p. absurd (true≢false (sym (ap (λ (y : Log T). y.puts) is ∙ p)))), λ p. (at_end vs r u j (λ x. (old j u x).1 p) e, ap (λ (y : Log T). y.drawn) (sym is) ∙ (mine.1 b).1)))
            (at_snoc vs r u j e);
      }

  -- the ends come together
  pub merges : (port : ℕ) (v : Log T) (other : ℕ) (u : Log T) → v.puts ≡ true → u.draws ≡ true → Merges (KeepsLaneLaw allows) port v other u (log true true v.put u.drawn) (log false false [] [])
  merges port v other u a b items views h at two at' =
      let both : Log T = log true true v.put u.drawn in
      let mine = h.known port v at in
      let vs : List (Log T) = set views port both in
      let was : get_elem? views other ≡ some u = ⊎_elim (λ x. absurd (two x.0)) (λ x. x.1) (at_set views port other both u at') in
      let theirs = (h.known other u was).1 b in
      let Now : ℕ → Log T → Type 0 = λ j y. j ≢ other → Fits h.writer port h.put h.drawn j y in
      let now : Each Now vs = each_set Now views port both (λ _. ((λ _. mine.0 a), λ _. (refl, theirs.1))) (λ j y _ e apart. ((h.known j y e).0, λ p. absurd (apart (((h.known j y e).1 p).0 ∙ sym theirs.0)))) in record {
        writer = h.writer;
        reader = port;
        put = h.put;
        drawn = h.drawn;
        in_order = h.in_order;
        allowed = h.allowed;
        known = each_set (Fits h.writer port h.put h.drawn) vs other (log false false [] []) ((λ p. absurd (true≢false (sym p))), λ p. absurd (true≢false (sym p))) (λ j y apart e. now j y e apart);
      }

  -- what an end that puts and draws leaves on the lane
  rest_is : (v : Log T) (items : List T) → v.put ≡ v.drawn ++ items → rest_of v ≡ items
  rest_is v items e = ap (drop (length v.drawn)) e ∙ drop-append_seam v.drawn items

  in_order_at : (port : ℕ) (v : Log T) (items : List T) (views : List (Log T)) → v.puts ≡ true → v.draws ≡ true → KeepsLaneLaw allows items views → get_elem? views port ≡ some v → v.put ≡ v.drawn ++ items
  in_order_at port v items views a b h at = let mine = h.known port v at in (mine.0 a).1 ∙ h.in_order ∙ ap (λ l. l ++ items) (sym (mine.1 b).1)

  -- a look at the whole lane
  pub whole : (port : ℕ) (v : Log T) → v.puts ≡ true → v.draws ≡ true → Learns (KeepsLaneLaw allows) port v (λ items. v.put ≡ v.drawn ++ rest_of v)
  whole port v a b items views h at = let e = in_order_at port v items views a b h at in subst (λ l. v.put ≡ v.drawn ++ l) (sym (rest_is v items e)) e

  -- a take that finds the lane empty
  pub nothing : (port : ℕ) (v : Log T) → v.puts ≡ true → v.draws ≡ true → Finds (KeepsLaneLaw allows) port v (rest_of v ≡ [])
  nothing port v a b views h at = rest_is v [] (in_order_at port v [] views a b h at)

  -- a take
  pub takes : (port : ℕ) (v : Log T) → v.puts ≡ true → v.draws ≡ true
      → Takes (KeepsLaneLaw allows) port v 1 (λ xs w. (w ≡ log v.puts v.draws v.put (v.drawn ++ xs)) × (rest_of v ≡ xs ++ rest_of w) × (w.put ≡ w.drawn ++ rest_of w))
  unfolding draws
  takes port v a b xs items views some_left few h at =
      let w : Log T = log v.puts v.draws v.put (v.drawn ++ xs) in
      let moved = draws port v b xs items views some_left few h at in
      let e = in_order_at port v (xs ++ items) views a b h at in
      let after : w.put ≡ w.drawn ++ items = e ∙ sym (append_assoc v.drawn xs items) in
      let now = rest_is w items after in (
        w,
        moved.1,
        (refl, rest_is v (xs ++ items) e ∙ ap (λ l. xs ++ l) (sym now), subst (λ l. w.put ≡ w.drawn ++ l) (sym now) after),
      )
