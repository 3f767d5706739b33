-- What is done to each element of a list in turn.
use Rattle.std.proofs.Common.{◌≡◌, ◌⊎◌, inl, inr, ⊎_elim, ℕ, zero, suc, ◌+◌, ◌*◌, ◌<◌, ◌≤◌, List, [], ◌∷◌, ◌++◌, length, length-append, take, drop, get_or, set, sum, sum_by, Option, Some, None, IfSome, ap, sym, ◌∙◌, refl, subst, arith}
use Rattle.std.specs.List.{All, AllZip, Contains}
use Rattle.std.proofs.lemmas.List.Elements.{All-nil, All-cons, All-head, All-tail, All-push, All-weaker, Contains-append_left, Contains-push}
use Rattle.std.proofs.lemmas.List.Sums.{sum_by_more, sum_by_push, sum_by-cons}
use Rattle.std.proofs.lemmas.Grind.{common_steps}
use Rattle.std.proofs.lemmas.List.{append-nil, take_all}
use Rattle.rcu_part_group.specs.Each.{Each, Sums, IsGreatest}

not_none : {X : Type 0} (x : X) (xs : List X) → [] ≡ x ∷ xs → ⊥
not_none x xs e = omega (arith, ap length e)

module _ {A X : Type 0} where
  -- R holds of the first ones, as many as there are answers, and the others are as before
  abbrev pub Partly : (A → X → X → Type 0) → List A → List X → List X → Type 0
  Partly R [] olds news = news ≡ olds
  Partly R (a ∷ answers) (x ∷ olds) (y ∷ news) = R a x y × Partly R answers olds news
  Partly R (a ∷ answers) olds news = ⊥

  -- one more is done
  pub partly_next : (R : A → X → X → Type 0) (answers : List A) (olds news : List X) (a : A) (d y : X) → length answers < length news → R a (get_or news (length answers) d) y
      → Partly R answers olds news → Partly R (answers ++ a ∷ []) olds (set news (length answers) y)
  partly_next R [] [] [] a d y low r e = absurd (omega (arith, low))
  partly_next R [] [] (z ∷ news) a d y low r e = absurd (not_none z news (sym e))
  partly_next R [] (w ∷ olds) [] a d y low r e = absurd (not_none w olds e)
  partly_next R [] (w ∷ olds) (z ∷ news) a d y low r e = (subst (λ (v : X). R a v y) (ap (λ l. get_or l 0 d) e) r, ap (λ l. drop 1 l) e)
  partly_next R (b ∷ answers) [] [] a d y low r e = absurd e
  partly_next R (b ∷ answers) [] (z ∷ news) a d y low r e = absurd e
  partly_next R (b ∷ answers) (w ∷ olds) [] a d y low r e = absurd e
  partly_next R (b ∷ answers) (w ∷ olds) (z ∷ news) a d y low r e = (e.0, partly_next R answers olds news a d y (omega (arith, low)) r e.1)

  -- an element that comes later is as before
  pub partly_rest : (R : A → X → X → Type 0) (answers : List A) (olds news : List X) (k : ℕ) (d : X) → length answers ≤ k → Partly R answers olds news → get_or news k d ≡ get_or olds k d
  partly_rest R [] olds news k d low e = ap (λ l. get_or l k d) e
  partly_rest R (b ∷ answers) [] [] k d low e = absurd e
  partly_rest R (b ∷ answers) [] (z ∷ news) k d low e = absurd e
  partly_rest R (b ∷ answers) (w ∷ olds) [] k d low e = absurd e
  partly_rest R (b ∷ answers) (w ∷ olds) (z ∷ news) zero d low e = absurd (omega (arith, low))
  partly_rest R (b ∷ answers) (w ∷ olds) (z ∷ news) (suc k) d low e = partly_rest R answers olds news k d (omega (arith, low)) e.1

  pub partly_long : (R : A → X → X → Type 0) (answers : List A) (olds news : List X) → Partly R answers olds news → length news ≡ length olds
  partly_long R [] olds news e = ap length e
  partly_long R (b ∷ answers) [] [] e = absurd e
  partly_long R (b ∷ answers) [] (z ∷ news) e = absurd e
  partly_long R (b ∷ answers) (w ∷ olds) [] e = absurd e
  partly_long R (b ∷ answers) (w ∷ olds) (z ∷ news) e = ap suc (partly_long R answers olds news e.1)

  -- all are done
  pub partly_end : (R : A → X → X → Type 0) (answers : List A) (olds news : List X) → length news ≤ length answers → Partly R answers olds news → Each R answers olds news
  partly_end R [] [] [] low e = tt
  partly_end R [] [] (z ∷ news) low e = absurd (omega (arith, low))
  partly_end R [] (w ∷ olds) [] low e = absurd (not_none w olds e)
  partly_end R [] (w ∷ olds) (z ∷ news) low e = absurd (omega (arith, low))
  partly_end R (b ∷ answers) [] [] low e = e
  partly_end R (b ∷ answers) [] (z ∷ news) low e = e
  partly_end R (b ∷ answers) (w ∷ olds) [] low e = e
  partly_end R (b ∷ answers) (w ∷ olds) (z ∷ news) low e = (e.0, partly_end R answers olds news (omega (arith, low)) e.1)

  -- ---- what follows from what was done to each

  -- a fact on each element before, by a fact on each answer
  pub each_all : (R : A → X → X → Type 0) (T : A → Type 0) (P Q : X → Type 0) → ((a : A) (x y : X) → R a x y → T a → P x → Q y) → (answers : List A) (olds news : List X)
      → Each R answers olds news → All T answers → All P olds → All Q news
  each_all R T P Q step [] [] [] e t p = All-nil Q
  each_all R T P Q step [] [] (z ∷ news) e t p = absurd e
  each_all R T P Q step [] (w ∷ olds) news e t p = absurd e
  each_all R T P Q step (b ∷ answers) [] news e t p = absurd e
  each_all R T P Q step (b ∷ answers) (w ∷ olds) [] e t p = absurd e
  each_all R T P Q step (b ∷ answers) (w ∷ olds) (z ∷ news) e t p = All-cons Q z news (step b w z e.0 (All-head T b answers t) (All-head P w olds p))
      (each_all R T P Q step answers olds news e.1 (All-tail T b answers t) (All-tail P w olds p))

  -- a relation between the elements before and after
  pub each_zip : (R : A → X → X → Type 0) (S : X → X → Type 0) → ((a : A) (x y : X) → R a x y → S x y) → (answers : List A) (olds news : List X) → Each R answers olds news → AllZip S olds news
  each_zip R S step [] [] [] e = tt
  each_zip R S step [] [] (z ∷ news) e = absurd e
  each_zip R S step [] (w ∷ olds) news e = absurd e
  each_zip R S step (b ∷ answers) [] news e = absurd e
  each_zip R S step (b ∷ answers) (w ∷ olds) [] e = absurd e
  each_zip R S step (b ∷ answers) (w ∷ olds) (z ∷ news) e = (step b w z e.0, each_zip R S step answers olds news e.1)

module _ {X : Type 0} where
  -- of all elements but the first
  pub behind : (P : X → Type 0) (x : X) (xs : List X) → All P (x ∷ xs) → All P xs
  behind P x xs h = All-tail P x xs h

  -- ---- sums of small numbers

  -- the first i elements are done, with numbers that are at most a million each and sum up to the total
  pub record SumsSoFar (R : ℕ → X → X → Type 0) (total i : ℕ) (olds news : List X) : Type 0 where
    pub each : List ℕ
    pub many : length each ≡ i
    pub total_is : total ≡ sum each
    pub small : total ≤ i * 9007199254740992
    pub elements : Partly R each olds news

  pub sums_none : (R : ℕ → X → X → Type 0) (xs : List X) → SumsSoFar R 0 0 xs xs
  sums_none R xs = record { each = []; many = refl; total_is = refl; small = omega arith; elements = refl }

  pub sums_next : (R : ℕ → X → X → Type 0) (total n i : ℕ) (olds news : List X) (d y : X) → n ≤ 9007199254740992 → i < length news → R n (get_or news i d) y → SumsSoFar R total i olds news
      → SumsSoFar R (total + n) (i + 1) olds (set news i y)
  sums_next R total n i olds news d y few low r s = record {
    each = s.each ++ n ∷ [];
    many = length-append s.each (n ∷ []) ∙ ap (λ (k : ℕ). k + 1) s.many;
    total_is = ap (λ (k : ℕ). k + n) s.total_is ∙ sym (sum_by_push (λ (k : ℕ). k) s.each n);
    small = let z = s.small in omega (arith, few);
    elements = subst (λ (k : ℕ). Partly R (s.each ++ n ∷ []) olds (set news k y)) s.many
        (partly_next R s.each olds news n d y (omega (arith, low, s.many)) (subst (λ (k : ℕ). R n (get_or news k d) y) (sym s.many) r) s.elements);
  }

  pub sums_end : (R : ℕ → X → X → Type 0) (total i : ℕ) (olds news : List X) → length news ≤ i → SumsSoFar R total i olds news → Sums R total olds news
  sums_end R total i olds news low s = record { each = s.each; total_is = s.total_is; elements = partly_end R s.each olds news (omega (arith, low, s.many)) s.elements }

  -- and one element before them
  pub sums_cons : (R : ℕ → X → X → Type 0) (n total : ℕ) (x y : X) (olds news : List X) → R n x y → Sums R total olds news → Sums R (n + total) (x ∷ olds) (y ∷ news)
  sums_cons R n total x y olds news r s = record { each = n ∷ s.each; total_is = ap (λ (k : ℕ). n + k) s.total_is ∙ sym (sum_by-cons (λ (k : ℕ). k) n s.each); elements = (r, s.elements) }

-- the elements that a loop wrote, as the list of them all
pub written : {X : Type 0} (xs ys : List X) (n : ℕ) → length xs ≡ length ys → n ≡ length ys → take n (xs ++ drop (length xs) ys) ≡ xs
written xs ys n same all =
    let none : drop (length xs) ys ≡ [] = grind (arith, common_steps) in
    ap (λ l. take n (xs ++ l)) none ∙ (ap (take n) (append-nil xs) ∙ take_all n xs (omega arith))

-- ---- the greatest number

pub greatest_none : IsGreatest None []
greatest_none = All-nil (λ (n : Option ℕ). n ≡ None)

pub greatest_one : (n : Option ℕ) → IsGreatest n (n ∷ [])
greatest_one None = All-cons (λ (o : Option ℕ). o ≡ None) None [] refl (All-nil (λ (o : Option ℕ). o ≡ None))
greatest_one (Some m) = let below : Option ℕ → Type 0 = λ o. IfSome o (λ k. k ≤ m) in ((0, omega arith, refl), All-cons below (Some m) [] (omega arith) (All-nil below))

-- each is at most what the greatest is at most
pub greatest_upto : (t : ℕ) (most : Option ℕ) (ns : List (Option ℕ)) → IsGreatest most ns → IfSome most (λ n. n ≤ t) → All (λ n. IfSome n (λ k. k ≤ t)) ns
greatest_upto t None ns g below = All-weaker (λ (n : Option ℕ). n ≡ None) (λ (n : Option ℕ). IfSome n (λ k. k ≤ t)) (λ n e. subst (λ (o : Option ℕ). IfSome o (λ k. k ≤ t)) (sym e) tt) ns g
greatest_upto t (Some m) ns g below = All-weaker (λ (n : Option ℕ). IfSome n (λ k. k ≤ m)) (λ (n : Option ℕ). IfSome n (λ k. k ≤ t)) (λ n h. raised n h) ns g.1 where
  raised : (n : Option ℕ) → IfSome n (λ k. k ≤ m) → IfSome n (λ k. k ≤ t)
  raised None h = tt
  raised (Some k) h = omega (arith, h, below)

one_of_two : (a b x : Option ℕ) → Contains (a ∷ b ∷ []) x → (a ≡ x) ⊎ (b ≡ x)
one_of_two a b x (zero, low, e) = inl e
one_of_two a b x (suc zero, low, e) = inr e
one_of_two a b x (suc (suc k), low, e) = absurd (omega (arith, low))

-- one number more
pub greatest_next : (most r n : Option ℕ) (ns : List (Option ℕ)) → IsGreatest most ns → IsGreatest r (most ∷ n ∷ []) → IsGreatest r (ns ++ n ∷ [])
greatest_next most None n ns g h =
    let none : Option ℕ → Type 0 = λ o. o ≡ None in
    let before : IsGreatest None ns = subst (λ (o : Option ℕ). IsGreatest o ns) (All-head none most (n ∷ []) h) g in
    All-push none ns n before (All-head none n [] (All-tail none most (n ∷ []) h))
greatest_next most (Some m) n ns g h =
    let below : Option ℕ → Type 0 = λ o. IfSome o (λ k. k ≤ m) in (
      ⊎_elim {C = Contains (ns ++ n ∷ []) (Some m)}
          (λ e. let before : IsGreatest (Some m) ns = subst (λ (o : Option ℕ). IsGreatest o ns) e g in Contains-append_left ns (n ∷ []) (Some m) before.0)
          (λ e. subst (λ (o : Option ℕ). Contains (ns ++ n ∷ []) o) e (Contains-push ns n))
          (one_of_two most n (Some m) h.0),
      All-push below ns n (greatest_upto m most ns g (All-head below most (n ∷ []) h.1)) (All-head below n [] (All-tail below most (n ∷ []) h.1)),
    )

-- ---- a sum over a list in order

-- one more; `ys` is what the loop goes over
pub sum_next : {X : Type 0} (f : X → ℕ) (xs ys : List X) (i n total : ℕ) (x : X) → ys ≡ xs → i < length ys → x ≡ get_or ys i x → n ≡ f x → total ≡ sum_by f (take i xs) → total + n ≡ sum_by f (take (i + 1) xs)
sum_next f xs ys i n total x same low at one so_far =
    let here : f x ≡ f (get_or xs i x) = ap f (at ∙ ap (λ l. get_or l i x) same) in
    let next = sum_by_more f xs i x (omega (arith, low, ap length same)) in omega (arith, one, so_far)

-- and all of them, behind a first one
pub sum_behind : {X : Type 0} (f : X → ℕ) (x : X) (xs : List X) (i n total : ℕ) → length xs ≤ i → n ≡ f x → total ≡ sum_by f (take i xs) → n + total ≡ sum_by f (x ∷ xs)
sum_behind f x xs i n total low one so_far =
    let all = ap (sum_by f) (take_all i xs low) in let whole = sum_by-cons f x xs in omega (arith, one, so_far)
