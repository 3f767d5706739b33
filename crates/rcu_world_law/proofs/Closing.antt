-- What `close` makes of a core is closed, and a closed history has nothing accepted after a `Back`.
use Rattle.std.proofs.Common.{◌≡◌, ℕ, zero, suc, ◌+◌, ◌<◌, List, [], ◌∷◌, ◌++◌, length, take, map, refl, ap, sym, subst, ◌∙◌, arith, Bool, Some, append_assoc, inl, inr, ◌⊎◌, true, false, cond, get_or}
use Rattle.std.specs.List.{slice_get, AllByRecursion}
use Rattle.std.proofs.lemmas.Option.{slice_get_within}
use Rattle.std.proofs.lemmas.Bool.{cases_eq, eq-eqb, ne_eqb, cases_lt}
use Rattle.std.proofs.lemmas.List.{append-nil, get_or_past}
use Rattle.rcu_world_law.specs.declared.marks.Mark.{Mark}
use Rattle.rcu_world_law.specs.declared.marks.Mark.TheVariants.{Accepted, Reported, Ran, Opened, Passed, Shut, Back}
use Rattle.rcu_world_law.specs.Calls.{Call}
use Rattle.rcu_world_law.specs.Law.{accepted, ran, back, key_accepted, key_ran, key_back, IsPrefixOf, IsAccepted, IsLawful, IsClosed, HasNoBack, HasNothingAcceptedAfterBack}
use Rattle.rcu_world_law.specs.States.{State, Cpu, empty_cpu, cpu_at}
use Rattle.rcu_world_law.specs.Steps.{accepts}
use Rattle.rcu_world_law.specs.Invariant.{IsCore}
use Rattle.rcu_world_law.specs.Places.{key_of, remaining_callbacks}
use Rattle.rcu_world_law.proofs.Law.{IsNext, lawful_next, sound_whole}
use Rattle.rcu_world_law.specs.Closing.{shut_mark, shut_marks, back_marks, closing}
use Rattle.std.proofs.lemmas.Grind.{flat_map-append}

-- a mark that close may add
abbrev IsClosing : Mark → Type 0
IsClosing (Accepted p key) = ⊥
IsClosing (Reported q) = ⊥
IsClosing (Ran p key) = ⊥
IsClosing (Opened b) = ⊥
IsClosing (Passed b) = ⊥
IsClosing (Shut p) = Unit {0}
IsClosing (Back p key) = Unit {0}

closing_next : (n : ℕ) (h : List Mark) (m : Mark) → IsClosing m → IsNext n h m
closing_next n h (Accepted p key) c = absurd c
closing_next n h (Reported q) c = tt
closing_next n h (Ran p key) c = absurd c
closing_next n h (Opened b) c = absurd c
closing_next n h (Passed b) c = absurd c
closing_next n h (Shut p) c = tt
closing_next n h (Back p key) c = tt

lawful_closing : (n : ℕ) (ms h : List Mark) → AllByRecursion IsClosing ms → IsLawful n h → IsLawful n (h ++ ms)
lawful_closing n [] h c l = subst (IsLawful n) (sym (append-nil h)) l
lawful_closing n (m ∷ ms) h c l = subst (IsLawful n) (append_assoc h (m ∷ []) ms) (lawful_closing n ms (h ++ m ∷ []) c.1 (lawful_next n h m (closing_next n h m c.0) l))

no_key : (p : ℕ) (m : Mark) → IsClosing m → (key_accepted p m ≡ []) × (key_ran p m ≡ [])
no_key p (Accepted q key) c = absurd c
no_key p (Reported q) c = (refl, refl)
no_key p (Ran q key) c = absurd c
no_key p (Opened b) c = absurd c
no_key p (Passed b) c = absurd c
no_key p (Shut q) c = (refl, refl)
no_key p (Back q key) c = (refl, refl)

no_keys : (p : ℕ) (ms : List Mark) → AllByRecursion IsClosing ms → (accepted p ms ≡ []) × (ran p ms ≡ [])
no_keys p [] c = (refl, refl)
no_keys p (m ∷ ms) c =
    let a = no_key p m c.0 in
    let b = no_keys p ms c.1 in
    (ap (λ x. x ++ accepted p ms) a.0 ∙ b.0, ap (λ x. x ++ ran p ms) a.1 ∙ b.1)

all_append : {X : Type 0} (P : X → Type 0) (xs ys : List X) → AllByRecursion P xs → AllByRecursion P ys → AllByRecursion P (xs ++ ys)
all_append P [] ys a b = b
all_append P (x ∷ xs) ys a b = (a.0, all_append P xs ys a.1 b)

shut_closing : (p : ℕ) (b : Bool) → AllByRecursion IsClosing (cond b [] (Shut p ∷ []))
shut_closing p true = tt
shut_closing p false = (tt, tt)

shuts_closing : (p : ℕ) (cs : List Cpu) → AllByRecursion IsClosing (shut_marks p cs)
shuts_closing p [] = tt
shuts_closing p (c ∷ cs) = all_append IsClosing (shut_mark p c) (shut_marks (p + 1) cs) (shut_closing p c.shut) (shuts_closing (p + 1) cs)

backs_of_one : (p : ℕ) (xs : List Call) → AllByRecursion IsClosing (map (λ x. Back p x.key) xs)
backs_of_one p [] = tt
backs_of_one p (x ∷ xs) = (tt, backs_of_one p xs)

backs_closing : (p : ℕ) (cs : List Cpu) → AllByRecursion IsClosing (back_marks p cs)
backs_closing p [] = tt
backs_closing p (c ∷ cs) = all_append IsClosing (map (λ x. Back p x.key) (remaining_callbacks c)) (back_marks (p + 1) cs) (backs_of_one p (remaining_callbacks c)) (backs_closing (p + 1) cs)

-- what comes back
back-append : (p : ℕ) (a b : List Mark) → back p (a ++ b) ≡ back p a ++ back p b
back-append p a b = flat_map-append (key_back p) a b

back_shut : (q p : ℕ) (b : Bool) → back q (cond b [] (Shut p ∷ [])) ≡ []
back_shut q p true = refl
back_shut q p false = refl

back_shuts : (q p : ℕ) (cs : List Cpu) → back q (shut_marks p cs) ≡ []
back_shuts q p [] = refl
back_shuts q p (c ∷ cs) = back-append q (shut_mark p c) (shut_marks (p + 1) cs) ∙ ap (λ x. x ++ back q (shut_marks (p + 1) cs)) (back_shut q p c.shut) ∙ back_shuts q (p + 1) cs

back_same : (p : ℕ) (xs : List Call) → back p (map (λ x. Back p x.key) xs) ≡ map key_of xs
back_same p [] = refl
back_same p (x ∷ xs) = rw (eq-eqb p p refl) (ap (λ l. x.key ∷ l) (back_same p xs))

back_other : (q p : ℕ) (xs : List Call) → (q ≡ p → ⊥) → back q (map (λ x. Back p x.key) xs) ≡ []
back_other q p [] d = refl
back_other q p (x ∷ xs) d = rw (ne_eqb p q (λ e. d (sym e))) (back_other q p xs d)

back_later : (q p : ℕ) (cs : List Cpu) → q < p → back q (back_marks p cs) ≡ []
back_later q p [] l = refl
back_later q p (c ∷ cs) l = back-append q (map (λ x. Back p x.key) (remaining_callbacks c)) (back_marks (p + 1) cs)
    ∙ ap (λ x. x ++ back q (back_marks (p + 1) cs)) (back_other q p (remaining_callbacks c) (λ e. omega arith)) ∙ back_later q (p + 1) cs (omega arith)

back_backs : (from i : ℕ) (cs : List Cpu) → back (from + i) (back_marks from cs) ≡ map key_of (remaining_callbacks (get_or cs i empty_cpu))
back_backs from i [] = refl
back_backs from zero (c ∷ cs) =
    let e : from + zero ≡ from = omega arith in
    subst (λ x. back x (back_marks from (c ∷ cs)) ≡ map key_of (remaining_callbacks c)) (sym e)
    (back-append from (map (λ x. Back from x.key) (remaining_callbacks c)) (back_marks (from + 1) cs)
    ∙ ap (λ x. x ++ back from (back_marks (from + 1) cs)) (back_same from (remaining_callbacks c))
    ∙ ap (λ x. map key_of (remaining_callbacks c) ++ x) (back_later from (from + 1) cs (omega arith)) ∙ append-nil (map key_of (remaining_callbacks c)))
back_backs from (suc i) (c ∷ cs) =
    let e : from + suc i ≡ (from + 1) + i = omega arith in
    subst (λ x. back x (back_marks from (c ∷ cs)) ≡ map key_of (remaining_callbacks (get_or cs i empty_cpu))) (sym e)
    (back-append ((from + 1) + i) (map (λ x. Back from x.key) (remaining_callbacks c)) (back_marks (from + 1) cs)
    ∙ ap (λ x. x ++ back ((from + 1) + i) (back_marks (from + 1) cs)) (back_other ((from + 1) + i) from (remaining_callbacks c) (λ f. omega arith)) ∙ back_backs (from + 1) i cs)

cases_accepted : (p : ℕ) (m : Mark) → ((key : ℕ) × (m ≡ Accepted p key)) ⊎ (key_accepted p m ≡ [])
cases_accepted p (Accepted q key) = elim (cases_eq q p) [ inl e ↦ inl (key, ap (λ x. Accepted x key) e) | inr d ↦ inr (rw (ne_eqb q p d) refl) ]
cases_accepted p (Reported q) = inr refl
cases_accepted p (Ran q key) = inr refl
cases_accepted p (Opened b) = inr refl
cases_accepted p (Passed b) = inr refl
cases_accepted p (Shut q) = inr refl
cases_accepted p (Back q key) = inr refl

cases_back : (p : ℕ) (m : Mark) → ((key : ℕ) × (m ≡ Back p key)) ⊎ (key_back p m ≡ [])
cases_back p (Accepted q key) = inr refl
cases_back p (Reported q) = inr refl
cases_back p (Ran q key) = inr refl
cases_back p (Opened b) = inr refl
cases_back p (Passed b) = inr refl
cases_back p (Shut q) = inr refl
cases_back p (Back q key) = elim (cases_eq q p) [ inl e ↦ inl (key, ap (λ x. Back x key) e) | inr d ↦ inr (rw (ne_eqb q p d) refl) ]

-- where no acceptance of p stands, none is counted
none_accepted : (h : List Mark) (p : ℕ) → ((k t : ℕ) → IsAccepted h p k t → ⊥) → accepted p h ≡ []
none_accepted [] p none = refl
none_accepted (x ∷ h) p none = elim (cases_accepted p x) [
  | inl r ↦ absurd (none 0 0 (record { key = r.0; stands = ap Some r.1; before = refl }))
  | inr z ↦ ap (λ l. l ++ accepted p h) z ∙ none_accepted h p (λ k t a. none k (suc t) (record { key = a.key; stands = a.stands; before = ap (λ l. length (l ++ accepted p (take t h))) z ∙ a.before }))
]

none_back : (h : List Mark) (p : ℕ) → ((i key : ℕ) → slice_get h i ≡ Some (Back p key) → ⊥) → back p h ≡ []
none_back [] p none = refl
none_back (x ∷ h) p none = elim (cases_back p x) [
  | inl r ↦ absurd (none 0 r.0 (ap Some r.1))
  | inr z ↦ ap (λ l. l ++ back p h) z ∙ none_back h p (λ i key a. none (suc i) key a)
]

-- places in two lists, one after the other
get_parts : {X : Type 0} (a b : List X) (i : ℕ) (x : X) → slice_get (a ++ b) i ≡ Some x → ((i < length a) × (slice_get a i ≡ Some x)) ⊎ ((j : ℕ) × (i ≡ length a + j) × (slice_get b j ≡ Some x))
get_parts [] b i x e = inr (i, omega arith, e)
get_parts (y ∷ a) b zero x e = inl (omega arith, e)
get_parts (y ∷ a) b (suc i) x e = elim (get_parts a b i x e) [ inl u ↦ let l = u.0 in inl (omega arith, u.1) | inr u ↦ let f = u.1 in inr (u.0, omega arith, u.2) ]

get_left : {X : Type 0} (a b : List X) (i : ℕ) (x : X) → slice_get a i ≡ Some x → slice_get (a ++ b) i ≡ Some x
get_left [] b i x e = absurd cc
get_left (y ∷ a) b zero x e = e
get_left (y ∷ a) b (suc i) x e = get_left a b i x e

get_right : {X : Type 0} (a b : List X) (i : ℕ) (x : X) → slice_get b i ≡ Some x → slice_get (a ++ b) (length a + i) ≡ Some x
get_right [] b i x e = ap (slice_get b) (let z : 0 + i ≡ i = omega arith in z) ∙ e
get_right (y ∷ a) b i x e = ap (slice_get (y ∷ (a ++ b))) (let z : suc (length a) + i ≡ suc (length a + i) = omega arith in z) ∙ get_right a b i x e

-- the marks of the others hold no Back
shut_no_back : (p : ℕ) (b : Bool) (q i key : ℕ) → slice_get (cond b [] (Shut p ∷ [])) i ≡ Some (Back q key) → ⊥
shut_no_back p true q i key e = cc
shut_no_back p false q zero key e = cc
shut_no_back p false q (suc i) key e = cc

shuts_no_back : (p : ℕ) (cs : List Cpu) (q i key : ℕ) → slice_get (shut_marks p cs) i ≡ Some (Back q key) → ⊥
shuts_no_back p [] q i key e = cc
shuts_no_back p (c ∷ cs) q i key e = elim (get_parts (shut_mark p c) (shut_marks (p + 1) cs) i (Back q key) e) [
  | inl u ↦ shut_no_back p c.shut q i key u.1
  | inr u ↦ shuts_no_back (p + 1) cs q u.0 key u.2
]

one_shut : (p : ℕ) (b : Bool) → b ≡ false → slice_get (cond b [] (Shut p ∷ [])) 0 ≡ Some (Shut p)
one_shut p true e = absurd (let x : true ≡ false = e in cc)
one_shut p false e = refl

shut_in : (from i : ℕ) (cs : List Cpu) → i < length cs → (get_or cs i empty_cpu).shut ≡ false → (j : ℕ) × (slice_get (shut_marks from cs) j ≡ Some (Shut (from + i)))
shut_in from i [] l e = absurd (omega arith)
shut_in from zero (c ∷ cs) l e =
    (0, get_left (shut_mark from c) (shut_marks (from + 1) cs) 0 (Shut (from + zero)) (one_shut from c.shut e ∙ ap (λ x. Some (Shut x)) (let z : from ≡ from + zero = omega arith in z)))
shut_in from (suc i) (c ∷ cs) l e =
    let g = shut_in (from + 1) i cs (omega arith) e in
    (length (shut_mark from c) + g.0, get_right (shut_mark from c) (shut_marks (from + 1) cs) g.0 (Shut (from + suc i)) (g.1 ∙ ap (λ x. Some (Shut x)) (let z : (from + 1) + i ≡ from + suc i = omega arith in z)))

one_back : (p : ℕ) (xs : List Call) (q j key : ℕ) → slice_get (map (λ x. Back p x.key) xs) j ≡ Some (Back q key) → q ≡ p
one_back p [] q j key e = absurd cc
one_back p (x ∷ xs) q zero key e = cc
one_back p (x ∷ xs) q (suc j) key e = one_back p xs q j key e

back_in : (from : ℕ) (cs : List Cpu) (q j key : ℕ) → slice_get (back_marks from cs) j ≡ Some (Back q key) → (i : ℕ) × (i < length cs) × (q ≡ from + i)
back_in from [] q j key e = absurd cc
back_in from (c ∷ cs) q j key e = elim (get_parts (map (λ x. Back from x.key) (remaining_callbacks c)) (back_marks (from + 1) cs) j (Back q key) e) [
  | inl u ↦ let z : q ≡ from = one_back from (remaining_callbacks c) q j key u.1 in (0, omega arith, omega arith)
  | inr u ↦ let g = back_in (from + 1) cs q u.0 key u.2 in let a = g.1 in let b = g.2 in (suc g.0, omega arith, omega arith)
]

nil_prefix : (xs ys : List ℕ) → ys ≡ [] → IsPrefixOf xs ys → xs ≡ []
nil_prefix [] ys e p = refl
nil_prefix (x ∷ xs) ys e p = absurd (let f : [] ≡ x ∷ (xs ++ p.0) = sym e ∙ p.1 in cc)

module _ (w : State) (k : IsCore w) (u : HasNoBack w.history) where
  closing_settled : (p : ℕ) → accepted p (closing w) ≡ ran p (closing w) ++ back p (closing w)
  closing_settled p =
      let s = no_keys p (shut_marks 0 w.cpus) (shuts_closing 0 w.cpus) in
      let b = no_keys p (back_marks 0 w.cpus) (backs_closing 0 w.cpus) in
      let ea : accepted p (closing w) ≡ accepted p w.history =
      flat_map-append (key_accepted p) (w.history ++ shut_marks 0 w.cpus) (back_marks 0 w.cpus) ∙ ap (λ x. accepted p (w.history ++ shut_marks 0 w.cpus) ++ x) b.0 ∙ append-nil (accepted p (w.history ++ shut_marks 0 w.cpus))
      ∙ flat_map-append (key_accepted p) w.history (shut_marks 0 w.cpus) ∙ ap (λ x. accepted p w.history ++ x) s.0 ∙ append-nil (accepted p w.history) in
      let er : ran p (closing w) ≡ ran p w.history =
      flat_map-append (key_ran p) (w.history ++ shut_marks 0 w.cpus) (back_marks 0 w.cpus) ∙ ap (λ x. ran p (w.history ++ shut_marks 0 w.cpus) ++ x) b.1 ∙ append-nil (ran p (w.history ++ shut_marks 0 w.cpus))
      ∙ flat_map-append (key_ran p) w.history (shut_marks 0 w.cpus) ∙ ap (λ x. ran p w.history ++ x) s.1 ∙ append-nil (ran p w.history) in
      let eb : back p (closing w) ≡ map key_of (remaining_callbacks (cpu_at w p)) =
      back-append p (w.history ++ shut_marks 0 w.cpus) (back_marks 0 w.cpus)
      ∙ ap (λ x. x ++ back p (back_marks 0 w.cpus)) (back-append p w.history (shut_marks 0 w.cpus) ∙ ap (λ x. x ++ back p (shut_marks 0 w.cpus)) (none_back w.history p (λ i key e. u.none p i key e)) ∙ back_shuts p 0 w.cpus)
      ∙ ap (λ x. back x (back_marks 0 w.cpus)) (let z : p ≡ 0 + p = omega arith in z) ∙ back_backs 0 p w.cpus in
      elim (cases_lt p (length w.cpus)) [
        | inl l ↦ ea ∙ (k.cpu p l).placed.keys ∙ ap (λ x. x ++ map key_of (remaining_callbacks (cpu_at w p))) (sym er) ∙ ap (λ x. ran p (closing w) ++ x) (sym eb)
        | inr l ↦
            let za : accepted p w.history ≡ [] = none_accepted w.history p (λ j t a. let m : p < length w.cpus = k.there p j t a in absurd (omega arith)) in
            let zr : ran p w.history ≡ [] = nil_prefix (ran p w.history) (accepted p w.history) za ((sound_whole (length w.cpus) w.history k.lawful).ordered p) in
            let zb : back p (closing w) ≡ [] = eb ∙ ap (λ c. map key_of (remaining_callbacks c)) (get_or_past w.cpus p empty_cpu l) in
            ea ∙ za ∙ ap (λ x. x ++ []) (sym (er ∙ zr)) ∙ ap (λ x. ran p (closing w) ++ x) (sym zb)
      ]

  -- a Shut stands in the history, or is among the marks that are added first
  shut_somewhere : (p : ℕ) → p < length w.cpus → (b : Bool) → (cpu_at w p).shut ≡ b → (j : ℕ) × (j < length (w.history ++ shut_marks 0 w.cpus)) × (slice_get (closing w) j ≡ Some (Shut p))
  shut_somewhere p l true e =
      let g = (k.cpu p l).shut.marked e in
      let m : slice_get (w.history ++ shut_marks 0 w.cpus) g.0 ≡ Some (Shut p) = get_left w.history (shut_marks 0 w.cpus) g.0 (Shut p) g.1 in
      (g.0, slice_get_within (w.history ++ shut_marks 0 w.cpus) g.0 (Shut p) m, get_left (w.history ++ shut_marks 0 w.cpus) (back_marks 0 w.cpus) g.0 (Shut p) m)
  shut_somewhere p l false e =
      let g = shut_in 0 p w.cpus l e in
      let z : Some (Shut (0 + p)) ≡ Some (Shut p) = ap (λ x. Some (Shut x)) (let y : 0 + p ≡ p = omega arith in y) in
      let m : slice_get (w.history ++ shut_marks 0 w.cpus) (length w.history + g.0) ≡ Some (Shut p) = get_right w.history (shut_marks 0 w.cpus) g.0 (Shut p) (g.1 ∙ z) in (
        length w.history + g.0,
        slice_get_within (w.history ++ shut_marks 0 w.cpus) (length w.history + g.0) (Shut p) m,
        get_left (w.history ++ shut_marks 0 w.cpus) (back_marks 0 w.cpus) (length w.history + g.0) (Shut p) m,
      )

  closing_shut : (p i key : ℕ) → slice_get (closing w) i ≡ Some (Back p key) → (j : ℕ) × (j < i) × (slice_get (closing w) j ≡ Some (Shut p))
  closing_shut p i key e = elim (get_parts (w.history ++ shut_marks 0 w.cpus) (back_marks 0 w.cpus) i (Back p key) e) [
    | inl v ↦ elim (get_parts w.history (shut_marks 0 w.cpus) i (Back p key) v.1) [
      | inl x ↦ absurd (u.none p i key x.1)
      | inr x ↦ absurd (shuts_no_back 0 w.cpus p x.0 key x.2)
    ]
    | inr v ↦
        let g = back_in 0 w.cpus p v.0 key v.2 in
        let l : p < length w.cpus = omega (arith, g.1, g.2) in
        let s = shut_somewhere p l (cpu_at w p).shut refl in
        (s.0, omega (arith, s.1, v.1), s.2)
  ]

  pub closed : IsClosed (length w.cpus) (closing w)
  closed = record {
    lawful = lawful_closing (length w.cpus) (back_marks 0 w.cpus) (w.history ++ shut_marks 0 w.cpus) (backs_closing 0 w.cpus)
        (lawful_closing (length w.cpus) (shut_marks 0 w.cpus) w.history (shuts_closing 0 w.cpus) k.lawful);
    settled = record { accounted = closing_settled; shut = closing_shut };
  }

-- a `Shut` stands before each `Back`, and no acceptance stands after it
pub nothing_accepted_after_back : (n : ℕ) (h : List Mark) → IsClosed n h → HasNothingAcceptedAfterBack h
nothing_accepted_after_back n h c p i j key other back accepts =
    let s = c.settled.shut p i key back in
    let before : j < s.0 = (sound_whole n h c.lawful).shut p s.0 j other s.2 accepts in
    omega (arith, s.1)
