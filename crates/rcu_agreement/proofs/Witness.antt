-- The plain history agrees with the accounts.
use Rattle.std.proofs.Common.{◌≡◌, ℕ, zero, suc, ◌+◌, ◌<◌, List, [], ◌∷◌, ◌++◌, length, take, map, replicate, refl, ap, sym, subst, ◌∙◌, arith, Some, length-append, inl, inr}
use Rattle.std.specs.List.{slice_get, flat_map, range_with_len}
use Rattle.std.proofs.lemmas.Bool.{eq-eqb, ne_eqb, cases_lt}
use Rattle.std.proofs.lemmas.List.{get_or_past, append-nil, take_all, length-replicate}
use Rattle.std.proofs.lemmas.Grind.{flat_map-append}
use Rattle.std.proofs.lemmas.List.FromFn.{get_or-map-range_with_len, length-map-range_with_len}
use Rattle.std.proofs.lemmas.Option.{slice_get-get_or, slice_get_within}
use Rattle.rcu_world_law.specs.declared.marks.Mark.{Mark}
use Rattle.rcu_world_law.specs.declared.marks.Mark.TheVariants.{Accepted, Reported, Ran, Opened, Passed, Shut, Back}
use Rattle.rcu_world_law.specs.Law.{accepted, ran, back, key_accepted, key_ran, key_back, IsOpened}
use Rattle.rcu_world_law.specs.Invariant.{reports, report_of}
use Rattle.rcu_world_law.proofs.Law.{accepted_within}
use Rattle.rcu_agreement.specs.Accounts.{Account, account_at, no_account}
use Rattle.rcu_agreement.specs.Agreement.{Agrees}
use Rattle.rcu_agreement.specs.Plain.{MayPass, acceptances, backs, of_all, opens, passes, plain, reported, runs, shuts}
use Rattle.rcu_agreement.proofs.Marks.{accepted_at, accepted_prefix, fewer}
use Rattle.rcu_agreement.proofs.Ranks.{Each, Rises, each_all, each_append, each_cons, each_map, each_none, each_replicate, get_left, get_parts, get_right, rank, rises_last, rises_more}

-- ---- lists

-- what a block of one kind gives of processor q
module _ (g : ℕ → Mark → List ℕ) (f : ℕ → Account → List Mark) where
  none_of : ((q p : ℕ) (a : Account) → flat_map (g q) (f p a) ≡ []) → (q p : ℕ) (xs : List Account) → flat_map (g q) (of_all f p xs) ≡ []
  none_of e q p [] = refl
  none_of e q p (a ∷ xs) = flat_map-append (g q) (f p a) (of_all f (suc p) xs) ∙ ap (λ x. x ++ flat_map (g q) (of_all f (suc p) xs)) (e q p a) ∙ none_of e q (suc p) xs

  module _ (own : Account → List ℕ) (same : (p : ℕ) (a : Account) → flat_map (g p) (f p a) ≡ own a) (other : (q p : ℕ) (a : Account) → (p ≡ q → ⊥) → flat_map (g q) (f p a) ≡ []) (empty : own no_account ≡ []) where
    later_of : (q p : ℕ) (xs : List Account) → q < p → flat_map (g q) (of_all f p xs) ≡ []
    later_of q p [] l = refl
    later_of q p (a ∷ xs) l = flat_map-append (g q) (f p a) (of_all f (suc p) xs) ∙ ap (λ x. x ++ flat_map (g q) (of_all f (suc p) xs)) (other q p a (λ e. omega arith)) ∙ later_of q (suc p) xs (omega arith)

    own_of : (p i : ℕ) (xs : List Account) → flat_map (g (p + i)) (of_all f p xs) ≡ own (account_at xs i)
    own_of p i [] = sym empty
    own_of p zero (a ∷ xs) =
        let z : p + zero ≡ p = omega arith in
        subst (λ q. flat_map (g q) (of_all f p (a ∷ xs)) ≡ own a) (sym z)
        (flat_map-append (g p) (f p a) (of_all f (suc p) xs) ∙ ap (λ x. x ++ flat_map (g p) (of_all f (suc p) xs)) (same p a) ∙ ap (λ x. own a ++ x) (later_of p (suc p) xs (omega arith)) ∙ append-nil (own a))
    own_of p (suc i) (a ∷ xs) =
        let z : p + suc i ≡ suc p + i = omega arith in
        subst (λ q. flat_map (g q) (of_all f p (a ∷ xs)) ≡ own (account_at xs i)) (sym z)
        (flat_map-append (g (suc p + i)) (f p a) (of_all f (suc p) xs) ∙ ap (λ x. x ++ flat_map (g (suc p + i)) (of_all f (suc p) xs)) (other (suc p + i) p a (λ e. omega arith)) ∙ own_of (suc p) i xs)

    own_at : (q : ℕ) (xs : List Account) → flat_map (g q) (of_all f 0 xs) ≡ own (account_at xs q)
    own_at q xs = let z : 0 + q ≡ q = omega arith in subst (λ x. flat_map (g x) (of_all f 0 xs) ≡ own (account_at xs q)) z (own_of 0 q xs)

-- a report as a list of one
abbrev one_report : ℕ → Mark → List ℕ
one_report q m = replicate (report_of q m) 0

map_none : (g : Mark → List ℕ) (f : ℕ → Mark) → ((k : ℕ) → g (f k) ≡ []) → (ks : List ℕ) → flat_map g (map f ks) ≡ []
map_none g f e [] = refl
map_none g f e (k ∷ ks) = ap (λ x. x ++ flat_map g (map f ks)) (e k) ∙ map_none g f e ks

map_same : (g : Mark → List ℕ) (f : ℕ → Mark) → ((k : ℕ) → g (f k) ≡ k ∷ []) → (ks : List ℕ) → flat_map g (map f ks) ≡ ks
map_same g f e [] = refl
map_same g f e (k ∷ ks) = ap (λ x. x ++ flat_map g (map f ks)) (e k) ∙ ap (λ x. k ∷ x) (map_same g f e ks)

replicate_each : (g : Mark → List ℕ) (m : Mark) (ys : List ℕ) → g m ≡ ys → (n : ℕ) → ys ≡ [] → flat_map g (replicate n m) ≡ []
replicate_each g m ys e zero z = refl
replicate_each g m ys e (suc n) z = ap (λ x. x ++ flat_map g (replicate n m)) (e ∙ z) ∙ replicate_each g m ys e n z

replicate_one : (g : Mark → List ℕ) (m : Mark) (x : ℕ) → g m ≡ x ∷ [] → (n : ℕ) → flat_map g (replicate n m) ≡ replicate n x
replicate_one g m x e zero = refl
replicate_one g m x e (suc n) = ap (λ y. y ++ flat_map g (replicate n m)) e ∙ ap (λ y. x ∷ y) (replicate_one g m x e n)

reports_counted : (q : ℕ) (h : List Mark) → reports q h ≡ length (flat_map (one_report q) h)
reports_counted q [] = refl
reports_counted q (m ∷ h) = omega (arith, length-append (one_report q m) (flat_map (one_report q) h), length-replicate {A = ℕ} (report_of q m) 0, reports_counted q h)

-- ---- the blocks

module _ (barriers : ℕ) (xs : List Account) where
  abbrev Opens : List Mark
  Opens = opens barriers

  abbrev Accepts : List Mark
  Accepts = of_all acceptances 0 xs

  abbrev Reports : List Mark
  Reports = of_all reported 0 xs

  abbrev Runs : List Mark
  Runs = of_all runs 0 xs

  abbrev Passes : List Mark
  Passes = passes barriers

  abbrev Shuts : List Mark
  Shuts = of_all shuts 0 xs

  abbrev Backs : List Mark
  Backs = of_all backs 0 xs

  each_block : (P : Mark → Type 0) → Each P Opens → Each P Accepts → Each P Reports → Each P Runs → Each P Passes → Each P Shuts → Each P Backs → Each P (plain barriers xs)
  each_block P o a p r e s b = each_append P Opens (Accepts ++ (Reports ++ (Runs ++ (Passes ++ (Shuts ++ Backs))))) o
      (each_append P Accepts (Reports ++ (Runs ++ (Passes ++ (Shuts ++ Backs)))) a
      (each_append P Reports (Runs ++ (Passes ++ (Shuts ++ Backs))) p
      (each_append P Runs (Passes ++ (Shuts ++ Backs)) r (each_append P Passes (Shuts ++ Backs) e (each_append P Shuts Backs s b)))))

  rises_then : Rises 1 (Accepts ++ (Reports ++ (Runs ++ (Passes ++ (Shuts ++ Backs)))))
  rises_then =
      let has = λ (r : ℕ) (m : Mark). rank m ≡ r in
      let b = rises_last 6 Backs (each_all (has 6) backs 0 xs (λ q a. each_map (has 6) (λ k. Back q k) a.back (λ k. refl))) in
      let s = rises_more 5 Shuts Backs (each_all (has 5) shuts 0 xs (λ q a. each_cons (has 5) (Shut q) [] refl (each_none (has 5)))) b in
      let e = rises_more 4 Passes (Shuts ++ Backs) (each_map (has 4) (λ b. Passed b) (range_with_len 0 barriers) (λ b. refl)) s in
      let r = rises_more 3 Runs (Passes ++ (Shuts ++ Backs)) (each_all (has 3) runs 0 xs (λ q a. each_map (has 3) (λ k. Ran q k) a.ran (λ k. refl))) e in
      let p = rises_more 2 Reports (Runs ++ (Passes ++ (Shuts ++ Backs))) (each_all (has 2) reported 0 xs (λ q a. each_replicate (has 2) a.reports (Reported q) refl)) r in
      rises_more 1 Accepts (Reports ++ (Runs ++ (Passes ++ (Shuts ++ Backs)))) (each_all (has 1) acceptances 0 xs (λ q a. each_map (has 1) (λ k. Accepted q k) a.keys (λ k. refl))) p

  rises : Rises 0 (plain barriers xs)
  rises = rises_more 0 Opens (Accepts ++ (Reports ++ (Runs ++ (Passes ++ (Shuts ++ Backs))))) (each_map (λ m. rank m ≡ 0) (λ b. Opened b) (range_with_len 0 barriers) (λ b. refl)) rises_then

  seven : (g : Mark → List ℕ) → flat_map g (plain barriers xs)
      ≡ flat_map g Opens ++ (flat_map g Accepts ++ (flat_map g Reports ++ (flat_map g Runs ++ (flat_map g Passes ++ (flat_map g Shuts ++ flat_map g Backs)))))
  seven g = flat_map-append g Opens (Accepts ++ (Reports ++ (Runs ++ (Passes ++ (Shuts ++ Backs)))))
      ∙ ap (λ x. flat_map g Opens ++ x) (flat_map-append g Accepts (Reports ++ (Runs ++ (Passes ++ (Shuts ++ Backs))))
      ∙ ap (λ x. flat_map g Accepts ++ x) (flat_map-append g Reports (Runs ++ (Passes ++ (Shuts ++ Backs)))
      ∙ ap (λ x. flat_map g Reports ++ x) (flat_map-append g Runs (Passes ++ (Shuts ++ Backs))
      ∙ ap (λ x. flat_map g Runs ++ x) (flat_map-append g Passes (Shuts ++ Backs) ∙ ap (λ x. flat_map g Passes ++ x) (flat_map-append g Shuts Backs)))))

  plain_accepted : (p : ℕ) → accepted p (plain barriers xs) ≡ (account_at xs p).keys
  plain_accepted p = seven (key_accepted p)
      ∙ rw (
        own_at key_accepted acceptances (λ a. a.keys) (λ q a. map_same (key_accepted q) (λ k. Accepted q k) (λ k. rw (eq-eqb q q refl) refl) a.keys) (λ q r a d. map_none (key_accepted q) (λ k. Accepted r k) (λ k. rw (ne_eqb r q d) refl) a.keys) refl p xs,
        map_none (key_accepted p) (λ b. Opened b) (λ b. refl) (range_with_len 0 barriers),
        none_of key_accepted reported (λ q r a. replicate_each (key_accepted q) (Reported r) [] refl a.reports refl) p 0 xs,
        none_of key_accepted runs (λ q r a. map_none (key_accepted q) (λ k. Ran r k) (λ k. refl) a.ran) p 0 xs,
        map_none (key_accepted p) (λ b. Passed b) (λ b. refl) (range_with_len 0 barriers),
        none_of key_accepted shuts (λ q r a. refl) p 0 xs,
        none_of key_accepted backs (λ q r a. map_none (key_accepted q) (λ k. Back r k) (λ k. refl) a.back) p 0 xs,
      )
      (append-nil (account_at xs p).keys)

  plain_ran : (p : ℕ) → ran p (plain barriers xs) ≡ (account_at xs p).ran
  plain_ran p = seven (key_ran p)
      ∙ rw (
        own_at key_ran runs (λ a. a.ran) (λ q a. map_same (key_ran q) (λ k. Ran q k) (λ k. rw (eq-eqb q q refl) refl) a.ran) (λ q r a d. map_none (key_ran q) (λ k. Ran r k) (λ k. rw (ne_eqb r q d) refl) a.ran) refl p xs,
        map_none (key_ran p) (λ b. Opened b) (λ b. refl) (range_with_len 0 barriers),
        none_of key_ran reported (λ q r a. replicate_each (key_ran q) (Reported r) [] refl a.reports refl) p 0 xs,
        none_of key_ran acceptances (λ q r a. map_none (key_ran q) (λ k. Accepted r k) (λ k. refl) a.keys) p 0 xs,
        map_none (key_ran p) (λ b. Passed b) (λ b. refl) (range_with_len 0 barriers),
        none_of key_ran shuts (λ q r a. refl) p 0 xs,
        none_of key_ran backs (λ q r a. map_none (key_ran q) (λ k. Back r k) (λ k. refl) a.back) p 0 xs,
      )
      (append-nil (account_at xs p).ran)

  plain_back : (p : ℕ) → back p (plain barriers xs) ≡ (account_at xs p).back
  plain_back p = seven (key_back p)
      ∙ rw (
        own_at key_back backs (λ a. a.back) (λ q a. map_same (key_back q) (λ k. Back q k) (λ k. rw (eq-eqb q q refl) refl) a.back) (λ q r a d. map_none (key_back q) (λ k. Back r k) (λ k. rw (ne_eqb r q d) refl) a.back) refl p xs,
        map_none (key_back p) (λ b. Opened b) (λ b. refl) (range_with_len 0 barriers),
        none_of key_back reported (λ q r a. replicate_each (key_back q) (Reported r) [] refl a.reports refl) p 0 xs,
        none_of key_back acceptances (λ q r a. map_none (key_back q) (λ k. Accepted r k) (λ k. refl) a.keys) p 0 xs,
        none_of key_back runs (λ q r a. map_none (key_back q) (λ k. Ran r k) (λ k. refl) a.ran) p 0 xs,
        map_none (key_back p) (λ b. Passed b) (λ b. refl) (range_with_len 0 barriers),
        none_of key_back shuts (λ q r a. refl) p 0 xs,
      )
      refl

  plain_reports : (q : ℕ) → reports q (plain barriers xs) ≡ (account_at xs q).reports
  plain_reports q = reports_counted q (plain barriers xs) ∙ ap length (seven (one_report q)
      ∙ rw (
        own_at one_report reported (λ a. replicate a.reports 0) (λ p a. replicate_one (one_report p) (Reported p) 0 (rw (eq-eqb p p refl) refl) a.reports) (λ p r a d. replicate_each (one_report p) (Reported r) [] (rw (ne_eqb r p d) refl) a.reports refl) refl q xs,
        map_none (one_report q) (λ b. Opened b) (λ b. refl) (range_with_len 0 barriers),
        none_of one_report acceptances (λ p r a. map_none (one_report p) (λ k. Accepted r k) (λ k. refl) a.keys) q 0 xs,
        none_of one_report runs (λ p r a. map_none (one_report p) (λ k. Ran r k) (λ k. refl) a.ran) q 0 xs,
        map_none (one_report q) (λ b. Passed b) (λ b. refl) (range_with_len 0 barriers),
        none_of one_report shuts (λ p r a. refl) q 0 xs,
        none_of one_report backs (λ p r a. map_none (one_report p) (λ k. Back r k) (λ k. refl) a.back) q 0 xs,
      )
      (append-nil (replicate (account_at xs q).reports 0))) ∙ length-replicate {A = ℕ} (account_at xs q).reports 0

-- ---- shut

shut_at : (p i : ℕ) (xs : List Account) → i < length xs → slice_get (of_all shuts p xs) i ≡ Some (Shut (p + i))
shut_at p i [] l = absurd (omega arith)
shut_at p zero (a ∷ xs) l = ap (λ x. Some (Shut x)) (let z : p ≡ p + zero = omega arith in z)
shut_at p (suc i) (a ∷ xs) l = shut_at (suc p) i xs (omega arith) ∙ ap (λ x. Some (Shut x)) (let z : suc p + i ≡ p + suc i = omega arith in z)

-- a Back stands for a processor that is there
back_in : (h : List Mark) (p i key : ℕ) → slice_get h i ≡ Some (Back p key) → 0 < length (back p h)
back_in [] p i key e = absurd cc
back_in (m ∷ h) p zero key e =
    let f : m ≡ Back p key = cc in
    omega (arith, length-append (key_back p m) (back p h), ap (λ x. length (key_back p x)) f, (let z : length (key_back p (Back p key)) ≡ 1 = rw (eq-eqb p p refl) refl in z))
back_in (m ∷ h) p (suc i) key e = omega (arith, length-append (key_back p m) (back p h), back_in h p i key e)

module _ (barriers : ℕ) (xs : List Account) where
  shut_in : (p : ℕ) → p < length xs → (j : ℕ) × (slice_get (plain barriers xs) j ≡ Some (Shut p))
  shut_in p l =
      let shuts = Shuts barriers xs in
      let backs = Backs barriers xs in
      let passes = Passes barriers xs in
      let runs = Runs barriers xs in
      let reports = Reports barriers xs in
      let accepts = Accepts barriers xs in
      let s = get_left shuts backs p (Shut p) (shut_at 0 p xs l ∙ ap (λ x. Some (Shut x)) (let z : 0 + p ≡ p = omega arith in z)) in
      let e = get_right passes (shuts ++ backs) p (Shut p) s in
      let r = get_right runs (passes ++ (shuts ++ backs)) (length passes + p) (Shut p) e in
      let q = get_right reports (runs ++ (passes ++ (shuts ++ backs))) (length runs + (length passes + p)) (Shut p) r in
      let a = get_right accepts (reports ++ (runs ++ (passes ++ (shuts ++ backs)))) (length reports + (length runs + (length passes + p))) (Shut p) q in (
        length (Opens barriers xs) + (length accepts + (length reports + (length runs + (length passes + p)))),
        get_right (Opens barriers xs) (accepts ++ (reports ++ (runs ++ (passes ++ (shuts ++ backs))))) (length accepts + (length reports + (length runs + (length passes + p)))) (Shut p) a,
      )

  shut_first : (p i key : ℕ) → slice_get (plain barriers xs) i ≡ Some (Back p key) → (j : ℕ) × (j < i) × (slice_get (plain barriers xs) j ≡ Some (Shut p))
  shut_first p i key e = elim (cases_lt p (length xs)) [
    | inl l ↦ let s = shut_in p l in (s.0, (rises barriers xs).order s.0 i (Shut p) (Back p key) s.1 e (omega arith), s.1)
    | inr l ↦ absurd (omega (arith, back_in (plain barriers xs) p i key e, ap length (plain_back barriers xs p), ap (λ (a : Account). length a.back) (get_or_past xs p no_account l)))
  ]

  all_before : (p i : ℕ) → slice_get (plain barriers xs) i ≡ Some (Shut p) → length (accepted p (take i (plain barriers xs))) ≡ length (accepted p (plain barriers xs))
  all_before p i e =
      let h = plain barriers xs in
      let k = length (accepted p (take i h)) in
      elim (cases_lt k (length (accepted p h))) [
        | inl l ↦
            let a = accepted_at p k h l in
            let w : a.0 < i = (rises barriers xs).order a.0 i (Accepted p a.1.key) (Shut p) a.1.stands e (omega arith) in
            let v : k < k = accepted_within (take i h) p k a.0 (accepted_prefix i h p k a.0 w a.1) in
            absurd (omega arith)
        | inr l ↦ omega (arith, l, fewer (key_accepted p) i (i + length h) h (omega arith), ap (λ x. length (accepted p x)) (take_all (i + length h) h (omega arith)))
      ]

-- ---- barriers

-- barrier b opens at place b
opens_at : (barriers b : ℕ) → b < barriers → slice_get (opens barriers) b ≡ Some (Opened b)
opens_at barriers b l =
    let f : ℕ → Mark = λ x. Opened x in
    slice_get-get_or (opens barriers) b (Opened 0) (omega (arith, l, length-map-range_with_len f 0 barriers))
    ∙ ap Some (get_or-map-range_with_len f 0 barriers b b (Opened 0) l (let z : 0 + b ≡ b = omega arith in z))

module _ (barriers : ℕ) (xs : List Account) where
  opened_there : (b i : ℕ) → slice_get (plain barriers xs) i ≡ Some (Opened b) → i ≡ b
  opened_there b i e = elim (get_parts (Opens barriers xs) (Accepts barriers xs ++ (Reports barriers xs ++ (Runs barriers xs ++ (Passes barriers xs ++ (Shuts barriers xs ++ Backs barriers xs))))) i (Opened b) e) [
    | inl u ↦
        let near : i < barriers = omega (arith, u.0, length-map-range_with_len (λ x. Opened x) 0 barriers) in
        let same : Some (Opened i) ≡ Some (Opened b) = sym (opens_at barriers i near) ∙ u.1 in cc
    | inr u ↦ absurd (omega (arith, (rises_then barriers xs).above u.0 (Opened b) u.2))
  ]

  opens_here : (b : ℕ) → b < barriers → slice_get (plain barriers xs) b ≡ Some (Opened b)
  opens_here b l = get_left (Opens barriers xs) (Accepts barriers xs ++ (Reports barriers xs ++ (Runs barriers xs ++ (Passes barriers xs ++ (Shuts barriers xs ++ Backs barriers xs))))) b (Opened b) (opens_at barriers b l)

  -- a barrier that passes is one of these
  abbrev PassesOne : Mark → Type 0
  PassesOne m = (b : ℕ) → m ≡ Passed b → b < barriers

  passes_one : Each PassesOne (Passes barriers xs)
  passes_one = record {
    each = λ i m e b f.
        let near : i < barriers = omega (arith, slice_get_within (passes barriers) i m e, length-map-range_with_len (λ x. Passed x) 0 barriers) in
        let at : slice_get (passes barriers) i ≡ Some (Passed i) =
        slice_get-get_or (passes barriers) i (Passed 0) (omega (arith, near, length-map-range_with_len (λ x. Passed x) 0 barriers))
        ∙ ap Some (get_or-map-range_with_len (λ x. Passed x) 0 barriers i i (Passed 0) near (let z : 0 + i ≡ i = omega arith in z)) in
        let same : i ≡ b = (let g : Some (Passed i) ≡ Some (Passed b) = sym at ∙ e ∙ ap Some f in cc) in
        omega (arith, near, same);
  }

  passed_one : (b e : ℕ) → slice_get (plain barriers xs) e ≡ Some (Passed b) → b < barriers
  passed_one b e stands = (each_block barriers xs PassesOne
      (each_map PassesOne (λ x. Opened x) (range_with_len 0 barriers) (λ k c f. absurd cc))
      (each_all PassesOne acceptances 0 xs (λ q a. each_map PassesOne (λ k. Accepted q k) a.keys (λ k c f. absurd cc)))
      (each_all PassesOne reported 0 xs (λ q a. each_replicate PassesOne a.reports (Reported q) (λ c f. absurd cc)))
      (each_all PassesOne runs 0 xs (λ q a. each_map PassesOne (λ k. Ran q k) a.ran (λ k c f. absurd cc)))
      passes_one
      (each_all PassesOne shuts 0 xs (λ q a. each_cons PassesOne (Shut q) [] (λ c f. absurd cc) (each_none PassesOne)))
      (each_all PassesOne backs 0 xs (λ q a. each_map PassesOne (λ k. Back q k) a.back (λ k c f. absurd cc)))).each e (Passed b) stands b refl

  opened : IsOpened (plain barriers xs)
  opened = record {
    before = λ b e s.
        let there = opens_here b (passed_one b e s) in
        (b, (rises barriers xs).order b e (Opened b) (Passed b) there s (omega arith), there);
    once = λ b i j s t. opened_there b i s ∙ sym (opened_there b j t);
  }

pub agrees : (xs : List Account) (counts : List (List ℕ)) (barriers : ℕ) → MayPass xs counts barriers → Agrees xs counts (plain barriers xs)
agrees xs counts barriers may =
    let up = (rises barriers xs).order in
    record {
      accepted_is = plain_accepted barriers xs;
      ran_is = plain_ran barriers xs;
      back_is = plain_back barriers xs;
      reports_is = plain_reports barriers xs;
      stamped = λ p k t q j i a r l. up t i (Accepted p a.key) (Reported q) a.stands r.stands (omega arith);
      seen = λ p k u q j i a r l. up i u (Reported q) (Ran p a.key) r.stands a.stands (omega arith);
      shut_first = shut_first barriers xs;
      shut = λ p i s. inr (all_before barriers xs p i s);
      opened = opened barriers xs;
      counted = λ b o p k t s a l. absurd (omega (arith, l, up o t (Opened b) (Accepted p a.key) s a.stands (omega arith)));
      passed = λ b e p k u s r l. up u e (Ran p r.key) (Passed b) r.stands s (omega arith);
      polled = λ b e p s l. may b p (passed_one barriers xs b e s) l;
    }

-- without barriers nothing is asked for
pub agrees_without : (xs : List Account) (counts : List (List ℕ)) → Agrees xs counts (plain 0 xs)
agrees_without xs counts = agrees xs counts 0 (λ b p l. absurd (omega (arith, l)))
