-- The lists of a processor along a history, and that a processor with no account has none.
use Rattle.std.proofs.Common.{◌≡◌, ℕ, zero, suc, ◌+◌, ◌<◌, ◌≤◌, List, [], ◌∷◌, ◌++◌, length, take, drop, get_or, refl, ap, sym, ◌∙◌, arith, Some, length-append, inl, inr}
use Rattle.std.specs.List.{slice_get, flat_map}
use Rattle.std.proofs.lemmas.Bool.{cases_lt, ne_eqb, eq-eqb}
use Rattle.std.proofs.lemmas.Grind.{flat_map-append}
use Rattle.std.proofs.lemmas.List.{append-nil, get_or-map, get_or_at, get_or_past, length-map, length-take, take_more}
use Rattle.rcu_world_law.specs.declared.marks.Mark.{Mark}
use Rattle.rcu_world_law.specs.declared.marks.Mark.TheVariants.{Accepted, Reported, Ran, Opened, Passed, Shut, Back}
use Rattle.rcu_world_law.specs.Law.{accepted, ran, key_back}
use Rattle.rcu_world_law.specs.Invariant.{reports, report_of}
use Rattle.rcu_world_law.proofs.Law.{accepted_within, ran_within}
use Rattle.rcu_world_law.proofs.Frames.{reports-push}
use Rattle.rcu_world_checker.specs.Kinds.{key_in, keys}
use Rattle.rcu_world_checker.specs.declared.kinds.Kind.{Kind}
use Rattle.rcu_world_checker.specs.declared.kinds.Kind.TheVariants as kinds
use Rattle.rcu_world_checker.proofs.Lists.{parted}
use Rattle.rcu_agreement.specs.Accounts as plain
use Rattle.rcu_agreement.specs.Accounts.{account_at, no_account}
use Rattle.rcu_agreement_checker.specs.declared.account.Account.{Account}
use Rattle.rcu_agreement_checker.specs.Known.{all_known, known}
use Rattle.rcu_agreement_checker.specs.Lists.{AreListed, AreOf, AreReported, IsOf, ListsAgree, listed}

-- ---- one mark more

pub keys_more : (kind : Kind) (p : ℕ) (h : List Mark) (i : ℕ) (d : Mark) → i < length h → keys kind p (take (i + 1) h) ≡ keys kind p (take i h) ++ key_in kind p (get_or h i d)
keys_more kind p h i d l =
    ap (keys kind p) (take_more h i d l)
    ∙ flat_map-append (key_in kind p) (take i h) (get_or h i d ∷ [])
    ∙ ap (λ x. keys kind p (take i h) ++ x) (append-nil (key_in kind p (get_or h i d)))

pub reports_more : (q : ℕ) (h : List Mark) (i : ℕ) (d : Mark) → i < length h → reports q (take (i + 1) h) ≡ reports q (take i h) + report_of q (get_or h i d)
reports_more q h i d l = ap (reports q) (take_more h i d l) ∙ reports-push q (take i h) (get_or h i d)

pub report_of_other : (q : ℕ) (m : Mark) → (m ≡ Reported q → ⊥) → report_of q m ≡ 0
report_of_other q (Accepted p key) d = refl
report_of_other q (Reported p) d = rw (ne_eqb p q (λ e. d (ap Reported e))) refl
report_of_other q (Ran p key) d = refl
report_of_other q (Opened b) d = refl
report_of_other q (Passed b) d = refl
report_of_other q (Shut p) d = refl
report_of_other q (Back p key) d = refl

pub report_of_own : (q : ℕ) (m : Mark) → m ≡ Reported q → report_of q m ≡ 1
report_of_own q m e = ap (report_of q) e ∙ (let own : report_of q (Reported q) ≡ 1 = rw (eq-eqb q q refl) refl in own)

-- a list that begins with what was met and goes on with a key has that key there
pub next_is : (met : ℕ) (wanted rest : List ℕ) (key d : ℕ) → met ≤ length wanted → take met wanted ++ (key ∷ rest) ≡ wanted → (met < length wanted) × (get_or wanted met d ≡ key)
next_is met wanted rest key d l e =
    let much : length (take met wanted) ≡ met = omega (arith, length-take met wanted) in (
      omega (arith, ap length e, length-append (take met wanted) (key ∷ rest)),
      ap (λ x. get_or x met d) (sym e) ∙ get_or_at (take met wanted) key rest d met much,
    )

-- where such a key stands at place i, the list of a history goes on with it
pub goes_on : (kind : Kind) (p : ℕ) (h : List Mark) (i : ℕ) (m : Mark) (key : ℕ) → slice_get h i ≡ Some m → key_in kind p m ≡ key ∷ [] → (rest : List ℕ) × (keys kind p h ≡ keys kind p (take i h) ++ (key ∷ rest))
goes_on kind p h i m key e g = (flat_map (key_in kind p) (drop (suc i) h), parted (key_in kind p) h i m e ∙ ap (λ x. keys kind p (take i h) ++ (x ++ flat_map (key_in kind p) (drop (suc i) h))) g)

-- ---- who has no account

key_none : (kind : Kind) (p n : ℕ) (m : Mark) → IsOf n m → n ≤ p → key_in kind p m ≡ []
key_none kinds.Accepted p n (Accepted q key) o l = rw (ne_eqb q p (λ e. omega arith)) refl
key_none kinds.Accepted p n (Reported q) o l = refl
key_none kinds.Accepted p n (Ran q key) o l = refl
key_none kinds.Accepted p n (Opened b) o l = refl
key_none kinds.Accepted p n (Passed b) o l = refl
key_none kinds.Accepted p n (Shut q) o l = refl
key_none kinds.Accepted p n (Back q key) o l = refl
key_none kinds.Ran p n (Ran q key) o l = rw (ne_eqb q p (λ e. omega arith)) refl
key_none kinds.Ran p n (Accepted q key) o l = refl
key_none kinds.Ran p n (Reported q) o l = refl
key_none kinds.Ran p n (Opened b) o l = refl
key_none kinds.Ran p n (Passed b) o l = refl
key_none kinds.Ran p n (Shut q) o l = refl
key_none kinds.Ran p n (Back q key) o l = refl
key_none kinds.Back p n (Back q key) o l = rw (ne_eqb q p (λ e. omega arith)) refl
key_none kinds.Back p n (Accepted q key) o l = refl
key_none kinds.Back p n (Reported q) o l = refl
key_none kinds.Back p n (Ran q key) o l = refl
key_none kinds.Back p n (Opened b) o l = refl
key_none kinds.Back p n (Passed b) o l = refl
key_none kinds.Back p n (Shut q) o l = refl

report_none : (q n : ℕ) (m : Mark) → IsOf n m → n ≤ q → report_of q m ≡ 0
report_none q n (Accepted p key) o l = refl
report_none q n (Reported p) o l = rw (ne_eqb p q (λ e. omega arith)) refl
report_none q n (Ran p key) o l = refl
report_none q n (Opened b) o l = refl
report_none q n (Passed b) o l = refl
report_none q n (Shut p) o l = refl
report_none q n (Back p key) o l = refl

are_of_rest : (n : ℕ) (m : Mark) (h : List Mark) → AreOf n (m ∷ h) → AreOf n h
are_of_rest n m h o = record { each = λ i x e. o.each (suc i) x e }

keys_none : (kind : Kind) (p n : ℕ) (h : List Mark) → AreOf n h → n ≤ p → keys kind p h ≡ []
keys_none kind p n [] o l = refl
keys_none kind p n (m ∷ h) o l = ap (λ x. x ++ keys kind p h) (key_none kind p n m (o.each 0 m refl) l) ∙ keys_none kind p n h (are_of_rest n m h o) l

reports_none : (q n : ℕ) (h : List Mark) → AreOf n h → n ≤ q → reports q h ≡ 0
reports_none q n [] o l = refl
reports_none q n (m ∷ h) o l = omega (arith, report_none q n m (o.each 0 m refl) l, reports_none q n h (are_of_rest n m h o) l)

listed_none : (kind : Kind) → listed kind no_account ≡ []
listed_none kinds.Accepted = refl
listed_none kinds.Ran = refl
listed_none kinds.Back = refl

-- ---- the accounts

-- the account at a place is what is known there
pub known_at : (accounts : List Account) (p : ℕ) (a : Account) → p < length accounts → a ≡ get_or accounts p a → account_at (all_known accounts) p ≡ known a
known_at accounts p a l e = get_or-map known accounts p a no_account l ∙ ap known (sym e)

module _ (accounts : List Account) (h : List Mark) (of : AreOf (length accounts) h) where
  beyond : (p : ℕ) → length accounts ≤ p → account_at (all_known accounts) p ≡ no_account
  beyond p l = get_or_past (all_known accounts) p no_account (omega (arith, length-map accounts known))

  pub all_listed : (kind : Kind) → ((p : ℕ) → p < length accounts → keys kind p h ≡ listed kind (account_at (all_known accounts) p)) → AreListed kind (all_known accounts) h
  all_listed kind each = λ p. elim (cases_lt p (length accounts)) [
    | inl l ↦ each p l
    | inr g ↦ keys_none kind p (length accounts) h of g ∙ sym (ap (listed kind) (beyond p g) ∙ listed_none kind)
  ]

  pub all_reported : ((q : ℕ) → q < length accounts → reports q h ≡ (account_at (all_known accounts) q).reports) → AreReported (all_known accounts) h
  all_reported each = λ q. elim (cases_lt q (length accounts)) [
    | inl l ↦ each q l
    | inr g ↦ reports_none q (length accounts) h of g ∙ sym (ap (λ (a : plain.Account). a.reports) (beyond q g))
  ]

-- ---- where the lists agree, no mark is of another processor

reported_in : (q i : ℕ) (h : List Mark) → slice_get h i ≡ Some (Reported q) → 0 < reports q h
reported_in q i [] e = absurd cc
reported_in q zero (m ∷ h) e = let own : report_of q m ≡ 1 = report_of_own q m cc in omega arith
reported_in q (suc i) (m ∷ h) e = omega (arith, reported_in q i h e)

back_in : (p key i : ℕ) (h : List Mark) → slice_get h i ≡ Some (Back p key) → 0 < length (keys kinds.Back p h)
back_in p key i h e =
    let own : key_back p (Back p key) ≡ key ∷ [] = rw (eq-eqb p p refl) refl in
    let g = goes_on kinds.Back p h i (Back p key) key e own in
    omega (arith, ap length g.1, length-append (keys kinds.Back p (take i h)) (key ∷ g.0))

module _ (accounts : List plain.Account) (h : List Mark) (lists : ListsAgree accounts h) where
  past : (p : ℕ) → length accounts ≤ p → account_at accounts p ≡ no_account
  past p l = get_or_past accounts p no_account l

  is_of : (i : ℕ) (m : Mark) → slice_get h i ≡ Some m → IsOf (length accounts) m
  is_of i (Accepted p key) e = elim (cases_lt p (length accounts)) [
    | inl l ↦ l
    | inr g ↦ absurd (omega (arith, accepted_within h p (length (accepted p (take i h))) i (record { key = key; stands = e; before = refl }), ap length (lists.accepted_is p), ap (λ (a : plain.Account). length a.keys) (past p g)))
  ]
  is_of i (Reported q) e = elim (cases_lt q (length accounts)) [
    | inl l ↦ l
    | inr g ↦ absurd (omega (arith, reported_in q i h e, lists.reports_is q, ap (λ (a : plain.Account). a.reports) (past q g)))
  ]
  is_of i (Ran p key) e = elim (cases_lt p (length accounts)) [
    | inl l ↦ l
    | inr g ↦ absurd (omega (arith, ran_within h p (length (ran p (take i h))) i (record { key = key; stands = e; before = refl }), ap length (lists.ran_is p), ap (λ (a : plain.Account). length a.ran) (past p g)))
  ]
  is_of i (Opened b) e = tt
  is_of i (Passed b) e = tt
  is_of i (Shut p) e = tt
  is_of i (Back p key) e = elim (cases_lt p (length accounts)) [
    | inl l ↦ l
    | inr g ↦ absurd (omega (arith, back_in p key i h e, ap length (lists.back_is p), ap (λ (a : plain.Account). length a.back) (past p g)))
  ]

  pub agreed_of : AreOf (length accounts) h
  agreed_of = record { each = is_of }
