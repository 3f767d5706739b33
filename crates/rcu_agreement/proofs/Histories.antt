-- Each history that agrees with sound accounts is closed.
use Rattle.std.proofs.Common.{◌≡◌, ℕ, zero, suc, ◌<◌, ◌≤◌, List, ◌++◌, length, take, refl, ap, sym, subst, ◌∙◌, arith, Some, length-append, append_assoc, inl, inr}
use Rattle.std.specs.List.{slice_get}
use Rattle.std.proofs.lemmas.Bool.{cases_lt}
use Rattle.std.proofs.lemmas.List.{get_or_past}
use Rattle.std.proofs.lemmas.List.Elements.{All-get_or}
use Rattle.rcu_world_law.specs.declared.marks.Mark.{Mark}
use Rattle.rcu_world_law.specs.declared.marks.Mark.TheVariants.{Accepted, Reported, Ran, Opened, Passed, Shut}
use Rattle.rcu_world_law.specs.Law.{accepted, ran, back, key_accepted, key_ran, IsPrefixOf, IsAccepted, IsRan, IsCovered, IsSound, IsClosed}
use Rattle.rcu_world_law.proofs.Barring.{find_ran}
use Rattle.rcu_world_law.proofs.Law.{accepted_within, ran_within}
use Rattle.rcu_agreement.specs.Accounts.{Account, AreAccounts, IsAccount, LiesBetween, account_at, no_account, ready_of, stamp_of}
use Rattle.rcu_agreement.specs.Agreement.{Agrees, count_of}
use Rattle.rcu_agreement.proofs.Marks.{report_at, accepted_at, get_whole, get_prefix, taken_within, accepted_whole, accepted_prefix, ran_whole, ran_prefix, keys_prefix, fewer, both_prefixes}

-- a processor that isn't there accepted nothing
pub each_account : (xs : List Account) → AreAccounts xs → (p : ℕ) → IsAccount xs (account_at xs p)
each_account xs all p = elim (cases_lt p (length xs)) [
  | inl l ↦ All-get_or (IsAccount xs) xs p no_account l all
  | inr l ↦ subst (IsAccount xs) (sym (get_or_past xs p no_account l)) (record {
    settled = refl;
    graced = λ k w. absurd (omega arith);
    turns = λ k d w. absurd (omega arith);
    shuts = λ k d w. absurd (omega arith);
  })
]

module _ (xs : List Account) (counts : List (List ℕ)) (h : List Mark) (all : AreAccounts xs) (g : Agrees xs counts h) where
  s : (p : ℕ) → IsAccount xs (account_at xs p)
  s = each_account xs all

  ran_short : (p k u : ℕ) → IsRan h p k u → k < length (account_at xs p).ran
  ran_short p k u r = omega (arith, ran_within h p k u r, ap length (g.ran_is p))

  graced : (p k t u : ℕ) → IsAccepted h p k t → IsRan h p k u → IsCovered (length xs) h t u
  graced p k t u a r = record {
    each = λ q l.
        let w = All-get_or (λ (b : Account). LiesBetween (stamp_of xs p k) (ready_of xs p k) b.reports) xs q no_account l ((s p).graced k (ran_short p k u r)) in
        let i = report_at q w.period h (omega (arith, w.within, g.reports_is q)) in
        (i.0, g.stamped p k t q w.period i.0 a i.1 w.after, g.seen p k u q w.period i.0 r i.1 w.before, i.1.stands);
  }

  -- who ran was there
  there : (p k u : ℕ) → IsRan h p k u → p < length xs
  there p k u r = elim (cases_lt p (length xs)) [
    | inl l ↦ l
    | inr l ↦ absurd (omega (arith, ran_short p k u r, ap (λ (a : Account). length a.ran) (get_or_past xs p no_account l)))
  ]

  -- who accepted was there
  taker : (p k t : ℕ) → IsAccepted h p k t → p < length xs
  taker p k t a = elim (cases_lt p (length xs)) [
    | inl l ↦ l
    | inr l ↦ absurd (omega (arith, accepted_within h p k t a, ap length (g.accepted_is p), ap (λ (a : Account). length a.keys) (get_or_past xs p no_account l)))
  ]

  all_accepted : (p : ℕ) → accepted p h ≡ ran p h ++ back p h
  all_accepted p = g.accepted_is p ∙ (s p).settled ∙ ap (λ x. x ++ (account_at xs p).back) (sym (g.ran_is p)) ∙ ap (λ x. ran p h ++ x) (sym (g.back_is p))

  -- a run stands after its acceptance
  before_run : (p k u : ℕ) → IsRan h p k u → (t : ℕ) × (t < u) × IsAccepted h p k t
  before_run p k u r =
      let w : k < length (ran p h) = ran_within h p k u r in
      let a = accepted_at p k h (omega (arith, ap length (all_accepted p), length-append (ran p h) (back p h))) in
      let c = (graced p k a.0 u a.1 r).each p (there p k u r) in
      (a.0, omega (arith, c.1, c.2), a.1)

  as_many : (m p k : ℕ) → length (ran p (take m h)) ≡ k → k ≤ length (accepted p (take m h))
  as_many m p zero e = omega arith
  as_many m p (suc k) e =
      let r = find_ran (take m h) p k (omega arith) in
      let l : r.0 < m = taken_within m r.0 h (Ran p r.2.key) r.2.stands in
      let b = before_run p k r.0 (ran_whole m h p k r.0 r.2) in
      let w : k < length (accepted p (take m h)) = accepted_within (take m h) p k b.0 (accepted_prefix m h p k b.0 (omega (arith, b.1)) b.2) in
      omega arith

  ordered : (m p : ℕ) → IsPrefixOf (ran p (take m h)) (accepted p (take m h))
  ordered m p =
      let r = keys_prefix (key_ran p) m h in
      let a = keys_prefix (key_accepted p) m h in
      both_prefixes (ran p (take m h)) (accepted p (take m h)) (r.0 ++ back p h) a.0
      (sym (append_assoc (ran p (take m h)) r.0 (back p h)) ∙ ap (λ x. x ++ back p h) (sym r.1) ∙ sym (all_accepted p) ∙ a.1)
      (as_many m p (length (ran p (take m h))) refl)

  -- a barrier that passed counted no more than ran
  over : (b e p : ℕ) → slice_get h e ≡ Some (Passed b) → p < length xs → count_of counts b p ≤ length (account_at xs p).ran
  over b e p stands l =
      let seen = g.polled b e p stands l in
      let most : seen.1 ≤ length (account_at xs p).ran = subst (λ turn. turn ≤ length (account_at xs p).ran) seen.3 ((s p).turns seen.0 seen.1 seen.2) in
      omega (arith, most, seen.4)

  -- where a processor was shut, it had accepted all that it accepts ever
  all_before : (p i : ℕ) → slice_get h i ≡ Some (Shut p) → length (accepted p (take i h)) ≡ length (accepted p h)
  all_before p i stands = elim (g.shut p i stands) [
    | inl seen ↦
        let whole : seen.1 ≡ length (account_at xs p).keys = subst (λ count. count ≡ length (account_at xs p).keys) seen.3 ((s p).shuts seen.0 seen.1 seen.2) in
        omega (arith, whole, seen.4, ap length (g.accepted_is p))
    | inr e ↦ e
  ]

  -- nothing is accepted once shut
  shut_last : (p i j key : ℕ) → slice_get h i ≡ Some (Shut p) → slice_get h j ≡ Some (Accepted p key) → j < i
  shut_last p i j key si sj = elim (cases_lt j i) [
    | inl l ↦ l
    | inr l ↦
        let w : length (accepted p (take j h)) < length (accepted p h) = accepted_within h p (length (accepted p (take j h))) j (record { key = key; stands = sj; before = refl }) in
        absurd (omega (arith, fewer (key_accepted p) i j h l, all_before p i si))
  ]

  sound : (m : ℕ) → IsSound (length xs) (take m h)
  sound m = record {
    ordered = ordered m;
    graced = λ p k t u a r. record {
      each = λ q l.
          let c = (graced p k t u (accepted_whole m h p k t a) (ran_whole m h p k u r)).each q l in
          let w : u < m = taken_within m u h (Ran p r.key) r.stands in
          (c.0, c.1, c.2, get_prefix m c.0 h (Reported q) (omega (arith, c.2)) c.3);
    };
    barred = λ b o e p k t so se a l.
        let c = g.counted b o p k t (get_whole m o h (Opened b) so) (accepted_whole m h p k t a) l in
        let a' = accepted_whole m h p k t a in
        let q = taker p k t a' in
        let o = over b e p (get_whole m e h (Passed b) se) q in
        let r = find_ran h p k (omega (arith, c, o, ap length (g.ran_is p))) in
        let f = g.passed b e p k r.0 (get_whole m e h (Passed b) se) r.2 c in
        let w : e < m = taken_within m e h (Passed b) se in
        (r.0, f, ran_prefix m h p k r.0 (omega (arith, f)) r.2);
    opened = record {
      before = λ b e se.
          let r = g.opened.before b e (get_whole m e h (Passed b) se) in
          let w : e < m = taken_within m e h (Passed b) se in
          (r.0, r.1, get_prefix m r.0 h (Opened b) (omega (arith, r.1)) r.2);
      once = λ b i j si sj. g.opened.once b i j (get_whole m i h (Opened b) si) (get_whole m j h (Opened b) sj);
    };
    shut = λ p i j key si sj. shut_last p i j key (get_whole m i h (Shut p) si) (get_whole m j h (Accepted p key) sj);
  }

  closed_here : IsClosed (length xs) h
  closed_here = record {
    lawful = record { each = sound };
    settled = record { accounted = all_accepted; shut = g.shut_first };
  }

pub closed : (xs : List Account) (counts : List (List ℕ)) (h : List Mark) → AreAccounts xs → Agrees xs counts h → IsClosed (length xs) h
closed xs counts h all g = closed_here xs counts h all g
