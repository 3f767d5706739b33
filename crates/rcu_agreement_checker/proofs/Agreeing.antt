-- Where the lists and each place agree, the history does, and the other way round.
use Rattle.std.proofs.Common.{◌≡◌, ℕ, ◌<◌, ◌≤◌, List, length, take, refl, ap, subst, arith, Some, inl, inr}
use Rattle.std.specs.List.{slice_get}
use Rattle.std.proofs.lemmas.Bool.{cases_lt}
use Rattle.std.proofs.lemmas.Option.{slice_get_within}
use Rattle.rcu_world_law.specs.declared.marks.Mark.{Mark}
use Rattle.rcu_world_law.specs.declared.marks.Mark.TheVariants.{Accepted, Reported, Ran, Opened, Passed, Shut, Back}
use Rattle.rcu_world_law.specs.Law.{accepted, ran, IsAccepted, IsOpened, IsRan}
use Rattle.rcu_world_checker.specs.Fits.{IsShutBefore}
use Rattle.rcu_agreement.specs.Accounts.{Account, number_of, ready_of, stamp_of}
use Rattle.rcu_agreement.specs.Agreement.{Agrees, IsReport, count_of}
use Rattle.rcu_agreement.proofs.Marks.{get_prefix, get_whole, taken_within}
use Rattle.rcu_agreement_checker.specs.Lists.{ListsAgree}
use Rattle.rcu_agreement_checker.specs.Places.{AgreesAs, AgreesAt, IsStamped, IsSeen, OpensAt, PassesAt}

module _ (accounts : List Account) (counts : List (List ℕ)) (h : List Mark) where
  -- the mark that stands at a place settles it
  pub agrees_by : (u : ℕ) (m : Mark) → slice_get h u ≡ Some m → AgreesAs accounts counts h u m → AgreesAt accounts counts h u
  agrees_by u m stands a = record { is = λ x e. subst (AgreesAs accounts counts h u) (let s : m ≡ x = cc in s) a }

  pub agrees_past : (u : ℕ) → length h ≤ u → AgreesAt accounts counts h u
  agrees_past u g = record { is = λ m e. absurd (let l : u < length h = slice_get_within h u m e in omega arith) }

  module _ (at : (u : ℕ) → AgreesAt accounts counts h u) where
    stamped : (p k t q j i : ℕ) → IsAccepted h p k t → IsReport h q j i → stamp_of accounts p k < number_of j → t < i
    stamped p k t q j i a r l = elim (cases_lt t i) [
      | inl before ↦ before
      | inr behind ↦ elim (cases_lt i t) [
        | inl w ↦
            let s : IsStamped accounts h t p = (at t).is (Accepted p a.key) a.stands in
            absurd (omega (arith, s.each q j i r w, ap (stamp_of accounts p) a.before))
        | inr g ↦
            let same : t ≡ i = omega arith in
            absurd (let two : Some (Accepted p a.key) ≡ Some (Reported q) = cc (a.stands, r.stands, ap (slice_get h) same) in cc)
      ]
    ]

    seen : (p k u q j i : ℕ) → IsRan h p k u → IsReport h q j i → number_of j < ready_of accounts p k → i < u
    seen p k u q j i a r l = elim (cases_lt i u) [
      | inl before ↦ before
      | inr behind ↦
          let s : IsSeen accounts h u p = (at u).is (Ran p a.key) a.stands in
          absurd (omega (arith, s.each q j i r behind, ap (ready_of accounts p) a.before))
    ]

    shut_first : (p i key : ℕ) → slice_get h i ≡ Some (Back p key) → (j : ℕ) × (j < i) × (slice_get h j ≡ Some (Shut p))
    shut_first p i key e =
        let s : IsShutBefore (take i h) p = (at i).is (Back p key) e in
        (s.place, taken_within i s.place h (Shut p) s.stands, get_whole i s.place h (Shut p) s.stands)

    passes : (b e : ℕ) → slice_get h e ≡ Some (Passed b) → PassesAt accounts counts h e b
    passes b e s = (at e).is (Passed b) s

    opens : (b o : ℕ) → slice_get h o ≡ Some (Opened b) → OpensAt counts h o b
    opens b o s = (at o).is (Opened b) s

    first_opens : (b i j : ℕ) → i < j → slice_get h i ≡ Some (Opened b) → slice_get h j ≡ Some (Opened b) → ⊥
    first_opens b i j l s t = (opens b j t).once (record { place = i; stands = get_prefix j i h (Opened b) l s })

    opened : IsOpened h
    opened = record {
      before = λ b e s.
          let o = (passes b e s).opened in
          (o.place, taken_within e o.place h (Opened b) o.stands, get_whole e o.place h (Opened b) o.stands);
      once = λ b i j s t. elim (cases_lt i j) [
        | inl l ↦ absurd (first_opens b i j l s t)
        | inr g ↦ elim (cases_lt j i) [ inl l ↦ absurd (first_opens b j i l t s) | inr w ↦ omega arith ]
      ];
    }

    passed : (b e p k u : ℕ) → slice_get h e ≡ Some (Passed b) → IsRan h p k u → k < count_of counts b p → u < e
    passed b e p k u s r l = elim (cases_lt u e) [
      | inl before ↦ before
      | inr behind ↦ absurd (omega (arith, (passes b e s).passed.each p k u r behind))
    ]

    pub agrees_of : ListsAgree accounts h → Agrees accounts counts h
    agrees_of lists = record {
      accepted_is = lists.accepted_is;
      ran_is = lists.ran_is;
      back_is = lists.back_is;
      reports_is = lists.reports_is;
      stamped = stamped;
      seen = seen;
      shut_first = shut_first;
      shut = λ p i e. (at i).is (Shut p) e;
      opened = opened;
      counted = λ b o p k t s a l. (opens b o s).counted.each p k t a l;
      passed = passed;
      polled = λ b e p s l. (passes b e s).polled.each p l;
    }

  module _ (agreed : Agrees accounts counts h) where
    pub agreed_lists : ListsAgree accounts h
    agreed_lists = record { accepted_is = agreed.accepted_is; ran_is = agreed.ran_is; back_is = agreed.back_is; reports_is = agreed.reports_is }

    agreed_as : (u : ℕ) (m : Mark) → slice_get h u ≡ Some m → AgreesAs accounts counts h u m
    agreed_as u (Accepted p key) e = record {
      each = λ q j i r l. elim (cases_lt (stamp_of accounts p (length (accepted p (take u h)))) (number_of j)) [
        | inl above ↦ absurd (let w : u < i = agreed.stamped p (length (accepted p (take u h))) u q j i (record { key = key; stands = e; before = refl }) r above in omega arith)
        | inr g ↦ g
      ];
    }
    agreed_as u (Reported q) e = tt
    agreed_as u (Ran p key) e = record {
      each = λ q j i r l. elim (cases_lt (number_of j) (ready_of accounts p (length (ran p (take u h))))) [
        | inl below ↦ absurd (let w : i < u = agreed.seen p (length (ran p (take u h))) u q j i (record { key = key; stands = e; before = refl }) r below in omega arith)
        | inr g ↦ g
      ];
    }
    agreed_as u (Opened b) e = record {
      once = λ o.
          let w : o.place < u = taken_within u o.place h (Opened b) o.stands in
          let same : o.place ≡ u = agreed.opened.once b o.place u (get_whole u o.place h (Opened b) o.stands) e in
          omega arith;
      counted = record { each = λ p k t a l. agreed.counted b u p k t e a l };
    }
    agreed_as u (Passed b) e = record {
      opened = (let o = agreed.opened.before b u e in record { place = o.0; stands = get_prefix u o.0 h (Opened b) o.1 o.2 });
      passed = record {
        each = λ p k v r l. elim (cases_lt k (count_of counts b p)) [
          | inl within ↦ absurd (let w : v < u = agreed.passed b u p k v e r within in omega arith)
          | inr g ↦ g
        ];
      };
      polled = record { each = λ p l. agreed.polled b u p e l };
    }
    agreed_as u (Shut p) e = agreed.shut p u e
    agreed_as u (Back p key) e = (let s = agreed.shut_first p u key e in record { place = s.0; stands = get_prefix u s.0 h (Shut p) s.1 s.2 })

    pub agreed_at : (u : ℕ) → AgreesAt accounts counts h u
    agreed_at u = record { is = agreed_as u }
