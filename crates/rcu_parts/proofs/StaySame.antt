-- Parts stay those of one open while each stays the same part.
use Rattle.std.proofs.Common.{◌≡◌, ℕ, suc, ◌∙◌, Bool, true, false, List, [], ◌∷◌, ◌++◌, sum_by, sym, ap, subst, refl, arith}
use Rattle.std.specs.List.{All, AllZip}
use Rattle.std.proofs.lemmas.List.Sums.{sum_by-cons}
use Rattle.std.proofs.lemmas.Slice.Zip.{AllZip-long}
use Rattle.rcu_board.specs.declared.board.Board.{Board}
use Rattle.rcu_part_group.specs.Groups.{SameGroupMember, SameGroup, group_board, group_view, members_of}
use Rattle.rcu_part_hand.specs.Hands.{SameHand, hand_board, hand_view}
use Rattle.rcu_parts.specs.OneOpen.{AreOfOneOpen, AreProcessorsFrom, HasHand, HasMember, Parts, groups_in, hands_in, members_in, offloadable_in, parts_board, processors_in}
use Rattle.rcu_part_processor.specs.Processors.{SameProcessor, view_of}
use Rattle.rcu_parts.specs.SameParts.{AreSameParts}
use Rattle.rcu_part_group.specs.declared.members.GroupMember.{GroupMember}
use Rattle.rcu_part_group.specs.declared.group.Group.{Group}
use Rattle.rcu_part_hand.specs.declared.hand.Hand.{Hand}
use Rattle.rcu_part_processor.specs.declared.processor.Processor.{Processor}
use Rattle.rcu_parts.proofs.OneByOne.{counted_in, skipped}
use Rattle.std.proofs.lemmas.List.Elements.{All-cons, All-head, All-nil, All-tail}

module _ {A B : Type 0} where
  pub zip_append : (Q : A → B → Type 0) (xs us : List A) (ys vs : List B) → AllZip Q xs ys → AllZip Q us vs → AllZip Q (xs ++ us) (ys ++ vs)
  zip_append Q [] us [] vs h k = k
  zip_append Q [] us (y ∷ ys) vs h k = absurd h
  zip_append Q (x ∷ xs) us [] vs h k = absurd h
  zip_append Q (x ∷ xs) us (y ∷ ys) vs h k = (h.0, zip_append Q xs us ys vs h.1 k)

module _ {A : Type 0} where
  -- what is said of each of one list is said of each of the other
  pub all_zipped : (P S : A → Type 0) (Q : A → A → Type 0) → ((x y : A) → Q x y → P x → S y) → (xs ys : List A) → AllZip Q xs ys → All P xs → All S ys
  all_zipped P S Q f [] [] z h = All-nil S
  all_zipped P S Q f [] (y ∷ ys) z h = absurd z
  all_zipped P S Q f (x ∷ xs) [] z h = absurd z
  all_zipped P S Q f (x ∷ xs) (y ∷ ys) z h = All-cons S y ys (f x y z.0 (All-head P x xs h)) (all_zipped P S Q f xs ys z.1 (All-tail P x xs h))

  sums_zipped : (f : A → ℕ) (Q : A → A → Type 0) → ((x y : A) → Q x y → f y ≡ f x) → (xs ys : List A) → AllZip Q xs ys → sum_by f ys ≡ sum_by f xs
  sums_zipped f Q e [] [] z = refl
  sums_zipped f Q e [] (y ∷ ys) z = absurd z
  sums_zipped f Q e (x ∷ xs) [] z = absurd z
  sums_zipped f Q e (x ∷ xs) (y ∷ ys) z = omega (arith, e x y z.0, sums_zipped f Q e xs ys z.1, sum_by-cons f x xs, sum_by-cons f y ys)

module _ {A B : Type 0} where
  -- the same of two lists, place by place
  both_zipped : (P : A → B → Type 0) (Q : A → A → Type 0) (S : B → B → Type 0) → ((x y : A) (u v : B) → Q x y → S u v → P x u → P y v) → (xs ys : List A) (us vs : List B) → AllZip Q xs ys → AllZip S us vs → AllZip P xs us → AllZip P ys vs
  both_zipped P Q S f [] [] [] [] q s p = tt
  both_zipped P Q S f [] (y ∷ ys) us vs q s p = absurd q
  both_zipped P Q S f (x ∷ xs) [] us vs q s p = absurd q
  both_zipped P Q S f [] [] [] (v ∷ vs) q s p = absurd s
  both_zipped P Q S f [] [] (u ∷ us) vs q s p = absurd p
  both_zipped P Q S f (x ∷ xs) (y ∷ ys) [] vs q s p = absurd p
  both_zipped P Q S f (x ∷ xs) (y ∷ ys) (u ∷ us) [] q s p = absurd s
  both_zipped P Q S f (x ∷ xs) (y ∷ ys) (u ∷ us) (v ∷ vs) q s p = (f x y u v q.0 s.0 p.0, both_zipped P Q S f xs ys us vs q.1 s.1 p.1)

module _ {J R : Type 0} where
  abbrev Same : Processor J R → Processor J R → Type 0
  Same p q = SameProcessor p.state q.state

  processors_stay : (k : ℕ) (b c : Board) (ps qs : List (Processor J R)) → c ≡ b → AllZip Same ps qs → AreProcessorsFrom k b ps → AreProcessorsFrom k c qs
  unfolding AreProcessorsFrom
  processors_stay k b c [] [] same z h = tt
  processors_stay k b c [] (q ∷ qs) same z h = absurd z
  processors_stay k b c (p ∷ ps) [] same z h = absurd z
  processors_stay k b c (p ∷ ps) (q ∷ qs) same z h = (z.0.part.board ∙ (h.0 ∙ sym same), z.0.cpu ∙ h.1, processors_stay (suc k) b c ps qs same z.1 h.2)

  offloadable_first : (p q : Processor J R) (ps qs : List (Processor J R)) (b : Bool) → p.state.offloadable ≡ b → Same p q → AllZip Same (offloadable_in ps) (offloadable_in qs) → AllZip Same (offloadable_in (p ∷ ps)) (offloadable_in (q ∷ qs))
  offloadable_first p q ps qs true e s z = subst (λ l. AllZip Same l (offloadable_in (q ∷ qs))) (sym (counted_in p ps e)) (subst (λ l. AllZip Same (p ∷ offloadable_in ps) l) (sym (counted_in q qs (s.offloadable ∙ e))) (s, z))
  offloadable_first p q ps qs false e s z = subst (λ l. AllZip Same l (offloadable_in (q ∷ qs))) (sym (skipped p ps e)) (subst (λ l. AllZip Same (offloadable_in ps) l) (sym (skipped q qs (s.offloadable ∙ e))) z)

  offloadable_stay : (ps qs : List (Processor J R)) → AllZip Same ps qs → AllZip Same (offloadable_in ps) (offloadable_in qs)
  offloadable_stay [] [] z = tt
  offloadable_stay [] (q ∷ qs) z = absurd z
  offloadable_stay (p ∷ ps) [] z = absurd z
  offloadable_stay (p ∷ ps) (q ∷ qs) z = offloadable_first p q ps qs p.state.offloadable refl z.0 (offloadable_stay ps qs z.1)

  members_stay : (gs hs : List (Group J R)) → AllZip (λ g h. SameGroup g.state h.state) gs hs → AllZip SameGroupMember (members_in gs) (members_in hs)
  members_stay [] [] z = tt
  members_stay [] (h ∷ hs) z = absurd z
  members_stay (g ∷ gs) [] z = absurd z
  members_stay (g ∷ gs) (h ∷ hs) z = zip_append SameGroupMember (members_of g.state) (members_in gs) (members_of h.state) (members_in hs) z.0.members (members_stay gs hs z.1)

  member_stays : (p q : Processor J R) (m n : GroupMember J) → Same p q → SameGroupMember m n → HasMember p m → HasMember q n
  member_stays p q m n s t h = record { cpu = t.cpu ∙ (h.cpu ∙ sym s.cpu); lane = t.front ∙ (h.lane ∙ sym s.lane) }

  hand_stays : (m n : GroupMember J) (h i : Hand J R) → SameGroupMember m n → SameHand h.state i.state → HasHand m h → HasHand n i
  hand_stays m n h i t s has = record { cpu = s.cpu ∙ (has.cpu ∙ sym t.cpu); lane = s.lane ∙ (has.lane ∙ sym t.rear) }

  pub stay_same : (old new : Parts J R) → AreSameParts old new → AreOfOneOpen old → AreOfOneOpen new
  stay_same old new s one =
      let b : parts_board new ≡ parts_board old = s.control.board in
      let members = members_stay (groups_in old) (groups_in new) s.groups in
      record {
        driver = s.driver.board ∙ (one.driver ∙ sym b);
        processors = processors_stay 0 (parts_board old) (parts_board new) (processors_in old) (processors_in new) b s.processors one.processors;
        as_many = AllZip-long Same (processors_in old) (processors_in new) s.processors ∙ (one.as_many ∙ ap (λ c. c.processors) (sym b));
        groups = all_zipped (λ (g : Group J R). group_board g.state ≡ parts_board old) (λ g. group_board g.state ≡ parts_board new) (λ g h. SameGroup g.state h.state) (λ g h t e. t.part.board ∙ (e ∙ sym b)) (groups_in old) (groups_in new) s.groups one.groups;
        hands = all_zipped (λ (h : Hand J R). hand_board h.state ≡ parts_board old) (λ h. hand_board h.state ≡ parts_board new) (λ h i. SameHand h.state i.state) (λ h i t e. t.part.board ∙ (e ∙ sym b)) (hands_in old) (hands_in new) s.hands one.hands;
        members = both_zipped HasMember Same SameGroupMember member_stays (offloadable_in (processors_in old)) (offloadable_in (processors_in new)) (members_in (groups_in old)) (members_in (groups_in new)) (offloadable_stay (processors_in old) (processors_in new) s.processors) members one.members;
        running = both_zipped HasHand SameGroupMember (λ h i. SameHand h.state i.state) hand_stays (members_in (groups_in old)) (members_in (groups_in new)) (hands_in old) (hands_in new) members s.hands one.running;
        weighs =
            let c = s.control.seat.weight in
            let d = s.driver.seat.weight in
            let p = sums_zipped (λ (q : Processor J R). (view_of q.state).weight) Same (λ x y t. t.part.seat.weight) (processors_in old) (processors_in new) s.processors in
            let g = sums_zipped (λ (q : Group J R). (group_view q.state).weight) (λ x y. SameGroup x.state y.state) (λ x y t. t.part.seat.weight) (groups_in old) (groups_in new) s.groups in
            let h = sums_zipped (λ (q : Hand J R). (hand_view q.state).weight) (λ x y. SameHand x.state y.state) (λ x y t. t.part.seat.weight) (hands_in old) (hands_in new) s.hands in
            let o = one.weighs in omega arith;
      }
