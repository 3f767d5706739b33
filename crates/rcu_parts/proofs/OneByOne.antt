-- One processor after another ends, with its hand if it has one.
use Rattle.std.proofs.Common.{◌≡◌, ◌≢◌, ℕ, suc, ◌+◌, ◌∙◌, true, false, cond, Option, Some, None, List, [], ◌∷◌, ◌++◌, map, length, sym, ap, subst, refl, arith}
use Rattle.std.specs.List.{All, AllZip}
use Rattle.std.proofs.lemmas.Bool.{cond_both}
use Rattle.std.proofs.lemmas.List.{append_assoc, append-nil, length-append, map-append}
use Rattle.std.proofs.lemmas.List.Elements.{All-append, All-cons, All-head, All-nil, All-tail}
use Rattle.rcu_board.specs.Words.{words_of}
use Rattle.rcu_board.specs.declared.view.View.{View}
use Rattle.rcu_part_close.specs.declared.ended.ProcessorEnd.{ProcessorEnd}
use Rattle.rcu_part_close.specs.Closing.{CpuEnd, InRow, WasEnded, seats_of}
use Rattle.rcu_part_close.specs.Gathered.{gather}
use Rattle.rcu_part_close.specs.Parts.{CpuPart, HandPart, IsAtRest, views_of}
use Rattle.rcu_part_close.proofs.Gathers.{gather_append}
use Rattle.rcu_parts.specs.AtClose.{cpu_part, cpu_parts, first_hand, hand_for, hand_part, hands_after, other_hands}
use Rattle.rcu_parts.specs.Ending.{AreLong, EndsEach, EndsOne, GoesOn, IsReady, MayEnd, all_back, all_ran, all_view, board_at}
use Rattle.rcu_part_hand.specs.Hands.{hand_board}
use Rattle.rcu_parts.specs.OneOpen.{AreProcessorsFrom, HasHand, HasMember, offloadable_in}
use Rattle.rcu_part_processor.specs.Processors.{board_of}
use Rattle.rcu_parts.specs.Rooms.{FitsCpu}
use Rattle.rcu_parts.specs.declared.ends.Ending.{Ending}
use Rattle.rcu_part_group.specs.declared.members.GroupMember.{GroupMember}
use Rattle.rcu_part_hand.specs.declared.hand.Hand.{Hand}
use Rattle.rcu_part_processor.specs.declared.processor.Processor.{Processor}

module _ {J R : Type 0} where
  -- ---- the hands and the members that are left

  all_other : (P : Hand J R → Type 0) (hs : List (Hand J R)) → All P hs → All P (other_hands hs)
  all_other P [] h = h
  all_other P (x ∷ hs) h = All-tail P x hs h

  pub all_after : (P : Hand J R → Type 0) (p : Processor J R) (hs : List (Hand J R)) → All P hs → All P (hands_after p hs)
  all_after P p hs h = cond_both p.state.offloadable (other_hands hs) hs (All P) (λ e. all_other P hs h) (λ e. h)

  -- of a processor without a hand, and of one with the first
  pub none_for : (p : Processor J R) (hs : List (Hand J R)) → p.state.offloadable ≡ false → hand_for p hs ≡ None
  none_for p hs e = ap (λ b. cond b (first_hand hs) None) e

  pub same_after : (p : Processor J R) (hs : List (Hand J R)) → p.state.offloadable ≡ false → hs ≡ hands_after p hs
  same_after p hs e = ap (λ b. cond b (other_hands hs) hs) (sym e)

  pub one_for : (p : Processor J R) (h : Hand J R) (hs left : List (Hand J R)) → p.state.offloadable ≡ true → hs ≡ h ∷ left → hand_for p hs ≡ Some (hand_part h)
  one_for p h hs left e split = ap (λ b. cond b (first_hand hs) None) e ∙ ap first_hand split

  pub others_are : (p : Processor J R) (h : Hand J R) (hs left : List (Hand J R)) → p.state.offloadable ≡ true → hs ≡ h ∷ left → left ≡ hands_after p hs
  others_are p h hs left e split = ap other_hands (sym split) ∙ ap (λ b. cond b (other_hands hs) hs) (sym e)

  pub skipped : (p : Processor J R) (rest : List (Processor J R)) → p.state.offloadable ≡ false → offloadable_in (p ∷ rest) ≡ offloadable_in rest
  skipped p rest e = ap (λ b. cond b (p ∷ offloadable_in rest) (offloadable_in rest)) e

  pub counted_in : (p : Processor J R) (rest : List (Processor J R)) → p.state.offloadable ≡ true → offloadable_in (p ∷ rest) ≡ p ∷ offloadable_in rest
  counted_in p rest e = ap (λ b. cond b (p ∷ offloadable_in rest) (offloadable_in rest)) e

  -- ---- what is known of the first that is left

  pub may_end : (k : ℕ) (p : Processor J R) (rest : List (Processor J R)) (ms : List (GroupMember J)) (hs : List (Hand J R)) (rs : List (ProcessorEnd J R)) (x : Ending J R) → IsReady k (p ∷ rest) ms hs rs x → MayEnd x
  may_end k p rest ms hs rs x i = record { at = i.at; rests = i.rests; ran = (let a = i.for_ran in omega arith); back = (let a = i.for_back in omega arith) }

  pub first_board : (k : ℕ) (p : Processor J R) (rest : List (Processor J R)) (ms : List (GroupMember J)) (hs : List (Hand J R)) (rs : List (ProcessorEnd J R)) (x : Ending J R) → IsReady k (p ∷ rest) ms hs rs x → board_of p.state ≡ board_at x
  unfolding AreProcessorsFrom
  first_board k p rest ms hs rs x i = i.processors.0

  pub first_cpu : (k : ℕ) (p : Processor J R) (rest : List (Processor J R)) (ms : List (GroupMember J)) (hs : List (Hand J R)) (rs : List (ProcessorEnd J R)) (x : Ending J R) → IsReady k (p ∷ rest) ms hs rs x → p.state.cpu ≡ k
  unfolding AreProcessorsFrom
  first_cpu k p rest ms hs rs x i = i.processors.1

  rooms_split : (k : ℕ) (p : Processor J R) (rest : List (Processor J R)) (ms : List (GroupMember J)) (hs : List (Hand J R)) (rs left : List (ProcessorEnd J R)) (room : ProcessorEnd J R) (x : Ending J R) → IsReady k (p ∷ rest) ms hs rs x → rs ≡ room ∷ left
      → FitsCpu (cpu_part p (hand_for p hs)) room × AllZip FitsCpu (cpu_parts rest (hands_after p hs)) left
  rooms_split k p rest ms hs rs left room x i split = subst (λ l. AllZip FitsCpu (cpu_parts (p ∷ rest) hs) l) split i.rooms_are

  pub first_room : (k : ℕ) (p : Processor J R) (rest : List (Processor J R)) (ms : List (GroupMember J)) (hs : List (Hand J R)) (rs left : List (ProcessorEnd J R)) (room : ProcessorEnd J R) (x : Ending J R) (hand : Option (HandPart J R)) → IsReady k (p ∷ rest) ms hs rs x → rs ≡ room ∷ left
      → hand_for p hs ≡ hand → FitsCpu (cpu_part p hand) room
  first_room k p rest ms hs rs left room x hand i split e = subst (λ o. FitsCpu (cpu_part p o) room) e (rooms_split k p rest ms hs rs left room x i split).0

  members_split : (k : ℕ) (p : Processor J R) (rest : List (Processor J R)) (m : GroupMember J) (ms left : List (GroupMember J)) (hs : List (Hand J R)) (rs : List (ProcessorEnd J R)) (x : Ending J R) → IsReady k (p ∷ rest) ms hs rs x → p.state.offloadable ≡ true → ms ≡ m ∷ left
      → HasMember p m × AllZip HasMember (offloadable_in rest) left
  members_split k p rest m ms left hs rs x i e split = subst (λ l. AllZip HasMember (p ∷ offloadable_in rest) l) split (subst (λ l. AllZip HasMember l ms) (counted_in p rest e) i.members_are)

  hands_split : (k : ℕ) (p : Processor J R) (rest : List (Processor J R)) (m : GroupMember J) (ms left : List (GroupMember J)) (h : Hand J R) (hs others : List (Hand J R)) (rs : List (ProcessorEnd J R)) (x : Ending J R) → IsReady k (p ∷ rest) ms hs rs x → ms ≡ m ∷ left → hs ≡ h ∷ others
      → HasHand m h × AllZip HasHand left others
  hands_split k p rest m ms left h hs others rs x i split first = subst (λ l. AllZip HasHand l (h ∷ others)) split (subst (λ l. AllZip HasHand ms l) first i.running)

  pub first_member : (k : ℕ) (p : Processor J R) (rest : List (Processor J R)) (m : GroupMember J) (ms left : List (GroupMember J)) (hs : List (Hand J R)) (rs : List (ProcessorEnd J R)) (x : Ending J R) → IsReady k (p ∷ rest) ms hs rs x → p.state.offloadable ≡ true → ms ≡ m ∷ left
      → HasMember p m
  first_member k p rest m ms left hs rs x i e split = (members_split k p rest m ms left hs rs x i e split).0

  pub first_has_hand : (k : ℕ) (p : Processor J R) (rest : List (Processor J R)) (m : GroupMember J) (ms left : List (GroupMember J)) (h : Hand J R) (hs others : List (Hand J R)) (rs : List (ProcessorEnd J R)) (x : Ending J R) → IsReady k (p ∷ rest) ms hs rs x → ms ≡ m ∷ left → hs ≡ h ∷ others
      → HasHand m h
  first_has_hand k p rest m ms left h hs others rs x i split first = (hands_split k p rest m ms left h hs others rs x i split first).0

  pub first_of_hands : (P : Hand J R → Type 0) (h : Hand J R) (hs others : List (Hand J R)) → hs ≡ h ∷ others → All P hs → P h
  first_of_hands P h hs others split a = All-head P h others (subst (All P) split a)

  -- there is a room for it, and where it is offloadable a member and a hand
  pub some_room : (k : ℕ) (p : Processor J R) (rest : List (Processor J R)) (ms : List (GroupMember J)) (hs : List (Hand J R)) (rs : List (ProcessorEnd J R)) (x : Ending J R) → IsReady k (p ∷ rest) ms hs rs x → rs ≢ []
  some_room k p rest ms hs rs x i none = subst (λ l. AllZip FitsCpu (cpu_parts (p ∷ rest) hs) l) none i.rooms_are

  pub some_member : (k : ℕ) (p : Processor J R) (rest : List (Processor J R)) (ms : List (GroupMember J)) (hs : List (Hand J R)) (rs : List (ProcessorEnd J R)) (x : Ending J R) → IsReady k (p ∷ rest) ms hs rs x → p.state.offloadable ≡ true → ms ≢ []
  some_member k p rest ms hs rs x i e none = subst (λ l. AllZip HasMember (p ∷ offloadable_in rest) l) none (subst (λ l. AllZip HasMember l ms) (counted_in p rest e) i.members_are)

  pub some_hand : (k : ℕ) (p : Processor J R) (rest : List (Processor J R)) (m : GroupMember J) (ms left : List (GroupMember J)) (hs : List (Hand J R)) (rs : List (ProcessorEnd J R)) (x : Ending J R) → IsReady k (p ∷ rest) ms hs rs x → ms ≡ m ∷ left → hs ≢ []
  some_hand k p rest m ms left hs rs x i split none = subst (λ l. AllZip HasHand (m ∷ left) l) none (subst (λ l. AllZip HasHand l hs) split i.running)

  -- ---- and of those behind it, once it has ended

  next_ready : (k : ℕ) (p : Processor J R) (rest : List (Processor J R)) (ms ms' : List (GroupMember J)) (hs hs' : List (Hand J R)) (rs rs' : List (ProcessorEnd J R)) (room : ProcessorEnd J R) (x y : Ending J R) → IsReady k (p ∷ rest) ms hs rs x → GoesOn x y
      → rs ≡ room ∷ rs' → hs' ≡ hands_after p hs → AllZip HasMember (offloadable_in rest) ms' → AllZip HasHand ms' hs' → IsReady (suc k) rest ms' hs' rs' y
  unfolding AreProcessorsFrom
  next_ready k p rest ms ms' hs hs' rs rs' room x y i g split after members running = record {
    at = g.same ∙ (i.at ∙ ap (λ b. b.words.table.shared.table_id) (sym g.board));
    rests = g.rests;
    processors = subst (λ b. AreProcessorsFrom (suc k) b rest) (sym g.board) i.processors.2;
    hands_at = subst (λ b. All (λ (h : Hand J R). hand_board h.state ≡ b) hs') (sym g.board) (subst (All (λ (h : Hand J R). hand_board h.state ≡ board_at x)) (sym after) (all_after (λ h. hand_board h.state ≡ board_at x) p hs i.hands_at));
    members_are = members;
    running = running;
    rooms_are = subst (λ l. AllZip FitsCpu (cpu_parts rest l) rs') (sym after) (rooms_split k p rest ms hs rs rs' room x i split).1;
    for_ran = (let a = i.for_ran in let b = g.ran.0 in let c = g.ran.1 in omega arith);
    for_back = (let a = i.for_back in let b = g.back.0 in let c = g.back.1 in omega arith);
  }

  pub ready_alone : (k : ℕ) (p : Processor J R) (rest : List (Processor J R)) (ms : List (GroupMember J)) (hs : List (Hand J R)) (rs rs' : List (ProcessorEnd J R)) (room : ProcessorEnd J R) (x y : Ending J R) → IsReady k (p ∷ rest) ms hs rs x → GoesOn x y
      → rs ≡ room ∷ rs' → p.state.offloadable ≡ false → IsReady (suc k) rest ms hs rs' y
  ready_alone k p rest ms hs rs rs' room x y i g split e =
      next_ready k p rest ms ms hs hs rs rs' room x y i g split (same_after p hs e) (subst (λ l. AllZip HasMember l ms) (skipped p rest e) i.members_are) i.running

  pub ready_with : (k : ℕ) (p : Processor J R) (rest : List (Processor J R)) (m : GroupMember J) (ms ms' : List (GroupMember J)) (h : Hand J R) (hs hs' : List (Hand J R)) (rs rs' : List (ProcessorEnd J R)) (room : ProcessorEnd J R) (x y : Ending J R) → IsReady k (p ∷ rest) ms hs rs x
      → GoesOn x y → rs ≡ room ∷ rs' → p.state.offloadable ≡ true → ms ≡ m ∷ ms' → hs ≡ h ∷ hs' → IsReady (suc k) rest ms' hs' rs' y
  ready_with k p rest m ms ms' h hs hs' rs rs' room x y i g split e first second =
      next_ready k p rest ms ms' hs hs' rs rs' room x y i g split (others_are p h hs hs' e second) (members_split k p rest m ms ms' hs rs x i e first).1 (hands_split k p rest m ms ms' h hs hs' rs x i first second).1

  pub now_first : (k : ℕ) (now : List (Processor J R)) (p : Processor J R) (rest : List (Processor J R)) (ms : List (GroupMember J)) (hs : List (Hand J R)) (rs : List (ProcessorEnd J R)) (x : Ending J R) → IsReady k now ms hs rs x → now ≡ p ∷ rest
      → IsReady k (p ∷ rest) ms hs rs x
  now_first k now p rest ms hs rs x i split = subst (λ l. IsReady k l ms hs rs x) split i

  module _ (key_of : J → ℕ) (gives : ℕ → R → Type 0) where
    -- ---- those that have ended

    -- So many have ended, and the others are ready.
    pub record EndsSoFar (ps : List (Processor J R)) (hs : List (Hand J R)) (rest : List (Processor J R)) (ms : List (GroupMember J)) (left : List (Hand J R)) (rs : List (ProcessorEnd J R)) (x y : Ending J R) : Type 0 where
      pub ends : List (CpuEnd J R)
      pub ready : IsReady (length ends) rest ms left rs y
      pub board : board_at y ≡ board_at x
      pub parts : cpu_parts ps hs ≡ map (λ e. e.part) ends ++ cpu_parts rest left
      pub row : InRow 0 ends
      pub at_rest : All (λ e. IsAtRest e.part) ends
      pub ended : All (WasEnded key_of gives) ends
      pub view : all_view y ≡ gather (all_view x) (seats_of ends)
      pub long : AreLong (board_at x).processors (seats_of ends)
      pub ran : all_ran y ≡ all_ran x ++ map (λ e. e.kept) ends
      pub back : all_back y ≡ all_back x ++ map (λ e. e.back) ends

    in_row_more : (k : ℕ) (es : List (CpuEnd J R)) (e : CpuEnd J R) → InRow k es → e.part.cpu ≡ k + length es → InRow k (es ++ e ∷ [])
    unfolding InRow
    in_row_more k [] e row at = (omega (arith, at), tt)
    in_row_more k (d ∷ es) e row at = (row.0, in_row_more (suc k) es e row.1 (omega (arith, at)))

    seats_more : (es : List (CpuEnd J R)) (e : CpuEnd J R) → seats_of (es ++ e ∷ []) ≡ seats_of es ++ views_of e.part
    seats_more [] e = append-nil (views_of e.part)
    seats_more (d ∷ es) e = ap (λ l. views_of d.part ++ l) (seats_more es e) ∙ sym (append_assoc (views_of d.part) (seats_of es) (views_of e.part))

    all_more : {A : Type 0} (P : A → Type 0) (xs : List A) (x : A) → All P xs → P x → All P (xs ++ x ∷ [])
    all_more P xs x h p = All-append P xs (x ∷ []) h (All-cons P x [] p (All-nil P))

    pub none_ended : (ps : List (Processor J R)) (hs : List (Hand J R)) (rest : List (Processor J R)) (ms : List (GroupMember J)) (rs : List (ProcessorEnd J R)) (x : Ending J R) → rest ≡ ps → IsReady 0 ps ms hs rs x → EndsSoFar ps hs rest ms hs rs x x
    unfolding InRow
    none_ended ps hs rest ms rs x same i = record {
      ends = [];
      ready = subst (λ l. IsReady 0 l ms hs rs x) (sym same) i;
      board = refl;
      parts = ap (λ l. cpu_parts l hs) (sym same);
      row = tt;
      at_rest = All-nil (λ (e : CpuEnd J R). IsAtRest e.part);
      ended = All-nil (WasEnded key_of gives);
      view = refl;
      long = All-nil (λ (w : View). length w.seen ≡ words_of (board_at x).processors);
      ran = sym (append-nil (all_ran x));
      back = sym (append-nil (all_back x));
    }

    pub one_more_ended : (ps : List (Processor J R)) (hs : List (Hand J R)) (p : Processor J R) (rest now : List (Processor J R)) (ms ms' : List (GroupMember J)) (left left' : List (Hand J R)) (rs rs' : List (ProcessorEnd J R)) (x y z : Ending J R) → EndsSoFar ps hs now ms left rs x y
        → now ≡ p ∷ rest → ((k : ℕ) (rest : List (Processor J R)) → IsReady k (p ∷ rest) ms left rs y → IsReady (suc k) rest ms' left' rs' z) → board_at z ≡ board_at y
        → left' ≡ hands_after p left → EndsOne key_of gives (cpu_part p (hand_for p left)) y z → EndsSoFar ps hs rest ms' left' rs' x z
    one_more_ended ps hs p rest now ms ms' left left' rs rs' x y z s split next board after o =
        let ready = subst (λ l. IsReady (length s.ends) l ms left rs y) split s.ready in
        let e = o.end in
        let many : length (s.ends ++ e ∷ []) ≡ suc (length s.ends) = omega (arith, length-append s.ends (e ∷ [])) in
        let c = cpu_part p (hand_for p left) in
        record {
          ends = s.ends ++ e ∷ [];
          ready = subst (λ k. IsReady k rest ms' left' rs' z) (sym many) (next (length s.ends) rest ready);
          board = board ∙ s.board;
          parts = s.parts ∙ (ap (λ l. map (λ (d : CpuEnd J R). d.part) s.ends ++ cpu_parts l left) split ∙ (ap (λ l. map (λ (d : CpuEnd J R). d.part) s.ends ++ c ∷ cpu_parts rest l) (sym after)
              ∙ (ap (λ d. map (λ (d : CpuEnd J R). d.part) s.ends ++ d ∷ cpu_parts rest left') (sym o.part) ∙ (sym (append_assoc (map (λ (d : CpuEnd J R). d.part) s.ends) (e.part ∷ []) (cpu_parts rest left'))
              ∙ ap (λ l. l ++ cpu_parts rest left') (sym (map-append (λ (d : CpuEnd J R). d.part) s.ends (e ∷ [])))))));
          row = in_row_more 0 s.ends e s.row (let a = ap (λ (d : CpuPart J R). d.cpu) o.part in let b = first_cpu (length s.ends) p rest ms left rs y ready in omega (arith, a, b));
          at_rest = all_more (λ (d : CpuEnd J R). IsAtRest d.part) s.ends e s.at_rest o.at_rest;
          ended = all_more (WasEnded key_of gives) s.ends e s.ended o.ended;
          view = o.view ∙ (ap (λ w. gather w (views_of e.part)) s.view ∙ (sym (gather_append (all_view x) (seats_of s.ends) (views_of e.part)) ∙ ap (gather (all_view x)) (sym (seats_more s.ends e))));
          long = subst (AreLong (board_at x).processors) (sym (seats_more s.ends e)) (All-append (λ (w : View). length w.seen ≡ words_of (board_at x).processors) (seats_of s.ends) (views_of e.part) s.long (subst (λ b. AreLong b.processors (views_of e.part)) s.board o.long));
          ran = o.ran ∙ (ap (λ l. l ++ e.kept ∷ []) s.ran ∙ (append_assoc (all_ran x) (map (λ (d : CpuEnd J R). d.kept) s.ends) (e.kept ∷ []) ∙ ap (λ l. all_ran x ++ l) (sym (map-append (λ (d : CpuEnd J R). d.kept) s.ends (e ∷ [])))));
          back = o.back ∙ (ap (λ l. l ++ e.back ∷ []) s.back ∙ (append_assoc (all_back x) (map (λ (d : CpuEnd J R). d.back) s.ends) (e.back ∷ []) ∙ ap (λ l. all_back x ++ l) (sym (map-append (λ (d : CpuEnd J R). d.back) s.ends (e ∷ [])))));
        }

    pub all_ended : (ps : List (Processor J R)) (hs : List (Hand J R)) (rest : List (Processor J R)) (ms : List (GroupMember J)) (left : List (Hand J R)) (rs : List (ProcessorEnd J R)) (x y : Ending J R) → EndsSoFar ps hs rest ms left rs x y → rest ≡ [] → EndsEach key_of gives ps hs x y
    all_ended ps hs rest ms left rs x y s none = record {
      ends = s.ends;
      parts = sym (s.parts ∙ (ap (λ l. map (λ (d : CpuEnd J R). d.part) s.ends ++ cpu_parts l left) none ∙ append-nil (map (λ (d : CpuEnd J R). d.part) s.ends)));
      row = s.row;
      at_rest = s.at_rest;
      ended = s.ended;
      view = s.view;
      long = s.long;
      ran = s.ran;
      back = s.back;
    }
