-- The parts of a new board, one by one.
use Rattle.std.proofs.Common.{◌≡◌, ◌≢◌, ℕ, ◌/◌, ◌<◌, ◌≤◌, length, get_or, arith, Bool, true, false, Option, Some, None, List, [], ◌∷◌, ◌++◌, ap, sym, ◌∙◌, refl, subst, append_assoc}
use Rattle.std.proofs.lemmas.List.Elements.{All-cons, All-nil, All-push}
use Rattle.std.specs.Prelude.{slice_index_or, option_to_list, IsSome, All}
use Rattle.rcu_board.specs.Opened.{IsNewHand, IsNewProcessor, is_offloadable}
use Rattle.rcu_board.specs.declared.board.Board.{Board}
use Rattle.rcu_board.specs.declared.board.Seat.{Seat}
use Rattle.rcu_part_lists.specs.ProcessorLists.{Holding, first_holding, holding}
use Rattle.rcu_part_lists.specs.Helds.{drawn_by, held_by}
use Rattle.rcu_jobs.specs.Modes.{first_mode}
use Rattle.rcu_part_lists.specs.Helds.{front_of as hands_front}
use Rattle.rcu_part_lists.specs.MemberLists.{rear_of as done_rear}
use Rattle.rcu_part_lists.specs.declared.limits.LaneLimits.{LaneLimits}
use Rattle.rcu_lanes.specs.Ends.{IsNewLane, SameLane}
use Rattle.rcu_lanes.specs.declared.ends.Front.{Front}
use Rattle.rcu_lanes.specs.declared.ends.Rear.{Rear}
use Rattle.rcu_lists.specs.declared.parcel.Parcel.{Parcel}
use Rattle.rcu_part_order.specs.declared.recorded.Kept.{Kept}
use Rattle.rcu_parts.specs.OneOpen.{HasHand}
use Rattle.rcu_part_lists.specs.declared.processor_lists.ProcessorLists.{ProcessorLists}
use Rattle.rcu_part_lists.specs.declared.hand.Held.{Held}
use Rattle.rcu_numbers.specs.declared.parts_shape.PartsShape.{PartsShape}
use Rattle.rcu_part_hand.specs.Hands.{IsNewHandOf}
use Rattle.rcu_part_processor.specs.Opened.{IsEmpty, IsNew}
use Rattle.rcu_parts.specs.Openings.{BeginsOutside, IsFirstHand, IsFirstProcessor, TakesMember, TakesMembers}
use Rattle.rcu_part_group.specs.declared.members.GroupMember.{GroupMember}
use Rattle.rcu_part_hand.specs.declared.hand.Hand.{Hand}
use Rattle.rcu_part_processor.specs.declared.processor.Processor.{Processor}

module _ {J : Type 0} where
  pub first_empty : (r o : Bool) (qhimark : ℕ) (lists : ProcessorLists J) → holding lists ≡ first_holding r qhimark → r ≡ o → IsEmpty o lists
  first_empty r o qhimark lists e same = record {
    mode = ap (λ (h : Holding J). h.mode) e ∙ ap first_mode same;
    put = ap (λ (h : Holding J). h.outgoing.put) e;
    bypass = ap (λ (h : Holding J). h.outgoing.bypass) e;
    own = ap (λ (h : Holding J). h.own) e;
    looked = ap (λ (h : Holding J). h.advanced) e;
  }

  pub takes_first : (stride g : ℕ) (x : GroupMember J) (old new : List (GroupMember J)) (r : Option (GroupMember J)) → IsSome r → x ≡ slice_index_or old 0 x → x.cpu / stride ≡ g → old ≡ option_to_list r ++ new → TakesMember stride g r old new
  takes_first stride g x old new (Some m) is at in' e = (ap (λ (f : GroupMember J). f.cpu / stride) (sym (at ∙ ap (λ (l : List (GroupMember J)). slice_index_or l 0 x) e)) ∙ in', e)
  takes_first stride g x old new None is at in' e = absurd (let f : true ≡ false = sym is in cc)

  -- none is taken where there is none, and where the first isn't of this group
  pub takes_none : (stride g : ℕ) (items : List (GroupMember J)) (r : Option (GroupMember J)) → r ≡ None → length items ≤ 0 → TakesMember stride g r items items
  takes_none stride g [] r e none = subst (λ (o : Option (GroupMember J)). TakesMember stride g o [] []) (sym e) (refl, tt)
  takes_none stride g (m ∷ ms) r e none = absurd (omega (arith, none))

  pub begins_outside : (stride g : ℕ) (m : GroupMember J) (items : List (GroupMember J)) → m ≡ get_or items 0 m → 0 < length items → m.cpu / stride ≢ g → BeginsOutside stride g items
  begins_outside stride g m [] at some out = absurd (omega (arith, some))
  begins_outside stride g m (x ∷ xs) at some out = subst (λ (f : GroupMember J). f.cpu / stride ≢ g) at out

  -- the members taken so far, and what is left
  abbrev pub Taking : ℕ → ℕ → List (GroupMember J) → List (GroupMember J) → List (GroupMember J) → Type 0
  Taking stride g all taken left = (all ≡ taken ++ left) × All (λ (m : GroupMember J). m.cpu / stride ≡ g) taken

  pub taking_first : (stride g : ℕ) (first : GroupMember J) (all taken left : List (GroupMember J)) → (m : GroupMember J) × (ms : List (GroupMember J)) × (all ≡ m ∷ ms) × (m.cpu / stride ≡ g) → all ≡ first ∷ left → taken ≡ first ∷ [] → Taking stride g all taken left
  taking_first stride g first all taken left h e one = let same : h.0 ≡ first = ap (λ (l : List (GroupMember J)). slice_index_or l 0 first) (sym h.2 ∙ e) in
      (e ∙ ap (λ (l : List (GroupMember J)). l ++ left) (sym one), subst (All (λ (m : GroupMember J). m.cpu / stride ≡ g)) (sym one) (All-cons (λ (m : GroupMember J). m.cpu / stride ≡ g) first [] (subst (λ (m : GroupMember J). m.cpu / stride ≡ g) same h.3) (All-nil (λ (m : GroupMember J). m.cpu / stride ≡ g))))

  pub taking_next : (stride g : ℕ) (m : GroupMember J) (all taken left more rest : List (GroupMember J)) → all ≡ taken ++ left → All (λ (m : GroupMember J). m.cpu / stride ≡ g) taken → TakesMember stride g (Some m) left rest → more ≡ taken ++ m ∷ [] → Taking stride g all more rest
  taking_next stride g m all taken left more rest order inside t e = (
    order ∙ ap (λ (l : List (GroupMember J)). taken ++ l) t.1 ∙ sym (append_assoc taken (m ∷ []) rest) ∙ ap (λ (l : List (GroupMember J)). l ++ rest) (sym e),
    subst (All (λ (m : GroupMember J). m.cpu / stride ≡ g)) (sym e) (All-push (λ (m : GroupMember J). m.cpu / stride ≡ g) taken m inside t.0),
  )

  pub taking_last : (stride g : ℕ) (all taken left rest : List (GroupMember J)) → all ≡ taken ++ left → All (λ (m : GroupMember J). m.cpu / stride ≡ g) taken → TakesMember stride g None left rest → TakesMembers stride g taken all rest
  taking_last stride g all taken left rest order inside t = record {
    order = order ∙ ap (λ (l : List (GroupMember J)). taken ++ l) (sym t.0);
    inside = inside;
    outside = subst (BeginsOutside stride g) (sym t.0) t.1;
  }

module _ {J R : Type 0} where
  pub first_processor : (shape : PartsShape) (kept : Kept) (own b : Board) (k : ℕ) (s : Seat) (lists : ProcessorLists J) (p : Processor J R) (r : Bool) → own ≡ b → IsNewProcessor b k s → holding lists ≡ first_holding r shape.qhimark → r ≡ is_offloadable b.offloadable k
      → IsNew shape own k s lists kept p.state → IsFirstProcessor shape kept b k p
  first_processor shape kept own b k s lists p r same seat empty kind new = record {
    seat = subst (IsNewProcessor b k) (sym new.seat) seat;
    lists = ap holding new.lists_are ∙ empty ∙ ap (λ o. first_holding o shape.qhimark) kind;
    part = record {
      board = new.board ∙ same;
      seat = refl;
      lists_are = refl;
      cpu_is = new.cpu_is;
      offloadable = new.offloadable ∙ ap (λ (x : Board). is_offloadable x.offloadable k) same;
      limit = new.limit;
      blimit = new.blimit;
      accepted = new.accepted;
      passed = new.passed;
      ran = new.ran;
    };
  }

  pub first_of_hands : (shape : PartsShape) (kept : Kept) (own b : Board) (k : ℕ) (s : Seat) (held : Held J) (h : Hand J R) → own ≡ b → IsNewHand b k s → (drawn_by held ≡ []) × (held_by held ≡ []) → IsNewHandOf shape own k s held kept h.state → IsFirstHand shape kept b k h
  first_of_hands shape kept own b k s held h same seat empty new = record {
    seat = subst (IsNewHand b k) (sym new.seat) seat;
    empty = (ap drawn_by new.held_is ∙ empty.0, ap held_by new.held_is ∙ empty.1);
    part = record {
      board = new.board ∙ same;
      seat = refl;
      held_is = refl;
      cpu_is = new.cpu_is;
      limit = new.limit;
      ran = new.ran;
    };
  }

  -- a member's done lane leads to its hand
  pub has_hand : (shape : PartsShape) (kept : Kept) (b : Board) (s : Seat) (held : Held J) (m : GroupMember J) (h : Hand J R) (front : Front (Parcel J) LaneLimits) (rear : Rear (Parcel J) LaneLimits) → IsNewHandOf shape b m.cpu s held kept h.state → hands_front held ≡ front → done_rear m.member ≡ rear → IsNewLane front rear → HasHand m h
  has_hand shape kept b s held m h front rear new of end lane = record {
    cpu = new.cpu_is;
    lane = subst (λ (f : Front (Parcel J) LaneLimits). SameLane f (done_rear m.member)) (sym (ap hands_front new.held_is ∙ of)) (subst (λ (r : Rear (Parcel J) LaneLimits). SameLane front r) (sym end) lane.one_lane);
  }
