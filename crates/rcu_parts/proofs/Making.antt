-- The parts of a new board as they are made, one after another.
use Rattle.std.proofs.Common.{◌≡◌, ℕ, suc, ◌+◌, Bool, true, false, cond, List, [], ◌∷◌, ◌++◌, length, length-append, append-nil, append_assoc, ap, sym, ◌∙◌, refl, subst, arith}
use Rattle.std.specs.Prelude.{All}
use Rattle.std.specs.List.{AllZip, range_with_len}
use Rattle.std.proofs.lemmas.List.{map-append}
use Rattle.std.proofs.lemmas.Grind.{flat_map-append}
use Rattle.std.proofs.lemmas.List.Elements.{All-cons, All-head, All-nil, All-tail, filter-append}
use Rattle.rcu_board.specs.Opened.{IsNewGroup, numbers_where}
use Rattle.rcu_board.specs.declared.board.Board.{Board}
use Rattle.rcu_board.specs.declared.board.Role.{Role}
use Rattle.rcu_board.specs.declared.board.Role.TheVariants.{Processor, Hand, Group, Driver, Control}
use Rattle.rcu_board.specs.declared.board.Seat.{Seat}
use Rattle.rcu_part_lists.specs.ProcessorLists.{rear_of}
use Rattle.rcu_part_lists.specs.MemberLists.{front_of}
use Rattle.rcu_part_lists.specs.declared.limits.LaneLimits.{LaneLimits}
use Rattle.rcu_lanes.specs.Ends.{IsNewLane}
use Rattle.rcu_lanes.specs.declared.ends.Front.{Front}
use Rattle.rcu_lists.specs.declared.parcel.Parcel.{Parcel}
use Rattle.rcu_numbers.specs.declared.parts_shape.PartsShape.{PartsShape}
use Rattle.rcu_part_group.specs.GroupLaw.{cpus_of}
use Rattle.rcu_part_group.specs.Groups.{IsEmptyGroupMember, IsNewGroupOf, members_of}
use Rattle.rcu_part_order.specs.declared.recorded.Kept.{Kept}
use Rattle.rcu_parts.specs.OneOpen.{HasHand, members_in, offloadable_in}
use Rattle.rcu_parts.specs.Openings.{AreFronts, IsFirstGroup, IsFirstHand, IsFirstProcessor, fronts_of, is_member}
use Rattle.rcu_part_group.specs.declared.members.GroupMember.{GroupMember}
use Rattle.rcu_part_group.specs.declared.group.Group.{Group as GroupPart}
use Rattle.rcu_part_hand.specs.declared.hand.Hand.{Hand as HandPart}
use Rattle.rcu_part_processor.specs.declared.processor.Processor.{Processor as ProcessorPart}
use Rattle.rcu_parts.proofs.Zips.{range_more}
use Rattle.rcu_lemmas.proofs.Zips.{zip_push}

-- the group whose seat it is
abbrev pub group_of_role : Role → ℕ
group_of_role (Processor p) = 0
group_of_role (Hand p) = 0
group_of_role (Group g) = g
group_of_role Driver = 0
group_of_role Control = 0

module _ {J R : Type 0} where
  pub processors_none : (shape : PartsShape) (kept : Kept) (b : Board) (ps : List (ProcessorPart J R)) (fronts : List (Front (Parcel J) LaneLimits)) → ps ≡ [] → fronts ≡ [] → AllZip (IsFirstProcessor shape kept b) (range_with_len 0 (length ps)) ps × AreFronts ps fronts
  processors_none shape kept b ps fronts e f = (
    subst (λ (l : List (ProcessorPart J R)). AllZip (IsFirstProcessor shape kept b) (range_with_len 0 (length l)) l) (sym e) tt,
    subst (λ (l : List (Front (Parcel J) LaneLimits)). AreFronts ps l) (sym f) (subst (λ (l : List (ProcessorPart J R)). AreFronts l []) (sym e) tt),
  )

  pub processors_more : (shape : PartsShape) (kept : Kept) (b : Board) (ps more : List (ProcessorPart J R)) (p : ProcessorPart J R) → AllZip (IsFirstProcessor shape kept b) (range_with_len 0 (length ps)) ps → IsFirstProcessor shape kept b (length ps) p → more ≡ ps ++ p ∷ []
      → AllZip (IsFirstProcessor shape kept b) (range_with_len 0 (length more)) more
  processors_more shape kept b ps more p all one e =
      let long : length (ps ++ p ∷ []) ≡ suc (length ps) = length-append ps (p ∷ []) ∙ (let n : length ps + 1 ≡ suc (length ps) = omega arith in n) in
      subst (λ (l : List (ProcessorPart J R)). AllZip (IsFirstProcessor shape kept b) (range_with_len 0 (length l)) l) (sym e)
      (subst (λ (ks : List ℕ). AllZip (IsFirstProcessor shape kept b) ks (ps ++ p ∷ [])) (sym (ap (range_with_len 0) long ∙ range_more 0 (length ps) (length ps) (omega arith)))
      (zip_push (IsFirstProcessor shape kept b) (range_with_len 0 (length ps)) ps (length ps) p all one))

  abbrev LeadsTo : ProcessorPart J R → Front (Parcel J) LaneLimits → Type 0
  LeadsTo p front = IsNewLane front (rear_of p.state.lists)

  offloadable_more : (ps : List (ProcessorPart J R)) (p : ProcessorPart J R) (b : Bool) → p.state.offloadable ≡ b → offloadable_in (ps ++ p ∷ []) ≡ offloadable_in ps ++ cond b (p ∷ []) []
  offloadable_more ps p b e = filter-append (λ (q : ProcessorPart J R). q.state.offloadable) ps (p ∷ []) ∙ ap (λ b. offloadable_in ps ++ cond b (p ∷ []) []) e

  pub fronts_more : (ps more : List (ProcessorPart J R)) (p : ProcessorPart J R) (fronts longer : List (Front (Parcel J) LaneLimits)) (front : Front (Parcel J) LaneLimits) → AreFronts ps fronts → p.state.offloadable ≡ true → IsNewLane front (rear_of p.state.lists)
      → more ≡ ps ++ p ∷ [] → longer ≡ fronts ++ front ∷ [] → AreFronts more longer
  fronts_more ps more p fronts longer front all on lane e f =
      subst (λ (l : List (ProcessorPart J R)). AreFronts l longer) (sym e) (subst (λ (l : List (Front (Parcel J) LaneLimits)). AreFronts (ps ++ p ∷ []) l) (sym f)
      (subst (λ (l : List (ProcessorPart J R)). AllZip LeadsTo l (fronts ++ front ∷ [])) (sym (offloadable_more ps p true on)) (zip_push LeadsTo (offloadable_in ps) fronts p front all lane)))

  pub fronts_same : (ps more : List (ProcessorPart J R)) (p : ProcessorPart J R) (fronts : List (Front (Parcel J) LaneLimits)) → AreFronts ps fronts → p.state.offloadable ≡ false → more ≡ ps ++ p ∷ [] → AreFronts more fronts
  fronts_same ps more p fronts all off e =
      subst (λ (l : List (ProcessorPart J R)). AreFronts l fronts) (sym e)
      (subst (λ (l : List (ProcessorPart J R)). AllZip LeadsTo l fronts) (sym (offloadable_more ps p false off ∙ append-nil (offloadable_in ps))) all)

  -- ---- hands

  pub hands_none : (shape : PartsShape) (kept : Kept) (b : Board) (ms : List (GroupMember J)) (hs : List (HandPart J R)) → ms ≡ [] → hs ≡ [] → AllZip (IsFirstHand shape kept b) (cpus_of ms) hs × AllZip HasHand ms hs
  hands_none shape kept b ms hs e f = (
    subst (λ (l : List (GroupMember J)). AllZip (IsFirstHand shape kept b) (cpus_of l) hs) (sym e) (subst (λ (l : List (HandPart J R)). AllZip (IsFirstHand shape kept b) [] l) (sym f) tt),
    subst (λ (l : List (GroupMember J)). AllZip HasHand l hs) (sym e) (subst (λ (l : List (HandPart J R)). AllZip HasHand [] l) (sym f) tt),
  )

  pub hands_more : (shape : PartsShape) (kept : Kept) (b : Board) (k : ℕ) (m : GroupMember J) (ms more : List (GroupMember J)) (h : HandPart J R) (hs longer : List (HandPart J R)) → AllZip (IsFirstHand shape kept b) (cpus_of ms) hs → AllZip HasHand ms hs
      → m.cpu ≡ k → IsFirstHand shape kept b k h → HasHand m h → more ≡ ms ++ m ∷ [] → longer ≡ hs ++ h ∷ [] → AllZip (IsFirstHand shape kept b) (cpus_of more) longer × AllZip HasHand more longer
  hands_more shape kept b k m ms more h hs longer all lanes at first lane e f = (
    subst (λ (l : List (GroupMember J)). AllZip (IsFirstHand shape kept b) (cpus_of l) longer) (sym e) (subst (λ (l : List (HandPart J R)). AllZip (IsFirstHand shape kept b) (cpus_of (ms ++ m ∷ [])) l) (sym f)
        (subst (λ (l : List ℕ). AllZip (IsFirstHand shape kept b) l (hs ++ h ∷ [])) (sym (map-append (λ (n : GroupMember J). n.cpu) ms (m ∷ []))) (zip_push (IsFirstHand shape kept b) (cpus_of ms) hs m.cpu h all (subst (λ (x : ℕ). IsFirstHand shape kept b x h) (sym at) first)))),
    subst (λ (l : List (GroupMember J)). AllZip HasHand l longer) (sym e) (subst (λ (l : List (HandPart J R)). AllZip HasHand (ms ++ m ∷ []) l) (sym f) (zip_push HasHand ms hs m h lanes lane)),
  )

  -- ---- groups

  pub group_made : (shape : PartsShape) (own b : Board) (k : ℕ) (s : Seat) (ms : List (GroupMember J)) (g : GroupPart J R) → own ≡ b → IsNewGroup b k s → cpus_of ms ≡ numbers_where (is_member b.offloadable shape.stride k) 0 b.processors → All IsEmptyGroupMember ms
      → IsNewGroupOf shape own k s ms g.state → IsFirstGroup shape b k g
  group_made shape own b k s ms g same seat cpus empty new = record {
    seat = subst (IsNewGroup b k) (sym new.seat) seat;
    members = ap cpus_of new.members_are ∙ cpus;
    empty = subst (All IsEmptyGroupMember) (sym new.members_are) empty;
    part = record {
      board = new.board ∙ same;
      seat = refl;
      group_is = new.group_is;
      limit = new.limit;
      members_are = refl;
    };
  }

  members_more : (gs : List (GroupPart J R)) (g : GroupPart J R) → members_in (gs ++ g ∷ []) ≡ members_in gs ++ members_of g.state
  members_more gs g = flat_map-append (λ (x : GroupPart J R). members_of x.state) gs (g ∷ []) ∙ ap (λ (l : List (GroupMember J)). members_in gs ++ l) (append-nil (members_of g.state))

  pub grouped_more : (gs more : List (GroupPart J R)) (g : GroupPart J R) (ms old new all : List (GroupMember J)) → members_in gs ++ old ≡ all → old ≡ ms ++ new → members_of g.state ≡ ms → more ≡ gs ++ g ∷ [] → members_in more ++ new ≡ all
  grouped_more gs more g ms old new all h cut same e = ap (λ (l : List (GroupPart J R)). members_in l ++ new) e ∙ ap (λ (l : List (GroupMember J)). l ++ new) (members_more gs g) ∙ append_assoc (members_in gs) (members_of g.state) new
      ∙ ap (λ (l : List (GroupMember J)). members_in gs ++ (l ++ new)) same ∙ ap (λ (l : List (GroupMember J)). members_in gs ++ l) (sym cut) ∙ h

  pub groups_more : (shape : PartsShape) (b : Board) (done : List ℕ) (k : ℕ) (gs more : List (GroupPart J R)) (g : GroupPart J R) → AllZip (IsFirstGroup shape b) done gs → IsFirstGroup shape b k g → more ≡ gs ++ g ∷ [] → AllZip (IsFirstGroup shape b) (done ++ k ∷ []) more
  groups_more shape b done k gs more g all first e = subst (λ (l : List (GroupPart J R)). AllZip (IsFirstGroup shape b) (done ++ k ∷ []) l) (sym e) (zip_push (IsFirstGroup shape b) done gs k g all first)

module _ {J : Type 0} where
  -- the members so far, the processors whose seats are left, and the lanes' ends that are left
  pub record AreMade (ks : List ℕ) (ends : List (Front (Parcel J) LaneLimits)) (left : List ℕ) (fronts : List (Front (Parcel J) LaneLimits)) (ms : List (GroupMember J)) : Type 0 where
    pub cpus : cpus_of ms ++ left ≡ ks
    pub fronts_are : fronts_of ms ++ fronts ≡ ends

  pub made_more : (ks : List ℕ) (ends : List (Front (Parcel J) LaneLimits)) (k cpu : ℕ) (left js : List ℕ) (front : Front (Parcel J) LaneLimits) (fronts rest : List (Front (Parcel J) LaneLimits)) (m : GroupMember J) (ms more : List (GroupMember J))
      → cpus_of ms ++ left ≡ ks → fronts_of ms ++ fronts ≡ ends → left ≡ k ∷ js → fronts ≡ front ∷ rest → m.cpu ≡ cpu → cpu ≡ k → front_of m.member ≡ front → more ≡ ms ++ m ∷ []
      → AreMade ks ends js rest more
  made_more ks ends k cpu left js front fronts rest m ms more a b l f at same from e = record {
    cpus = ap (λ (x : List (GroupMember J)). cpus_of x ++ js) e ∙ ap (λ (x : List ℕ). x ++ js) (map-append (λ (n : GroupMember J). n.cpu) ms (m ∷ [])) ∙ append_assoc (cpus_of ms) (m.cpu ∷ []) js
        ∙ ap (λ (x : ℕ). cpus_of ms ++ x ∷ js) (at ∙ same) ∙ ap (λ (x : List ℕ). cpus_of ms ++ x) (sym l) ∙ a;
    fronts_are = ap (λ (x : List (GroupMember J)). fronts_of x ++ rest) e ∙ ap (λ (x : List (Front (Parcel J) LaneLimits)). x ++ rest) (map-append (λ (n : GroupMember J). front_of n.member) ms (m ∷ [])) ∙ append_assoc (fronts_of ms) (front_of m.member ∷ []) rest
        ∙ ap (λ (x : Front (Parcel J) LaneLimits). fronts_of ms ++ x ∷ rest) from ∙ ap (λ (x : List (Front (Parcel J) LaneLimits)). fronts_of ms ++ x) (sym f) ∙ b;
  }

  pub empty_parts : (ms old new : List (GroupMember J)) → old ≡ ms ++ new → All IsEmptyGroupMember old → All IsEmptyGroupMember ms × All IsEmptyGroupMember new
  empty_parts [] old new e h = (All-nil IsEmptyGroupMember, subst (All IsEmptyGroupMember) e h)
  empty_parts (m ∷ ms) old new e h = let all = subst (All IsEmptyGroupMember) e h in let rest = empty_parts ms (ms ++ new) new refl (All-tail IsEmptyGroupMember m (ms ++ new) all) in
      (All-cons IsEmptyGroupMember m ms (All-head IsEmptyGroupMember m (ms ++ new) all) rest.0, rest.1)
