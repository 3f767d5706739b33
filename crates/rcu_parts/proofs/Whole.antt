-- The parts of a new board are those of one open.
use Rattle.std.proofs.Common.{◌≡◌, ℕ, zero, suc, ◌+◌, Bool, true, false, cond, List, [], ◌∷◌, ◌++◌, map, length, drop, ap, sym, ◌∙◌, refl, subst, arith}
use Rattle.std.specs.Prelude.{All, slice_index_or, sum_by}
use Rattle.std.specs.List.{AllZip, range_with_len}
use Rattle.std.proofs.lemmas.List.{length-map}
use Rattle.std.proofs.lemmas.List.Elements.{All-nil}
use Rattle.std.proofs.lemmas.List.FromFn.{length-range_with_len}
use Rattle.std.proofs.lemmas.Slice.Zip.{AllZip-long}
use Rattle.rcu_board.specs.Opened.{AreNew, IsNewGroup, IsNewHand, SeatForEach, has_offloadable, is_offloadable, numbers_where}
use Rattle.rcu_board.specs.Views.{new_view}
use Rattle.rcu_board.specs.declared.board.Board.{Board}
use Rattle.rcu_board.specs.declared.open.Seats.{Seats}
use Rattle.rcu_board.specs.declared.view.View.{View}
use Rattle.rcu_board.specs.Frames.{IsBare}
use Rattle.rcu_part_lists.specs.ProcessorLists.{Holding, rear_of}
use Rattle.rcu_part_lists.specs.declared.limits.LaneLimits.{LaneLimits}
use Rattle.rcu_jobs.specs.Records.{Given}
use Rattle.rcu_jobs.specs.declared.callback.Callback.{Callback}
use Rattle.rcu_jobs.specs.declared.callback.Record.{Record}
use Rattle.rcu_lanes.specs.Ends.{IsNewLane, items_drawn}
use Rattle.rcu_lanes.specs.declared.ends.Front.{Front}
use Rattle.rcu_lists.specs.declared.parcel.Parcel.{Parcel}
use Rattle.rcu_numbers.specs.declared.parts_shape.PartsShape.{PartsShape}
use Rattle.rcu_part_group.specs.GroupLaw.{cpus_of}
use Rattle.rcu_part_group.specs.Groups.{group_board, group_view}
use Rattle.rcu_part_hand.specs.Hands.{IsSoundHand, hand_board, hand_view}
use Rattle.rcu_part_order.specs.Recorded.{Recorded}
use Rattle.rcu_part_order.specs.declared.recorded.Kept.{Kept}
use Rattle.rcu_parts.specs.OneOpen.{AreProcessorsFrom, HasMember, offloadable_in}
use Rattle.rcu_parts.specs.Openings.{AreFirstProcessors, AreFronts, IsFirstGroup, IsFirstHand, IsFirstProcessor, fronts_of}
use Rattle.rcu_part_steps.specs.Places.{AreKeyed}
use Rattle.rcu_part_processor.specs.Processors.{IsSound, view_of}
use Rattle.rcu_part_group.specs.declared.members.GroupMember.{GroupMember}
use Rattle.rcu_part_group.specs.declared.group.Group.{Group}
use Rattle.rcu_part_hand.specs.declared.hand.Hand.{Hand}
use Rattle.rcu_part_processor.specs.declared.processor.Processor.{Processor}
use Rattle.rcu_parts.proofs.Zips.{zip_all, zip_ones}

module _ {J R : Type 0} (shape : PartsShape) (kept : Kept) (b : Board) where
  rest_from : (k n : ℕ) (ps : List (Processor J R)) → AllZip (IsFirstProcessor shape kept b) (range_with_len (k + 1) n) ps → AllZip (IsFirstProcessor shape kept b) (range_with_len (suc k) n) ps
  rest_from k n ps h = let e : k + 1 ≡ suc k = omega arith in subst (λ (j : ℕ). AllZip (IsFirstProcessor shape kept b) (range_with_len j n) ps) e h

  pub are_in_order : (k n : ℕ) (ps : List (Processor J R)) → AllZip (IsFirstProcessor shape kept b) (range_with_len k n) ps → AreProcessorsFrom k b ps
  unfolding AreProcessorsFrom
  are_in_order k zero [] h = tt
  are_in_order k zero (p ∷ ps) h = absurd h
  are_in_order k (suc n) [] h = absurd h
  are_in_order k (suc n) (p ∷ ps) h = (h.0.part.board, h.0.part.cpu_is, are_in_order (suc k) n ps (rest_from k n ps h.1))

  with_first : (o t : Bool) (k : ℕ) (p : Processor J R) (ps : List (Processor J R)) (ks : List ℕ) → o ≡ t → p.state.cpu ≡ k → map (λ (q : Processor J R). q.state.cpu) ps ≡ ks → map (λ (q : Processor J R). q.state.cpu) (cond o (p ∷ ps) ps) ≡ cond t (k ∷ ks) ks
  with_first true true k p ps ks e at h = ap (λ (x : ℕ). x ∷ map (λ (q : Processor J R). q.state.cpu) ps) at ∙ ap (λ (l : List ℕ). k ∷ l) h
  with_first false false k p ps ks e at h = h
  with_first true false k p ps ks e at h = absurd (let f : true ≡ false = e in cc)
  with_first false true k p ps ks e at h = absurd (let f : true ≡ false = sym e in cc)

  pub offloadable_cpus : (k n : ℕ) (ps : List (Processor J R)) → AllZip (IsFirstProcessor shape kept b) (range_with_len k n) ps → map (λ (q : Processor J R). q.state.cpu) (offloadable_in ps) ≡ numbers_where (is_offloadable b.offloadable) k n
  unfolding numbers_where
  offloadable_cpus k zero [] h = refl
  offloadable_cpus k zero (p ∷ ps) h = absurd h
  offloadable_cpus k (suc n) [] h = absurd h
  offloadable_cpus k (suc n) (p ∷ ps) h = with_first p.state.offloadable (is_offloadable b.offloadable k) k p (offloadable_in ps) (numbers_where (is_offloadable b.offloadable) (suc k) n)
      h.0.part.offloadable h.0.part.cpu_is (offloadable_cpus (suc k) n ps (rest_from k n ps h.1))

  pub as_many : (ps : List (Processor J R)) → AreFirstProcessors shape kept b ps → length ps ≡ b.processors
  as_many ps h = AllZip-long (IsFirstProcessor shape kept b) (range_with_len 0 b.processors) ps h ∙ length-range_with_len 0 b.processors

  -- each has one part of the weight
  pub processors_weigh : (ks : List ℕ) (ps : List (Processor J R)) → AllZip (IsFirstProcessor shape kept b) ks ps → sum_by (λ (p : Processor J R). (view_of p.state).weight) ps ≡ length ps
  processors_weigh ks ps h = zip_ones (IsFirstProcessor shape kept b) (λ (p : Processor J R). (view_of p.state).weight) (λ k p f. ap (λ (v : View). v.weight) f.seat.first_view) ks ps h ∙ sym (AllZip-long (IsFirstProcessor shape kept b) ks ps h)

  pub hands_weigh : (ks : List ℕ) (hs : List (Hand J R)) → AllZip (IsFirstHand shape kept b) ks hs → sum_by (λ (h : Hand J R). (hand_view h.state).weight) hs ≡ length ks
  hands_weigh ks hs h = zip_ones (IsFirstHand shape kept b) (λ (h : Hand J R). (hand_view h.state).weight) (λ k p f. ap (λ (v : View). v.weight) f.seat.first_view) ks hs h

  pub groups_weigh : (ks : List ℕ) (gs : List (Group J R)) → AllZip (IsFirstGroup shape b) ks gs → sum_by (λ (g : Group J R). (group_view g.state).weight) gs ≡ length ks
  groups_weigh ks gs h = zip_ones (IsFirstGroup shape b) (λ (g : Group J R). (group_view g.state).weight) (λ k p f. ap (λ (v : View). v.weight) f.seat.first_view) ks gs h

  -- nothing is known of jobs as long as there are none
  pub processors_sound : (key_of : J → ℕ) (gives : ℕ → R → Type 0) (ks : List ℕ) (ps : List (Processor J R)) → AllZip (IsFirstProcessor shape kept b) ks ps → All (λ (p : Processor J R). IsSound key_of gives p.state) ps
  processors_sound key_of gives ks ps h = zip_all (IsFirstProcessor shape kept b) (λ (p : Processor J R). IsSound key_of gives p.state) (λ k p f. record {
    keyed = subst (λ (l : Holding J). AreKeyed key_of (l.outgoing.put ++ (l.outgoing.bypass ++ map (λ c. c.callback) l.own))) (sym f.lists) (All-nil (λ (c : Callback J). key_of c.job ≡ c.key));
    given = subst (λ (r : Recorded R). Given gives r.all) (sym f.part.ran) (All-nil (λ (r : Record R). gives r.key r.receipt));
  }) ks ps h

  pub hands_sound : (key_of : J → ℕ) (gives : ℕ → R → Type 0) (ks : List ℕ) (hs : List (Hand J R)) → AllZip (IsFirstHand shape kept b) ks hs → All (λ (h : Hand J R). IsSoundHand key_of gives h.state) hs
  hands_sound key_of gives ks hs h = zip_all (IsFirstHand shape kept b) (λ (h : Hand J R). IsSoundHand key_of gives h.state) (λ k p f keyed. subst (λ (r : Recorded R). Given gives r.all) (sym f.part.ran) (All-nil (λ (r : Record R). gives r.key r.receipt))) ks hs h

  pub hands_here : (ks : List ℕ) (hs : List (Hand J R)) → AllZip (IsFirstHand shape kept b) ks hs → All (λ (h : Hand J R). hand_board h.state ≡ b) hs
  hands_here ks hs h = zip_all (IsFirstHand shape kept b) (λ (h : Hand J R). hand_board h.state ≡ b) (λ k p f. f.part.board) ks hs h

  pub groups_here : (ks : List ℕ) (gs : List (Group J R)) → AllZip (IsFirstGroup shape b) ks gs → All (λ (g : Group J R). group_board g.state ≡ b) gs
  groups_here ks gs h = zip_all (IsFirstGroup shape b) (λ (g : Group J R). group_board g.state ≡ b) (λ k p f. f.part.board) ks gs h

module _ {J R : Type 0} where
  abbrev LeadsTo : Processor J R → Front (Parcel J) LaneLimits → Type 0
  LeadsTo p front = IsNewLane front (rear_of p.state.lists)

  pub none_drawn : (ps : List (Processor J R)) (fronts : List (Front (Parcel J) LaneLimits)) → AreFronts ps fronts → All (λ (f : Front (Parcel J) LaneLimits). items_drawn f ≡ []) fronts
  none_drawn ps fronts h = zip_all LeadsTo (λ (f : Front (Parcel J) LaneLimits). items_drawn f ≡ []) (λ p f r. r.none_drawn) (offloadable_in ps) fronts h

  pub many_fronts : (ps : List (Processor J R)) (fronts : List (Front (Parcel J) LaneLimits)) (ks : List ℕ) → AreFronts ps fronts → map (λ (q : Processor J R). q.state.cpu) (offloadable_in ps) ≡ ks → length fronts ≡ length ks
  many_fronts ps fronts ks h e = AllZip-long LeadsTo (offloadable_in ps) fronts h ∙ sym (length-map (offloadable_in ps) (λ (q : Processor J R). q.state.cpu)) ∙ ap (λ (l : List ℕ). length l) e

  linked : (ps : List (Processor J R)) (ms : List (GroupMember J)) → AllZip LeadsTo ps (fronts_of ms) → map (λ (q : Processor J R). q.state.cpu) ps ≡ cpus_of ms → AllZip HasMember ps ms
  linked [] [] h e = tt
  linked [] (m ∷ ms) h e = absurd h
  linked (p ∷ ps) [] h e = absurd h
  linked (p ∷ ps) (m ∷ ms) h e = (record { cpu = ap (λ (l : List ℕ). slice_index_or l 0 0) (sym e); lane = h.0.one_lane }, linked ps ms h.1 (ap (λ (l : List ℕ). drop 1 l) e))

  -- each offloadable processor has its member, to which its lane leads
  pub have_members : (ps : List (Processor J R)) (fronts : List (Front (Parcel J) LaneLimits)) (ms all : List (GroupMember J)) (ks : List ℕ) → AreFronts ps fronts → map (λ (q : Processor J R). q.state.cpu) (offloadable_in ps) ≡ ks
      → fronts_of ms ≡ fronts → cpus_of ms ≡ ks → all ≡ ms → AllZip HasMember (offloadable_in ps) all
  have_members ps fronts ms all ks h e f at same = subst (AllZip HasMember (offloadable_in ps)) (sym same)
      (linked (offloadable_in ps) ms (subst (AllZip LeadsTo (offloadable_in ps)) (sym f) h) (e ∙ sym at))

-- what the seats weigh, by how many there are
pub all_weigh : (control driver groups processors hands own hand group rest all : ℕ) → control ≡ 1 → driver ≡ rest → groups ≡ group → processors ≡ own → hands ≡ hand → own + hand + group + 1 + rest ≡ all
    → control + driver + groups + processors + hands ≡ all
all_weigh control driver groups processors hands own hand group rest all c d g p h e = omega (arith, c, d, g, p, h, e)

pub is_bare : (n o w : ℕ) (d c : Bool) (v : View) → v ≡ new_view n o w d c [] → IsBare v
is_bare n o w d c v e = record { own = ap (λ (x : View). x.own) e; claims = ap (λ (x : View). x.claims) e; running = ap (λ (x : View). x.running) e }

-- the seats of a board that has the shape's processors
pub hands_of_board : (shape : PartsShape) (b : Board) (s : Seats) → AreNew shape b s → b.processors ≡ shape.processors → b.offloadable ≡ shape.offloadable → SeatForEach (IsNewHand b) (numbers_where (is_offloadable b.offloadable) 0 b.processors) s.hands.items
hands_of_board shape b s new n o = subst (λ (m : ℕ). SeatForEach (IsNewHand b) (numbers_where (is_offloadable m) 0 b.processors) s.hands.items) (sym o)
    (subst (λ (k : ℕ). SeatForEach (IsNewHand b) (numbers_where (is_offloadable shape.offloadable) 0 k) s.hands.items) (sym n) new.hands)

pub groups_of_board : (shape : PartsShape) (b : Board) (s : Seats) → AreNew shape b s → b.processors ≡ shape.processors → b.offloadable ≡ shape.offloadable → SeatForEach (IsNewGroup b) (numbers_where (has_offloadable b.offloadable shape.stride b.processors) 0 b.processors) s.groups.items
groups_of_board shape b s new n o = subst (λ (m : ℕ). SeatForEach (IsNewGroup b) (numbers_where (has_offloadable m shape.stride b.processors) 0 b.processors) s.groups.items) (sym o)
    (subst (λ (k : ℕ). SeatForEach (IsNewGroup b) (numbers_where (has_offloadable shape.offloadable shape.stride k) 0 k) s.groups.items) (sym n) new.groups)
