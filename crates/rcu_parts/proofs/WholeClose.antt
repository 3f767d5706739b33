-- All parts have ended: the weights of their seats, the reports, and what is known of them at the end.
use Rattle.std.proofs.Common.{◌≡◌, ℕ, suc, ◌+◌, ◌≤◌, ◌∙◌, Bool, true, false, cond, Some, None, List, [], ◌∷◌, ◌++◌, map, length, sum_by, sym, ap, subst, refl, arith, vec_len, vec_capacity}
use Rattle.std.specs.List.{All, AllZip, flat_map}
use Rattle.std.proofs.lemmas.List.{length-map}
use Rattle.std.proofs.lemmas.Simd.{map-map}
use Rattle.std.proofs.lemmas.List.Elements.{All-append, All-cons, All-head, All-nil, All-tail}
use Rattle.std.proofs.lemmas.List.Sums.{sum_by-cons}
use Rattle.std.proofs.lemmas.Slice.Zip.{AllZip-long}
use Rattle.rcu_board.specs.Plays.{all_seats}
use Rattle.rcu_board.specs.Seats.{GatheredAt, gathered_view, reports_of, view}
use Rattle.rcu_board.specs.Views.{joined, total}
use Rattle.rcu_board.specs.Words.{words_of}
use Rattle.rcu_board.specs.declared.board.Board.{Board}
use Rattle.rcu_board.specs.declared.board.Gathered.{Gathered}
use Rattle.rcu_board.specs.declared.board.Seat.{Seat}
use Rattle.rcu_board.specs.declared.view.View.{View}
use Rattle.rcu_board.proofs.Views.{total-append}
use Rattle.rcu_part_control.specs.Parts.{control_seat, control_view, driver_board, driver_seat, driver_view}
use Rattle.rcu_part_control.specs.declared.control.Control.{Control}
use Rattle.rcu_part_control.specs.declared.driver.Driver.{Driver}
use Rattle.rcu_part_close.specs.declared.ended.ProcessorEnd.{ProcessorEnd}
use Rattle.rcu_part_close.specs.Closing.{CpuEnd, HaveEnded, InRow, WasEnded, seats_of}
use Rattle.rcu_part_close.specs.Gathered.{IsSettled, gather}
use Rattle.rcu_part_close.specs.Parts.{CpuPart, IsAtRest, IsSoundPart, views_of}
use Rattle.rcu_part_close.proofs.Gathers.{gather_append, gather_weight}
use Rattle.rcu_jobs.specs.declared.answers.Closed.{Closed}
use Rattle.rcu_parts.specs.AtClose.{Answers, cpu_part, cpu_parts, first_hand, hand_part, hands_after, other_hands, other_views}
use Rattle.rcu_parts.specs.Ending.{AreLong, EndsEach, IsReady, all_view, board_at}
use Rattle.rcu_part_group.specs.Groups.{group_board, group_view}
use Rattle.rcu_part_hand.specs.Hands.{hand_board, hand_view}
use Rattle.rcu_parts.specs.OneOpen.{AreOfOneOpen, AreProcessorsFrom, AreSoundParts, Parts, HasHand, HasMember, groups_in, hands_in, members_in, offloadable_in, parts_board, processors_in}
use Rattle.rcu_part_processor.specs.Processors.{view_of}
use Rattle.rcu_parts.specs.Rooms.{FitsAll, FitsCpu}
use Rattle.rcu_parts.specs.declared.ends.Ending.{Ending}
use Rattle.rcu_part_group.specs.declared.members.GroupMember.{GroupMember}
use Rattle.rcu_part_group.specs.declared.group.Group.{Group}
use Rattle.rcu_part_hand.specs.declared.hand.Hand.{Hand}
use Rattle.rcu_part_processor.specs.declared.processor.Processor.{Processor}
use Rattle.rcu_parts.specs.declared.room.Reserved.{Reserved}
use Rattle.rcu_parts.proofs.OneByOne.{counted_in, skipped}
use Rattle.rcu_parts.proofs.Resting.{is_long_at, sound_parts}
use Rattle.rcu_lemmas.proofs.All.{All-unmap}

abbrev weight : View → ℕ
weight w = w.weight

-- what control's seat knows with the driver's
pub two_views : (k : Control) (d : Driver) (both first : Gathered) (s t : Seat) → gathered_view first ≡ view s → s ≡ control_seat k → t ≡ driver_seat d → gathered_view both ≡ joined (gathered_view first) (view t) → gathered_view both ≡ joined (control_view k) (driver_view d)
two_views k d both first s t seen who other e = e ∙ (ap (λ w. joined w (view t)) (seen ∙ ap view who) ∙ ap (λ z. joined (control_view k) (view z)) other)

module _ {J R : Type 0} where
  -- ---- weights

  abbrev own_weight : Processor J R → ℕ
  own_weight p = (view_of p.state).weight

  abbrev hand_weight : Hand J R → ℕ
  hand_weight h = (hand_view h.state).weight

  abbrev group_weight : Group J R → ℕ
  group_weight g = (group_view g.state).weight

  seats_parts : (es : List (CpuEnd J R)) → seats_of es ≡ flat_map views_of (map (λ e. e.part) es)
  seats_parts [] = refl
  seats_parts (e ∷ es) = ap (λ l. views_of e.part ++ l) (seats_parts es)

  weighs_first : (p : Processor J R) (ps : List (Processor J R)) (b : Bool) (hs : List (Hand J R)) → p.state.offloadable ≡ b → length hs ≡ length (offloadable_in (p ∷ ps))
      → ((l : List (Hand J R)) → length l ≡ length (offloadable_in ps) → total weight (flat_map views_of (cpu_parts ps l)) ≡ sum_by own_weight ps + sum_by hand_weight l)
      → total weight (flat_map views_of (cpu_parts (p ∷ ps) hs)) ≡ sum_by own_weight (p ∷ ps) + sum_by hand_weight hs
  weighs_first p ps false hs e long rest =
      let c : cpu_parts (p ∷ ps) hs ≡ cpu_part p None ∷ cpu_parts ps hs = ap (λ b. cpu_part p (cond b (first_hand hs) None) ∷ cpu_parts ps (cond b (other_hands hs) hs)) e in
      let r = rest hs (long ∙ ap length (skipped p ps e)) in
      let w = ap (λ l. total weight (flat_map views_of l)) c in
      omega (arith, w, r, sum_by-cons own_weight p ps)
  weighs_first p ps true [] e long rest = absurd (let a = ap length (counted_in p ps e) in omega (arith, a, long))
  weighs_first p ps true (h ∷ hs) e long rest =
      let c : cpu_parts (p ∷ ps) (h ∷ hs) ≡ cpu_part p (Some (hand_part h)) ∷ cpu_parts ps hs = ap (λ b. cpu_part p (cond b (first_hand (h ∷ hs)) None) ∷ cpu_parts ps (cond b (other_hands (h ∷ hs)) (h ∷ hs))) e in
      let r = rest hs (let a = ap length (counted_in p ps e) in omega (arith, a, long)) in
      let w = ap (λ l. total weight (flat_map views_of l)) c in
      omega (arith, w, r, sum_by-cons own_weight p ps, sum_by-cons hand_weight h hs)

  weighs_cpus : (ps : List (Processor J R)) (hs : List (Hand J R)) → length hs ≡ length (offloadable_in ps) → total weight (flat_map views_of (cpu_parts ps hs)) ≡ sum_by own_weight ps + sum_by hand_weight hs
  weighs_cpus [] [] long = refl
  weighs_cpus [] (h ∷ hs) long = absurd (omega (arith, long))
  weighs_cpus (p ∷ ps) hs long = weighs_first p ps p.state.offloadable hs refl long (weighs_cpus ps)

  weighs_groups : (gs : List (Group J R)) → total weight (map (λ g. group_view g.state) gs) ≡ sum_by group_weight gs
  weighs_groups [] = refl
  weighs_groups (g ∷ gs) = omega (arith, weighs_groups gs, sum_by-cons group_weight g gs)

  pub as_many_hands : (parts : Parts J R) → AreOfOneOpen parts → length (hands_in parts) ≡ length (members_in (groups_in parts))
  as_many_hands parts one = AllZip-long HasHand (members_in (groups_in parts)) (hands_in parts) one.running

  -- all seats weigh all there is
  pub whole_weight : (parts : Parts J R) (es : List (CpuEnd J R)) → AreOfOneOpen parts → map (λ e. e.part) es ≡ cpu_parts (processors_in parts) (hands_in parts)
      → total weight (control_view parts.control ∷ (other_views parts ++ seats_of es)) ≡ all_seats
  whole_weight parts es one same =
      let a = total-append weight (other_views parts) (seats_of es) in
      let b = ap (total weight) (seats_parts es ∙ ap (flat_map views_of) same) in
      let c = weighs_cpus (processors_in parts) (hands_in parts) (as_many_hands parts one ∙ AllZip-long HasMember (offloadable_in (processors_in parts)) (members_in (groups_in parts)) one.members) in
      let d = weighs_groups (groups_in parts) in
      let e = one.weighs in omega arith

  -- ---- reports

  reports_parts : (ps : List (Processor J R)) (hs : List (Hand J R)) → map (λ c. reports_of c.view) (cpu_parts ps hs) ≡ map (λ p. reports_of (view_of p.state)) ps
  reports_parts [] hs = refl
  reports_parts (p ∷ ps) hs = ap (λ l. reports_of (view_of p.state) ∷ l) (reports_parts ps (hands_after p hs))

  -- how many grace periods each passed, as its part knew before it ended
  reports_kept : (ps : List (Processor J R)) (hs : List (Hand J R)) (es : List (CpuEnd J R)) → map (λ e. e.part) es ≡ cpu_parts ps hs → map (λ p. reports_of (view_of p.state)) ps ≡ map (λ e. reports_of e.part.view) es
  reports_kept ps hs es same = sym (reports_parts ps hs) ∙ (ap (map (λ (c : CpuPart J R). reports_of c.view)) (sym same) ∙ map-map (λ (c : CpuPart J R). reports_of c.view) (λ (e : CpuEnd J R). e.part) es)

  length_parts : (ps : List (Processor J R)) (hs : List (Hand J R)) → length (cpu_parts ps hs) ≡ length ps
  length_parts [] hs = refl
  length_parts (p ∷ ps) hs = ap suc (length_parts ps (hands_after p hs))

  pub as_many_ends : (ps : List (Processor J R)) (hs : List (Hand J R)) (es : List (CpuEnd J R)) → map (λ e. e.part) es ≡ cpu_parts ps hs → length es ≡ length ps
  as_many_ends ps hs es same = sym (length-map es (λ (e : CpuEnd J R). e.part)) ∙ (ap length same ∙ length_parts ps hs)

  -- ---- what is known at the end

  no_claims_of : (gs : List (Group J R)) → All (λ (w : View). w.claims ≡ []) (map (λ g. group_view g.state) gs)
  no_claims_of [] = All-nil (λ (w : View). w.claims ≡ [])
  no_claims_of (g ∷ gs) = All-cons (λ (w : View). w.claims ≡ []) (group_view g.state) (map (λ (h : Group J R). group_view h.state) gs) g.state.lawful.bare.claims (no_claims_of gs)

  groups_long : (parts : Parts J R) (gs : List (Group J R)) → All (λ g. group_board g.state ≡ parts_board parts) gs → AreLong (parts_board parts).processors (map (λ g. group_view g.state) gs)
  groups_long parts [] h = All-nil (λ (w : View). length w.seen ≡ words_of (parts_board parts).processors)
  groups_long parts (g ∷ gs) h =
      let P : Group J R → Type 0 = λ d. group_board d.state ≡ parts_board parts in
      All-cons (λ (w : View). length w.seen ≡ words_of (parts_board parts).processors) (group_view g.state) (map (λ (d : Group J R). group_view d.state) gs)
      (is_long_at (parts_board parts) (group_board g.state) g.state.seat (All-head P g gs h) g.state.here) (groups_long parts gs (All-tail P g gs h))

  pub have_ended : (key_of : J → ℕ) (gives : ℕ → R → Type 0) (parts : Parts J R) (x : ℕ) (es : List (CpuEnd J R)) → AreOfOneOpen parts → map (λ e. e.part) es ≡ cpu_parts (processors_in parts) (hands_in parts)
      → InRow 0 es → All (λ e. IsAtRest e.part) es → All (WasEnded key_of gives) es → AreLong (parts_board parts).processors (seats_of es)
      → IsSettled (parts_board parts).processors x (gather (control_view parts.control) (other_views parts ++ seats_of es))
      → HaveEnded key_of gives (parts_board parts).processors x (control_view parts.control) (other_views parts) es
  have_ended key_of gives parts x es one same row at_rest ended long settled =
      let C : View → Type 0 = λ w. w.claims ≡ [] in
      let L : View → Type 0 = λ w. length w.seen ≡ words_of (parts_board parts).processors in
      let gs = map (λ (g : Group J R). group_view g.state) (groups_in parts) in
      let b = parts_board parts in
      record {
        settled = settled;
        nothing = All-cons C (control_view parts.control) (other_views parts) parts.control.bare.claims (All-cons C (driver_view parts.driver) gs parts.driver.bare.claims (no_claims_of (groups_in parts)));
        all = as_many_ends (processors_in parts) (hands_in parts) es same ∙ one.as_many;
        row = row;
        at_rest = at_rest;
        ended = ended;
        long = All-cons L (control_view parts.control) (other_views parts ++ seats_of es) (is_long_at b b (control_seat parts.control) refl parts.control.here)
            (All-append L (other_views parts) (seats_of es) (All-cons L (driver_view parts.driver) gs (is_long_at b (driver_board parts.driver) (driver_seat parts.driver) one.driver parts.driver.here) (groups_long parts (groups_in parts) one.groups)) long);
      }

  -- ---- the steps of a close

  -- what all seats know, once they are one
  pub gathered_all : (parts : Parts J R) (first second last : View) (es : List (CpuEnd J R)) → first ≡ joined (control_view parts.control) (driver_view parts.driver) → second ≡ gather first (map (λ g. group_view g.state) (groups_in parts))
      → last ≡ gather second (seats_of es) → last ≡ gather (control_view parts.control) (other_views parts ++ seats_of es)
  gathered_all parts first second last es one two three =
      three ∙ (ap (λ w. gather w (seats_of es)) (two ∙ ap (λ w. gather w (map (λ (g : Group J R). group_view g.state) (groups_in parts))) one) ∙ sym (gather_append (control_view parts.control) (other_views parts) (seats_of es)))

  pub weighs_all : (parts : Parts J R) (last : View) (es : List (CpuEnd J R)) → AreOfOneOpen parts → map (λ e. e.part) es ≡ cpu_parts (processors_in parts) (hands_in parts) → last ≡ gather (control_view parts.control) (other_views parts ++ seats_of es) → last.weight ≡ all_seats
  weighs_all parts last es one same e = ap weight e ∙ (gather_weight (control_view parts.control) (other_views parts ++ seats_of es) ∙ whole_weight parts es one same)

  -- all processors are left
  pub first_ready : (parts : Parts J R) (room : Reserved J R) (ms : List (GroupMember J)) (hs : List (Hand J R)) (rs : List (ProcessorEnd J R)) (x : Ending J R) → AreOfOneOpen parts → FitsAll (processors_in parts) (hands_in parts) room
      → board_at x ≡ parts_board parts → GatheredAt (board_at x) x.all → (all_view x).running ≡ [] → ms ≡ members_in (groups_in parts) → hs ≡ hands_in parts → rs ≡ room.ends.items → x.ran ≡ room.ran → x.back ≡ room.back
      → IsReady 0 (processors_in parts) ms hs rs x
  first_ready parts room ms hs rs x one fits board at rests members hands rooms ran back = record {
    at = at;
    rests = rests;
    processors = subst (λ b. AreProcessorsFrom 0 b (processors_in parts)) (sym board) one.processors;
    hands_at = subst (λ l. All (λ (h : Hand J R). hand_board h.state ≡ board_at x) l) (sym hands) (subst (λ b. All (λ (h : Hand J R). hand_board h.state ≡ b) (hands_in parts)) (sym board) one.hands);
    members_are = subst (AllZip HasMember (offloadable_in (processors_in parts))) (sym members) one.members;
    running = subst (λ l. AllZip HasHand l hs) (sym members) (subst (AllZip HasHand (members_in (groups_in parts))) (sym hands) one.running);
    rooms_are = subst (λ l. AllZip FitsCpu (cpu_parts (processors_in parts) hs) l) (sym rooms) (subst (λ l. AllZip FitsCpu (cpu_parts (processors_in parts) l) room.ends.items) (sym hands) fits.ends);
    for_ran = subst (λ v. vec_len v + length (processors_in parts) ≤ vec_capacity v) (sym ran) (let o = room.ran.ok.0 in let n = ap length fits.no_ran in let r = fits.ran in omega (arith, o, n, r));
    for_back = subst (λ v. vec_len v + length (processors_in parts) ≤ vec_capacity v) (sym back) (let o = room.back.ok.0 in let n = ap length fits.no_back in let r = fits.back in omega (arith, o, n, r));
  }

  module _ (key_of : J → ℕ) (gives : ℕ → R → Type 0) where
    -- what they know of jobs as they end, where they were sound
    pub sound_ends : (parts : Parts J R) (hs : List (Hand J R)) (es : List (CpuEnd J R)) → AreSoundParts key_of gives parts → hs ≡ hands_in parts → map (λ e. e.part) es ≡ cpu_parts (processors_in parts) hs → All (λ e. IsSoundPart key_of gives e.part) es
    sound_ends parts hs es sound hands same = All-unmap (IsSoundPart key_of gives) (λ (e : CpuEnd J R). e.part) es
        (subst (All (IsSoundPart key_of gives)) (sym (same ∙ ap (cpu_parts (processors_in parts)) hands)) (sound_parts key_of gives (processors_in parts) (hands_in parts) sound.processors sound.hands))

    -- what the last loads tell, once all have ended: what is answered, and what is so of the ends
    pub answers_with : (parts : Parts J R) (closed : Closed J R) (room : Reserved J R) (hs : List (Hand J R)) (x y : Ending J R) (b : Board) → AreOfOneOpen parts → FitsAll (processors_in parts) (hands_in parts) room
        → x.ran ≡ room.ran → x.back ≡ room.back → hs ≡ hands_in parts → board_at x ≡ parts_board parts → b ≡ parts_board parts → (e : EndsEach key_of gives (processors_in parts) hs x y)
        → all_view y ≡ gather (control_view parts.control) (other_views parts ++ seats_of e.ends) → (number : ℕ) → IsSettled b.processors number (all_view y) → closed.ran ≡ y.ran → closed.back ≡ y.back → closed.reports ≡ room.reports
        → (promised : List (CpuEnd J R) → Type 0) → (HaveEnded key_of gives (parts_board parts).processors number (control_view parts.control) (other_views parts) e.ends → promised e.ends)
        → Answers promised parts closed
    answers_with parts closed room hs x y b one fits ran back hands board same e view number s ran_is back_is reports_is promised closes =
        let parts_are = e.parts ∙ ap (cpu_parts (processors_in parts)) hands in
        let long = subst (λ c. AreLong c.processors (seats_of e.ends)) board e.long in
        let settled = subst (λ v. IsSettled (parts_board parts).processors number v) view (subst (λ c. IsSettled c.processors number (all_view y)) same s) in
        let h = have_ended key_of gives parts number e.ends one parts_are e.row e.at_rest e.ended long settled in
        record {
          ends = e.ends;
          parts_are = parts_are;
          ran = ap (λ r. map (λ c. c.items) r.items) ran_is ∙ (e.ran ∙ ap (λ l. map (λ c. c.items) l ++ map (λ (d : CpuEnd J R). d.kept) e.ends) (ap (λ r. r.items) ran ∙ fits.no_ran));
          back = ap (λ r. map (λ c. c.items) r.items) back_is ∙ (e.back ∙ ap (λ l. map (λ c. c.items) l ++ map (λ (d : CpuEnd J R). d.back) e.ends) (ap (λ r. r.items) back ∙ fits.no_back));
          reports = ap (λ r. r.items) reports_is ∙ (fits.reports ∙ reports_kept (processors_in parts) hs e.ends e.parts);
          closes = closes h;
        }
