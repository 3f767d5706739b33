-- A processor and its hand at rest, and the room that they want.
use Rattle.std.proofs.Common.{◌≡◌, ℕ, ◌+◌, ◌-◌, ◌≤◌, ◌∙◌, Option, Some, None, List, [], ◌∷◌, ◌++◌, map, length, ap, subst, refl, arith}
use Rattle.std.proofs.Math.Logic.{∥∥₁_elim}
use Rattle.std.proofs.Props.{props}
use Rattle.std.specs.List.{All}
use Rattle.std.proofs.lemmas.Bool.{cond_both}
use Rattle.std.proofs.lemmas.List.{length-map}
use Rattle.rcu_board.specs.Seats.{AtBoard, IsHere, accepted_of, view}
use Rattle.rcu_board.specs.Views.{cpus, joined}
use Rattle.rcu_board.specs.Words.{words_of}
use Rattle.rcu_board.specs.declared.board.Board.{Board}
use Rattle.rcu_board.specs.declared.board.Seat.{Seat}
use Rattle.rcu_board.specs.declared.view.View.{View}
use Rattle.rcu_part_close.specs.Ends.{HasRoom}
use Rattle.rcu_part_close.specs.declared.ended.ProcessorEnd.{ProcessorEnd}
use Rattle.rcu_part_close.specs.Parts.{HandPart, IsAtRest, IsSoundPart, hand_kept, hand_taken}
use Rattle.rcu_part_lists.specs.ProcessorLists.{Holding, held_in, put_by}
use Rattle.rcu_jobs.specs.declared.callback.Record.{Record}
use Rattle.rcu_numbers.specs.Numbers.{snap_of}
use Rattle.rcu_part_order.proofs.Moves.{placed_all}
use Rattle.rcu_part_order.specs.Records.{numbered_record, numbered_records}
use Rattle.rcu_part_order.specs.Recorded.{left_in, ran_of}
use Rattle.rcu_parts.specs.AtClose.{cpu_part, cpu_parts, first_hand, hand_for, hand_part, hands_after}
use Rattle.rcu_parts.specs.Ending.{AreLong}
use Rattle.rcu_part_hand.specs.Hands.{IsSoundHand}
use Rattle.rcu_part_processor.specs.Lawful.{IsLawful}
use Rattle.rcu_part_steps.specs.Places.{accepted_entry, accepted_list, claim_of, numbered_callback, numbered_callbacks}
use Rattle.rcu_part_processor.specs.Processors.{IsSound, lists_of, view_of}
use Rattle.rcu_parts.specs.Rooms.{FitsCpu}
use Rattle.rcu_parts.proofs.OneByOne.{all_after}
use Rattle.rcu_board.proofs.Facts.{seen-long}
use Rattle.rcu_part_hand.specs.declared.hand.Hand.{Hand}
use Rattle.rcu_part_processor.specs.declared.processor.Processor.{Processor}
use Rattle.std.proofs.lemmas.List.Elements.{All-cons, All-head, All-nil, All-tail}

-- nothing runs where a view joins another, and nothing runs of either
pub still_rests : (v w all : View) → all ≡ joined v w → v.running ≡ [] → w.running ≡ [] → all.running ≡ []
still_rests v w all e h k = ap (λ (u : View). u.running) e ∙ (ap (λ l. l ++ w.running) h ∙ k)

-- a seat's view has a sight of each word of its board
pub is_long_at : (b c : Board) (s : Seat) → c ≡ b → AtBoard c s → length (view s).seen ≡ words_of b.processors
is_long_at b c s same at = subst (λ d. length (view s).seen ≡ words_of d.processors) same (seen-long c s at)

pub one_long : (b c : Board) (s : Seat) → c ≡ b → AtBoard c s → AreLong b.processors (view s ∷ [])
one_long b c s same at = All-cons (λ w. length w.seen ≡ words_of b.processors) (view s) [] (is_long_at b c s same at) (All-nil (λ w. length w.seen ≡ words_of b.processors))

pub both_long : (b c d : Board) (s t : Seat) → c ≡ b → d ≡ b → AtBoard c s → AtBoard d t → AreLong b.processors (view s ∷ view t ∷ [])
both_long b c d s t first second at there =
    All-cons (λ w. length w.seen ≡ words_of b.processors) (view s) (view t ∷ []) (is_long_at b c s first at) (one_long b d t second there)

module _ {J R : Type 0} where
  own_cpu : (p : Processor J R) → cpus (view_of p.state).own ≡ p.state.cpu ∷ []
  own_cpu p = p.state.seat.of_role.own p.state.cpu p.state.role

  -- it isn't away
  is_here : (p : Processor J R) → IsHere (view_of p.state)
  is_here p = omega (arith, p.state.since.word)

  -- a processor that has no hand
  pub rests_alone : (p : Processor J R) → IsAtRest (cpu_part p None)
  rests_alone p = record {
    own_cpu = own_cpu p;
    stamped = p.state.lawful.stamped;
    here = is_here p;
    places = record { processor = p.state.lawful.places; hand = refl };
    claims = p.state.lawful.claims;
    hand_claims = tt;
    ripe = p.state.lawful.ripe;
    hand_ripe = All-nil (λ r. snap_of r.stamp ≤ r.ready);
  }

  -- a processor and its hand
  pub rests_with : (p : Processor J R) (h : Hand J R) → h.state.hand.cpu ≡ p.state.cpu → IsAtRest (cpu_part p (Some (hand_part h)))
  rests_with p h same = record {
    own_cpu = own_cpu p;
    stamped = p.state.lawful.stamped;
    here = is_here p;
    places = record { processor = p.state.lawful.places; hand = h.state.lawful.places };
    claims = p.state.lawful.claims;
    hand_claims = subst (λ (k : ℕ). (view h.state.hand.seat).claims ≡ map (claim_of k) (ran_of h.state.hand.ran)) same h.state.lawful.claims;
    ripe = p.state.lawful.ripe;
    hand_ripe = h.state.lawful.ripe;
  }

  -- ---- what they know of jobs

  sound_part : (key_of : J → ℕ) (gives : ℕ → R → Type 0) (p : Processor J R) (hs : List (Hand J R)) → IsSound key_of gives p.state → All (λ h. IsSoundHand key_of gives h.state) hs → IsSoundPart key_of gives (cpu_part p (first_hand hs))
  sound_part key_of gives p [] sound hands = record { keyed = sound.keyed; own_given = sound.given; hands_given = λ keyed. All-nil (λ r. gives r.key r.receipt) }
  sound_part key_of gives p (h ∷ hs) sound hands = record { keyed = sound.keyed; own_given = sound.given; hands_given = All-head (λ h. IsSoundHand key_of gives h.state) h hs hands }

  sound_for : (key_of : J → ℕ) (gives : ℕ → R → Type 0) (p : Processor J R) (hs : List (Hand J R)) → IsSound key_of gives p.state → All (λ h. IsSoundHand key_of gives h.state) hs → IsSoundPart key_of gives (cpu_part p (hand_for p hs))
  sound_for key_of gives p hs sound hands =
      cond_both p.state.offloadable (first_hand hs) None (λ hand. IsSoundPart key_of gives (cpu_part p hand)) (λ e. sound_part key_of gives p hs sound hands) (λ e. sound_part key_of gives p [] sound (All-nil (λ h. IsSoundHand key_of gives h.state)))

  pub sound_parts : (key_of : J → ℕ) (gives : ℕ → R → Type 0) (ps : List (Processor J R)) (hs : List (Hand J R)) → All (λ p. IsSound key_of gives p.state) ps → All (λ h. IsSoundHand key_of gives h.state) hs → All (IsSoundPart key_of gives) (cpu_parts ps hs)
  sound_parts key_of gives [] hs sound hands = All-nil (IsSoundPart key_of gives)
  sound_parts key_of gives (p ∷ ps) hs sound hands = All-cons (IsSoundPart key_of gives) (cpu_part p (hand_for p hs)) (cpu_parts ps (hands_after p hs)) (sound_for key_of gives p hs (All-head (λ p. IsSound key_of gives p.state) p ps sound) hands)
      (sound_parts key_of gives ps (hands_after p hs) (All-tail (λ p. IsSound key_of gives p.state) p ps sound) (all_after (λ h. IsSoundHand key_of gives h.state) p hs hands))

  -- what was accepted ran, was put on the lane, or is held
  all_counted : (cpu n : ℕ) (v : View) (ran : List (Record R)) (h : Holding J) → IsLawful cpu n v ran h → n ≡ length ran + length (put_by h) + length (held_in h)
  all_counted cpu n v ran h l = ∥∥₁_elim l.places (hlevel props) (λ p.
      let all = placed_all (accepted_list v) (numbered_records ran) (numbered_callbacks (put_by h)) (numbered_callbacks (held_in h)) p in
      omega (arith, all, length-map ran (numbered_record {R = R}), length-map (accepted_of v) accepted_entry, length-map (put_by h) (numbered_callback {J = J}), length-map (held_in h) (numbered_callback {J = J}), l.counted))

  -- room for its records and its hand's, and for as many jobs as were accepted besides
  pub fits_cpu : (p : Processor J R) (hand : Option (HandPart J R)) (ran left all records jobs : ℕ) (room : ProcessorEnd J R) → all ≡ length (ran_of p.state.ran) + ran → records ≡ length (left_in p.state.ran) + left → jobs ≡ p.state.accepted - all
      → HasRoom records jobs room → length (hand_kept hand) ≡ left → length (hand_taken hand) ≡ ran → FitsCpu (cpu_part p hand) room
  fits_cpu p hand ran left all records jobs room many kept rest has hands taken =
      let n = all_counted p.state.cpu p.state.accepted (view_of p.state) (ran_of p.state.ran) (lists_of p.state) p.state.lawful in
      record {
        jobs = jobs;
        empty = subst (λ (k : ℕ). HasRoom k jobs room) (let z : records ≡ length (left_in p.state.ran) + length (hand_kept hand) = omega (arith, kept, hands) in z) has;
        enough = omega (arith, n, many, rest, taken);
      }
