-- What a hand in place is, by its parts.
use Rattle.std.proofs.Common.{◌≡◌, ◌≢◌, ℕ, [], ap, refl, sym, ◌∙◌, Option, None, Some, IfSome}
use Rattle.std.proofs.lemmas.Option.{none-some}
use Rattle.std.proofs.Props.{props}
use Rattle.rcu_jobs.specs.declared.Stop.{Stop}
use Rattle.rcu_part_lists.specs.Lanes.{IsStopOfLane}
use Rattle.rcu_part_order.specs.Recorded.{ran_of}
use Rattle.rcu_part_steps.specs.declared.begins.ClaimedCallback.{ClaimedCallback}
use Rattle.rcu_part_hand.specs.HandLaw.{IsLawfulHand}
use Rattle.rcu_part_hand.specs.Hands.{StopsAt, hand_held}
use Rattle.rcu_part_hand.specs.InPlace.{in_place, resting}
use Rattle.rcu_part_hand.specs.InPlaceLaw.{RunsAs}
use Rattle.rcu_part_hand.specs.declared.in_place.HandInPlaceState.{HandInPlaceState}
use Rattle.rcu_board.specs.Seats.{view}
use Rattle.rcu_part_lists.specs.Helds.{taken_by}
use Rattle.rcu_part_hand.specs.declared.hand.HandState.{HandState}
use Rattle.rcu_part_hand.proofs.HandRuns.{stops_empty}

abbrev or_else : {A : Type 0} → A → Option A → A
or_else a None = a
or_else a (Some x) = x

pub some_is : {A : Type 0} (a b : A) → Some a ≡ Some b → a ≡ b
some_is a b e = ap (or_else a) e

pub some_of : {A : Type 0} (o : Option A) → o ≢ None → (x : A) × (o ≡ Some x)
some_of None none = absurd (none refl)
some_of (Some x) none = (x, refl)

-- that no claim runs can be shown in one way alone
pub none_once : (o : Option ClaimedCallback) (e f : o ≡ None) → e ≡ f
none_once o e f = let set : IsSet (Option ClaimedCallback) = hlevel props in set o None e f

module _ {J R : Type 0} where
  -- where a draw gave nothing, a begin of any of these hands stops for that
  pub stops_in_place : (B : Type 0) (hand : B → HandState J R) (stop : Option Stop) → ((b : B) → stop ≢ None → hand_held (hand b) ≡ []) → IfSome stop IsStopOfLane → IfSome stop (λ s. (b : B) (n seen : ℕ) → StopsAt s n n seen (hand b))
  stops_in_place B hand None none why = tt
  stops_in_place B hand (Some s) none why = λ b. stops_empty (Some s) (hand b) (none b) why

  -- the same hand, with a claim or none
  abbrev with_claim : (p : HandInPlaceState J R) (o : Option ClaimedCallback) → (o ≡ None → IsLawfulHand p.hand.cpu (view p.hand.seat) (ran_of p.hand.ran) (taken_by p.hand.held))
      → ((c : ClaimedCallback) → o ≡ Some c → RunsAs p.hand.cpu c (view p.hand.seat) p.hand.ran (taken_by p.hand.held)) → HandInPlaceState J R
  with_claim p o rests runs = record p { claimed = o; rests = rests; runs = runs }

  claim_none : (p : HandInPlaceState J R) (o : Option ClaimedCallback) (e : o ≡ None) (rests : o ≡ None → IsLawfulHand p.hand.cpu (view p.hand.seat) (ran_of p.hand.ran) (taken_by p.hand.held))
      (runs : (c : ClaimedCallback) → o ≡ Some c → RunsAs p.hand.cpu c (view p.hand.seat) p.hand.ran (taken_by p.hand.held)) → with_claim p o rests runs ≡ with_claim p None (λ x. rests e) (λ c x. absurd (none-some c x))
  claim_none p None e rests runs = let one : rests ≡ (λ x. rests e) = λ i x. ap rests (none_once None x e) i in
      let two : runs ≡ (λ c x. absurd (none-some c x)) = λ i c x. (let q : runs c x ≡ absurd (none-some c x) = absurd (none-some c x) in q i) in
      ap (λ r. with_claim p None r runs) one ∙ ap (λ r. with_claim p None (λ x. rests e) r) two
  claim_none p (Some c) e rests runs = absurd (none-some c (sym e))

  -- a hand in place of which no claim runs is the one that was put on
  pub rests_as : (p : HandInPlaceState J R) (e : p.claimed ≡ None) → p ≡ in_place (resting p e)
  rests_as p e = claim_none p p.claimed e p.rests p.runs

  -- what is known of a hand is known in one way alone
  pub hand_once : (h : HandState J R) (lawful : IsLawfulHand h.hand.cpu (view h.hand.seat) (ran_of h.hand.ran) (taken_by h.hand.held)) → h ≡ record h { lawful = lawful }
  hand_once h lawful =
      let one : IsProp (IsLawfulHand h.hand.cpu (view h.hand.seat) (ran_of h.hand.ran) (taken_by h.hand.held)) = hlevel props in
      ap (λ x. record h { lawful = x }) (one h.lawful lawful)
