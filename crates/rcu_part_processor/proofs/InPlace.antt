-- What a processor in place is, by its parts.
use Rattle.std.proofs.Common.{◌≡◌, ℕ, List, [], ◌∷◌, ◌++◌, ap, refl, sym, subst, ◌∙◌, true, ◌<◌, ◌≤◌, Option, None, Some}
use Rattle.std.proofs.lemmas.Option.{none-some}
use Rattle.std.proofs.Math.Path.{path_j}
use Rattle.std.proofs.Props.{props}
use Rattle.std.specs.Arc.{arc_value}
use Rattle.rcu_board.specs.Seats.{AtBoard, view}
use Rattle.rcu_board.specs.declared.board.Role.TheVariants.{Processor as AsProcessor}
use Rattle.rcu_numbers.specs.Words.{owes_of}
use Rattle.rcu_numbers.specs.declared.shape.TheConstants.{MOST_CALLS}
use Rattle.rcu_jobs.specs.Records.{Given}
use Rattle.rcu_jobs.specs.declared.callback.Record.{Record}
use Rattle.rcu_part_lists.specs.ProcessorLists.{Holding, holding, passed_on}
use Rattle.rcu_part_order.specs.Places.{Numbered}
use Rattle.rcu_part_order.specs.Recorded.{ran_of}
use Rattle.rcu_part_order.specs.Records.{numbered_records}
use Rattle.rcu_part_steps.specs.Begins.{number_that_runs}
use Rattle.rcu_part_steps.specs.Places.{AreKeyed}
use Rattle.rcu_part_steps.specs.declared.begins.ClaimedCallback.{ClaimedCallback}
use Rattle.rcu_part_processor.specs.InPlace.{IsSoundInPlace, in_place, lists_in, resting}
use Rattle.rcu_part_processor.specs.InPlaceLaw.{RunsAs}
use Rattle.rcu_part_processor.specs.Lawful.{HasPlaces, IsHereSince, IsLawful, StaysLocal}
use Rattle.rcu_part_processor.specs.declared.in_place.ProcessorInPlaceState.{ProcessorInPlaceState}
use Rattle.rcu_part_processor.specs.declared.processor.ProcessorState.{ProcessorState}
use Rattle.rcu_part_processor.proofs.Keeping.{places_of}

abbrev or_else : {A : Type 0} → A → Option A → A
or_else a None = a
or_else a (Some x) = x

pub some_is : {A : Type 0} (a b : A) → Some a ≡ Some b → a ≡ b
some_is a b e = ap (or_else a) e

-- that no claim runs can be shown in one way alone
pub none_once : (o : Option ClaimedCallback) (e f : o ≡ None) → e ≡ f
none_once o e f = let set : IsSet (Option ClaimedCallback) = hlevel props in set o None e f

-- nor that a list is empty
abbrev at_nil : {A : Type 0} → List A → Type 0
at_nil [] = Unit {0}
at_nil (x ∷ xs) = ⊥

abbrev nil_by : {A : Type 0} (xs : List A) → at_nil xs → [] ≡ xs
nil_by [] u = refl
nil_by (x ∷ xs) u = absurd u

nil_back : {A : Type 0} (xs : List A) (p : [] ≡ xs) → nil_by xs (subst at_nil p tt) ≡ p
nil_back xs p = path_j (λ ys q. nil_by ys (subst at_nil q tt) ≡ q) refl p

nil_once : {A : Type 0} (xs : List A) → IsProp (xs ≡ [])
nil_once [] p q = sym (nil_back [] p) ∙ nil_back [] q
nil_once (x ∷ xs) p q = absurd (let f : x ∷ xs ≡ [] = p in cc)

module _ {J R : Type 0} where
  -- the same lists and records
  pub sound_same_in_place : (key_of : J → ℕ) (gives : ℕ → R → Type 0) (p q : ProcessorInPlaceState J R) → lists_in q ≡ lists_in p → ran_of q.ran ≡ ran_of p.ran → IsSoundInPlace key_of gives p → IsSoundInPlace key_of gives q
  sound_same_in_place key_of gives p q lists ran s = record {
    keyed = subst (λ (h : Holding J). AreKeyed key_of (passed_on h)) (sym lists) s.keyed;
    given = subst (λ (rs : List (Record R)). Given gives rs) (sym ran) s.given;
  }

  -- what was passed on and is held is the same, and so are the records
  pub sound_moved_in_place : (key_of : J → ℕ) (gives : ℕ → R → Type 0) (p q : ProcessorInPlaceState J R) → passed_on (lists_in q) ≡ passed_on (lists_in p) → ran_of q.ran ≡ ran_of p.ran → IsSoundInPlace key_of gives p → IsSoundInPlace key_of gives q
  sound_moved_in_place key_of gives p q passed ran s = record {
    keyed = subst (AreKeyed key_of) (sym passed) s.keyed;
    given = subst (λ (rs : List (Record R)). Given gives rs) (sym ran) s.given;
  }

  -- its lists have their places, whether a claim of it runs or not
  pub places_in_place : (p : ProcessorInPlaceState J R) → (claimed : List Numbered) × HasPlaces p.accepted (view p.seat) claimed (lists_in p)
  places_in_place p = by p.claimed refl where
    by : (o : Option ClaimedCallback) → p.claimed ≡ o → (claimed : List Numbered) × HasPlaces p.accepted (view p.seat) claimed (lists_in p)
    by None e = (numbered_records (ran_of p.ran), places_of p.cpu p.accepted (view p.seat) (ran_of p.ran) (lists_in p) (p.rests e))
    by (Some c) e = (numbered_records (ran_of p.ran) ++ number_that_runs c ∷ [], (p.runs c e).lawful.has)

  -- the same processor, with a claim or none
  abbrev with_claim : (p : ProcessorInPlaceState J R) (o : Option ClaimedCallback) → (o ≡ None → IsLawful p.cpu p.accepted (view p.seat) (ran_of p.ran) (holding p.lists))
      → ((c : ClaimedCallback) → o ≡ Some c → RunsAs p.cpu p.accepted c (view p.seat) p.ran (holding p.lists)) → ProcessorInPlaceState J R
  with_claim p o rests runs = record p { claimed = o; rests = rests; runs = runs }

  claim_none : (p : ProcessorInPlaceState J R) (o : Option ClaimedCallback) (e : o ≡ None) (rests : o ≡ None → IsLawful p.cpu p.accepted (view p.seat) (ran_of p.ran) (holding p.lists))
      (runs : (c : ClaimedCallback) → o ≡ Some c → RunsAs p.cpu p.accepted c (view p.seat) p.ran (holding p.lists)) → with_claim p o rests runs ≡ with_claim p None (λ x. rests e) (λ c x. absurd (none-some c x))
  claim_none p None e rests runs = let one : rests ≡ (λ x. rests e) = λ i x. ap rests (none_once None x e) i in
      let two : runs ≡ (λ c x. absurd (none-some c x)) = λ i c x. (let q : runs c x ≡ absurd (none-some c x) = absurd (none-some c x) in q i) in
      ap (λ r. with_claim p None r runs) one ∙ ap (λ r. with_claim p None (λ x. rests e) r) two
  claim_none p (Some c) e rests runs = absurd (none-some c (sym e))

  -- a processor in place of which no claim runs is the one that was put on
  pub rests_as : (p : ProcessorInPlaceState J R) (e : p.claimed ≡ None) → p ≡ in_place (resting p e)
  rests_as p e = claim_none p p.claimed e p.rests p.runs

  -- what is known of a processor is known in one way alone
  pub processor_once : (o : ProcessorState J R) (here : AtBoard (arc_value o.board) o.seat) (role : o.seat.role ≡ AsProcessor o.cpu) (there : o.cpu < (arc_value o.board).processors) (bit : o.offloadable ≡ true → owes_of (arc_value o.board).offloadable o.cpu ≡ 1) (local : StaysLocal o.offloadable (holding o.lists)) (small : (o.accepted ≤ o.limit) × (o.limit ≤ MOST_CALLS)) (since : IsHereSince o.passed (view o.seat)) (lawful : IsLawful o.cpu o.accepted (view o.seat) (ran_of o.ran) (holding o.lists))
      → o ≡ record o { here = here; role = role; there = there; bit = bit; local = local; small = small; since = since; lawful = lawful }
  processor_once o here role there bit local small since lawful =
      let is_here : IsProp (AtBoard (arc_value o.board) o.seat) = hlevel props in
      let is_role : IsProp (o.seat.role ≡ AsProcessor o.cpu) = hlevel props in
      let is_there : IsProp (o.cpu < (arc_value o.board).processors) = hlevel props in
      let is_bit : IsProp (o.offloadable ≡ true → owes_of (arc_value o.board).offloadable o.cpu ≡ 1) = hlevel props in
      let is_local : IsProp (StaysLocal o.offloadable (holding o.lists)) = hlevel (props, nil_once) in
      let is_small : IsProp ((o.accepted ≤ o.limit) × (o.limit ≤ MOST_CALLS)) = hlevel props in
      let is_since : IsProp (IsHereSince o.passed (view o.seat)) = hlevel props in
      let is_lawful : IsProp (IsLawful o.cpu o.accepted (view o.seat) (ran_of o.ran) (holding o.lists)) = hlevel props in
      ap (λ x. record o { here = x }) (is_here o.here here)
      ∙ (ap (λ x. record o { here = here; role = x }) (is_role o.role role)
      ∙ (ap (λ x. record o { here = here; role = role; there = x }) (is_there o.there there)
      ∙ (ap (λ x. record o { here = here; role = role; there = there; bit = x }) (is_bit o.bit bit)
      ∙ (ap (λ x. record o { here = here; role = role; there = there; bit = bit; local = x }) (is_local o.local local)
      ∙ (ap (λ x. record o { here = here; role = role; there = there; bit = bit; local = local; small = x }) (is_small o.small small)
      ∙ (ap (λ x. record o { here = here; role = role; there = there; bit = bit; local = local; small = small; since = x }) (is_since o.since since)
      ∙ (ap (λ x. record o { here = here; role = role; there = there; bit = bit; local = local; small = small; since = since; lawful = x }) (is_lawful o.lawful lawful))))))))
