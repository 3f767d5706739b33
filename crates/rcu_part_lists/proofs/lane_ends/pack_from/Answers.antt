use Rattle.std.proofs.Common.{◌≡◌, List, Option, None, [], ◌∙◌, ap, sym, subst, arith}
use Rattle.std.specs.Prelude.{IfNone, MatchOption}
use Rattle.rcu_lists.specs.Batches.{batch_items}
use Rattle.rcu_lists.specs.Parcels.{parcel_items}
use Rattle.rcu_part_lists.proofs.lane_ends.pack_from.Goals as goal

none-packed : {P Q : Type 0} (r : Option P) (f : Option Q) (A B : Type 0) (C : P → Type 0) → r ≡ None → f ≡ None → A → IfNone f B → MatchOption r (A × B) C
none-packed r f A B C e n a b = rw e (a, rw n at b)

-- what is packed of a batch is packed of one with the same callbacks
same-packed : {P X R : Type 0} (r : Option P) (in_parcel : P → List X) (new mid old : List X) (rooms : List R) → mid ≡ old
    → MatchOption r ((new ≡ mid) × (rooms ≡ [])) (λ p. (in_parcel p ≡ mid) × (new ≡ []))
    → MatchOption r ((new ≡ old) × (rooms ≡ [])) (λ p. (in_parcel p ≡ old) × (new ≡ []))
same-packed r in_parcel new mid old rooms e h = subst (λ bs. MatchOption r ((new ≡ bs) × (rooms ≡ [])) (λ p. (in_parcel p ≡ bs) × (new ≡ []))) e h

pub take_single-requires : goal.take_single-requires
take_single-requires g c = assumption

pub len-requires : goal.len-requires
len-requires g c = assumption

pub pack_whole-requires : goal.pack_whole-requires
pack_whole-requires g c = assumption

pub pack_few-requires : goal.pack_few-requires
pack_few-requires g c = (assumption, omega (arith, c.len.ensures, c.if-len.false))

pub returns-in-Some-clause-packed : goal.returns-in-Some-clause-packed
returns-in-Some-clause-packed g c = let t = c.in-Some.ensures.taken in (sym t.0, t.1)

pub returns-in-Some-clause-left : goal.returns-in-Some-clause-left
returns-in-Some-clause-left g c = omega arith

pub returns-then-len-clause-packed : goal.returns-then-len-clause-packed
returns-then-len-clause-packed g c = same-packed c.pack_whole.result parcel_items _ _ _ _ (ap batch_items c.in_default.ensures.taken.1) c.pack_whole.ensures.packed

pub returns-then-len-clause-left : goal.returns-then-len-clause-left
returns-then-len-clause-left g c = c.pack_whole.ensures.left

pub returns-in_err-room-clause-packed : goal.returns-in_err-room-clause-packed
returns-in_err-room-clause-packed g c =
    none-packed c.from_residual.result c.first_room.result _ _ _ c.from_residual.ensures c.in_err-room.was (ap batch_items c.in_default.ensures.taken.1) c.first_room.ensures.none

pub returns-in_err-room-clause-left : goal.returns-in_err-room-clause-left
returns-in_err-room-clause-left g c = c.first_room.ensures.left

pub returns-clause-packed : goal.returns-clause-packed
returns-clause-packed g c = (c.pack_few.ensures.packed ∙ ap batch_items c.in_default.ensures.taken.1, c.pack_few.ensures.left)

pub returns-clause-left : goal.returns-clause-left
returns-clause-left g c = c.first_room.ensures.left
