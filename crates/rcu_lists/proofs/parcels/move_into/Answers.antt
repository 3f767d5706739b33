use Rattle.std.proofs.Common.{◌≡◌, [], ◌∷◌, ◌++◌, Some, ap, ◌∙◌, sym, subst, length, arith, append_assoc, length-append, refl, zero-le}
use Rattle.std.proofs.lemmas.List.{append-nil}
use Rattle.rcu_lists.specs.Batches.{batch_items}
use Rattle.rcu_lists.specs.Filled.{filled, AreFilled}
use Rattle.rcu_lists.proofs.Fills.{filled-snoc, still-filled}
use Rattle.rcu_lists.proofs.parcels.move_into.Goals as goal

pub loop-callback-preserved : goal.loop-callback-preserved
loop-callback-preserved g c =
    let slots = c.loop-callback.slots.items in let x = c.in-Some.callback in let rest = batch_items c.take_first.new.self in
    let first : batch_items c.loop-callback.batch ≡ x ∷ rest = c.in-Some.ensures in
    let more = c.push_reserved.ensures.items in
    record {
      moved = ap (λ l. filled l ++ rest) more ∙ ap (λ l. l ++ rest) (filled-snoc slots x) ∙ append_assoc (filled slots) (x ∷ []) rest ∙ ap (λ l. filled slots ++ l) (sym first) ∙ c.loop-callback.invariant.moved;
      full = subst AreFilled (sym more) (still-filled slots x c.loop-callback.invariant.full);
      room = let n = ap length more ∙ length-append slots (Some x ∷ []) in let k = ap length first in let r = c.loop-callback.invariant.room in let same = c.push_reserved.ensures.capacity in omega arith;
    }

pub loop-callback-init : goal.loop-callback-init
loop-callback-init g c = let none = c.args.room.empty in record {
  moved = ap (λ l. filled l ++ batch_items c.args.batch.now) none;
  full = rw none refl;
  room = let n = ap length none in let wide = c.args.room.wide in let few = c.requires.few in omega arith;
}

pub take_first-requires : goal.take_first-requires
take_first-requires g c = assumption

pub push_reserved-requires : goal.push_reserved-requires
push_reserved-requires g c = let first = ap length c.in-Some.ensures in let room = c.loop-callback.invariant.room in omega (arith, c.loop-callback.slots.ok.1)

pub loop-callback-smaller : goal.loop-callback-smaller
loop-callback-smaller g c = let first = ap length c.in-Some.ensures in omega arith

pub invariant_of-result : goal.invariant_of-result
invariant_of-result g c = record { within = zero-le; full = c.loop-callback.invariant.full }

pub returns : goal.returns
returns g c = let slots = filled c.loop-callback.slots.items in record { moved = sym (append-nil slots) ∙ ap (λ l. slots ++ l) (sym c.in_default.ensures.0) ∙ c.loop-callback.invariant.moved; left = c.in_default.ensures.1 }
