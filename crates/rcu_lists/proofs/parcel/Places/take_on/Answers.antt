use Rattle.std.proofs.Common.{◌≡◌, [], ◌∷◌, ◌++◌, ◌+◌, ap, ◌∙◌, sym, subst, length, arith, append_assoc}
use Rattle.std.proofs.lemmas.List.{append-nil}
use Rattle.rcu_lists.specs.Batches.{batch_items}
use Rattle.rcu_lists.specs.Blocks.{BlockRoom}
use Rattle.rcu_lists.specs.Parcels.{places_items}
use Rattle.rcu_lists.proofs.parcel.Places.take_on.Goals as goal

pub take_first-requires : goal.take_first-requires
take_first-requires g c = assumption

pub add-requires : goal.add-requires
add-requires g c = let first = ap length c.in-Some.ensures in let room = c.loop-callback.invariant.room in omega arith

pub loop-callback-smaller : goal.loop-callback-smaller
loop-callback-smaller g c = let first = ap length c.in-Some.ensures in omega arith

pub loop-callback-preserved : goal.loop-callback-preserved
loop-callback-preserved g c =
    let old = places_items c.loop-callback.self in let x = c.in-Some.callback in let rest = batch_items c.take_first.new.self in
    let more : length (batch_items c.loop-callback.batch) ≡ length rest + 1 = let n = ap length c.in-Some.ensures in omega arith in record {
      moved = ap (λ l. l ++ rest) c.add.ensures.items ∙ append_assoc old (x ∷ []) rest ∙ ap (λ l. old ++ l) (sym c.in-Some.ensures) ∙ c.loop-callback.invariant.moved;
      room = c.add.ensures.room (length rest) (subst (BlockRoom c.loop-callback.self) more c.loop-callback.invariant.room);
    }

pub returns-clause-items : goal.returns-clause-items
returns-clause-items g c = let all = places_items c.loop-callback.self in
    sym (append-nil all) ∙ ap (λ l. all ++ l) (sym c.in_default.ensures.0) ∙ c.loop-callback.invariant.moved

pub returns-clause-left : goal.returns-clause-left
returns-clause-left g c = c.in_default.ensures.1
