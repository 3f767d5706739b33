use Rattle.std.proofs.Common.{ap, sym, ◌∙◌, arith}
use Rattle.std.specs.Mem.{FitsInMemory}
use denote.Param.{param}
use Rattle.rcu_part_lists.proofs.Sizes.{in_struct}
use Rattle.rcu_part_steps.specs.declared.begins.ClaimedCallback.{ClaimedCallback}
use Rattle.rcu_part_hand.proofs.InPlace.{some_is}
use Rattle.rcu_part_hand.specs.contracts.in_place.HandInPlace as row
use Rattle.rcu_part_hand.proofs.in_place.HandInPlace.is_followed.Goals as goal

pub first-requires : goal.first-requires
first-requires g c = let h : FitsInMemory (row.the_row (param 0 g.row.J) (param 1 g.row.J-Receipt)) = assumption in in_struct _ _ _ (in_struct _ _ _ (in_struct _ _ _ h))

pub overflow_add-claimed : goal.overflow_add-claimed
overflow_add-claimed g c = let small = (c.args.self.now.state.runs c.in-Some.claimed c.in-Some.is).small in omega (arith, small)

pub snap-requires : goal.snap-requires
snap-requires g c = c.in-Some-first.ensures.safe.0

pub returns : goal.returns
returns g c = λ room k f. let e = some_is c.in-Some.claimed k (sym c.in-Some.is ∙ f) in let first = c.in-Some-first.ensures.first in
    let number = ap (λ (x : ClaimedCallback). x.number) e in let ready = ap (λ (x : ClaimedCallback). x.ready) e in record {
      first = c.in-Some-first.first.now;
      rest = first.0;
      held = first.1;
      next = omega (arith, number, c.if-first-claimed.false);
      over = omega (arith, ready, c.if-snap-claimed.false, c.snap.ensures.value);
      small = c.in-Some-first.ensures.safe.1;
      room = c.has_room_for_two.ensures room;
    }
