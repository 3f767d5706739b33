use Rattle.std.proofs.Common.{ap, refl}
use Rattle.std.specs.List.{flat_map}
use Rattle.rcu_lists.specs.Batches.{batch_items}
use Rattle.rcu_lists.specs.Parcels.{parcel_items}
use Rattle.rcu_part_lists.specs.Lanes.{drawn_calls}
use Rattle.rcu_part_lists.proofs.Fetches.{fetched-drawn, fetched-safe}
use Rattle.rcu_part_lists.proofs.Pieces.{ends-of, before-drawn}
use denote.Param.{param}
use Rattle.rcu_part_lists.proofs.Sizes.{held-batch}
use Rattle.rcu_part_lists.proofs.Releases.{other}
use Rattle.rcu_part_lists.proofs.hand.Held.fetch.Goals as goal

pub draw_into-requires : goal.draw_into-requires
draw_into-requires g c = (held-batch (param 0 g.row.J) assumption, c.is_empty.ensures.0 c.if-not-is_empty.false)

pub invariant_of-self : goal.invariant_of-self
invariant_of-self g c = let d = c.draw_into.ensures in record {
  order = ends-of (drawn_calls c.args.self.now.inlet.front) (drawn_calls c.draw_into.new.self.front) (batch_items c.draw_into.new.batch) (fetched-drawn c.draw_into.result (drawn_calls c.args.self.now.inlet.front) (drawn_calls c.draw_into.new.self.front) (batch_items c.draw_into.new.batch)
      (λ e. (c.draw_into.ensures.drawn e).0) (λ n. ap (flat_map parcel_items) (c.draw_into.ensures.none n).0) (λ n. (c.draw_into.ensures.none n).1));
  safe = fetched-safe c.draw_into.result (batch_items c.draw_into.new.batch) (λ e. (d.allowed e).0) (λ n. (d.none n).1);
}

pub returns-clause-held : goal.returns-clause-held
returns-clause-held g c = λ n. absurd (n (c.is_empty.ensures.0 c.if-not-is_empty.false))

pub returns-clause-drawn : goal.returns-clause-drawn
returns-clause-drawn g c = λ _. fetched-drawn c.draw_into.result (drawn_calls c.args.self.now.inlet.front) (drawn_calls c.draw_into.new.self.front) (batch_items c.draw_into.new.batch)
    (λ e. (c.draw_into.ensures.drawn e).0) (λ n. ap (flat_map parcel_items) (c.draw_into.ensures.none n).0) (λ n. (c.draw_into.ensures.none n).1)

pub returns-clause-none : goal.returns-clause-none
returns-clause-none g c = λ n. (c.is_empty.ensures.0 c.if-not-is_empty.false, (c.draw_into.ensures.none n).1)

pub returns-clause-taken : goal.returns-clause-taken
returns-clause-taken g c =
    before-drawn (drawn_calls c.args.self.now.inlet.front) (batch_items c.args.self.now.batch) (drawn_calls c.draw_into.new.self.front) (batch_items c.draw_into.new.batch) (c.is_empty.ensures.0 c.if-not-is_empty.false) (fetched-drawn c.draw_into.result (drawn_calls c.args.self.now.inlet.front) (drawn_calls c.draw_into.new.self.front) (batch_items c.draw_into.new.batch)
    (λ e. (c.draw_into.ensures.drawn e).0) (λ n. ap (flat_map parcel_items) (c.draw_into.ensures.none n).0) (λ n. (c.draw_into.ensures.none n).1))

pub is_empty-requires : goal.is_empty-requires
is_empty-requires g c = held-batch (param 0 g.row.J) assumption

pub returns-then-not-is_empty-clause-lane : goal.returns-then-not-is_empty-clause-lane
returns-then-not-is_empty-clause-lane g c = refl

pub returns-then-not-is_empty-clause-held : goal.returns-then-not-is_empty-clause-held
returns-then-not-is_empty-clause-held g c = λ _. (refl, refl, refl)

pub returns-then-not-is_empty-clause-drawn : goal.returns-then-not-is_empty-clause-drawn
returns-then-not-is_empty-clause-drawn g c = λ e. absurd (other c.is_empty.result (c.is_empty.ensures.1 e) c.if-not-is_empty.true)

pub returns-then-not-is_empty-clause-none : goal.returns-then-not-is_empty-clause-none
returns-then-not-is_empty-clause-none g c = λ n. absurd (n refl)

pub returns-then-not-is_empty-clause-taken : goal.returns-then-not-is_empty-clause-taken
returns-then-not-is_empty-clause-taken g c = refl

pub returns-clause-lane : goal.returns-clause-lane
returns-clause-lane g c = c.draw_into.ensures.lane

pub returns-clause-stops : goal.returns-clause-stops
returns-clause-stops g c = c.draw_into.ensures.stops

pub returns-then-not-is_empty-clause-stops : goal.returns-then-not-is_empty-clause-stops
returns-then-not-is_empty-clause-stops g c = tt
