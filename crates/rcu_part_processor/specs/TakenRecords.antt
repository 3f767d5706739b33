-- Records that are taken out of a processor: docs/specification/surface.md, "rcu_parts", `take_records`.
use Rattle.std.specs.Prelude.{◌≡◌}
use Rattle.rcu_part_order.specs.Recorded.{as_taken}
use Rattle.rcu_part_processor.specs.InPlace.{StaysResting}
use Rattle.rcu_part_processor.specs.Processors.{lists_of, records_of, view_of}
use Rattle.rcu_part_processor.specs.declared.in_place.ProcessorInPlaceState.{ProcessorInPlaceState}
use Rattle.rcu_part_processor.specs.declared.processor.ProcessorState.{ProcessorState}

module _ {J R : Type 0} where
  -- The records that may be taken out are gone; what it knows, accepted and holds stays.
  pub record OnlyTakes (p q : ProcessorState J R) : Type 0 where
    pub records : records_of q ≡ as_taken (records_of p)
    pub view : view_of q ≡ view_of p
    pub count : q.accepted ≡ p.accepted
    pub lists : lists_of q ≡ lists_of p

  abbrev pub StaysTaking : ProcessorInPlaceState J R → ProcessorInPlaceState J R → Type 0
  StaysTaking p q = StaysResting OnlyTakes p q
