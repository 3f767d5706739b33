use Rattle.rcu_part_processor.proofs.in_place.ProcessorInPlace.call_rcu.Goals as goal

pub returns : goal.returns
returns g c = record { calls = c.call.ensures.calls }

pub call-requires : goal.call-requires
call-requires g c = assumption
