use Rattle.rcu_part_processor.specs.InPlace.{resting}
use Rattle.rcu_part_processor.proofs.InPlace.{processor_once}
use Rattle.rcu_part_processor.proofs.in_place.ProcessorInPlace.into_processor.Goals as goal

pub invariant_of-state : goal.invariant_of-state
invariant_of-state g c = let s = c.args.self.state in record {
  here = s.here;
  role = s.role;
  there = s.there;
  bit = s.bit;
  local = s.local;
  small = s.small;
  since = s.since;
  lawful = s.rests c.requires.rests;
}

pub returns : goal.returns
returns g c = record { same = λ e. processor_once (resting c.args.self.state e) _ _ _ _ _ _ _ _ }
