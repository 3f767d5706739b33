use Rattle.rcu_part_hand.proofs.InPlace.{some_of}
use Rattle.rcu_part_hand.proofs.in_place.HandInPlace.go_on.Goals as goal

pub begin-requires : goal.begin-requires
begin-requires g c = let w = some_of _ c.requires.runs in (assumption, (assumption, (assumption, (c.finish.ensures.finishes w.0 w.1).0)))

pub returns-clause-goes_on : goal.returns-clause-goes_on
returns-clause-goes_on g c = let w = some_of _ c.requires.runs in record {
  between = c.finish.new.self.state;
  rests = (c.finish.ensures.finishes w.0 w.1).0;
  finishes = c.finish.ensures.finishes;
  begins = c.begin.ensures.begins;
  stops = c.begin.ensures.stops;
  finishes_sound = c.finish.ensures.sound;
  begins_sound = c.begin.ensures.sound;
}

pub returns-clause-counts : goal.returns-clause-counts
returns-clause-counts g c = c.begin.ensures.counts

pub returns-clause-keyed : goal.returns-clause-keyed
returns-clause-keyed g c = c.begin.ensures.keyed

pub returns-then-is_followed-clause-goes_on : goal.returns-then-is_followed-clause-goes_on
returns-then-is_followed-clause-goes_on g c = c.pass_on.ensures.goes_on

pub returns-then-is_followed-clause-keyed : goal.returns-then-is_followed-clause-keyed
returns-then-is_followed-clause-keyed g c = c.pass_on.ensures.keyed
