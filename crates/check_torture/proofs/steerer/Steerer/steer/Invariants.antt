use Rattle.check_torture.specs.Kept.{SteersOn}
use Rattle.check_torture.proofs.steerer.Steerer.steer.Given as goal

abbrev pub invariant-loop : goal.invariant-loop
invariant-loop g l = record {
  next : (goal.iterator-loop g).can_next l.iterator';
  finite : (goal.iterator-loop g).is_finite l.iterator';
  steers : SteersOn l.fn.self l.self;
}
