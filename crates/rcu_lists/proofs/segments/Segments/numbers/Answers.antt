use Rattle.std.proofs.Common.{sym}
use Rattle.rcu_lists.proofs.Counts.{numbers-shown, well-formed}
use Rattle.rcu_lists.proofs.segments.Segments.numbers.Goals as goal

pub returns : goal.returns
returns g c = let s = c.args.self.now in record {
  numbers = sym (numbers-shown s.bounds.wait_number s.bounds.ready_number s.bounds.done s.bounds.wait s.bounds.ready s.list.items s.within s.bounds.filled s.bounds.single s.bounds.rising);
  labelled = well-formed s.bounds.wait_number s.bounds.ready_number s.bounds.done s.bounds.wait s.bounds.ready s.list.items s.within (λ e. (s.bounds.filled e).0) s.bounds.rising;
  graced = s.graced;
}
