use Rattle.std.proofs.Common.{sym}
use Rattle.rcu_lists.proofs.Counts.{count-done, well-formed}
use Rattle.rcu_lists.proofs.segments.Segments.done_len.Goals as goal

pub returns-clause-number : goal.returns-clause-number
returns-clause-number g c = let s = c.args.self.now in sym (count-done s.bounds.wait_number s.bounds.ready_number s.bounds.done s.bounds.wait s.bounds.ready s.list.items s.within)

pub returns-clause-labelled : goal.returns-clause-labelled
returns-clause-labelled g c = let s = c.args.self.now in well-formed s.bounds.wait_number s.bounds.ready_number s.bounds.done s.bounds.wait s.bounds.ready s.list.items s.within (λ e. (s.bounds.filled e).0) s.bounds.rising
