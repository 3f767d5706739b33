use Rattle.std.proofs.Common.{ap, sym, subst}
use Rattle.rcu_lists.specs.Bypasses.{bypass_items}
use Rattle.rcu_lists.specs.Segments.{labelled, advanced_by}
use Rattle.rcu_part_lists.specs.Aims.{AreAimed}
use Rattle.rcu_part_lists.specs.ProcessorLists.{holding}
use Rattle.rcu_part_lists.specs.Lanes.{put_calls}
use Rattle.rcu_jobs.specs.Modes.{is_offloaded}
use Rattle.rcu_part_lists.proofs.Holdings.{left-none, left-few, left-safe, left-aimed, taken-safe, taken-holding, taken-places}
use Rattle.rcu_part_lists.proofs.processor_lists.ProcessorLists.take.Goals as goal

pub invariant_of-self : goal.invariant_of-self
invariant_of-self g c =
    let s = c.args.self.now in
    let xs = labelled s.own in
    let ys = labelled c.take_done.new.self in
    record {
      bypassing = λ e. left-none c.take_done.result xs ys c.take_done.ensures.taken (s.bypassing e);
      alone = s.alone;
      safe = s.safe;
      own_safe = left-safe c.take_done.result xs ys c.take_done.ensures.taken s.own_safe;
      few = left-few (is_offloaded s.mode) c.take_done.result (put_calls s.outlet.rear) (bypass_items s.bypass) xs ys s.bypassing s.alone c.take_done.ensures.taken s.few;
      aimed = subst (λ n. AreAimed n ys) (sym c.take_done.ensures.advanced) (left-aimed (advanced_by s.own) c.take_done.result xs ys c.take_done.ensures.taken c.take_done.ensures.graced s.aimed);
      before = s.before;
    }

pub returns-clause-taken : goal.returns-clause-taken
returns-clause-taken g c =
    let h = holding c.args.self.now in
    let n = record h { own = labelled c.take_done.new.self; advanced = advanced_by c.take_done.new.self } in
    taken-holding c.take_done.result h n c.take_done.ensures.taken (ap (λ k. record h { own = labelled c.take_done.new.self; advanced = k }) c.take_done.ensures.advanced)

pub returns-clause-places : goal.returns-clause-places
returns-clause-places g c =
    let s = c.args.self.now in
    taken-places (is_offloaded s.mode) c.take_done.result (bypass_items s.bypass) (labelled s.own) (labelled c.take_done.new.self) s.bypassing s.alone c.take_done.ensures.taken

pub returns-clause-safe : goal.returns-clause-safe
returns-clause-safe g c =
    let s = c.args.self.now in taken-safe c.take_done.result (labelled s.own) (labelled c.take_done.new.self) c.take_done.ensures.taken s.own_safe
