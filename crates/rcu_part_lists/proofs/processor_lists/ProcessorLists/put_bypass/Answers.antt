use Rattle.std.proofs.Common.{refl, ap, sym, ◌∙◌, subst}
use denote.Param.{param}
use Rattle.rcu_part_lists.proofs.Sizes.{processor_lists-bypass}
use Rattle.rcu_lists.specs.Bypasses.{bypass_items}
use Rattle.rcu_lists.specs.Labels.{callbacks_of}
use Rattle.rcu_lists.specs.Release.{is_any}
use Rattle.rcu_lists.specs.Segments.{labelled}
use Rattle.rcu_part_lists.specs.Lanes.{put_calls}
use Rattle.rcu_part_lists.specs.Outgoing.{Outgoing, outgoing}
use Rattle.rcu_part_lists.specs.Limits.{AreFew, AreBelow}
use Rattle.rcu_part_lists.proofs.Holdings.{few-less, passes-before}
use Rattle.rcu_part_lists.proofs.Releases.{released-any-passes}
use Rattle.rcu_part_lists.proofs.Switching.{leaving-bypasses}
use Rattle.rcu_part_lists.proofs.processor_lists.ProcessorLists.put_bypass.Goals as goal

pub invariant_of-self : goal.invariant_of-self
invariant_of-self g c =
    let s = c.args.self.now in
    let o = outgoing s.outlet.rear s.bypass in
    let n = outgoing c.send_if_any.new.outlet.rear c.send_if_any.new.bypass in
    let r = c.send_if_any.ensures.released in
    record {
      bypassing = s.bypassing;
      alone = λ e. ap (λ (x : Outgoing g.row.J.Denot). x.bypass) (r.none (ap is_any (s.alone e))) ∙ s.alone e;
      safe = c.send_if_any.ensures.safe;
      own_safe = s.own_safe;
      few = subst AreFew (sym (passes-before o n (callbacks_of (labelled s.own)) (released-any-passes o n r))) s.few;
      aimed = s.aimed;
      before = λ e. subst (AreBelow s.left) (sym (ap (λ (x : Outgoing g.row.J.Denot). x.put) (r.none (ap is_any (s.alone (leaving-bypasses s.mode e)))))) (s.before e);
    }

pub returns-clause-puts : goal.returns-clause-puts
returns-clause-puts g c = record { outgoing = c.send_if_any.ensures.released; others = refl }

pub returns-clause-places : goal.returns-clause-places
returns-clause-places g c =
    let s = c.args.self.now in
    let o = outgoing s.outlet.rear s.bypass in
    let n = outgoing c.send_if_any.new.outlet.rear c.send_if_any.new.bypass in
    passes-before o n (callbacks_of (labelled s.own)) (released-any-passes o n c.send_if_any.ensures.released)

pub send_if_any-requires : goal.send_if_any-requires
send_if_any-requires g c =
    let s = c.args.self.now in
    let h = processor_lists-bypass (param 0 g.row.J) assumption in
    (h, (s.safe, few-less (put_calls s.outlet.rear) (bypass_items s.bypass) (callbacks_of (labelled s.own)) s.few))
