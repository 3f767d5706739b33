use Rattle.std.proofs.Common.{refl, ap, sym, ◌∙◌, subst}
use denote.Param.{param}
use Rattle.rcu_part_lists.proofs.Sizes.{processor_lists-bypass}
use Rattle.rcu_lists.specs.Bypasses.{bypass_items}
use Rattle.rcu_lists.specs.Labels.{callbacks_of}
use Rattle.rcu_lists.specs.Segments.{labelled}
use Rattle.rcu_part_lists.specs.ProcessorLists.{holding}
use Rattle.rcu_part_lists.specs.Lanes.{put_calls}
use Rattle.rcu_part_lists.specs.Outgoing.{Outgoing, outgoing}
use Rattle.rcu_part_lists.specs.Limits.{AreFew, AreBelow}
use Rattle.rcu_part_lists.proofs.Holdings.{few-less, not-due, tick-passes, passes-before}
use Rattle.rcu_part_lists.proofs.Switching.{leaving-bypasses}
use Rattle.rcu_part_lists.proofs.processor_lists.ProcessorLists.release.Goals as goal

pub invariant_of-self : goal.invariant_of-self
invariant_of-self g c =
    let s = c.args.self.now in
    let o = outgoing s.outlet.rear s.bypass in
    record {
      bypassing = s.bypassing;
      alone = λ e. ap (λ (x : Outgoing g.row.J.Denot). x.bypass) (c.send_in_tick.ensures.stays (not-due c.args.moment c.args.leaving c.args.urged o (s.alone e))) ∙ s.alone e;
      safe = c.send_in_tick.ensures.safe;
      own_safe = s.own_safe;
      few = subst AreFew (sym (passes-before o (outgoing c.send_in_tick.new.outlet.rear c.send_in_tick.new.bypass) (callbacks_of (labelled s.own)) (tick-passes c.args.moment c.args.leaving c.args.urged o (outgoing c.send_in_tick.new.outlet.rear c.send_in_tick.new.bypass) c.send_in_tick.ensures.stays c.send_in_tick.ensures.releases))) s.few;
      aimed = s.aimed;
      before = λ e. subst (AreBelow s.left) (sym (ap (λ (x : Outgoing g.row.J.Denot). x.put) (c.send_in_tick.ensures.stays (not-due c.args.moment c.args.leaving c.args.urged o (s.alone (leaving-bypasses s.mode e)))))) (s.before e);
    }

pub returns-clause-releases : goal.returns-clause-releases
returns-clause-releases g c =
    let h = holding c.args.self.now in
    record {
      stays = λ e. ap (λ (x : Outgoing g.row.J.Denot). record h { outgoing = x }) (c.send_in_tick.ensures.stays e);
      releases = c.send_in_tick.ensures.releases;
      others = refl;
    }

pub returns-clause-places : goal.returns-clause-places
returns-clause-places g c =
    let s = c.args.self.now in
    let o = outgoing s.outlet.rear s.bypass in
    let n = outgoing c.send_in_tick.new.outlet.rear c.send_in_tick.new.bypass in
    passes-before o n (callbacks_of (labelled s.own)) (tick-passes c.args.moment c.args.leaving c.args.urged o n c.send_in_tick.ensures.stays c.send_in_tick.ensures.releases)

pub send_in_tick-requires : goal.send_in_tick-requires
send_in_tick-requires g c =
    let s = c.args.self.now in
    let h = processor_lists-bypass (param 0 g.row.J) assumption in
    (h, (s.safe, few-less (put_calls s.outlet.rear) (bypass_items s.bypass) (callbacks_of (labelled s.own)) s.few))
