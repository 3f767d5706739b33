use Rattle.std.proofs.Common.{◌≡◌, true, false, refl, ap, sym, ◌∙◌, List, subst}
use denote.Param.{param}
use Rattle.rcu_part_lists.proofs.Sizes.{processor_lists-bypass}
use Rattle.std.proofs.lemmas.List.Elements.{All-push}
use Rattle.rcu_lists.specs.Bypasses.{bypass_items}
use Rattle.rcu_lists.specs.Labels.{Labelled, callbacks_of}
use Rattle.rcu_lists.specs.Segments.{labelled, advanced_by}
use Rattle.rcu_part_lists.specs.Aims.{AreAimed}
use Rattle.rcu_part_lists.specs.ProcessorLists.{holding, passed_on}
use Rattle.rcu_part_lists.specs.Lanes.{put_calls}
use Rattle.rcu_jobs.specs.Modes.{is_offloaded}
use Rattle.rcu_part_lists.specs.Outgoing.{Outgoing, outgoing}
use Rattle.rcu_part_lists.specs.Limits.{AreFew, AreSafe, IsSafe}
use Rattle.rcu_part_lists.proofs.Aims.{aimed-push}
use Rattle.rcu_part_lists.proofs.Holdings.{hold-few, one-more, hold-passes, placed-out, placed-own, callbacks-pushed}
use Rattle.rcu_part_lists.proofs.Switching.{leaving-bypasses}
use Rattle.rcu_part_lists.proofs.Releases.{other}
use Rattle.rcu_part_lists.proofs.processor_lists.ProcessorLists.place.Goals as goal

pub invariant_of-self : goal.invariant_of-self
invariant_of-self g c =
    let s = c.args.self.now in
    let o = outgoing s.outlet.rear s.bypass in
    let n = outgoing c.hold_or_send.new.outlet.rear c.hold_or_send.new.bypass in
    let on : is_offloaded s.mode ≡ true = sym c.is_offloaded.ensures ∙ c.if-is_offloaded.true in
    record {
      bypassing = s.bypassing;
      alone = λ e. absurd (other (is_offloaded s.mode) on e);
      safe = c.hold_or_send.ensures.safe;
      own_safe = s.own_safe;
      few = subst AreFew (sym (placed-out o n c.args.callback (labelled s.own) (s.bypassing on) (hold-passes c.args.moment c.args.kind c.args.callback o n c.hold_or_send.ensures.waits c.hold_or_send.ensures.releases))) (one-more (passed_on (holding s)) c.args.callback c.requires.few);
      aimed = s.aimed;
      before = λ e. absurd (other (is_offloaded s.mode) on (leaving-bypasses s.mode e));
    }

pub enqueue-requires : goal.enqueue-requires
enqueue-requires g c = c.requires.ready.1 (sym c.is_offloaded.ensures ∙ c.if-is_offloaded.false)

pub invariant_of-self-else-is_offloaded : goal.invariant_of-self-else-is_offloaded
invariant_of-self-else-is_offloaded g c =
    let s = c.args.self.now in
    let off : is_offloaded s.mode ≡ false = sym c.is_offloaded.ensures ∙ c.if-is_offloaded.false in
    let xs = labelled s.own in
    record {
      bypassing = λ e. absurd (other (is_offloaded s.mode) e off);
      alone = s.alone;
      safe = s.safe;
      own_safe = subst AreSafe (sym (callbacks-pushed xs (labelled c.enqueue.new.self) c.args.callback c.enqueue.ensures.list)) (All-push IsSafe (callbacks_of xs) c.args.callback s.own_safe c.requires.safe);
      few = subst AreFew (sym (placed-own (put_calls s.outlet.rear) (bypass_items s.bypass) (callbacks_of xs) (callbacks_of (labelled c.enqueue.new.self)) c.args.callback (callbacks-pushed xs (labelled c.enqueue.new.self) c.args.callback c.enqueue.ensures.list))) (one-more (passed_on (holding s)) c.args.callback c.requires.few);
      aimed = subst (λ n. AreAimed n (labelled c.enqueue.new.self)) (sym c.enqueue.ensures.advanced) (subst (AreAimed (advanced_by s.own)) (sym c.enqueue.ensures.list) (aimed-push (advanced_by s.own) xs c.args.callback s.aimed));
      before = s.before;
    }

pub returns-then-is_offloaded-clause-takes : goal.returns-then-is_offloaded-clause-takes
returns-then-is_offloaded-clause-takes g c =
    let s = c.args.self.now in
    let on : is_offloaded s.mode ≡ true = sym c.is_offloaded.ensures ∙ c.if-is_offloaded.true in
    let h = holding s in
    record {
      own = λ e. absurd (other (is_offloaded s.mode) on e);
      waits = λ _ e. ap (λ (x : Outgoing g.row.J.Denot). record h { outgoing = x }) (c.hold_or_send.ensures.waits e);
      releases = λ _ e. (c.hold_or_send.ensures.releases e, refl);
    }

pub returns-then-is_offloaded-clause-places : goal.returns-then-is_offloaded-clause-places
returns-then-is_offloaded-clause-places g c =
    let s = c.args.self.now in
    let on : is_offloaded s.mode ≡ true = sym c.is_offloaded.ensures ∙ c.if-is_offloaded.true in
    let o = outgoing s.outlet.rear s.bypass in
    let n = outgoing c.hold_or_send.new.outlet.rear c.hold_or_send.new.bypass in
    placed-out o n c.args.callback (labelled s.own) (s.bypassing on) (hold-passes c.args.moment c.args.kind c.args.callback o n c.hold_or_send.ensures.waits c.hold_or_send.ensures.releases)

pub returns-else-is_offloaded-clause-takes : goal.returns-else-is_offloaded-clause-takes
returns-else-is_offloaded-clause-takes g c =
    let s = c.args.self.now in
    let off : is_offloaded s.mode ≡ false = sym c.is_offloaded.ensures ∙ c.if-is_offloaded.false in
    let h = holding s in
    record {
      own = λ _. ap (λ n. record h { own = labelled c.enqueue.new.self; advanced = n }) c.enqueue.ensures.advanced ∙ ap (λ (ws : List (Labelled g.row.J.Denot)). record h { own = ws }) c.enqueue.ensures.list;
      waits = λ e. absurd (other (is_offloaded s.mode) e off);
      releases = λ e. absurd (other (is_offloaded s.mode) e off);
    }

pub returns-else-is_offloaded-clause-places : goal.returns-else-is_offloaded-clause-places
returns-else-is_offloaded-clause-places g c =
    let s = c.args.self.now in
    placed-own (put_calls s.outlet.rear) (bypass_items s.bypass) (callbacks_of (labelled s.own)) (callbacks_of (labelled c.enqueue.new.self)) c.args.callback (callbacks-pushed (labelled s.own) (labelled c.enqueue.new.self) c.args.callback c.enqueue.ensures.list)

pub hold_or_send-requires : goal.hold_or_send-requires
hold_or_send-requires g c =
    let s = c.args.self.now in
    (processor_lists-bypass (param 0 g.row.J) assumption, (c.requires.ready.0 (sym c.is_offloaded.ensures ∙ c.if-is_offloaded.true), (s.safe, (c.requires.safe, hold-few (put_calls s.outlet.rear) (bypass_items s.bypass) (callbacks_of (labelled s.own)) c.args.callback c.requires.few))))

pub returns-then-is_offloaded-clause-lane : goal.returns-then-is_offloaded-clause-lane
returns-then-is_offloaded-clause-lane g c = c.hold_or_send.ensures.lane

pub returns-then-is_offloaded-clause-advanced : goal.returns-then-is_offloaded-clause-advanced
returns-then-is_offloaded-clause-advanced g c = refl

pub returns-else-is_offloaded-clause-lane : goal.returns-else-is_offloaded-clause-lane
returns-else-is_offloaded-clause-lane g c = refl

pub returns-else-is_offloaded-clause-advanced : goal.returns-else-is_offloaded-clause-advanced
returns-else-is_offloaded-clause-advanced g c = c.enqueue.ensures.advanced
