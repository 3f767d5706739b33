use Rattle.std.proofs.Common.{◌++◌, ◌≡◌, true, false, sym, ◌∙◌, List, subst, refl, ap}
use Rattle.rcu_lists.specs.Bypasses.{bypass_items, BypassRoom}
use Rattle.rcu_lists.specs.Labels.{Labelled, callbacks_of}
use Rattle.rcu_lists.specs.Segments.{labelled, advanced_by, SegmentsRoom}
use Rattle.rcu_part_lists.specs.Aims.{AreAimed}
use Rattle.rcu_part_lists.specs.Lanes.{put_calls}
use Rattle.rcu_jobs.specs.Modes.{is_offloaded}
use Rattle.rcu_part_lists.specs.Limits.{AreFew, AreSafe}
use Rattle.rcu_part_lists.proofs.Holdings.{on-ok}
use Rattle.rcu_part_lists.proofs.Releases.{other, same_outgoing}
use denote.Param.{param}
use Rattle.rcu_part_lists.proofs.Sizes.{processor_lists-bypass}
use Rattle.rcu_part_lists.specs.ProcessorLists.{holding}
use Rattle.rcu_part_lists.specs.Outgoing.{Outgoing, outgoing}
use Rattle.rcu_part_lists.proofs.processor_lists.ProcessorLists.reserve.Goals as goal

pub invariant_of-self : goal.invariant_of-self
invariant_of-self g c =
    let s = c.args.self.now in
    let e = c.reserve.ensures.same.items in
    record { bypassing = s.bypassing; alone = λ f. e ∙ s.alone f; safe = subst AreSafe (sym e) s.safe; own_safe = s.own_safe; few = subst (λ l. AreFew (put_calls s.outlet.rear ++ (l ++ callbacks_of (labelled s.own)))) (sym e) s.few; aimed = s.aimed; before = s.before }

pub invariant_of-self-else-is_offloaded : goal.invariant_of-self-else-is_offloaded
invariant_of-self-else-is_offloaded g c =
    let s = c.args.self.now in
    let e = c.reserve-else-is_offloaded.ensures.same.list in
    let ys = labelled c.reserve-else-is_offloaded.new.self in
    record {
      bypassing = λ f. e ∙ s.bypassing f;
      alone = s.alone;
      safe = s.safe;
      own_safe = subst (λ (ws : List (Labelled g.row.J.Denot)). AreSafe (callbacks_of ws)) (sym e) s.own_safe;
      few = subst (λ (ws : List (Labelled g.row.J.Denot)). AreFew (put_calls s.outlet.rear ++ (bypass_items s.bypass ++ callbacks_of ws))) (sym e) s.few;
      aimed = subst (λ n. AreAimed n ys) (sym c.reserve-else-is_offloaded.ensures.same.advanced) (subst (AreAimed (advanced_by s.own)) (sym e) s.aimed);
      before = s.before;
    }

pub returns-then-is_offloaded-clause-found : goal.returns-then-is_offloaded-clause-found
returns-then-is_offloaded-clause-found g c =
    let s = c.args.self.now in
    let on : is_offloaded s.mode ≡ true = sym c.is_offloaded.ensures ∙ c.if-is_offloaded.true in
    on-ok c.reserve.result (BypassRoom c.reserve.new.self 1) _ (λ r. (λ _. r, λ e. absurd (other (is_offloaded s.mode) on e))) c.reserve.ensures.found

pub returns-then-is_offloaded-clause-had : goal.returns-then-is_offloaded-clause-had
returns-then-is_offloaded-clause-had g c = λ r. c.reserve.ensures.had (r.0 (sym c.is_offloaded.ensures ∙ c.if-is_offloaded.true))

pub returns-else-is_offloaded-clause-found : goal.returns-else-is_offloaded-clause-found
returns-else-is_offloaded-clause-found g c =
    let s = c.args.self.now in
    let off : is_offloaded s.mode ≡ false = sym c.is_offloaded.ensures ∙ c.if-is_offloaded.false in
    on-ok c.reserve-else-is_offloaded.result (SegmentsRoom c.reserve-else-is_offloaded.new.self 1) _ (λ r. (λ e. absurd (other (is_offloaded s.mode) e off), λ _. r)) c.reserve-else-is_offloaded.ensures.found

pub returns-else-is_offloaded-clause-had : goal.returns-else-is_offloaded-clause-had
returns-else-is_offloaded-clause-had g c = λ r. c.reserve-else-is_offloaded.ensures.had (r.1 (sym c.is_offloaded.ensures ∙ c.if-is_offloaded.false))

pub returns-then-is_offloaded-clause-none : goal.returns-then-is_offloaded-clause-none
returns-then-is_offloaded-clause-none g c = λ _ e. c.reserve.ensures.none e

pub returns-else-is_offloaded-clause-none : goal.returns-else-is_offloaded-clause-none
returns-else-is_offloaded-clause-none g c = λ on _. absurd (other (is_offloaded c.args.self.now.mode) on (sym c.is_offloaded.ensures ∙ c.if-is_offloaded.false))

pub reserve-requires : goal.reserve-requires
reserve-requires g c = processor_lists-bypass (param 0 g.row.J) assumption

pub returns-then-is_offloaded-clause-rear : goal.returns-then-is_offloaded-clause-rear
returns-then-is_offloaded-clause-rear g c = refl

pub returns-else-is_offloaded-clause-rear : goal.returns-else-is_offloaded-clause-rear
returns-else-is_offloaded-clause-rear g c = refl

pub returns-then-is_offloaded-clause-same : goal.returns-then-is_offloaded-clause-same
returns-then-is_offloaded-clause-same g c = let s = c.args.self.now in
    let e = c.reserve.ensures.same in
    ap (λ (o : Outgoing g.row.J.Denot). record (holding s) { outgoing = o }) (same_outgoing (outgoing s.outlet.rear s.bypass) (outgoing s.outlet.rear c.reserve.new.self) refl refl e.items e.pace e.qhimark)

pub returns-else-is_offloaded-clause-same : goal.returns-else-is_offloaded-clause-same
returns-else-is_offloaded-clause-same g c = let h = holding c.args.self.now in
    let e = c.reserve-else-is_offloaded.ensures.same in
    ap (λ n. record h { own = labelled c.reserve-else-is_offloaded.new.self; advanced = n }) e.advanced ∙ ap (λ (ws : List (Labelled g.row.J.Denot)). record h { own = ws }) e.list
