use Rattle.std.proofs.Common.{◌++◌, ap, sym, ◌∙◌, subst, refl, List}
use Rattle.rcu_lists.specs.Bypasses.{bypass_items}
use Rattle.rcu_lists.specs.Labels.{callbacks_of, Labelled}
use Rattle.rcu_lists.specs.Segments.{labelled}
use Rattle.rcu_part_lists.specs.Lanes.{put_calls}
use Rattle.rcu_part_lists.specs.Limits.{AreFew, AreSafe}
use Rattle.rcu_part_lists.proofs.Holdings.{no-callbacks}
use Rattle.rcu_part_lists.specs.ProcessorLists.{holding}
use Rattle.rcu_part_lists.proofs.processor_lists.ProcessorLists.look.Goals as goal

pub invariant_of-self : goal.invariant_of-self
invariant_of-self g c =
    let s = c.args.self.now in
    record {
      bypassing = λ e. no-callbacks (labelled c.look_at.new.list) (c.look_at.ensures.callbacks ∙ ap callbacks_of (s.bypassing e));
      alone = s.alone;
      safe = s.safe;
      own_safe = subst AreSafe (sym c.look_at.ensures.callbacks) s.own_safe;
      few = subst (λ cs. AreFew (put_calls s.outlet.rear ++ (bypass_items s.bypass ++ cs))) (sym c.look_at.ensures.callbacks) s.few;
      aimed = c.look_at.ensures.aimed;
      before = s.before;
    }

pub look_at-requires-clause-safe : goal.look_at-requires-clause-safe
look_at-requires-clause-safe g c = c.args.self.now.own_safe

pub look_at-requires-clause-aimed : goal.look_at-requires-clause-aimed
look_at-requires-clause-aimed g c = c.args.self.now.aimed

pub look_at-requires-clause-later : goal.look_at-requires-clause-later
look_at-requires-clause-later g c = c.requires.later

pub look_at-requires-clause-small : goal.look_at-requires-clause-small
look_at-requires-clause-small g c = c.requires.small

pub returns-clause-rear : goal.returns-clause-rear
returns-clause-rear g c = refl

pub returns-clause-list : goal.returns-clause-list
returns-clause-list g c = let h = holding c.args.self.now in let e = c.look_at.ensures in
    ap (λ n. record h { own = labelled c.look_at.new.list; advanced = n }) e.advanced ∙ ap (λ (ws : List (Labelled g.row.J.Denot)). record h { own = ws; advanced = c.args.seen }) e.list

pub returns-clause-wanted : goal.returns-clause-wanted
returns-clause-wanted g c = c.look_at.ensures.wanted

pub returns-clause-places : goal.returns-clause-places
returns-clause-places g c = ap (λ cs. bypass_items c.args.self.now.bypass ++ cs) c.look_at.ensures.callbacks

pub returns-clause-needed : goal.returns-clause-needed
returns-clause-needed g c = c.look_at.ensures.needed
