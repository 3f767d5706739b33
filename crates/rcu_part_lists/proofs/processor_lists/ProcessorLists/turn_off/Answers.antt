use Rattle.std.proofs.Common.{◌∙◌, ap, sym}
use Rattle.std.specs.Prelude.{◌&&◌, ◌||◌}
use Rattle.std.proofs.lemmas.Bool.{false≢true}
use Rattle.rcu_lists.specs.Bypasses.{bypass_items}
use Rattle.rcu_part_lists.specs.ProcessorLists.{holding}
use Rattle.rcu_jobs.specs.Modes.{is_offloaded, is_offloading}
use Rattle.rcu_part_lists.proofs.Holdings.{clear-as, off-leaves, off-stays}
use Rattle.rcu_part_lists.proofs.Switching.{left-clear}
use denote.Param.{param}
use Rattle.rcu_part_lists.proofs.Sizes.{processor_lists-bypass}
use Rattle.rcu_part_lists.proofs.processor_lists.ProcessorLists.turn_off.Goals as goal

pub invariant_of-self : goal.invariant_of-self
invariant_of-self g c =
    let s = c.args.self.now in
    record {
      bypassing = λ e. absurd (false≢true e);
      alone = λ _. left-clear s.mode c.is_empty.result (bypass_items s.bypass) s.alone c.is_empty.ensures (sym c.can_leave.ensures ∙ c.if-can_leave.true);
      safe = s.safe;
      own_safe = s.own_safe;
      few = s.few;
      aimed = s.aimed;
      before = λ _. c.requires;
    }

pub returns-then-can_leave-clause-off : goal.returns-then-can_leave-clause-off
returns-then-can_leave-clause-off g c =
    let s = c.args.self.now in
    off-leaves c.args.accepted (holding s) (ap (λ b. is_offloading s.mode || (is_offloaded s.mode && b)) (clear-as c.is_empty.result (bypass_items s.bypass) c.is_empty.ensures) ∙ (sym c.can_leave.ensures ∙ c.if-can_leave.true))

pub returns-else-can_leave-clause-off : goal.returns-else-can_leave-clause-off
returns-else-can_leave-clause-off g c =
    let s = c.args.self.now in
    off-stays c.args.accepted (holding s) (ap (λ b. is_offloading s.mode || (is_offloaded s.mode && b)) (clear-as c.is_empty.result (bypass_items s.bypass) c.is_empty.ensures) ∙ (sym c.can_leave.ensures ∙ c.if-can_leave.false))

pub is_empty-requires : goal.is_empty-requires
is_empty-requires g c = processor_lists-bypass (param 0 g.row.J) assumption
