use Rattle.std.proofs.Common.{◌∙◌, true, false, refl, sym, subst}
use Rattle.rcu_world_law.specs.Events.CoreEvent.{Ask}
use Rattle.rcu_world.specs.Turns.{Leads, where_enabled}
use Rattle.rcu_world.specs.Views.{state}
use Rattle.rcu_world_replay.proofs.Answering.{asked, says_offload}
use Rattle.rcu_world.specs.Stays.{StaysWorld}
use Rattle.rcu_world_replay.proofs.commands.switch.Goals as goal
use Rattle.rcu_world_replay.proofs.commands.switch.Goals.{then-eq, else-eq}

pub returns-in-Ok : goal.returns-in-Ok
returns-in-Ok g c = record {
  tells = record {
    line = elim c.if-eq.branch [
      | then-eq w ↦ (refl, refl, sym w.offload-answer.ensures.answer ∙ sym w.answer-is ∙ c.in-Ok.is, asked (state g.J.Job.key_of c.args.world.now.core) _ c.args.cpu c.args.verb true (sym (says_offload c.args.verb) ∙ sym c.eq.ensures ∙ w.if-eq.true) (subst (λ x. Leads (state g.J.Job.key_of c.args.world.now.core) (where_enabled (Ask c.args.cpu true) (state g.J.Job.key_of c.args.world.now.core)) (state g.J.Job.key_of x.core)) (sym w.world-is) w.offload-answer.ensures.events.leads))
      | else-eq w ↦ (refl, refl, sym w.deoffload-answer.ensures.answer ∙ sym w.answer-is ∙ c.in-Ok.is, asked (state g.J.Job.key_of c.args.world.now.core) _ c.args.cpu c.args.verb false (sym (says_offload c.args.verb) ∙ sym c.eq.ensures ∙ w.if-eq.false) (subst (λ x. Leads (state g.J.Job.key_of c.args.world.now.core) (where_enabled (Ask c.args.cpu false) (state g.J.Job.key_of c.args.world.now.core)) (state g.J.Job.key_of x.core)) (sym w.world-is) w.deoffload-answer.ensures.events.leads))
    ];
    stays = elim c.if-eq.branch [
      | then-eq w ↦ subst (λ x. StaysWorld g.J.Job.key_of g.J.Job.gives c.args.world.now.core x.core) (sym w.world-is) w.offload-answer.ensures.events.stays
      | else-eq w ↦ subst (λ x. StaysWorld g.J.Job.key_of g.J.Job.gives c.args.world.now.core x.core) (sym w.world-is) w.deoffload-answer.ensures.events.stays
    ];
  };
}

pub returns-in-Err : goal.returns-in-Err
returns-in-Err g c = record {
  tells = record {
    line = elim c.if-eq.branch [
      | then-eq w ↦ (refl, refl, (c.in-Err.fault, sym w.offload-answer.ensures.answer ∙ sym w.answer-is ∙ c.in-Err.is, c.number.ensures), asked (state g.J.Job.key_of c.args.world.now.core) _ c.args.cpu c.args.verb true (sym (says_offload c.args.verb) ∙ sym c.eq.ensures ∙ w.if-eq.true) (subst (λ x. Leads (state g.J.Job.key_of c.args.world.now.core) (where_enabled (Ask c.args.cpu true) (state g.J.Job.key_of c.args.world.now.core)) (state g.J.Job.key_of x.core)) (sym w.world-is) w.offload-answer.ensures.events.leads))
      | else-eq w ↦ (refl, refl, (c.in-Err.fault, sym w.deoffload-answer.ensures.answer ∙ sym w.answer-is ∙ c.in-Err.is, c.number.ensures), asked (state g.J.Job.key_of c.args.world.now.core) _ c.args.cpu c.args.verb false (sym (says_offload c.args.verb) ∙ sym c.eq.ensures ∙ w.if-eq.false) (subst (λ x. Leads (state g.J.Job.key_of c.args.world.now.core) (where_enabled (Ask c.args.cpu false) (state g.J.Job.key_of c.args.world.now.core)) (state g.J.Job.key_of x.core)) (sym w.world-is) w.deoffload-answer.ensures.events.leads))
    ];
    stays = elim c.if-eq.branch [
      | then-eq w ↦ subst (λ x. StaysWorld g.J.Job.key_of g.J.Job.gives c.args.world.now.core x.core) (sym w.world-is) w.offload-answer.ensures.events.stays
      | else-eq w ↦ subst (λ x. StaysWorld g.J.Job.key_of g.J.Job.gives c.args.world.now.core x.core) (sym w.world-is) w.deoffload-answer.ensures.events.stays
    ];
  };
}
