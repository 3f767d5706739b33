use Rattle.std.proofs.Common.{refl, true, ◌≡◌, ◌∙◌, ℕ, Bool, Option, Some, None, cond, ap, sym}
use Rattle.rcu_world_law.specs.Events.CoreEvent.{Report}
use Rattle.rcu_world_law.specs.States.{owes}
use Rattle.rcu_world.specs.Views.{state}
use Rattle.rcu_world.proofs.Absences.{may_report}
use Rattle.rcu_world.proofs.Wholes.{if_ok_never, on_err}
use Rattle.rcu_world.proofs.Leading.{leads_one}
use Rattle.rcu_world.proofs.worlds.World.quiescent.Goals.{then-owes, else-owes}
use Rattle.rcu_world.proofs.Staying.{stays_by}
use Rattle.rcu_world.proofs.worlds.World.quiescent.Goals as goal

pub returns-clause-number : goal.returns-clause-number
returns-clause-number g c = elim c.if-owes.branch [
  | then-owes w ↦ w.counted-is ∙ ap Some w.number.ensures ∙ sym (ap {A = Bool} {B = Option ℕ} (λ b. cond b (Some c.args.self.now.core.board.number) None) (sym c.owes.ensures ∙ w.if-owes.true))
  | else-owes w ↦ w.counted-is ∙ sym (ap {A = Bool} {B = Option ℕ} (λ b. cond b (Some c.args.self.now.core.board.number) None) (sym c.owes.ensures ∙ w.if-owes.false))
]

pub returns-in_err-attempt-clause-err_owes : goal.returns-in_err-attempt-clause-err_owes
returns-in_err-attempt-clause-err_owes g c = on_err (owes (state g.J.Job.key_of c.args.self.now.core) c.args.cpu ≡ true) _ c.in_err-attempt.ensures.err_room

pub returns-in_err-attempt-clause-events : goal.returns-in_err-attempt-clause-events
returns-in_err-attempt-clause-events g c = record {
  leads = if_ok_never _ _ c.from_residual.ensures;
  same = on_err (state g.J.Job.key_of c.attempt.new.self.core ≡ state g.J.Job.key_of c.args.self.now.core) _ c.in_err-attempt.ensures.err;
  stays = stays_by c.attempt.ensures.keeps (c.attempt.ensures.rest refl);
}

pub returns-clause-events : goal.returns-clause-events
returns-clause-events g c = record {
  leads = let w = state g.J.Job.key_of c.args.self.now.core in
      leads_one w _ (Report c.args.cpu) (may_report w c.args.cpu c.requires.there c.requires.here) c.in_ok-attempt.ensures.leads.1;
  same = tt;
  stays = stays_by c.attempt.ensures.keeps (c.attempt.ensures.rest refl);
}
