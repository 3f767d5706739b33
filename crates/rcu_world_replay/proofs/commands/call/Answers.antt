use Rattle.std.proofs.Common.{◌≡◌, ◌<◌, ◌≤◌, ◌∙◌, Bool, true, false, length, refl, sym, subst}
use Rattle.rcu_world.specs.Ready.{IsRefusal}
use Rattle.rcu_world.specs.Turns.{Leads, call_events}
use Rattle.rcu_world.specs.Views.{state}
use Rattle.rcu_world_replay.proofs.Answering.{called, if_err, if_ok, on_err, on_ok, refused_call, says_lazy}
use Rattle.rcu_world_replay.proofs.Refusals.{away_call_line, no_call_line}
use Rattle.rcu_world.proofs.Staying.{stays_same}
use Rattle.rcu_world.specs.Stays.{StaysWorld}
use Rattle.rcu_world.specs.Calls.{IsTicket}
use Rattle.rcu_world_replay.proofs.commands.call.Goals as goal
use Rattle.rcu_world_replay.proofs.commands.call.Goals.{then-eq, else-eq}

pub processors-requires-send-J : goal.processors-requires-send-J
processors-requires-send-J g c κs within = c.type_bounds.send-J

pub processors-requires-send-J-Receipt : goal.processors-requires-send-J-Receipt
processors-requires-send-J-Receipt g c κs within = c.type_bounds.send-J-Receipt

pub call_rcu_lazy-answer-requires-send-J : goal.call_rcu_lazy-answer-requires-send-J
call_rcu_lazy-answer-requires-send-J g c κs within = c.type_bounds.send-J

pub call_rcu_lazy-answer-requires-send-J-Receipt : goal.call_rcu_lazy-answer-requires-send-J-Receipt
call_rcu_lazy-answer-requires-send-J-Receipt g c κs within = c.type_bounds.send-J-Receipt

pub call_rcu-answer-requires-send-J : goal.call_rcu-answer-requires-send-J
call_rcu-answer-requires-send-J g c κs within = c.type_bounds.send-J

pub call_rcu-answer-requires-send-J-Receipt : goal.call_rcu-answer-requires-send-J-Receipt
call_rcu-answer-requires-send-J-Receipt g c κs within = c.type_bounds.send-J-Receipt

pub processors-requires-after_bounds : goal.processors-requires-after_bounds
processors-requires-after_bounds g c κs within = assumption

pub call_rcu_lazy-answer-requires-after_bounds : goal.call_rcu_lazy-answer-requires-after_bounds
call_rcu_lazy-answer-requires-after_bounds g c κs within = (assumption, (c.requires.world, (subst (λ n. c.args.cpu < n) c.processors.ensures c.if-cpu-processors.false, (sym c.is_away.ensures ∙ c.if-is_away.false, c.requires.rest))))

pub call_rcu-answer-requires-after_bounds : goal.call_rcu-answer-requires-after_bounds
call_rcu-answer-requires-after_bounds g c κs within = (assumption, (c.requires.world, (subst (λ n. c.args.cpu < n) c.processors.ensures c.if-cpu-processors.false, (sym c.is_away.ensures ∙ c.if-is_away.false, c.requires.rest))))

pub is_away-requires-send-J : goal.is_away-requires-send-J
is_away-requires-send-J g c κs within = c.type_bounds.send-J

pub is_away-requires-send-J-Receipt : goal.is_away-requires-send-J-Receipt
is_away-requires-send-J-Receipt g c κs within = c.type_bounds.send-J-Receipt

pub is_away-requires-after_bounds : goal.is_away-requires-after_bounds
is_away-requires-after_bounds g c κs within = assumption

pub returns-then-cpu-processors : goal.returns-then-cpu-processors
returns-then-cpu-processors g c = record {
  tells = record {
    line = let gone : length (state g.J.Job.key_of c.args.world.now.core).cpus ≤ c.args.cpu = subst (λ n. n ≤ c.args.cpu) c.processors.ensures c.if-cpu-processors.true in
        no_call_line _ c.args.cpu gone c.no_such.result c.args.verb c.args.moment (g.J.Job.key_of c.args.job) c.no_such.ensures;
    stays = stays_same c.requires.world;
  };
}

pub returns-then-is_away : goal.returns-then-is_away
returns-then-is_away g c = record {
  tells = record {
    line = let there : c.args.cpu < length (state g.J.Job.key_of c.args.world.now.core).cpus = subst (λ n. c.args.cpu < n) c.processors.ensures c.if-cpu-processors.false in
        away_call_line _ c.args.cpu there (sym c.is_away.ensures ∙ c.if-is_away.true) c.away.result c.args.verb c.args.moment (g.J.Job.key_of c.args.job) c.away.ensures;
    stays = stays_same c.requires.world;
  };
}

pub returns-in-Ok : goal.returns-in-Ok
returns-in-Ok g c = record {
  tells = record {
    line = elim c.if-eq.branch [
      | then-eq w ↦ called (state g.J.Job.key_of c.args.world.now.core) (state g.J.Job.key_of c.if-eq.world.core) c.args.cpu c.args.moment (g.J.Job.key_of c.args.job) c.args.verb true (sym (says_lazy c.args.verb) ∙ sym c.eq.ensures ∙ w.if-eq.true) _ (if_ok w.answer-is (IsTicket (state g.J.Job.key_of c.args.world.now.core) c.args.cpu) c.in-Ok.is w.call_rcu_lazy-answer.ensures.called.ticket).number (subst (λ x. (room : Bool) × Leads (state g.J.Job.key_of c.args.world.now.core) (call_events c.args.cpu c.args.moment true (g.J.Job.key_of c.args.job) room (state g.J.Job.key_of c.args.world.now.core)) (state g.J.Job.key_of x.core)) (sym w.world-is) (on_ok w.answer-is c.in-Ok.is w.call_rcu_lazy-answer.ensures.called.events))
      | else-eq w ↦ called (state g.J.Job.key_of c.args.world.now.core) (state g.J.Job.key_of c.if-eq.world.core) c.args.cpu c.args.moment (g.J.Job.key_of c.args.job) c.args.verb false (sym (says_lazy c.args.verb) ∙ sym c.eq.ensures ∙ w.if-eq.false) _ (if_ok w.answer-is (IsTicket (state g.J.Job.key_of c.args.world.now.core) c.args.cpu) c.in-Ok.is w.call_rcu-answer.ensures.called.ticket).number (subst (λ x. (room : Bool) × Leads (state g.J.Job.key_of c.args.world.now.core) (call_events c.args.cpu c.args.moment false (g.J.Job.key_of c.args.job) room (state g.J.Job.key_of c.args.world.now.core)) (state g.J.Job.key_of x.core)) (sym w.world-is) (on_ok w.answer-is c.in-Ok.is w.call_rcu-answer.ensures.called.events))
    ];
    stays = elim c.if-eq.branch [
      | then-eq w ↦ subst (λ x. StaysWorld g.J.Job.key_of g.J.Job.gives c.args.world.now.core x.core) (sym w.world-is) w.call_rcu_lazy-answer.ensures.called.stays
      | else-eq w ↦ subst (λ x. StaysWorld g.J.Job.key_of g.J.Job.gives c.args.world.now.core x.core) (sym w.world-is) w.call_rcu-answer.ensures.called.stays
    ];
  };
}

pub returns-in-Err : goal.returns-in-Err
returns-in-Err g c = record {
  tells = record {
    line = let there : c.args.cpu < length (state g.J.Job.key_of c.args.world.now.core).cpus = subst (λ n. c.args.cpu < n) c.processors.ensures c.if-cpu-processors.false in
        let here = sym c.is_away.ensures ∙ c.if-is_away.false in
        elim c.if-eq.branch [
          | then-eq w ↦ (refl, refl, c.number.ensures ∙ refused_call (state g.J.Job.key_of c.args.world.now.core) c.args.cpu c.args.job c.in-Err.refused there here (if_err w.answer-is (IsRefusal (state g.J.Job.key_of c.args.world.now.core) c.args.cpu c.args.job) c.in-Err.is w.call_rcu_lazy-answer.ensures.called.refused), subst (λ x. state g.J.Job.key_of x.core ≡ (state g.J.Job.key_of c.args.world.now.core)) (sym w.world-is) (on_err w.answer-is c.in-Err.is w.call_rcu_lazy-answer.ensures.called.same))
          | else-eq w ↦ (refl, refl, c.number.ensures ∙ refused_call (state g.J.Job.key_of c.args.world.now.core) c.args.cpu c.args.job c.in-Err.refused there here (if_err w.answer-is (IsRefusal (state g.J.Job.key_of c.args.world.now.core) c.args.cpu c.args.job) c.in-Err.is w.call_rcu-answer.ensures.called.refused), subst (λ x. state g.J.Job.key_of x.core ≡ (state g.J.Job.key_of c.args.world.now.core)) (sym w.world-is) (on_err w.answer-is c.in-Err.is w.call_rcu-answer.ensures.called.same))
        ];
    stays = elim c.if-eq.branch [
      | then-eq w ↦ subst (λ x. StaysWorld g.J.Job.key_of g.J.Job.gives c.args.world.now.core x.core) (sym w.world-is) w.call_rcu_lazy-answer.ensures.called.stays
      | else-eq w ↦ subst (λ x. StaysWorld g.J.Job.key_of g.J.Job.gives c.args.world.now.core x.core) (sym w.world-is) w.call_rcu-answer.ensures.called.stays
    ];
  };
}
