use Rattle.std.proofs.Common.{rules, ◌∙◌, ap, not, refl}
use Rattle.rcu_world.specs.Views.{state}
use Rattle.rcu_world_replay.proofs.Answering.{passes_on, waits_on}
use Rattle.rcu_world.proofs.Staying.{stays_same}
use Rattle.rcu_world.proofs.Wholes.{if_ok_never}
use Rattle.rcu_world_replay.proofs.commands.poll.Goals as goal

pub returns-in_default : goal.returns-in_default
returns-in_default g c = record {
  answers = record {
    line = search rules;
    stays = stays_same c.requires.world;
  };
}

pub returns-in_err-poll : goal.returns-in_err-poll
returns-in_err-poll g c = record {
  answers = record {
    line = if_ok_never _ _ c.from_residual.ensures;
    stays = c.poll.ensures.stays;
  };
}

pub returns-then-is_none : goal.returns-then-is_none
returns-then-is_none g c = record {
  answers = record {
    line = (
      c.in-Some.name,
      c.in-Some.is,
      refl,
      c.in_ok-poll.ensures.events,
      waits_on (state g.J.Job.key_of c.args.world.now.core) (state g.J.Job.key_of c.poll.new.self.core) c.in-Some.name c.in_ok-poll.field-0 (c.is_none.ensures ∙ ap not c.if-is_none.true) c.in_ok-poll.ensures.answer,
    );
    stays = c.poll.ensures.stays;
  };
}

pub returns : goal.returns
returns g c = record {
  answers = record {
    line = (
      c.in-Some.name,
      c.in-Some.is,
      refl,
      c.in_ok-poll.ensures.events,
      passes_on (state g.J.Job.key_of c.args.world.now.core) (state g.J.Job.key_of c.poll.new.self.core) c.in-Some.name c.in_ok-poll.field-0 (c.is_none.ensures ∙ ap not c.if-is_none.false) c.in_ok-poll.ensures.answer,
    );
    stays = c.poll.ensures.stays;
  };
}
