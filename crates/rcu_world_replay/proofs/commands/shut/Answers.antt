use Rattle.std.proofs.Common.{rules, ◌≡◌, take, subst}
use Rattle.std.specs.Prelude.{string_bytes}
use Rattle.rcu_status.specs.Commas.{with_commas}
use Rattle.rcu_world.specs.Turns.{AreCounts}
use Rattle.rcu_world.specs.Views.{state}
use Rattle.rcu_world.proofs.Wholes.{if_ok_never}
use Rattle.rcu_world_replay.proofs.commands.shut.Goals as goal

pub returns-in_err-last : goal.returns-in_err-last
returns-in_err-last g c = record {
  answers = record {
    line = if_ok_never _ _ c.from_residual.ensures;
    stays = c.shut.ensures.events.stays;
  };
}

pub returns-in_err-counts : goal.returns-in_err-counts
returns-in_err-counts g c = record {
  answers = record {
    line = search rules;
    stays = c.shut.ensures.events.stays;
  };
}

pub returns : goal.returns
returns g c = record {
  answers = record {
    line = (
        let new = state g.J.Job.key_of c.shut.new.self.core in
        let counts = c.in_ok-last.ensures.counts in (
          c.in_ok-last.ensures.events.leads,
          (
            c.in_ok-last.last.counts,
            subst (λ n. AreCounts new n c.in_ok-last.last.counts) counts.all counts,
            subst (λ n. string_bytes c.in_ok-counts.field-0 ≡ with_commas (take n c.in_ok-last.last.counts)) counts.all c.in_ok-counts.ensures,
          ),
        )
        );
    stays = c.shut.ensures.events.stays;
  };
}
