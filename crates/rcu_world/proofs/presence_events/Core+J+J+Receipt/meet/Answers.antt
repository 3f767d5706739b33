use Rattle.std.proofs.Common.{◌∙◌, ◌<◌, ◌&&◌, ◌++◌, ◌∷◌, [], ap, arith, false, length, refl, set, sym, true}
use Rattle.std.proofs.lemmas.List.{length-map}
use denote.Param.{param}
use Rattle.rcu_world_law.specs.declared.marks.Mark.TheVariants.{Reported}
use Rattle.rcu_world_law.specs.States.{State, owes}
use Rattle.rcu_world_processor.specs.Views.{seen}
use Rattle.rcu_world.specs.Views.{state}
use Rattle.rcu_world.proofs.Sizes.{processor_fits}
use Rattle.rcu_world.proofs.Seen.{absent, tested}
use Rattle.rcu_world.proofs.presence_events.Core+J+J+Receipt.meet.Goals as goal

pub returns-then-i-len : goal.returns-then-i-len
returns-then-i-len g c = record {
  answers = record {
    step = (absent g.J.Job.key_of c.args.self.now c.args.cpu _ (omega (arith, c.args.self.now.processors.ok.0)), refl, refl);
    given = λ a. a;
  };
}

pub returns-then-not-is_away : goal.returns-then-not-is_away
returns-then-not-is_away g c = record {
  answers = record {
    step = (
        let o = owes (state g.J.Job.key_of c.args.self.now) c.args.cpu in (
          tested g.J.Job.key_of c.args.self.now c.args.cpu c.index.result.now (λ x. x.away && owes (state g.J.Job.key_of c.args.self.now) c.args.cpu) false (omega (arith, c.args.self.now.processors.ok.0)) c.index.ensures
              (ap (λ b. b && owes (state g.J.Job.key_of c.args.self.now) c.args.cpu) (sym c.is_away.ensures ∙ c.if-not-is_away.true)),
          refl,
          refl,
        )
        );
    given = λ a. a;
  };
}

pub returns-then-not-owes : goal.returns-then-not-owes
returns-then-not-owes g c = record {
  answers = record {
    step = (
      tested g.J.Job.key_of c.args.self.now c.args.cpu c.index.result.now (λ x. x.away && owes (state g.J.Job.key_of c.args.self.now) c.args.cpu) false (omega (arith, c.args.self.now.processors.ok.0)) c.index.ensures
          (ap (λ b. b && owes (state g.J.Job.key_of c.args.self.now) c.args.cpu) (sym c.is_away.ensures ∙ c.if-not-is_away.false) ∙ sym c.owes.ensures ∙ c.if-not-owes.true),
      refl,
      refl,
    );
    given = λ a. a;
  };
}

pub returns-in-Err : goal.returns-in-Err
returns-in-Err g c = record {
  answers = record {
    step = (
      tested g.J.Job.key_of c.args.self.now c.args.cpu c.index.result.now (λ x. x.away && owes (state g.J.Job.key_of c.args.self.now) c.args.cpu) true (omega (arith, c.args.self.now.processors.ok.0)) c.index.ensures
          (ap (λ b. b && owes (state g.J.Job.key_of c.args.self.now) c.args.cpu) (sym c.is_away.ensures ∙ c.if-not-is_away.false) ∙ sym c.owes.ensures ∙ c.if-not-owes.false),
      ap {B = State} (λ x. record (state g.J.Job.key_of c.args.self.now) { history = x }) c.reserve.ensures.items,
      refl,
      refl,
    );
    given = λ a. a;
  };
}

pub report-requires : goal.report-requires
report-requires g c = omega (arith, c.requires.core.board.size, length-map c.args.self.now.processors.items (seen g.J.Job.key_of), c.args.self.now.processors.ok.0)

pub returns : goal.returns
returns g c = record {
  answers = record {
    step = (
        let w = state g.J.Job.key_of c.args.self.now in (
          tested g.J.Job.key_of c.args.self.now c.args.cpu c.index.result.now (λ x. x.away && owes (state g.J.Job.key_of c.args.self.now) c.args.cpu) true (omega (arith, c.args.self.now.processors.ok.0)) c.index.ensures
              (ap (λ b. b && owes (state g.J.Job.key_of c.args.self.now) c.args.cpu) (sym c.is_away.ensures ∙ c.if-not-is_away.false) ∙ sym c.owes.ensures ∙ c.if-not-owes.false),
          rw c.report.ensures (ap {B = State} (λ x. record w { owing = set w.owing c.args.cpu false; history = x }) (c.push_reserved.ensures.items ∙ ap (λ h. h ++ Reported c.args.cpu ∷ []) c.reserve.ensures.items)),
          refl,
        )
        );
    given = λ a. a;
  };
}

pub is_away-requires-send-J : goal.is_away-requires-send-J
is_away-requires-send-J g c κs within = c.type_bounds.send-J

pub is_away-requires-send-J-Receipt : goal.is_away-requires-send-J-Receipt
is_away-requires-send-J-Receipt g c κs within = c.type_bounds.send-J-Receipt

pub is_away-requires-after_bounds : goal.is_away-requires-after_bounds
is_away-requires-after_bounds g c κs within = processor_fits (param 0 g.row.J) (param 1 g.row.J-Receipt) assumption
