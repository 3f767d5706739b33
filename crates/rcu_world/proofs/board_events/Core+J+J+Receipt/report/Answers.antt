use Rattle.std.proofs.Common.{rules, ◌<◌, ◌∙◌, ◌++◌, ◌∷◌, [], false, true, not, length, subst, ap, arith, refl, sym}
use Rattle.std.proofs.lemmas.List.{length-map}
use Rattle.rcu_world_law.specs.declared.marks.Mark.TheVariants.{Reported}
use Rattle.rcu_world_law.specs.States.{State}
use Rattle.rcu_world_processor.specs.Views.{seen}
use Rattle.rcu_world.specs.declared.cores.Core.{Core}
use Rattle.rcu_world.specs.Views.{state, AllGiven}
use Rattle.rcu_world.proofs.Reporting.{reported}
use denote.Param.{param}
use Rattle.rcu_world.proofs.Sizes.{processor_fits}
use Rattle.rcu_world.proofs.Seen.{absent, tested}
use Rattle.rcu_world.proofs.board_events.Core+J+J+Receipt.report.Goals as goal
use Rattle.rcu_world.proofs.board_events.Core+J+J+Receipt.report.Goals.{then-owes+in-Ok, else-owes}

pub returns-then-i-len : goal.returns-then-i-len
returns-then-i-len g c = record {
  answers = record {
    step = (absent g.J.Job.key_of c.args.self.now c.args.cpu _ (omega (arith, c.args.self.now.processors.ok.0)), refl, refl);
    given = λ a. a;
  };
}

pub returns-then-is_away : goal.returns-then-is_away
returns-then-is_away g c = record {
  answers = record {
    step = (
      tested g.J.Job.key_of c.args.self.now c.args.cpu c.index.result.now (λ x. not x.away) false (omega (arith, c.args.self.now.processors.ok.0)) c.index.ensures (ap not (sym c.is_away.ensures ∙ c.if-is_away.true)),
      refl,
      refl,
    );
    given = λ a. a;
  };
}

pub returns-in-Err : goal.returns-in-Err
returns-in-Err g c = record {
  answers = record {
    step = (
      tested g.J.Job.key_of c.args.self.now c.args.cpu c.index.result.now (λ x. not x.away) true (omega (arith, c.args.self.now.processors.ok.0)) c.index.ensures (ap not (sym c.is_away.ensures ∙ c.if-is_away.false)),
      ap {B = State} (λ x. record (state g.J.Job.key_of c.args.self.now) { history = x }) c.reserve.ensures.items,
      refl,
      sym c.owes.ensures ∙ c.if-owes.true,
    );
    given = λ a. a;
  };
}

pub report-requires : goal.report-requires
report-requires g c =
    let there : c.args.cpu < length c.args.self.now.board.owing = omega (arith, c.requires.core.board.size, length-map c.args.self.now.processors.items (seen g.J.Job.key_of), c.args.self.now.processors.ok.0) in
    elim c.if-owes.branch [
      | then-owes+in-Ok w ↦ rw w.self-is there
      | else-owes w ↦ rw w.self-is there
    ]

pub returns : goal.returns
returns g c = record {
  answers = record {
    step = (
        let old = state g.J.Job.key_of c.args.self.now in
        let there = tested g.J.Job.key_of c.args.self.now c.args.cpu c.index.result.now (λ x. not x.away) true (omega (arith, c.args.self.now.processors.ok.0)) c.index.ensures (ap not (sym c.is_away.ensures ∙ c.if-is_away.false)) in
        elim c.if-owes.branch [
          | then-owes+in-Ok w ↦ (
            there,
            rw (c.report.ensures, w.self-is)
                (reported old c.args.cpu true w.push_reserved.new.self.items (sym c.owes.ensures ∙ w.if-owes.true) (w.push_reserved.ensures.items ∙ ap (λ h. h ++ Reported c.args.cpu ∷ []) w.reserve.ensures.items)),
            refl,
          )
          | else-owes w ↦ (
            there,
            rw (c.report.ensures, w.self-is) (reported old c.args.cpu false c.args.self.now.history.items (sym c.owes.ensures ∙ w.if-owes.false) refl),
            refl,
          )
        ]
        );
    given = elim c.if-owes.branch [
      | then-owes+in-Ok w ↦ subst (λ (s : Core g.row.J.Denot g.row.J-Receipt.Denot). AllGiven g.J.Job.gives s) (sym w.self-is)
      | else-owes w ↦ subst (λ (s : Core g.row.J.Denot g.row.J-Receipt.Denot). AllGiven g.J.Job.gives s) (sym w.self-is)
    ];
  };
}

pub is_away-requires-send-J : goal.is_away-requires-send-J
is_away-requires-send-J g c κs within = c.type_bounds.send-J

pub is_away-requires-send-J-Receipt : goal.is_away-requires-send-J-Receipt
is_away-requires-send-J-Receipt g c κs within = c.type_bounds.send-J-Receipt

pub is_away-requires-after_bounds : goal.is_away-requires-after_bounds
is_away-requires-after_bounds g c κs within = processor_fits (param 0 g.row.J) (param 1 g.row.J-Receipt) assumption
