use Rattle.std.proofs.Common.{rules, ◌∙◌, ◌++◌, ◌∷◌, [], ap, arith, refl}
use Rattle.rcu_world_law.specs.declared.marks.Mark.TheVariants.{Opened}
use Rattle.rcu_world.proofs.Barred.{opens_next, opens_other, open_refused, barrier_opened}
use Rattle.rcu_world.proofs.barrier_events.Core+J+J+Receipt.open.Goals as goal

pub returns-then-barrier-len : goal.returns-then-barrier-len
returns-then-barrier-len g c = record {
  answers = record {
    step = (opens_other g.J.Job.key_of c.args.self.now c.args.barrier (λ e. c.if-barrier-len.true (omega (arith, e, c.args.self.now.barriers.ok.0))), refl, refl);
    given = λ a. a;
  };
}

pub returns-in-Err : goal.returns-in-Err
returns-in-Err g c = record {
  answers = record {
    step = (opens_next g.J.Job.key_of c.args.self.now c.args.barrier (omega (arith, c.args.self.now.barriers.ok.0)), open_refused g.J.Job.key_of c.args.self.now _ _ refl c.reserve.ensures.items, refl, refl);
    given = λ a. a;
  };
}

pub returns-in-Err-reserve : goal.returns-in-Err-reserve
returns-in-Err-reserve g c = record {
  answers = record {
    step = (opens_next g.J.Job.key_of c.args.self.now c.args.barrier (omega (arith, c.args.self.now.barriers.ok.0)), open_refused g.J.Job.key_of c.args.self.now _ _ c.reserve-2.ensures.items c.reserve.ensures.items, refl, refl);
    given = λ a. a;
  };
}

pub returns-in-Err-new : goal.returns-in-Err-new
returns-in-Err-new g c = record {
  answers = record {
    step = (opens_next g.J.Job.key_of c.args.self.now c.args.barrier (omega (arith, c.args.self.now.barriers.ok.0)), open_refused g.J.Job.key_of c.args.self.now _ _ c.reserve-2.ensures.items c.reserve.ensures.items, refl, refl);
    given = λ a. a;
  };
}

pub returns-in-Ok-new : goal.returns-in-Ok-new
returns-in-Ok-new g c = record {
  answers = record {
    step = (
      opens_next g.J.Job.key_of c.args.self.now c.args.barrier (omega (arith, c.args.self.now.barriers.ok.0)),
      barrier_opened g.J.Job.key_of c.args.self.now c.args.barrier c.len-2.result c.in-Ok-new.opened _ _ (omega (arith, c.args.self.now.processors.ok.0)) c.in-Ok-new.ensures
          (c.push_reserved.ensures.items ∙ ap (λ x. x ++ c.in-Ok-new.opened ∷ []) c.reserve-2.ensures.items)
          (c.push_reserved-in-Ok-new.ensures.items ∙ ap (λ x. x ++ Opened c.args.barrier ∷ []) c.reserve.ensures.items),
      refl,
    );
    given = λ a. a;
  };
}
