use Rattle.std.proofs.Common.{rules, ◌∙◌, ◌++◌, ◌∷◌, [], Some, true, sym, ap, arith, refl}
use Rattle.rcu_world_law.specs.declared.marks.Mark.TheVariants.{Passed}
use Rattle.rcu_world_law.specs.Lists.{all_of}
use Rattle.rcu_world.proofs.Seen.{barred}
use Rattle.rcu_world.proofs.Barred.{unopened, has_passed, barrier_skipped, barrier_refused}
use Rattle.rcu_world.proofs.barrier_events.Core+J+J+Receipt.pass.Goals as goal

pub returns : goal.returns
returns g c = record {
  answers = record {
    step = barred g.J.Job.key_of c.args.self.now c.args.barrier c.index_mut-b.result.now (record c.index_mut-b.result.now { passed = true }) (λ x. all_of x.seen) (λ x. record x { passed = true })
        c.push_reserved.new.self.items (Some (Passed c.args.barrier)) (omega arith) c.index_mut-b.ensures.value c.if-b.false (sym c.is_seen.ensures ∙ c.if-not-is_seen.false) refl
        (c.push_reserved.ensures.items ∙ ap (λ h. h ++ Passed c.args.barrier ∷ []) c.reserve.ensures.items);
    given = λ a. a;
  };
}

pub returns-then-j-len : goal.returns-then-j-len
returns-then-j-len g c = record {
  answers = record {
    step = (unopened g.J.Job.key_of c.args.self.now c.args.barrier _ (omega arith), refl, refl);
    given = λ a. a;
  };
}

pub returns-then-b : goal.returns-then-b
returns-then-b g c = record {
  answers = record {
    step = (
        let r = has_passed g.J.Job.key_of c.args.self.now c.args.barrier c.index_mut-b.result.now _ (omega arith) c.index_mut-b.ensures.value c.if-b.true in (r.0, r.1, refl)
        );
    given = λ a. a;
  };
}

pub returns-then-not-is_seen : goal.returns-then-not-is_seen
returns-then-not-is_seen g c = record {
  answers = record {
    step = (
        let r = barrier_skipped g.J.Job.key_of c.args.self.now c.args.barrier c.index_mut-b.result.now (λ x. all_of x.seen) (omega arith) c.index_mut-b.ensures.value (sym c.is_seen.ensures ∙ c.if-not-is_seen.true) in
        (r.0, r.1, refl)
        );
    given = λ a. a;
  };
}

pub returns-in-Err : goal.returns-in-Err
returns-in-Err g c = record {
  answers = record {
    step = (
        let r = barrier_refused g.J.Job.key_of c.args.self.now c.args.barrier c.index_mut-b.result.now (λ x. all_of x.seen) c.reserve.new.self.items (omega arith) c.index_mut-b.ensures.value c.if-b.false (sym c.is_seen.ensures ∙ c.if-not-is_seen.false) c.reserve.ensures.items in
        (r.0, r.1, refl, refl)
        );
    given = λ a. a;
  };
}
