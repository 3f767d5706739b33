use Rattle.std.proofs.Common.{rules, ◌∙◌, sym, arith, Some, ap, ◌++◌, ◌∷◌, [], true, not, refl}
use Rattle.rcu_world_law.specs.declared.marks.Mark.TheVariants.{Shut}
use Rattle.rcu_world.proofs.Seen.{stepped, given_at, absent, skipped, refused}
use denote.Param.{param}
use Rattle.rcu_world.proofs.Sizes.{processor_fits}
use Rattle.rcu_world.proofs.barrier_events.Core+J+J+Receipt.shut.Goals as goal

pub returns : goal.returns
returns g c = record {
  answers = record {
    step = stepped g.J.Job.key_of c.args.self.now c.args.cpu c.index_mut-p.result.now c.shut.new.self (λ x. not x.shut) (λ x. record x { shut = true }) (λ x. Some (Shut c.args.cpu)) c.push_reserved.new.self.items
        (omega arith) c.index_mut-p.ensures.value (sym c.is_open.ensures ∙ c.if-not-is_open.false) c.shut.ensures.step.made (c.push_reserved.ensures.items ∙ ap (λ h. h ++ Shut c.args.cpu ∷ []) c.reserve.ensures.items);
    given = given_at g.J.Job.gives c.args.self.now c.args.cpu c.index_mut-p.result.now c.shut.new.self (omega arith) c.index_mut-p.ensures.value c.shut.ensures.step.given;
  };
}

pub is_open-requires-send-J : goal.is_open-requires-send-J
is_open-requires-send-J g c κs within = c.type_bounds.send-J

pub is_open-requires-send-J-Receipt : goal.is_open-requires-send-J-Receipt
is_open-requires-send-J-Receipt g c κs within = c.type_bounds.send-J-Receipt

pub is_open-requires-after_bounds : goal.is_open-requires-after_bounds
is_open-requires-after_bounds g c κs within = processor_fits (param 0 g.row.J) (param 1 g.row.J-Receipt) assumption

pub shut-requires-send-J : goal.shut-requires-send-J
shut-requires-send-J g c κs within = c.type_bounds.send-J

pub shut-requires-send-J-Receipt : goal.shut-requires-send-J-Receipt
shut-requires-send-J-Receipt g c κs within = c.type_bounds.send-J-Receipt

pub shut-requires-after_bounds : goal.shut-requires-after_bounds
shut-requires-after_bounds g c κs within = processor_fits (param 0 g.row.J) (param 1 g.row.J-Receipt) assumption

pub returns-then-i-len : goal.returns-then-i-len
returns-then-i-len g c = record {
  answers = record {
    step = (absent g.J.Job.key_of c.args.self.now c.args.cpu _ (omega arith), refl, refl);
    given = λ a. a;
  };
}

pub returns-then-not-is_open : goal.returns-then-not-is_open
returns-then-not-is_open g c = record {
  answers = record {
    step = (
        let r = skipped g.J.Job.key_of c.args.self.now c.args.cpu c.index_mut-p.result.now (λ x. not x.shut) (omega arith) c.index_mut-p.ensures.value (sym c.is_open.ensures ∙ c.if-not-is_open.true) in
        (r.0, r.1, refl)
        );
    given = given_at g.J.Job.gives c.args.self.now c.args.cpu c.index_mut-p.result.now c.index_mut-p.result.now (omega arith) c.index_mut-p.ensures.value (λ mark a. a);
  };
}

pub returns-in-Err : goal.returns-in-Err
returns-in-Err g c = record {
  answers = record {
    step = (
        let r = refused g.J.Job.key_of c.args.self.now c.args.cpu c.index_mut-p.result.now c.index_mut-p.result.now (λ x. not x.shut) c.reserve.new.self.items (omega arith) c.index_mut-p.ensures.value (sym c.is_open.ensures ∙ c.if-not-is_open.false) refl c.reserve.ensures.items in
        (r.0, r.1, refl, refl)
        );
    given = given_at g.J.Job.gives c.args.self.now c.args.cpu c.index_mut-p.result.now c.index_mut-p.result.now (omega arith) c.index_mut-p.ensures.value (λ mark a. a);
  };
}
