use Rattle.std.proofs.Common.{rules, ◌∙◌, sym, arith, refl, None}
use Rattle.rcu_world_law.specs.Steps.{can_finish, finishes}
use Rattle.rcu_world.proofs.Seen.{fits_at, stepped, given_at, absent, skipped}
use denote.Param.{param}
use Rattle.rcu_world.proofs.Sizes.{processor_fits, turn_small}
use Rattle.rcu_world.proofs.claims.Core+J+J+Receipt.finish.Goals as goal

pub returns : goal.returns
returns g c = record {
  answers = record {
    step = stepped g.J.Job.key_of c.args.self.now c.args.cpu c.index_mut-p.result.now c.finish.new.self (can_finish c.args.by) finishes (λ x. None) c.args.self.now.history.items
        (omega arith) c.index_mut-p.ensures.value (sym c.can_finish.ensures ∙ c.if-not-can_finish.false) c.finish.ensures.step.made refl;
    given = given_at g.J.Job.gives c.args.self.now c.args.cpu c.index_mut-p.result.now c.finish.new.self (omega arith) c.index_mut-p.ensures.value c.finish.ensures.step.given;
  };
}

pub can_finish-requires-send-J : goal.can_finish-requires-send-J
can_finish-requires-send-J g c κs within = c.type_bounds.send-J

pub can_finish-requires-send-J-Receipt : goal.can_finish-requires-send-J-Receipt
can_finish-requires-send-J-Receipt g c κs within = c.type_bounds.send-J-Receipt

pub can_finish-requires-after_bounds : goal.can_finish-requires-after_bounds
can_finish-requires-after_bounds g c κs within = processor_fits (param 0 g.row.J) (param 1 g.row.J-Receipt) assumption

pub finish-requires-send-J : goal.finish-requires-send-J
finish-requires-send-J g c κs within = c.type_bounds.send-J

pub finish-requires-send-J-Receipt : goal.finish-requires-send-J-Receipt
finish-requires-send-J-Receipt g c κs within = c.type_bounds.send-J-Receipt

pub finish-requires-after_bounds : goal.finish-requires-after_bounds
finish-requires-after_bounds g c κs within =
    let t = fits_at g.J.Job.key_of c.args.self.now c.args.cpu c.index_mut-p.result.now c.requires (omega arith) c.index_mut-p.ensures.value in
    (processor_fits (param 0 g.row.J) (param 1 g.row.J-Receipt) assumption, turn_small t.0)

pub returns-then-i-len : goal.returns-then-i-len
returns-then-i-len g c = record {
  answers = record {
    step = (absent g.J.Job.key_of c.args.self.now c.args.cpu _ (omega arith), refl, refl);
    given = λ a. a;
  };
}

pub returns-then-not-can_finish : goal.returns-then-not-can_finish
returns-then-not-can_finish g c = record {
  answers = record {
    step = (
        let r = skipped g.J.Job.key_of c.args.self.now c.args.cpu c.index_mut-p.result.now (can_finish c.args.by) (omega arith) c.index_mut-p.ensures.value (sym c.can_finish.ensures ∙ c.if-not-can_finish.true) in
        (r.0, r.1, refl)
        );
    given = given_at g.J.Job.gives c.args.self.now c.args.cpu c.index_mut-p.result.now c.index_mut-p.result.now (omega arith) c.index_mut-p.ensures.value (λ mark a. a);
  };
}
