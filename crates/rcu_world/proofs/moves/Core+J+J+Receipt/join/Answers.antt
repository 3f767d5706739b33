use Rattle.std.proofs.Common.{rules, ◌∙◌, sym, arith, refl, None, not}
use Rattle.rcu_world_law.specs.Lists.{is_nil}
use Rattle.rcu_world_law.specs.Steps.{joins}
use Rattle.rcu_world.proofs.Seen.{stepped, refused, given_at, absent, skipped}
use denote.Param.{param}
use Rattle.rcu_world.proofs.Sizes.{processor_fits}
use Rattle.rcu_world.proofs.moves.Core+J+J+Receipt.join.Goals as goal

pub returns-in-Err : goal.returns-in-Err
returns-in-Err g c = record {
  answers = record {
    step = (
        let r = refused g.J.Job.key_of c.args.self.now c.args.cpu c.index_mut-p.result.now c.join.new.self (λ x. not (is_nil x.drawn)) c.args.self.now.history.items
        (omega arith) c.index_mut-p.ensures.value (sym c.can_join.ensures ∙ c.if-not-can_join.false) c.in-Err.ensures.step.err refl in
        (r.0, r.1, refl, refl)
        );
    given = given_at g.J.Job.gives c.args.self.now c.args.cpu c.index_mut-p.result.now c.join.new.self (omega arith) c.index_mut-p.ensures.value c.join.ensures.step.given;
  };
}

pub returns-in-Ok : goal.returns-in-Ok
returns-in-Ok g c = record {
  answers = record {
    step = stepped g.J.Job.key_of c.args.self.now c.args.cpu c.index_mut-p.result.now c.join.new.self (λ x. not (is_nil x.drawn)) joins (λ x. None) c.args.self.now.history.items
        (omega arith) c.index_mut-p.ensures.value (sym c.can_join.ensures ∙ c.if-not-can_join.false) c.in-Ok.ensures.step.ok refl;
    given = given_at g.J.Job.gives c.args.self.now c.args.cpu c.index_mut-p.result.now c.join.new.self (omega arith) c.index_mut-p.ensures.value c.join.ensures.step.given;
  };
}

pub can_join-requires-send-J : goal.can_join-requires-send-J
can_join-requires-send-J g c κs within = c.type_bounds.send-J

pub can_join-requires-send-J-Receipt : goal.can_join-requires-send-J-Receipt
can_join-requires-send-J-Receipt g c κs within = c.type_bounds.send-J-Receipt

pub can_join-requires-after_bounds : goal.can_join-requires-after_bounds
can_join-requires-after_bounds g c κs within = processor_fits (param 0 g.row.J) (param 1 g.row.J-Receipt) assumption

pub join-requires-send-J : goal.join-requires-send-J
join-requires-send-J g c κs within = c.type_bounds.send-J

pub join-requires-send-J-Receipt : goal.join-requires-send-J-Receipt
join-requires-send-J-Receipt g c κs within = c.type_bounds.send-J-Receipt

pub join-requires-after_bounds : goal.join-requires-after_bounds
join-requires-after_bounds g c κs within = processor_fits (param 0 g.row.J) (param 1 g.row.J-Receipt) assumption

pub returns-then-i-len : goal.returns-then-i-len
returns-then-i-len g c = record {
  answers = record {
    step = (absent g.J.Job.key_of c.args.self.now c.args.cpu _ (omega arith), refl, refl);
    given = λ a. a;
  };
}

pub returns-then-not-can_join : goal.returns-then-not-can_join
returns-then-not-can_join g c = record {
  answers = record {
    step = (
        let r = skipped g.J.Job.key_of c.args.self.now c.args.cpu c.index_mut-p.result.now (λ x. not (is_nil x.drawn)) (omega arith) c.index_mut-p.ensures.value (sym c.can_join.ensures ∙ c.if-not-can_join.true) in
        (r.0, r.1, refl)
        );
    given = given_at g.J.Job.gives c.args.self.now c.args.cpu c.index_mut-p.result.now c.index_mut-p.result.now (omega arith) c.index_mut-p.ensures.value (λ mark a. a);
  };
}
