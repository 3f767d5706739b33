use Rattle.std.proofs.Common.{rules, ◌∙◌, sym, arith, refl, None, not}
use Rattle.rcu_world_law.specs.Lists.{is_nil}
use Rattle.rcu_world_law.specs.Steps.{with_pace, puts}
use Rattle.rcu_world_law.specs.Releases.{pace_after_put}
use Rattle.rcu_world.proofs.Seen.{stepped, refused, given_at, absent, skipped}
use denote.Param.{param}
use Rattle.rcu_world.proofs.Sizes.{processor_fits}
use Rattle.rcu_world.proofs.acceptance.Core+J+J+Receipt.put.Goals as goal

pub returns-in-Err : goal.returns-in-Err
returns-in-Err g c = record {
  answers = record {
    step = (
        let r = refused g.J.Job.key_of c.args.self.now c.args.cpu c.index_mut-p.result.now c.put.new.self (λ x. not (is_nil x.bypass)) c.args.self.now.history.items
        (omega arith) c.index_mut-p.ensures.value (sym c.can_put.ensures ∙ c.if-not-can_put.false) c.in-Err.ensures.step.err refl in
        (r.0, r.1, refl, refl)
        );
    given = given_at g.J.Job.gives c.args.self.now c.args.cpu c.index_mut-p.result.now c.put.new.self (omega arith) c.index_mut-p.ensures.value c.put.ensures.step.given;
  };
}

pub returns-in-Ok : goal.returns-in-Ok
returns-in-Ok g c = record {
  answers = record {
    step = stepped g.J.Job.key_of c.args.self.now c.args.cpu c.index_mut-p.result.now c.put.new.self (λ x. not (is_nil x.bypass)) (λ x. with_pace (pace_after_put c.args.moment x) (puts x)) (λ x. None) c.args.self.now.history.items
        (omega arith) c.index_mut-p.ensures.value (sym c.can_put.ensures ∙ c.if-not-can_put.false) c.in-Ok.ensures.step.ok refl;
    given = given_at g.J.Job.gives c.args.self.now c.args.cpu c.index_mut-p.result.now c.put.new.self (omega arith) c.index_mut-p.ensures.value c.put.ensures.step.given;
  };
}

pub can_put-requires-send-J : goal.can_put-requires-send-J
can_put-requires-send-J g c κs within = c.type_bounds.send-J

pub can_put-requires-send-J-Receipt : goal.can_put-requires-send-J-Receipt
can_put-requires-send-J-Receipt g c κs within = c.type_bounds.send-J-Receipt

pub can_put-requires-after_bounds : goal.can_put-requires-after_bounds
can_put-requires-after_bounds g c κs within = processor_fits (param 0 g.row.J) (param 1 g.row.J-Receipt) assumption

pub put-requires-send-J : goal.put-requires-send-J
put-requires-send-J g c κs within = c.type_bounds.send-J

pub put-requires-send-J-Receipt : goal.put-requires-send-J-Receipt
put-requires-send-J-Receipt g c κs within = c.type_bounds.send-J-Receipt

pub put-requires-after_bounds : goal.put-requires-after_bounds
put-requires-after_bounds g c κs within = processor_fits (param 0 g.row.J) (param 1 g.row.J-Receipt) assumption

pub returns-then-i-len : goal.returns-then-i-len
returns-then-i-len g c = record {
  answers = record {
    step = (absent g.J.Job.key_of c.args.self.now c.args.cpu _ (omega arith), refl, refl);
    given = λ a. a;
  };
}

pub returns-then-not-can_put : goal.returns-then-not-can_put
returns-then-not-can_put g c = record {
  answers = record {
    step = (
        let r = skipped g.J.Job.key_of c.args.self.now c.args.cpu c.index_mut-p.result.now (λ x. not (is_nil x.bypass)) (omega arith) c.index_mut-p.ensures.value (sym c.can_put.ensures ∙ c.if-not-can_put.true) in
        (r.0, r.1, refl)
        );
    given = given_at g.J.Job.gives c.args.self.now c.args.cpu c.index_mut-p.result.now c.index_mut-p.result.now (omega arith) c.index_mut-p.ensures.value (λ mark a. a);
  };
}
