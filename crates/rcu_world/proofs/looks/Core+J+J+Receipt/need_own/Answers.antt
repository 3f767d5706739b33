use Rattle.std.proofs.Common.{rules, ◌∙◌, sym, arith, refl, ap, not}
use Rattle.rcu_world.proofs.Seen.{needed_at, given_at, absent, skipped}
use denote.Param.{param}
use Rattle.rcu_world.proofs.Sizes.{processor_fits}
use Rattle.rcu_world_law.specs.Lists.{is_none}
use Rattle.rcu_world.proofs.looks.Core+J+J+Receipt.need_own.Goals as goal

pub returns-in-Some : goal.returns-in-Some
returns-in-Some g c = record {
  answers = record {
    step = needed_at g.J.Job.key_of c.args.self.now c.args.cpu c.index_mut-p.result.now c.forget.new.self c.in-Some.number c.max-self.result
        (omega arith) c.index_mut-p.ensures.value (sym c.wanted.ensures ∙ c.in-Some.is) c.forget.ensures.step.made c.max-self.ensures;
    given = given_at g.J.Job.gives c.args.self.now c.args.cpu c.index_mut-p.result.now c.forget.new.self (omega arith) c.index_mut-p.ensures.value c.forget.ensures.step.given;
  };
}

pub wanted-requires-send-J : goal.wanted-requires-send-J
wanted-requires-send-J g c κs within = c.type_bounds.send-J

pub wanted-requires-send-J-Receipt : goal.wanted-requires-send-J-Receipt
wanted-requires-send-J-Receipt g c κs within = c.type_bounds.send-J-Receipt

pub wanted-requires-after_bounds : goal.wanted-requires-after_bounds
wanted-requires-after_bounds g c κs within = processor_fits (param 0 g.row.J) (param 1 g.row.J-Receipt) assumption

pub forget-requires-send-J : goal.forget-requires-send-J
forget-requires-send-J g c κs within = c.type_bounds.send-J

pub forget-requires-send-J-Receipt : goal.forget-requires-send-J-Receipt
forget-requires-send-J-Receipt g c κs within = c.type_bounds.send-J-Receipt

pub forget-requires-after_bounds : goal.forget-requires-after_bounds
forget-requires-after_bounds g c κs within = processor_fits (param 0 g.row.J) (param 1 g.row.J-Receipt) assumption

pub returns-then-i-len : goal.returns-then-i-len
returns-then-i-len g c = record {
  answers = record {
    step = (absent g.J.Job.key_of c.args.self.now c.args.cpu _ (omega arith), refl, refl);
    given = λ a. a;
  };
}

pub returns-in-None : goal.returns-in-None
returns-in-None g c = record {
  answers = record {
    step = (
        let r = skipped g.J.Job.key_of c.args.self.now c.args.cpu c.index_mut-p.result.now (λ x. not (is_none x.wanted)) (omega arith) c.index_mut-p.ensures.value (ap (λ x. not (is_none x)) (sym c.wanted.ensures ∙ c.in-None.is)) in
        (r.0, r.1, refl)
        );
    given = given_at g.J.Job.gives c.args.self.now c.args.cpu c.index_mut-p.result.now c.index_mut-p.result.now (omega arith) c.index_mut-p.ensures.value (λ mark a. a);
  };
}
