use Rattle.std.proofs.Common.{rules, ◌∙◌, sym, arith, refl, None, get_or, false}
use Rattle.rcu_world.proofs.Seen.{stepped, given_at, absent}
use denote.Param.{param}
use Rattle.rcu_world.proofs.Sizes.{processor_fits, second_fails}
use Rattle.rcu_world.proofs.modes.Core+J+J+Receipt.ask.Goals as goal

pub returns : goal.returns
returns g c = record {
  answers = record {
    step = stepped g.J.Job.key_of c.args.self.now c.args.cpu c.index_mut-p.result.now c.ask.new.self (λ x. get_or c.args.self.now.offloadable.items c.args.cpu false) (λ x. record x { asked = c.args.on }) (λ x. None) c.args.self.now.history.items
        (omega arith) c.index_mut-p.ensures.value (sym c.is_set.ensures ∙ c.if-not-is_set.false) c.ask.ensures.step.made refl;
    given = given_at g.J.Job.gives c.args.self.now c.args.cpu c.index_mut-p.result.now c.ask.new.self (omega arith) c.index_mut-p.ensures.value c.ask.ensures.step.given;
  };
}

pub ask-requires-send-J : goal.ask-requires-send-J
ask-requires-send-J g c κs within = c.type_bounds.send-J

pub ask-requires-send-J-Receipt : goal.ask-requires-send-J-Receipt
ask-requires-send-J-Receipt g c κs within = c.type_bounds.send-J-Receipt

pub ask-requires-after_bounds : goal.ask-requires-after_bounds
ask-requires-after_bounds g c κs within = processor_fits (param 0 g.row.J) (param 1 g.row.J-Receipt) assumption

pub returns-then-i-len : goal.returns-then-i-len
returns-then-i-len g c = record {
  answers = record {
    step = (absent g.J.Job.key_of c.args.self.now c.args.cpu _ (omega arith), refl, refl);
    given = λ a. a;
  };
}

pub returns-then-not-is_set : goal.returns-then-not-is_set
returns-then-not-is_set g c = record {
  answers = record {
    step = (second_fails _ _ (sym c.is_set.ensures ∙ c.if-not-is_set.true), refl, refl);
    given = λ a. a;
  };
}
