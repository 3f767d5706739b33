use Rattle.std.proofs.Common.{rules, ◌∙◌, sym, arith, refl, None, get_or, false}
use Rattle.rcu_world_law.specs.Steps.{heeds}
use Rattle.rcu_world.proofs.Seen.{stepped, given_at, absent}
use denote.Param.{param}
use Rattle.rcu_world.proofs.Sizes.{processor_fits, second_fails}
use Rattle.rcu_world.proofs.modes.Core+J+J+Receipt.heed.Goals as goal

pub returns : goal.returns
returns g c = record {
  answers = record {
    step = (
        let d = stepped g.J.Job.key_of c.args.self.now c.args.cpu c.index_mut-p.result.now c.heed-poured.new.self (λ x. get_or c.args.self.now.offloadable.items c.args.cpu false) (heeds c.heed-poured.result) (λ x. None) c.args.self.now.history.items
        (omega arith) c.index_mut-p.ensures.value (sym c.is_set.ensures ∙ c.if-not-is_set.false) c.heed-poured.ensures.step.made refl in
        (d.0, (c.heed-poured.result, d.1), refl)
        );
    given = given_at g.J.Job.gives c.args.self.now c.args.cpu c.index_mut-p.result.now c.heed-poured.new.self (omega arith) c.index_mut-p.ensures.value c.heed-poured.ensures.step.given;
  };
}

pub heed-poured-requires-send-J : goal.heed-poured-requires-send-J
heed-poured-requires-send-J g c κs within = c.type_bounds.send-J

pub heed-poured-requires-send-J-Receipt : goal.heed-poured-requires-send-J-Receipt
heed-poured-requires-send-J-Receipt g c κs within = c.type_bounds.send-J-Receipt

pub heed-poured-requires-after_bounds : goal.heed-poured-requires-after_bounds
heed-poured-requires-after_bounds g c κs within = processor_fits (param 0 g.row.J) (param 1 g.row.J-Receipt) assumption

pub returns-then-i-len : goal.returns-then-i-len
returns-then-i-len g c = record {
  answers = record {
    step = (absent g.J.Job.key_of c.args.self.now c.args.cpu _ (omega arith), refl, refl);
    given = λ a. a;
  };
}

pub returns-then-not-is_set : goal.returns-then-not-is_set
returns-then-not-is_set g c = record {
  answers = record {
    step = (second_fails _ _ (sym c.is_set.ensures ∙ c.if-not-is_set.true), refl, refl);
    given = λ a. a;
  };
}
