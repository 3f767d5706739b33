use Rattle.std.proofs.Common.{◌∙◌, sym, arith, None, false, refl}
use Rattle.rcu_world.proofs.Seen.{stepped, given_at, absent, skipped}
use denote.Param.{param}
use Rattle.rcu_world.proofs.Sizes.{processor_fits}
use Rattle.rcu_world.proofs.presence_events.Core+J+J+Receipt.come_back.Goals as goal

pub returns : goal.returns
returns g c = record {
  answers = record {
    step = stepped g.J.Job.key_of c.args.self.now c.args.cpu c.index_mut-p.result.now c.come_back.new.self (λ x. x.away) (λ x. record x { away = false }) (λ x. None) c.args.self.now.history.items
        (omega arith) c.index_mut-p.ensures.value (sym c.is_away.ensures ∙ c.if-not-is_away.false) c.come_back.ensures.step.made refl;
    given = given_at g.J.Job.gives c.args.self.now c.args.cpu c.index_mut-p.result.now c.come_back.new.self (omega arith) c.index_mut-p.ensures.value c.come_back.ensures.step.given;
  };
}

pub is_away-requires-send-J : goal.is_away-requires-send-J
is_away-requires-send-J g c κs within = c.type_bounds.send-J

pub is_away-requires-send-J-Receipt : goal.is_away-requires-send-J-Receipt
is_away-requires-send-J-Receipt g c κs within = c.type_bounds.send-J-Receipt

pub is_away-requires-after_bounds : goal.is_away-requires-after_bounds
is_away-requires-after_bounds g c κs within = processor_fits (param 0 g.row.J) (param 1 g.row.J-Receipt) assumption

pub come_back-requires-send-J : goal.come_back-requires-send-J
come_back-requires-send-J g c κs within = c.type_bounds.send-J

pub come_back-requires-send-J-Receipt : goal.come_back-requires-send-J-Receipt
come_back-requires-send-J-Receipt g c κs within = c.type_bounds.send-J-Receipt

pub come_back-requires-after_bounds : goal.come_back-requires-after_bounds
come_back-requires-after_bounds g c κs within = processor_fits (param 0 g.row.J) (param 1 g.row.J-Receipt) assumption

pub returns-then-i-len : goal.returns-then-i-len
returns-then-i-len g c = record {
  answers = record {
    step = (absent g.J.Job.key_of c.args.self.now c.args.cpu _ (omega arith), refl, refl);
    given = λ a. a;
  };
}

pub returns-then-not-is_away : goal.returns-then-not-is_away
returns-then-not-is_away g c = record {
  answers = record {
    step = (
        let r = skipped g.J.Job.key_of c.args.self.now c.args.cpu c.index_mut-p.result.now (λ x. x.away) (omega arith) c.index_mut-p.ensures.value (sym c.is_away.ensures ∙ c.if-not-is_away.true) in
        (r.0, r.1, refl)
        );
    given = given_at g.J.Job.gives c.args.self.now c.args.cpu c.index_mut-p.result.now c.index_mut-p.result.now (omega arith) c.index_mut-p.ensures.value (λ mark a. a);
  };
}
