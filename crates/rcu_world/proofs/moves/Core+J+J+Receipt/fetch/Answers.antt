use Rattle.std.proofs.Common.{rules, ◌∙◌, sym, arith, refl, None, not, ◌&&◌}
use Rattle.rcu_world_law.specs.Lists.{is_nil}
use Rattle.rcu_world_law.specs.Steps.{fetches}
use Rattle.rcu_world.proofs.Seen.{stepped, given_at, absent, skipped}
use denote.Param.{param}
use Rattle.rcu_world.proofs.Sizes.{processor_fits, second_holds}
use Rattle.rcu_world.proofs.moves.Core+J+J+Receipt.fetch.Goals as goal

pub returns : goal.returns
returns g c = record {
  answers = record {
    step = stepped g.J.Job.key_of c.args.self.now c.args.cpu c.index_mut-p.result.now c.fetch.new.self (λ x. is_nil x.held && not (is_nil x.done_lane)) fetches (λ x. None) c.args.self.now.history.items
        (omega arith) c.index_mut-p.ensures.value (sym c.can_fetch.ensures ∙ c.if-not-can_fetch.false) c.fetch.ensures.step.made refl;
    given = given_at g.J.Job.gives c.args.self.now c.args.cpu c.index_mut-p.result.now c.fetch.new.self (omega arith) c.index_mut-p.ensures.value c.fetch.ensures.step.given;
  };
}

pub can_fetch-requires-send-J : goal.can_fetch-requires-send-J
can_fetch-requires-send-J g c κs within = c.type_bounds.send-J

pub can_fetch-requires-send-J-Receipt : goal.can_fetch-requires-send-J-Receipt
can_fetch-requires-send-J-Receipt g c κs within = c.type_bounds.send-J-Receipt

pub can_fetch-requires-after_bounds : goal.can_fetch-requires-after_bounds
can_fetch-requires-after_bounds g c κs within = processor_fits (param 0 g.row.J) (param 1 g.row.J-Receipt) assumption

pub fetch-requires-send-J : goal.fetch-requires-send-J
fetch-requires-send-J g c κs within = c.type_bounds.send-J

pub fetch-requires-send-J-Receipt : goal.fetch-requires-send-J-Receipt
fetch-requires-send-J-Receipt g c κs within = c.type_bounds.send-J-Receipt

pub fetch-requires-after_bounds : goal.fetch-requires-after_bounds
fetch-requires-after_bounds g c κs within = (processor_fits (param 0 g.row.J) (param 1 g.row.J-Receipt) assumption, second_holds _ _ (sym c.can_fetch.ensures ∙ c.if-not-can_fetch.false))

pub returns-then-i-len : goal.returns-then-i-len
returns-then-i-len g c = record {
  answers = record {
    step = (absent g.J.Job.key_of c.args.self.now c.args.cpu _ (omega arith), refl, refl);
    given = λ a. a;
  };
}

pub returns-then-not-can_fetch : goal.returns-then-not-can_fetch
returns-then-not-can_fetch g c = record {
  answers = record {
    step = (
        let r = skipped g.J.Job.key_of c.args.self.now c.args.cpu c.index_mut-p.result.now (λ x. is_nil x.held && not (is_nil x.done_lane)) (omega arith) c.index_mut-p.ensures.value (sym c.can_fetch.ensures ∙ c.if-not-can_fetch.true) in
        (r.0, r.1, refl)
        );
    given = given_at g.J.Job.gives c.args.self.now c.args.cpu c.index_mut-p.result.now c.index_mut-p.result.now (omega arith) c.index_mut-p.ensures.value (λ mark a. a);
  };
}
