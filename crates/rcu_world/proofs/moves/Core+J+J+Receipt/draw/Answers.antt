use Rattle.std.proofs.Common.{rules, ◌∙◌, sym, arith, refl, None, not, ◌&&◌}
use denote.Param.{param}
use Rattle.rcu_world_law.specs.Lists.{is_nil}
use Rattle.rcu_world_law.specs.Steps.{draws}
use Rattle.rcu_world.proofs.Seen.{absent, skipped, stepped, given_at}
use Rattle.rcu_world.proofs.Sizes.{processor_fits, first_holds}
use Rattle.rcu_world.proofs.moves.Core+J+J+Receipt.draw.Goals as goal

pub can_draw-requires-send-J : goal.can_draw-requires-send-J
can_draw-requires-send-J g c κs within = c.type_bounds.send-J

pub can_draw-requires-send-J-Receipt : goal.can_draw-requires-send-J-Receipt
can_draw-requires-send-J-Receipt g c κs within = c.type_bounds.send-J-Receipt

pub can_draw-requires-after_bounds : goal.can_draw-requires-after_bounds
can_draw-requires-after_bounds g c κs within = processor_fits (param 0 g.row.J) (param 1 g.row.J-Receipt) assumption

pub draw-requires-send-J : goal.draw-requires-send-J
draw-requires-send-J g c κs within = c.type_bounds.send-J

pub draw-requires-send-J-Receipt : goal.draw-requires-send-J-Receipt
draw-requires-send-J-Receipt g c κs within = c.type_bounds.send-J-Receipt

pub draw-requires-after_bounds : goal.draw-requires-after_bounds
draw-requires-after_bounds g c κs within = (processor_fits (param 0 g.row.J) (param 1 g.row.J-Receipt) assumption, first_holds _ _ (sym c.can_draw.ensures ∙ c.if-not-can_draw.false))

pub returns : goal.returns
returns g c = record {
  answers = record {
    step = stepped g.J.Job.key_of c.args.self.now c.args.cpu c.index_mut-p.result.now c.draw.new.self (λ x. not (is_nil x.lane) && is_nil x.drawn) draws (λ x. None) c.args.self.now.history.items
        (omega arith) c.index_mut-p.ensures.value (sym c.can_draw.ensures ∙ c.if-not-can_draw.false) c.draw.ensures.step.made refl;
    given = given_at g.J.Job.gives c.args.self.now c.args.cpu c.index_mut-p.result.now c.draw.new.self (omega arith) c.index_mut-p.ensures.value c.draw.ensures.step.given;
  };
}

pub returns-then-i-len : goal.returns-then-i-len
returns-then-i-len g c = record {
  answers = record {
    step = (absent g.J.Job.key_of c.args.self.now c.args.cpu _ (omega arith), refl, refl);
    given = λ a. a;
  };
}

pub returns-then-not-can_draw : goal.returns-then-not-can_draw
returns-then-not-can_draw g c = record {
  answers = record {
    step = (
        let r = skipped g.J.Job.key_of c.args.self.now c.args.cpu c.index_mut-p.result.now (λ x. not (is_nil x.lane) && is_nil x.drawn) (omega arith) c.index_mut-p.ensures.value (sym c.can_draw.ensures ∙ c.if-not-can_draw.true) in
        (r.0, r.1, refl)
        );
    given = given_at g.J.Job.gives c.args.self.now c.args.cpu c.index_mut-p.result.now c.index_mut-p.result.now (omega arith) c.index_mut-p.ensures.value (λ mark a. a);
  };
}
