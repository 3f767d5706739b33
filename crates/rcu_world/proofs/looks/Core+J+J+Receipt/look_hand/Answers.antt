use Rattle.std.proofs.Common.{rules, ◌∙◌, ap, sym, arith, refl, None, get_or, false}
use Rattle.rcu_world_law.specs.Steps.{hand_looks}
use Rattle.rcu_world_processor.specs.Views.{seen}
use Rattle.rcu_world.proofs.Seen.{stepped, given_at, absent}
use denote.Param.{param}
use Rattle.rcu_world.proofs.Sizes.{processor_fits, second_fails}
use Rattle.rcu_world.proofs.looks.Core+J+J+Receipt.look_hand.Goals as goal

pub returns : goal.returns
returns g c = record {
  answers = record {
    step = stepped g.J.Job.key_of c.args.self.now c.args.cpu c.index_mut-p.result.now c.look_hand.new.self (λ x. get_or c.args.self.now.offloadable.items c.args.cpu false) (hand_looks c.args.self.now.board.number) (λ x. None) c.args.self.now.history.items
        (omega arith) c.index_mut-p.ensures.value (sym c.is_set.ensures ∙ c.if-not-is_set.false) (c.look_hand.ensures.step.made ∙ ap (λ s. hand_looks s (seen g.J.Job.key_of c.index_mut-p.result.now)) c.number-number.ensures) refl;
    given = given_at g.J.Job.gives c.args.self.now c.args.cpu c.index_mut-p.result.now c.look_hand.new.self (omega arith) c.index_mut-p.ensures.value c.look_hand.ensures.step.given;
  };
}

pub look_hand-requires-send-J : goal.look_hand-requires-send-J
look_hand-requires-send-J g c κs within = c.type_bounds.send-J

pub look_hand-requires-send-J-Receipt : goal.look_hand-requires-send-J-Receipt
look_hand-requires-send-J-Receipt g c κs within = c.type_bounds.send-J-Receipt

pub look_hand-requires-after_bounds : goal.look_hand-requires-after_bounds
look_hand-requires-after_bounds g c κs within = processor_fits (param 0 g.row.J) (param 1 g.row.J-Receipt) assumption

pub returns-then-i-len : goal.returns-then-i-len
returns-then-i-len g c = record {
  answers = record {
    step = (absent g.J.Job.key_of c.args.self.now c.args.cpu _ (omega arith), refl, refl);
    given = λ a. a;
  };
}

pub returns-then-not-is_set : goal.returns-then-not-is_set
returns-then-not-is_set g c = record {
  answers = record {
    step = (second_fails _ _ (sym c.is_set.ensures ∙ c.if-not-is_set.true), refl, refl);
    given = λ a. a;
  };
}
