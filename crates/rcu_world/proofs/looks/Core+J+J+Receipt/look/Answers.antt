use Rattle.std.proofs.Common.{rules, ◌∙◌, ap, arith, None, not, refl, subst, sym}
use Rattle.rcu_world_law.specs.Steps.{looks}
use Rattle.rcu_world_processor.specs.Views.{seen}
use Rattle.rcu_world.specs.Members.{IsLookable}
use Rattle.rcu_world.proofs.Seen.{absent, lookable_at, skipped, stepped, given_at}
use denote.Param.{param}
use Rattle.rcu_world.proofs.Sizes.{processor_fits}
use Rattle.rcu_world.proofs.looks.Core+J+J+Receipt.look.Goals as goal

pub returns : goal.returns
returns g c = record {
  answers = record {
    step = stepped g.J.Job.key_of c.args.self.now c.args.cpu c.index_mut-p.result.now c.look.new.self (λ x. not x.away) (looks c.args.self.now.board.number) (λ x. None) c.args.self.now.history.items
        (omega arith) c.index_mut-p.ensures.value (ap not (sym c.is_away.ensures ∙ c.if-is_away.false)) (c.look.ensures.step.made ∙ ap (λ s. looks s (seen g.J.Job.key_of c.index_mut-p.result.now)) c.number-number.ensures) refl;
    given = given_at g.J.Job.gives c.args.self.now c.args.cpu c.index_mut-p.result.now c.look.new.self (omega arith) c.index_mut-p.ensures.value c.look.ensures.step.given;
  };
}

pub look-requires-send-J : goal.look-requires-send-J
look-requires-send-J g c κs within = c.type_bounds.send-J

pub look-requires-send-J-Receipt : goal.look-requires-send-J-Receipt
look-requires-send-J-Receipt g c κs within = c.type_bounds.send-J-Receipt

pub look-requires-after_bounds : goal.look-requires-after_bounds
look-requires-after_bounds g c κs within = let l = subst (λ s. IsLookable s (seen g.J.Job.key_of c.index_mut-p.result.now).own) (sym c.number-number.ensures) (lookable_at g.J.Job.key_of c.args.self.now c.args.cpu c.index_mut-p.result.now c.requires.core (omega arith) c.index_mut-p.ensures.value) in (processor_fits (param 0 g.row.J) (param 1 g.row.J-Receipt) assumption, (l.small, l.may))

pub returns-then-i-len : goal.returns-then-i-len
returns-then-i-len g c = record {
  answers = record {
    step = (absent g.J.Job.key_of c.args.self.now c.args.cpu _ (omega arith), refl, refl);
    given = λ a. a;
  };
}

pub returns-then-is_away : goal.returns-then-is_away
returns-then-is_away g c = record {
  answers = record {
    step = (
        let r = skipped g.J.Job.key_of c.args.self.now c.args.cpu c.index_mut-p.result.now (λ x. not x.away) (omega arith) c.index_mut-p.ensures.value (ap not (sym c.is_away.ensures ∙ c.if-is_away.true)) in
        (r.0, r.1, refl)
        );
    given = given_at g.J.Job.gives c.args.self.now c.args.cpu c.index_mut-p.result.now c.index_mut-p.result.now (omega arith) c.index_mut-p.ensures.value (λ mark a. a);
  };
}

pub is_away-requires-send-J : goal.is_away-requires-send-J
is_away-requires-send-J g c κs within = c.type_bounds.send-J

pub is_away-requires-send-J-Receipt : goal.is_away-requires-send-J-Receipt
is_away-requires-send-J-Receipt g c κs within = c.type_bounds.send-J-Receipt

pub is_away-requires-after_bounds : goal.is_away-requires-after_bounds
is_away-requires-after_bounds g c κs within = processor_fits (param 0 g.row.J) (param 1 g.row.J-Receipt) assumption
