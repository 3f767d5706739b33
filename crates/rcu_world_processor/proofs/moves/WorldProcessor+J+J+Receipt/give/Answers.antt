use Rattle.std.proofs.Common.{rules, ◌≡◌, ◌∙◌, sym, subst}
use Rattle.std.specs.Prelude.{if◌then◌else◌, OnOk}
use Rattle.rcu_world_processor.specs.Giving.{gives_done, gives_out}
use Rattle.rcu_world_processor.specs.Views.{seen}
use Rattle.rcu_world_processor.proofs.Sizes.{batch_fits}
use Rattle.rcu_world_processor.proofs.moves.WorldProcessor+J+J+Receipt.give.Goals as goal

pub is_spent-requires-after_bounds : goal.is_spent-requires-after_bounds
is_spent-requires-after_bounds g c κs within = batch_fits g.row.J g.row.J-Receipt assumption

pub returns-then-is_spent : goal.returns-then-is_spent
returns-then-is_spent g c = record {
  step = record {
    ok = (
        let k = g.J.Job.key_of in let o = seen k c.args.self.now in
        subst (λ b. OnOk c.give_done.result (seen k c.give_done.new.self ≡ (if b then gives_done c.args.blimit o else gives_out o))) (sym c.if-is_spent.true ∙ c.is_spent.ensures) c.give_done.ensures.step.ok
        );
    err = search rules;
    given = search rules;
  };
}

pub returns-else-is_spent : goal.returns-else-is_spent
returns-else-is_spent g c = record {
  step = record {
    ok = (
        let k = g.J.Job.key_of in let o = seen k c.args.self.now in
        subst (λ b. OnOk c.give_out.result (seen k c.give_out.new.self ≡ (if b then gives_done c.args.blimit o else gives_out o))) (sym c.if-is_spent.false ∙ c.is_spent.ensures) c.give_out.ensures.step.ok
        );
    err = search rules;
    given = search rules;
  };
}

pub give_done-requires-after_bounds : goal.give_done-requires-after_bounds
give_done-requires-after_bounds g c κs within = assumption

pub give_out-requires-after_bounds : goal.give_out-requires-after_bounds
give_out-requires-after_bounds g c κs within = assumption
