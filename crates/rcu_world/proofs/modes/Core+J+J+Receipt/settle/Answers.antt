use Rattle.std.proofs.Common.{rules, ◌∙◌, sym, arith, refl, None}
use Rattle.rcu_jobs.specs.Modes.{is_deoffloading}
use Rattle.rcu_world_law.specs.Steps.{settles}
use Rattle.rcu_world.proofs.Seen.{stepped, given_at, absent, skipped}
use denote.Param.{param}
use Rattle.rcu_world.proofs.Sizes.{processor_fits}
use Rattle.rcu_world.proofs.modes.Core+J+J+Receipt.settle.Goals as goal

pub returns : goal.returns
returns g c = record {
  answers = record {
    step = stepped g.J.Job.key_of c.args.self.now c.args.cpu c.index_mut-p.result.now c.settle.new.self (λ x. is_deoffloading x.mode) settles (λ x. None) c.args.self.now.history.items
        (omega arith) c.index_mut-p.ensures.value (sym c.is_deoffloading.ensures ∙ c.if-not-is_deoffloading.false) c.settle.ensures.step.made refl;
    given = given_at g.J.Job.gives c.args.self.now c.args.cpu c.index_mut-p.result.now c.settle.new.self (omega arith) c.index_mut-p.ensures.value c.settle.ensures.step.given;
  };
}

pub is_deoffloading-requires-send-J : goal.is_deoffloading-requires-send-J
is_deoffloading-requires-send-J g c κs within = c.type_bounds.send-J

pub is_deoffloading-requires-send-J-Receipt : goal.is_deoffloading-requires-send-J-Receipt
is_deoffloading-requires-send-J-Receipt g c κs within = c.type_bounds.send-J-Receipt

pub is_deoffloading-requires-after_bounds : goal.is_deoffloading-requires-after_bounds
is_deoffloading-requires-after_bounds g c κs within = processor_fits (param 0 g.row.J) (param 1 g.row.J-Receipt) assumption

pub settle-requires-send-J : goal.settle-requires-send-J
settle-requires-send-J g c κs within = c.type_bounds.send-J

pub settle-requires-send-J-Receipt : goal.settle-requires-send-J-Receipt
settle-requires-send-J-Receipt g c κs within = c.type_bounds.send-J-Receipt

pub settle-requires-after_bounds : goal.settle-requires-after_bounds
settle-requires-after_bounds g c κs within = processor_fits (param 0 g.row.J) (param 1 g.row.J-Receipt) assumption

pub returns-then-i-len : goal.returns-then-i-len
returns-then-i-len g c = record {
  answers = record {
    step = (absent g.J.Job.key_of c.args.self.now c.args.cpu _ (omega arith), refl, refl);
    given = λ a. a;
  };
}

pub returns-then-not-is_deoffloading : goal.returns-then-not-is_deoffloading
returns-then-not-is_deoffloading g c = record {
  answers = record {
    step = (
        let r = skipped g.J.Job.key_of c.args.self.now c.args.cpu c.index_mut-p.result.now (λ x. is_deoffloading x.mode) (omega arith) c.index_mut-p.ensures.value (sym c.is_deoffloading.ensures ∙ c.if-not-is_deoffloading.true) in
        (r.0, r.1, refl)
        );
    given = given_at g.J.Job.gives c.args.self.now c.args.cpu c.index_mut-p.result.now c.index_mut-p.result.now (omega arith) c.index_mut-p.ensures.value (λ mark a. a);
  };
}
