use Rattle.std.proofs.Common.{◌∙◌, ◌&&◌, sym, arith, None, not, true, refl}
use Rattle.rcu_world_law.specs.Lists.{is_nil}
use Rattle.rcu_world.proofs.Seen.{stepped, given_at, absent, skipped}
use denote.Param.{param}
use Rattle.rcu_world.proofs.Sizes.{processor_fits}
use Rattle.rcu_world.proofs.presence_events.Core+J+J+Receipt.leave.Goals as goal

pub returns : goal.returns
returns g c = record {
  answers = record {
    step = stepped g.J.Job.key_of c.args.self.now c.args.cpu c.index_mut-p.result.now c.go_away.new.self (λ x. not x.away && is_nil x.bypass) (λ x. record x { away = true }) (λ x. None) c.args.self.now.history.items
        (omega arith) c.index_mut-p.ensures.value (sym c.can_leave.ensures ∙ c.if-not-can_leave.false) c.go_away.ensures.step.made refl;
    given = given_at g.J.Job.gives c.args.self.now c.args.cpu c.index_mut-p.result.now c.go_away.new.self (omega arith) c.index_mut-p.ensures.value c.go_away.ensures.step.given;
  };
}

pub can_leave-requires-send-J : goal.can_leave-requires-send-J
can_leave-requires-send-J g c κs within = c.type_bounds.send-J

pub can_leave-requires-send-J-Receipt : goal.can_leave-requires-send-J-Receipt
can_leave-requires-send-J-Receipt g c κs within = c.type_bounds.send-J-Receipt

pub can_leave-requires-after_bounds : goal.can_leave-requires-after_bounds
can_leave-requires-after_bounds g c κs within = processor_fits (param 0 g.row.J) (param 1 g.row.J-Receipt) assumption

pub go_away-requires-send-J : goal.go_away-requires-send-J
go_away-requires-send-J g c κs within = c.type_bounds.send-J

pub go_away-requires-send-J-Receipt : goal.go_away-requires-send-J-Receipt
go_away-requires-send-J-Receipt g c κs within = c.type_bounds.send-J-Receipt

pub go_away-requires-after_bounds : goal.go_away-requires-after_bounds
go_away-requires-after_bounds g c κs within = processor_fits (param 0 g.row.J) (param 1 g.row.J-Receipt) assumption

pub returns-then-i-len : goal.returns-then-i-len
returns-then-i-len g c = record {
  answers = record {
    step = (absent g.J.Job.key_of c.args.self.now c.args.cpu _ (omega arith), refl, refl);
    given = λ a. a;
  };
}

pub returns-then-not-can_leave : goal.returns-then-not-can_leave
returns-then-not-can_leave g c = record {
  answers = record {
    step = (
        let r = skipped g.J.Job.key_of c.args.self.now c.args.cpu c.index_mut-p.result.now (λ x. not x.away && is_nil x.bypass) (omega arith) c.index_mut-p.ensures.value (sym c.can_leave.ensures ∙ c.if-not-can_leave.true) in
        (r.0, r.1, refl)
        );
    given = given_at g.J.Job.gives c.args.self.now c.args.cpu c.index_mut-p.result.now c.index_mut-p.result.now (omega arith) c.index_mut-p.ensures.value (λ mark a. a);
  };
}
