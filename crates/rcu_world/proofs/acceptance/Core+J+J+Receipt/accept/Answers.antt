use Rattle.std.proofs.Common.{◌∙◌, sym, arith, refl, Some, ap, ◌++◌, ◌∷◌, []}
use Rattle.rcu_world_law.specs.declared.marks.Mark.TheVariants.{Accepted}
use Rattle.rcu_world_law.specs.Steps.{can_accept, accepts}
use Rattle.rcu_world.proofs.Seen.{stepped, refused, given_at, absent, skipped}
use Rattle.rcu_world.proofs.Readying.{ready_set}
use denote.Param.{param}
use Rattle.rcu_world.proofs.Sizes.{never, processor_fits}
use Rattle.rcu_world.proofs.Entering.{accepted_fits}
use Rattle.rcu_world.proofs.acceptance.Core+J+J+Receipt.accept.Goals as goal

pub returns-in-Err-reserve-clause-answers : goal.returns-in-Err-reserve-clause-answers
returns-in-Err-reserve-clause-answers g c = record {
  step = (
      let r = refused g.J.Job.key_of c.args.self.now c.args.cpu c.index_mut-p.result.now c.reserve-2.new.self (can_accept c.args.self.now.limit) c.reserve.new.self.items
      (omega arith) c.index_mut-p.ensures.value (sym c.can_accept.ensures ∙ c.if-not-can_accept.false) c.reserve-2.ensures.same c.reserve.ensures.items in
      (r.0, r.1, refl, refl)
      );
  given = given_at g.J.Job.gives c.args.self.now c.args.cpu c.index_mut-p.result.now c.reserve-2.new.self (omega arith) c.index_mut-p.ensures.value c.reserve-2.ensures.given;
}

pub returns-clause-answers : goal.returns-clause-answers
returns-clause-answers g c = record {
  step = stepped g.J.Job.key_of c.args.self.now c.args.cpu c.index_mut-p.result.now c.accept.new.self (can_accept c.args.self.now.limit) (accepts (g.J.Job.key_of c.args.job)) (λ x. Some (Accepted c.args.cpu (g.J.Job.key_of c.args.job))) c.push_reserved.new.self.items
      (omega arith) c.index_mut-p.ensures.value (sym c.can_accept.ensures ∙ c.if-not-can_accept.false) (c.accept.ensures.step.made ∙ ap (accepts (g.J.Job.key_of c.args.job)) c.reserve-2.ensures.same)
      (c.push_reserved.ensures.items ∙ ap (λ h. h ++ Accepted c.args.cpu c.key-key.result ∷ []) c.reserve.ensures.items ∙ ap (λ k. c.args.self.now.history.items ++ Accepted c.args.cpu k ∷ []) c.key-key.ensures);
  given = given_at g.J.Job.gives c.args.self.now c.args.cpu c.index_mut-p.result.now c.accept.new.self (omega arith) c.index_mut-p.ensures.value (λ mark a. c.accept.ensures.step.given mark (c.reserve-2.ensures.given mark a));
}

pub returns-clause-ready : goal.returns-clause-ready
returns-clause-ready g c = λ d. ready_set c.args.self.now.processors.items c.args.cpu c.accept.new.self (omega arith) (c.accept.ensures.ready c.in-Ok-reserve.ensures.room)

pub can_accept-requires-send-J : goal.can_accept-requires-send-J
can_accept-requires-send-J g c κs within = c.type_bounds.send-J

pub can_accept-requires-send-J-Receipt : goal.can_accept-requires-send-J-Receipt
can_accept-requires-send-J-Receipt g c κs within = c.type_bounds.send-J-Receipt

pub can_accept-requires-after_bounds : goal.can_accept-requires-after_bounds
can_accept-requires-after_bounds g c κs within = processor_fits (param 0 g.row.J) (param 1 g.row.J-Receipt) assumption

pub reserve-requires-2-send-J : goal.reserve-requires-2-send-J
reserve-requires-2-send-J g c κs within = c.type_bounds.send-J

pub reserve-requires-2-send-J-Receipt : goal.reserve-requires-2-send-J-Receipt
reserve-requires-2-send-J-Receipt g c κs within = c.type_bounds.send-J-Receipt

pub reserve-requires-2-after_bounds : goal.reserve-requires-2-after_bounds
reserve-requires-2-after_bounds g c κs within = processor_fits (param 0 g.row.J) (param 1 g.row.J-Receipt) assumption

pub returns-then-i-len-clause-answers : goal.returns-then-i-len-clause-answers
returns-then-i-len-clause-answers g c = record {
  step = (absent g.J.Job.key_of c.args.self.now c.args.cpu _ (omega arith), refl, refl);
  given = λ a. a;
}

pub returns-then-not-can_accept-clause-answers : goal.returns-then-not-can_accept-clause-answers
returns-then-not-can_accept-clause-answers g c = record {
  step = (
      let r = skipped g.J.Job.key_of c.args.self.now c.args.cpu c.index_mut-p.result.now (can_accept c.args.self.now.limit) (omega arith) c.index_mut-p.ensures.value (sym c.can_accept.ensures ∙ c.if-not-can_accept.true) in
      (r.0, r.1, refl)
      );
  given = given_at g.J.Job.gives c.args.self.now c.args.cpu c.index_mut-p.result.now c.index_mut-p.result.now (omega arith) c.index_mut-p.ensures.value (λ mark a. a);
}

pub returns-in-Err-clause-answers : goal.returns-in-Err-clause-answers
returns-in-Err-clause-answers g c = record {
  step = (
      let r = refused g.J.Job.key_of c.args.self.now c.args.cpu c.index_mut-p.result.now c.index_mut-p.result.now (can_accept c.args.self.now.limit) c.reserve.new.self.items (omega arith) c.index_mut-p.ensures.value (sym c.can_accept.ensures ∙ c.if-not-can_accept.false) refl c.reserve.ensures.items in
      (r.0, r.1, refl, refl)
      );
  given = given_at g.J.Job.gives c.args.self.now c.args.cpu c.index_mut-p.result.now c.index_mut-p.result.now (omega arith) c.index_mut-p.ensures.value (λ mark a. a);
}

pub accept-requires-send-J : goal.accept-requires-send-J
accept-requires-send-J g c κs within = c.type_bounds.send-J

pub accept-requires-send-J-Receipt : goal.accept-requires-send-J-Receipt
accept-requires-send-J-Receipt g c κs within = c.type_bounds.send-J-Receipt

pub accept-requires-after_bounds : goal.accept-requires-after_bounds
accept-requires-after_bounds g c κs within = (processor_fits (param 0 g.row.J) (param 1 g.row.J-Receipt) assumption, accepted_fits g.J.Job.key_of c.args.self.now c.args.cpu c.index_mut-p.result.now c.reserve-2.new.self c.requires (omega arith) c.index_mut-p.ensures.value (sym c.can_accept.ensures ∙ c.if-not-can_accept.false) c.reserve-2.ensures.same)

pub returns-then-i-len-clause-ready : goal.returns-then-i-len-clause-ready
returns-then-i-len-clause-ready g c = λ d. never d

pub returns-then-not-can_accept-clause-ready : goal.returns-then-not-can_accept-clause-ready
returns-then-not-can_accept-clause-ready g c = λ d. never d

pub returns-in-Err-clause-ready : goal.returns-in-Err-clause-ready
returns-in-Err-clause-ready g c = λ d. never d

pub returns-in-Err-reserve-clause-ready : goal.returns-in-Err-reserve-clause-ready
returns-in-Err-reserve-clause-ready g c = λ d. never d
