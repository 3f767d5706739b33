use Rattle.std.proofs.Common.{rules, ◌≡◌, ◌<◌, ◌∙◌, ap, sym, arith, refl, None, not, ◌&&◌, length, subst, true, false}
use Rattle.rcu_world_law.specs.Lists.{is_none}
use Rattle.rcu_jobs.specs.Modes.{is_offloaded}
use Rattle.rcu_world_law.specs.Steps.{stamps}
use Rattle.rcu_world_law.specs.Releases.{releases}
use Rattle.rcu_world_processor.specs.Views.{seen}
use Rattle.rcu_world.proofs.Seen.{stepped, refused, test_at, given_at, mark_at, absent, skipped}
use denote.Param.{param}
use Rattle.rcu_world.proofs.Sizes.{processor_fits}
use Rattle.rcu_world.proofs.acceptance.Core+J+J+Receipt.stamp.Goals as goal

pub returns-in-Err-clause-answers : goal.returns-in-Err-clause-answers
returns-in-Err-clause-answers g c = record {
  step = (
      let r = refused g.J.Job.key_of c.args.self.now c.args.cpu c.index_mut-p.result.now c.stamp.new.self (λ x. not (is_none x.fresh)) c.args.self.now.history.items
      (omega arith) c.index_mut-p.ensures.value (sym c.is_fresh.ensures ∙ c.if-not-is_fresh.false) c.in-Err.ensures.step.err refl in
      (r.0, r.1, refl, refl)
      );
  given = given_at g.J.Job.gives c.args.self.now c.args.cpu c.index_mut-p.result.now c.stamp.new.self (omega arith) c.index_mut-p.ensures.value c.stamp.ensures.step.given;
}

pub returns-in-Ok-true-clause-answers : goal.returns-in-Ok-true-clause-answers
returns-in-Ok-true-clause-answers g c = record {
  step = (
      let l : c.args.cpu < length c.args.self.now.processors.items = omega arith in
      let d = stepped g.J.Job.key_of c.args.self.now c.args.cpu c.index_mut-p.result.now c.stamp.new.self (λ x. not (is_none x.fresh)) (stamps c.args.self.now.board.number c.args.moment c.args.lazy) (λ x. None) c.args.self.now.history.items
      l c.index_mut-p.ensures.value (sym c.is_fresh.ensures ∙ c.if-not-is_fresh.false) (c.in-Ok-true.ensures.step.ok ∙ ap (λ s. stamps s c.args.moment c.args.lazy (seen g.J.Job.key_of c.index_mut-p.result.now)) c.number-number.ensures) refl in
      let m = mark_at g.J.Job.gives c.args.self.now c.args.cpu c.index_mut-p.result.now l c.index_mut-p.ensures.value c.requires.given in
      let r = subst (λ n. (is_offloaded c.index_mut-p.result.now.mode && releases n c.args.lazy c.args.moment (seen g.J.Job.key_of c.index_mut-p.result.now)) ≡ true) m (sym c.in-Ok-true.ensures.due ∙ c.in-Ok-true.field-0-test) in
      (d.0, d.1, test_at g.J.Job.key_of c.args.self.now c.args.cpu c.index_mut-p.result.now (λ x. is_offloaded x.mode && releases c.args.self.now.qhimark c.args.lazy c.args.moment x) _ l c.index_mut-p.ensures.value r)
      );
  given = given_at g.J.Job.gives c.args.self.now c.args.cpu c.index_mut-p.result.now c.stamp.new.self (omega arith) c.index_mut-p.ensures.value c.stamp.ensures.step.given;
}

pub returns-in-Ok-false-clause-answers : goal.returns-in-Ok-false-clause-answers
returns-in-Ok-false-clause-answers g c = record {
  step = (
      let l : c.args.cpu < length c.args.self.now.processors.items = omega arith in
      let d = stepped g.J.Job.key_of c.args.self.now c.args.cpu c.index_mut-p.result.now c.stamp.new.self (λ x. not (is_none x.fresh)) (stamps c.args.self.now.board.number c.args.moment c.args.lazy) (λ x. None) c.args.self.now.history.items
      l c.index_mut-p.ensures.value (sym c.is_fresh.ensures ∙ c.if-not-is_fresh.false) (c.in-Ok-false.ensures.step.ok ∙ ap (λ s. stamps s c.args.moment c.args.lazy (seen g.J.Job.key_of c.index_mut-p.result.now)) c.number-number.ensures) refl in
      let m = mark_at g.J.Job.gives c.args.self.now c.args.cpu c.index_mut-p.result.now l c.index_mut-p.ensures.value c.requires.given in
      let r = subst (λ n. (is_offloaded c.index_mut-p.result.now.mode && releases n c.args.lazy c.args.moment (seen g.J.Job.key_of c.index_mut-p.result.now)) ≡ false) m (sym c.in-Ok-false.ensures.due ∙ c.in-Ok-false.field-0-test) in
      (d.0, d.1, test_at g.J.Job.key_of c.args.self.now c.args.cpu c.index_mut-p.result.now (λ x. is_offloaded x.mode && releases c.args.self.now.qhimark c.args.lazy c.args.moment x) _ l c.index_mut-p.ensures.value r)
      );
  given = given_at g.J.Job.gives c.args.self.now c.args.cpu c.index_mut-p.result.now c.stamp.new.self (omega arith) c.index_mut-p.ensures.value c.stamp.ensures.step.given;
}

pub is_fresh-requires-send-J : goal.is_fresh-requires-send-J
is_fresh-requires-send-J g c κs within = c.type_bounds.send-J

pub is_fresh-requires-send-J-Receipt : goal.is_fresh-requires-send-J-Receipt
is_fresh-requires-send-J-Receipt g c κs within = c.type_bounds.send-J-Receipt

pub is_fresh-requires-after_bounds : goal.is_fresh-requires-after_bounds
is_fresh-requires-after_bounds g c κs within = processor_fits (param 0 g.row.J) (param 1 g.row.J-Receipt) assumption

pub stamp-requires-send-J : goal.stamp-requires-send-J
stamp-requires-send-J g c κs within = c.type_bounds.send-J

pub stamp-requires-send-J-Receipt : goal.stamp-requires-send-J-Receipt
stamp-requires-send-J-Receipt g c κs within = c.type_bounds.send-J-Receipt

pub stamp-requires-after_bounds : goal.stamp-requires-after_bounds
stamp-requires-after_bounds g c κs within = (processor_fits (param 0 g.row.J) (param 1 g.row.J-Receipt) assumption, sym c.is_fresh.ensures ∙ c.if-not-is_fresh.false)

pub returns-then-i-len-clause-answers : goal.returns-then-i-len-clause-answers
returns-then-i-len-clause-answers g c = record {
  step = (absent g.J.Job.key_of c.args.self.now c.args.cpu _ (omega arith), refl, refl);
  given = λ a. a;
}

pub returns-then-not-is_fresh-clause-answers : goal.returns-then-not-is_fresh-clause-answers
returns-then-not-is_fresh-clause-answers g c = record {
  step = (
      let r = skipped g.J.Job.key_of c.args.self.now c.args.cpu c.index_mut-p.result.now (λ x. not (is_none x.fresh)) (omega arith) c.index_mut-p.ensures.value (sym c.is_fresh.ensures ∙ c.if-not-is_fresh.true) in
      (r.0, r.1, refl)
      );
  given = given_at g.J.Job.gives c.args.self.now c.args.cpu c.index_mut-p.result.now c.index_mut-p.result.now (omega arith) c.index_mut-p.ensures.value (λ mark a. a);
}

pub returns-in-Err-clause-sure : goal.returns-in-Err-clause-sure
returns-in-Err-clause-sure g c = λ r. sym (c.in-Err.ensures.succeeds (r c.index_mut-p.result.now c.index_mut-p.ensures.value))
