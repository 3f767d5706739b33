use Rattle.std.proofs.Common.{◌≡◌, ℕ, ◌≤◌, ◌∙◌, true, false, sym, refl, subst}
use Rattle.rcu_part_steps.specs.Stops.{StopsInTime}
use Rattle.rcu_part_processor.proofs.TickLaws.{before_local, before_offloadable, tick_fresh, tick_local, tick_none}
use Rattle.rcu_part_processor.proofs.TickRuns.{same_processor_again}
use Rattle.rcu_part_processor.proofs.processor.Processor.tick.Goals as goal

pub returns-then-not-self-clause-ticks : goal.returns-then-not-self-clause-ticks
returns-then-not-self-clause-ticks g c = let q = c.catch_up-seen.new.self.state in let r = c.run_done.ensures.runs.does in record {
  seen = c.catch_up-seen.result;
  tried = r.0;
  first = q;
  second = q;
  third = q;
  same = (c.catch_up-seen.ensures.catches_up.same, c.catch_up-seen.ensures.catches_up.same, c.catch_up-seen.ensures.catches_up.same);
  catches_up = c.catch_up-seen.ensures.catches_up.does;
  local = λ off. (refl, refl);
  heeds = λ on. (let f : true ≡ false = sym on ∙ (sym c.catch_up-seen.ensures.catches_up.same.offloadable ∙ c.if-not-self.true) in cc);
  settles = λ on. (let f : true ≡ false = sym on ∙ (sym c.catch_up-seen.ensures.catches_up.same.offloadable ∙ c.if-not-self.true) in cc);
  ran = r.1;
  stop = r.2;
}

pub returns-then-not-self-clause-fresh : goal.returns-then-not-self-clause-fresh
returns-then-not-self-clause-fresh g c = let p = c.args.self.now.state in let a = c.catch_up-seen in let q = a.new.self.state in let r = c.run_done.ensures.runs.does in
    tick_fresh c.run_done.result.ran r.0 a.result p q c.run_done.new.self.state (before_local a.result p q a.ensures.catches_up.same a.ensures.catches_up.does (sym c.catch_up-seen.ensures.catches_up.same.offloadable ∙ c.if-not-self.true)) r.1

pub returns-then-not-self-clause-none : goal.returns-then-not-self-clause-none
returns-then-not-self-clause-none g c = let p = c.args.self.now.state in let a = c.catch_up-seen in let q = a.new.self.state in let r = c.run_done.ensures.runs.does in
    tick_none c.run_done.result.ran r.0 a.result p q c.run_done.new.self.state (before_local a.result p q a.ensures.catches_up.same a.ensures.catches_up.does (sym c.catch_up-seen.ensures.catches_up.same.offloadable ∙ c.if-not-self.true)) r.1

pub returns-then-not-self-clause-local : goal.returns-then-not-self-clause-local
returns-then-not-self-clause-local g c = let p = c.args.self.now.state in let a = c.catch_up-seen in let q = a.new.self.state in let r = c.run_done.ensures.runs.does in
    tick_local c.run_done.result.ran r.0 a.result p q c.run_done.new.self.state (before_local a.result p q a.ensures.catches_up.same a.ensures.catches_up.does (sym c.catch_up-seen.ensures.catches_up.same.offloadable ∙ c.if-not-self.true)) r.1

pub returns-then-not-self-clause-sound : goal.returns-then-not-self-clause-sound
returns-then-not-self-clause-sound g c = λ sound. c.run_done.ensures.runs.sound (c.catch_up-seen.ensures.catches_up.sound sound)

pub returns-clause-ticks : goal.returns-clause-ticks
returns-clause-ticks g c = let r = c.run_done-2.ensures.runs.does in let p = c.args.self.now.state in let q = c.heed.new.self.state in
    let heeded = same_processor_again p c.catch_up-seen.new.self.state q c.catch_up-seen.ensures.catches_up.same c.heed.ensures.heeds.same in record {
      seen = c.catch_up-seen.result;
      tried = r.0;
      first = c.catch_up-seen.new.self.state;
      second = c.heed.new.self.state;
      third = c.settle.new.self.state;
      same = (c.catch_up-seen.ensures.catches_up.same, heeded, same_processor_again p q c.settle.new.self.state heeded c.settle.ensures.settles.same);
      catches_up = c.catch_up-seen.ensures.catches_up.does;
      local = λ off. (let f : true ≡ false = sym (sym c.catch_up-seen.ensures.catches_up.same.offloadable ∙ c.if-not-self.false) ∙ off in cc);
      heeds = λ on. c.heed.ensures.heeds.does;
      settles = λ on. c.settle.ensures.settles.does;
      ran = r.1;
      stop = r.2;
    }

pub returns-clause-fresh : goal.returns-clause-fresh
returns-clause-fresh g c = let p = c.args.self.now.state in let a = c.catch_up-seen in let q = a.new.self.state in let h = c.heed in let t = c.settle in let r = c.run_done-2.ensures.runs.does in
    tick_fresh c.run_done-2.result.ran r.0 a.result p t.new.self.state c.run_done-2.new.self.state
    (before_offloadable a.result c.args.moment p q h.new.self.state t.new.self.state a.ensures.catches_up.same h.ensures.heeds.same t.ensures.settles.same a.ensures.catches_up.does (sym c.catch_up-seen.ensures.catches_up.same.offloadable ∙ c.if-not-self.false) h.ensures.heeds.does t.ensures.settles.does) r.1

pub returns-clause-local : goal.returns-clause-local
returns-clause-local g c = let p = c.args.self.now.state in let a = c.catch_up-seen in let q = a.new.self.state in let h = c.heed in let t = c.settle in let r = c.run_done-2.ensures.runs.does in
    tick_local c.run_done-2.result.ran r.0 a.result p t.new.self.state c.run_done-2.new.self.state
    (before_offloadable a.result c.args.moment p q h.new.self.state t.new.self.state a.ensures.catches_up.same h.ensures.heeds.same t.ensures.settles.same a.ensures.catches_up.does (sym c.catch_up-seen.ensures.catches_up.same.offloadable ∙ c.if-not-self.false) h.ensures.heeds.does t.ensures.settles.does) r.1

pub returns-clause-none : goal.returns-clause-none
returns-clause-none g c = let p = c.args.self.now.state in let a = c.catch_up-seen in let q = a.new.self.state in let h = c.heed in let t = c.settle in let r = c.run_done-2.ensures.runs.does in
    tick_none c.run_done-2.result.ran r.0 a.result p t.new.self.state c.run_done-2.new.self.state
    (before_offloadable a.result c.args.moment p q h.new.self.state t.new.self.state a.ensures.catches_up.same h.ensures.heeds.same t.ensures.settles.same a.ensures.catches_up.does (sym c.catch_up-seen.ensures.catches_up.same.offloadable ∙ c.if-not-self.false) h.ensures.heeds.does t.ensures.settles.does) r.1

pub returns-clause-sound : goal.returns-clause-sound
returns-clause-sound g c = λ sound. c.run_done-2.ensures.runs.sound (c.settle.ensures.settles.sound (c.heed.ensures.heeds.sound (c.catch_up-seen.ensures.catches_up.sound sound)))

pub catch_up-seen-requires : goal.catch_up-seen-requires
catch_up-seen-requires g c = assumption

pub run_done-requires : goal.run_done-requires
run_done-requires g c = (assumption, (assumption, (assumption, c.catch_up-seen.ensures.sight)))

pub returns-then-not-self-clause-same : goal.returns-then-not-self-clause-same
returns-then-not-self-clause-same g c = same_processor_again c.args.self.now.state c.catch_up-seen.new.self.state c.run_done.new.self.state c.catch_up-seen.ensures.catches_up.same c.run_done.ensures.runs.same

pub returns-then-not-self-clause-few : goal.returns-then-not-self-clause-few
returns-then-not-self-clause-few g c = subst (λ (n : ℕ). c.run_done.result.ran ≤ n) c.catch_up-seen.ensures.catches_up.same.blimit c.run_done.ensures.few

pub returns-then-not-self-clause-count : goal.returns-then-not-self-clause-count
returns-then-not-self-clause-count g c = c.run_done.ensures.runs.count ∙ c.catch_up-seen.ensures.catches_up.count

pub heed-requires : goal.heed-requires
heed-requires g c = (assumption, (assumption, (assumption, c.if-not-self.false)))

pub settle-requires : goal.settle-requires
settle-requires g c = (assumption, (assumption, (assumption, c.heed.ensures.heeds.same.offloadable ∙ c.if-not-self.false)))

pub run_done-requires-2 : goal.run_done-requires-2
run_done-requires-2 g c = let a = c.catch_up-seen.ensures.sight in let b = c.heed.ensures.sight in let t = c.settle.ensures.sight in
    (assumption, (assumption, (assumption, (t.0 ∙ (b.0 ∙ a.0), t.1 ∙ (b.1 ∙ a.1)))))

pub returns-clause-same : goal.returns-clause-same
returns-clause-same g c = let p = c.args.self.now.state in let q = c.heed.new.self.state in let r = c.settle.new.self.state in
    same_processor_again p r c.run_done-2.new.self.state
    (same_processor_again p q r (same_processor_again p c.catch_up-seen.new.self.state q c.catch_up-seen.ensures.catches_up.same c.heed.ensures.heeds.same) c.settle.ensures.settles.same) c.run_done-2.ensures.runs.same

pub returns-clause-few : goal.returns-clause-few
returns-clause-few g c = subst (λ (n : ℕ). c.run_done-2.result.ran ≤ n) (c.settle.ensures.settles.same.blimit ∙ (c.heed.ensures.heeds.same.blimit ∙ c.catch_up-seen.ensures.catches_up.same.blimit)) c.run_done-2.ensures.few

pub returns-clause-count : goal.returns-clause-count
returns-clause-count g c = c.run_done-2.ensures.runs.count ∙ (c.settle.ensures.settles.count ∙ (c.heed.ensures.heeds.count ∙ c.catch_up-seen.ensures.catches_up.count))

pub returns-then-not-self-clause-first : goal.returns-then-not-self-clause-first
returns-then-not-self-clause-first g c = subst (λ (n : ℕ). StopsInTime c.run_done.result.stop c.run_done.result.ran n) c.catch_up-seen.ensures.catches_up.same.blimit c.run_done.ensures.first

pub returns-clause-first : goal.returns-clause-first
returns-clause-first g c = subst (λ (n : ℕ). StopsInTime c.run_done-2.result.stop c.run_done-2.result.ran n)
    (c.settle.ensures.settles.same.blimit ∙ (c.heed.ensures.heeds.same.blimit ∙ c.catch_up-seen.ensures.catches_up.same.blimit)) c.run_done-2.ensures.first
