use Rattle.std.proofs.Common.{◌≡◌, ◌∙◌, sym}
use Rattle.rcu_part_steps.proofs.Beginning.{runs_map, stops_map}
use Rattle.rcu_part_processor.specs.Begins.{BeginsTick, ClaimsFirst, ClaimsNone, StopsBegin}
use Rattle.rcu_part_processor.specs.Processors.{SameProcessor}
use Rattle.rcu_part_processor.specs.Running.{SameBegun}
use Rattle.rcu_part_processor.proofs.BeginTicks.{begins_local, begins_switching, stops_local, stops_switching}
use Rattle.rcu_part_processor.proofs.Claiming.{same_begun_after}
use Rattle.rcu_part_processor.proofs.TickRuns.{same_processor_again}
use Rattle.rcu_part_processor.proofs.processor.Processor.begin.Goals as goal

pub catch_up-seen-requires : goal.catch_up-seen-requires
catch_up-seen-requires g c = assumption

pub heed-requires : goal.heed-requires
heed-requires g c = (assumption, (assumption, (assumption, c.if-not-processor.false)))

pub settle-requires : goal.settle-requires
settle-requires g c = (assumption, (assumption, (assumption, c.heed.ensures.heeds.same.offloadable ∙ c.if-not-processor.false)))

pub claim_done-requires-2-clause-seen : goal.claim_done-requires-2-clause-seen
claim_done-requires-2-clause-seen g c κs within = let a = c.catch_up-seen.ensures.sight in let b = c.heed.ensures.sight in let t = c.settle.ensures.sight in
    (assumption, (assumption, (t.0 ∙ (b.0 ∙ a.0), t.1 ∙ (b.1 ∙ a.1))))

pub returns-then-not-processor-clause-same : goal.returns-then-not-processor-clause-same
returns-then-not-processor-clause-same g c = let p = c.args.self.state in let a = c.catch_up-seen in let q = a.new.self.state in
    let before : SameProcessor p q = a.ensures.catches_up.same in
    runs_map (λ running _. SameBegun q running.state) (λ running _. SameBegun p running.state) c.claim_done.result (λ running _ x. same_begun_after p q running.state before x) c.claim_done.ensures.same.0

pub returns-then-not-processor-clause-stays : goal.returns-then-not-processor-clause-stays
returns-then-not-processor-clause-stays g c = let p = c.args.self.state in let a = c.catch_up-seen in let q = a.new.self.state in
    let before : SameProcessor p q = a.ensures.catches_up.same in
    stops_map (λ processor _. SameProcessor q processor.state) (λ processor _. SameProcessor p processor.state) c.claim_done.result (λ processor _ x. same_processor_again p q processor.state before x) c.claim_done.ensures.same.1

pub returns-then-not-processor-clause-runs : goal.returns-then-not-processor-clause-runs
returns-then-not-processor-clause-runs g c = let p = c.args.self.state in let a = c.catch_up-seen in let q = a.new.self.state in
    runs_map (λ running job. ClaimsFirst a.result q running.state job) (λ running job. BeginsTick c.args.moment p running.state job) c.claim_done.result
    (λ running job x. begins_local a.result c.args.moment p q running.state job a.ensures.catches_up.same a.ensures.catches_up.does (sym a.ensures.catches_up.same.offloadable ∙ c.if-not-processor.true) x) c.claim_done.ensures.runs

pub returns-then-not-processor-clause-stops : goal.returns-then-not-processor-clause-stops
returns-then-not-processor-clause-stops g c = let p = c.args.self.state in let a = c.catch_up-seen in let q = a.new.self.state in
    stops_map (λ processor stop. ClaimsNone a.result stop q processor.state) (λ processor stop. StopsBegin c.args.moment stop p processor.state) c.claim_done.result
    (λ processor stop x. stops_local a.result c.args.moment stop p q processor.state a.ensures.catches_up.same a.ensures.catches_up.does (sym a.ensures.catches_up.same.offloadable ∙ c.if-not-processor.true) x) c.claim_done.ensures.stops

pub returns-then-not-processor-clause-count : goal.returns-then-not-processor-clause-count
returns-then-not-processor-clause-count g c = let p = c.args.self.state in let a = c.catch_up-seen in let q = a.new.self.state in
    let before : q.accepted ≡ p.accepted = a.ensures.catches_up.count in (
      runs_map (λ running job. ClaimsFirst a.result q running.state job) (λ running _. running.state.accepted ≡ p.accepted) c.claim_done.result (λ running job x. x.count ∙ before) c.claim_done.ensures.runs,
      stops_map (λ processor _. processor.state.accepted ≡ q.accepted) (λ processor _. processor.state.accepted ≡ p.accepted) c.claim_done.result (λ processor _ x. x ∙ before) c.claim_done.ensures.count,
    )

pub returns-then-not-processor-clause-keyed : goal.returns-then-not-processor-clause-keyed
returns-then-not-processor-clause-keyed g c = λ sound. c.claim_done.ensures.keyed (c.catch_up-seen.ensures.catches_up.sound sound)

pub returns-then-not-processor-clause-sound : goal.returns-then-not-processor-clause-sound
returns-then-not-processor-clause-sound g c = λ sound. c.claim_done.ensures.sound (c.catch_up-seen.ensures.catches_up.sound sound)

pub returns-clause-same : goal.returns-clause-same
returns-clause-same g c = let p = c.args.self.state in let a = c.catch_up-seen in let q = a.new.self.state in let h = c.heed in let t = c.settle in let o = t.new.self.state in
    let before : SameProcessor p o = (same_processor_again p h.new.self.state o (same_processor_again p q h.new.self.state a.ensures.catches_up.same h.ensures.heeds.same) t.ensures.settles.same) in
    runs_map (λ running _. SameBegun o running.state) (λ running _. SameBegun p running.state) c.claim_done-2.result (λ running _ x. same_begun_after p o running.state before x) c.claim_done-2.ensures.same.0

pub returns-clause-stays : goal.returns-clause-stays
returns-clause-stays g c = let p = c.args.self.state in let a = c.catch_up-seen in let q = a.new.self.state in let h = c.heed in let t = c.settle in let o = t.new.self.state in
    let before : SameProcessor p o = (same_processor_again p h.new.self.state o (same_processor_again p q h.new.self.state a.ensures.catches_up.same h.ensures.heeds.same) t.ensures.settles.same) in
    stops_map (λ processor _. SameProcessor o processor.state) (λ processor _. SameProcessor p processor.state) c.claim_done-2.result (λ processor _ x. same_processor_again p o processor.state before x) c.claim_done-2.ensures.same.1

pub returns-clause-runs : goal.returns-clause-runs
returns-clause-runs g c = let p = c.args.self.state in let a = c.catch_up-seen in let q = a.new.self.state in let h = c.heed in let t = c.settle in let o = t.new.self.state in
    runs_map (λ running job. ClaimsFirst a.result o running.state job) (λ running job. BeginsTick c.args.moment p running.state job) c.claim_done-2.result
    (λ running job x. begins_switching a.result c.args.moment p q h.new.self.state o running.state job (a.ensures.catches_up.same, same_processor_again p q h.new.self.state a.ensures.catches_up.same h.ensures.heeds.same, same_processor_again p h.new.self.state o (same_processor_again p q h.new.self.state a.ensures.catches_up.same h.ensures.heeds.same) t.ensures.settles.same) a.ensures.catches_up.does (sym a.ensures.catches_up.same.offloadable ∙ c.if-not-processor.false) h.ensures.heeds.does t.ensures.settles.does x) c.claim_done-2.ensures.runs

pub returns-clause-stops : goal.returns-clause-stops
returns-clause-stops g c = let p = c.args.self.state in let a = c.catch_up-seen in let q = a.new.self.state in let h = c.heed in let t = c.settle in let o = t.new.self.state in
    stops_map (λ processor stop. ClaimsNone a.result stop o processor.state) (λ processor stop. StopsBegin c.args.moment stop p processor.state) c.claim_done-2.result
    (λ processor stop x. stops_switching a.result c.args.moment stop p q h.new.self.state o processor.state (a.ensures.catches_up.same, same_processor_again p q h.new.self.state a.ensures.catches_up.same h.ensures.heeds.same, same_processor_again p h.new.self.state o (same_processor_again p q h.new.self.state a.ensures.catches_up.same h.ensures.heeds.same) t.ensures.settles.same) a.ensures.catches_up.does (sym a.ensures.catches_up.same.offloadable ∙ c.if-not-processor.false) h.ensures.heeds.does t.ensures.settles.does x) c.claim_done-2.ensures.stops

pub returns-clause-count : goal.returns-clause-count
returns-clause-count g c = let p = c.args.self.state in let a = c.catch_up-seen in let q = a.new.self.state in let h = c.heed in let t = c.settle in let o = t.new.self.state in
    let before : o.accepted ≡ p.accepted = (t.ensures.settles.count ∙ (h.ensures.heeds.count ∙ a.ensures.catches_up.count)) in (
      runs_map (λ running job. ClaimsFirst a.result o running.state job) (λ running _. running.state.accepted ≡ p.accepted) c.claim_done-2.result (λ running job x. x.count ∙ before) c.claim_done-2.ensures.runs,
      stops_map (λ processor _. processor.state.accepted ≡ o.accepted) (λ processor _. processor.state.accepted ≡ p.accepted) c.claim_done-2.result (λ processor _ x. x ∙ before) c.claim_done-2.ensures.count,
    )

pub returns-clause-keyed : goal.returns-clause-keyed
returns-clause-keyed g c = λ sound. c.claim_done-2.ensures.keyed (c.settle.ensures.settles.sound (c.heed.ensures.heeds.sound (c.catch_up-seen.ensures.catches_up.sound sound)))

pub returns-clause-sound : goal.returns-clause-sound
returns-clause-sound g c = λ sound. c.claim_done-2.ensures.sound (c.settle.ensures.settles.sound (c.heed.ensures.heeds.sound (c.catch_up-seen.ensures.catches_up.sound sound)))

pub claim_done-requires-send-J : goal.claim_done-requires-send-J
claim_done-requires-send-J g c κs within = c.type_bounds.send-J

pub claim_done-requires-send-J-Receipt : goal.claim_done-requires-send-J-Receipt
claim_done-requires-send-J-Receipt g c κs within = c.type_bounds.send-J-Receipt

pub claim_done-requires-clause-seen : goal.claim_done-requires-clause-seen
claim_done-requires-clause-seen g c κs within = (assumption, (assumption, c.catch_up-seen.ensures.sight))

pub returns-then-not-processor-clause-counts : goal.returns-then-not-processor-clause-counts
returns-then-not-processor-clause-counts g c = c.claim_done.ensures.counts

pub claim_done-requires-2-send-J : goal.claim_done-requires-2-send-J
claim_done-requires-2-send-J g c κs within = c.type_bounds.send-J

pub claim_done-requires-2-send-J-Receipt : goal.claim_done-requires-2-send-J-Receipt
claim_done-requires-2-send-J-Receipt g c κs within = c.type_bounds.send-J-Receipt

pub returns-clause-counts : goal.returns-clause-counts
returns-clause-counts g c = c.claim_done-2.ensures.counts
