use Rattle.std.proofs.Common.{◌∙◌, sym}
use Rattle.std.proofs.lemmas.Result.{IfErr-weaker, IfOk-weaker}
use Rattle.rcu_part_processor.specs.Begins.{ClaimsFirst, ClaimsNone}
use Rattle.rcu_part_processor.specs.InPlace.{StartsRunning, StaysResting, resting, running}
use Rattle.rcu_part_processor.proofs.BeginTicks.{begins_local, begins_switching, stops_local, stops_switching}
use Rattle.rcu_part_processor.proofs.Claiming.{same_begun_after}
use Rattle.rcu_part_processor.proofs.TickRuns.{same_processor_again}
use Rattle.rcu_part_processor.proofs.in_place.ProcessorInPlace.begin.Goals as goal

pub catch_up-seen-requires : goal.catch_up-seen-requires
catch_up-seen-requires g c = (assumption, (assumption, (assumption, c.requires.rests)))

pub claim_done-requires-after_bounds : goal.claim_done-requires-after_bounds
claim_done-requires-after_bounds g c κs within = (assumption, ((c.catch_up-seen.ensures.catches_up.does c.requires.rests).0, c.catch_up-seen.ensures.sight))

pub heed-requires : goal.heed-requires
heed-requires g c = (assumption, (assumption, (assumption, ((c.catch_up-seen.ensures.catches_up.does c.requires.rests).0, c.if-not-self.false))))

pub settle-requires : goal.settle-requires
settle-requires g c = let b = c.heed.ensures.heeds.does (c.catch_up-seen.ensures.catches_up.does c.requires.rests).0 in (assumption, (assumption, (assumption, (b.0, b.1.offloadable ∙ c.if-not-self.false))))

pub claim_done-requires-2-after_bounds : goal.claim_done-requires-2-after_bounds
claim_done-requires-2-after_bounds g c κs within = let b = c.heed.ensures.heeds.does (c.catch_up-seen.ensures.catches_up.does c.requires.rests).0 in let d = c.settle.ensures.settles.does b.0 in
    let x = c.catch_up-seen.ensures.sight in let y = c.heed.ensures.sight in let t = c.settle.ensures.sight in
    (assumption, (d.0, (t.0 ∙ (y.0 ∙ x.0), t.1 ∙ (y.1 ∙ x.1))))

pub returns-then-not-self-clause-begins : goal.returns-then-not-self-clause-begins
returns-then-not-self-clause-begins g c = IfOk-weaker c.claim_done.result (λ job. StartsRunning (λ p q. ClaimsFirst c.catch_up-seen.result p q job) c.catch_up-seen.new.self.state c.claim_done.new.self.state) _ (λ job x r.
    let a = c.catch_up-seen.ensures.catches_up.does r in let p = resting c.args.self.now.state r in let q = resting c.catch_up-seen.new.self.state a.0 in let off = sym a.1.offloadable ∙ c.if-not-self.true in
    let w = x a.0 in let u = running c.claim_done.new.self.state w.0 w.1 in
    (w.0, w.1, same_begun_after p q u a.1 w.2, begins_local c.catch_up-seen.result c.args.moment p q u job a.1 a.2 off w.3)) c.claim_done.ensures.begins.runs

pub returns-then-not-self-clause-stops : goal.returns-then-not-self-clause-stops
returns-then-not-self-clause-stops g c = IfErr-weaker c.claim_done.result (λ stop. StaysResting (ClaimsNone c.catch_up-seen.result stop) c.catch_up-seen.new.self.state c.claim_done.new.self.state) _ (λ stop x r.
    let a = c.catch_up-seen.ensures.catches_up.does r in let p = resting c.args.self.now.state r in let q = resting c.catch_up-seen.new.self.state a.0 in let off = sym a.1.offloadable ∙ c.if-not-self.true in
    let w = x a.0 in let u = resting c.claim_done.new.self.state w.0 in
    (w.0, same_processor_again p q u a.1 w.1, stops_local c.catch_up-seen.result c.args.moment stop p q u a.1 a.2 off w.2)) c.claim_done.ensures.begins.stops

pub returns-then-not-self-clause-counts : goal.returns-then-not-self-clause-counts
returns-then-not-self-clause-counts g c = c.claim_done.ensures.begins.counts

pub returns-then-not-self-clause-count : goal.returns-then-not-self-clause-count
returns-then-not-self-clause-count g c = c.claim_done.ensures.begins.count ∙ c.catch_up-seen.ensures.catches_up.count

pub returns-then-not-self-clause-keyed : goal.returns-then-not-self-clause-keyed
returns-then-not-self-clause-keyed g c = λ sound. c.claim_done.ensures.begins.keyed (c.catch_up-seen.ensures.catches_up.sound sound)

pub returns-then-not-self-clause-sound : goal.returns-then-not-self-clause-sound
returns-then-not-self-clause-sound g c = λ sound. c.claim_done.ensures.begins.sound (c.catch_up-seen.ensures.catches_up.sound sound)

pub returns-clause-begins : goal.returns-clause-begins
returns-clause-begins g c = IfOk-weaker c.claim_done-2.result (λ job. StartsRunning (λ p q. ClaimsFirst c.catch_up-seen.result p q job) c.settle.new.self.state c.claim_done-2.new.self.state) _ (λ job x r.
    let a = c.catch_up-seen.ensures.catches_up.does r in let b = c.heed.ensures.heeds.does a.0 in let d = c.settle.ensures.settles.does b.0 in
    let p = resting c.args.self.now.state r in let q = resting c.catch_up-seen.new.self.state a.0 in let s = resting c.heed.new.self.state b.0 in let t = resting c.settle.new.self.state d.0 in let on = sym a.1.offloadable ∙ c.if-not-self.false in
    let first = same_processor_again p q s a.1 b.1 in let before = same_processor_again p s t first d.1 in
    let w = x d.0 in let u = running c.claim_done-2.new.self.state w.0 w.1 in
    (w.0, w.1, same_begun_after p t u before w.2, begins_switching c.catch_up-seen.result c.args.moment p q s t u job (a.1, first, before) a.2 on b.2 d.2 w.3)) c.claim_done-2.ensures.begins.runs

pub returns-clause-stops : goal.returns-clause-stops
returns-clause-stops g c = IfErr-weaker c.claim_done-2.result (λ stop. StaysResting (ClaimsNone c.catch_up-seen.result stop) c.settle.new.self.state c.claim_done-2.new.self.state) _ (λ stop x r.
    let a = c.catch_up-seen.ensures.catches_up.does r in let b = c.heed.ensures.heeds.does a.0 in let d = c.settle.ensures.settles.does b.0 in
    let p = resting c.args.self.now.state r in let q = resting c.catch_up-seen.new.self.state a.0 in let s = resting c.heed.new.self.state b.0 in let t = resting c.settle.new.self.state d.0 in let on = sym a.1.offloadable ∙ c.if-not-self.false in
    let first = same_processor_again p q s a.1 b.1 in let before = same_processor_again p s t first d.1 in
    let w = x d.0 in let u = resting c.claim_done-2.new.self.state w.0 in
    (w.0, same_processor_again p t u before w.1, stops_switching c.catch_up-seen.result c.args.moment stop p q s t u (a.1, first, before) a.2 on b.2 d.2 w.2)) c.claim_done-2.ensures.begins.stops

pub returns-clause-counts : goal.returns-clause-counts
returns-clause-counts g c = c.claim_done-2.ensures.begins.counts

pub returns-clause-count : goal.returns-clause-count
returns-clause-count g c = c.claim_done-2.ensures.begins.count ∙ (c.settle.ensures.settles.count ∙ (c.heed.ensures.heeds.count ∙ c.catch_up-seen.ensures.catches_up.count))

pub returns-clause-keyed : goal.returns-clause-keyed
returns-clause-keyed g c = λ sound. c.claim_done-2.ensures.begins.keyed (c.settle.ensures.settles.sound (c.heed.ensures.heeds.sound (c.catch_up-seen.ensures.catches_up.sound sound)))

pub returns-clause-sound : goal.returns-clause-sound
returns-clause-sound g c = λ sound. c.claim_done-2.ensures.begins.sound (c.settle.ensures.settles.sound (c.heed.ensures.heeds.sound (c.catch_up-seen.ensures.catches_up.sound sound)))

pub claim_done-requires-send-J : goal.claim_done-requires-send-J
claim_done-requires-send-J g c κs within = c.type_bounds.send-J

pub claim_done-requires-send-J-Receipt : goal.claim_done-requires-send-J-Receipt
claim_done-requires-send-J-Receipt g c κs within = c.type_bounds.send-J-Receipt

pub claim_done-requires-2-send-J : goal.claim_done-requires-2-send-J
claim_done-requires-2-send-J g c κs within = c.type_bounds.send-J

pub claim_done-requires-2-send-J-Receipt : goal.claim_done-requires-2-send-J-Receipt
claim_done-requires-2-send-J-Receipt g c κs within = c.type_bounds.send-J-Receipt
