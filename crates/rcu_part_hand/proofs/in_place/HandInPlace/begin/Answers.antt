use Rattle.std.proofs.Common.{◌∙◌, ap, refl}
use Rattle.std.proofs.lemmas.Result.{IfErr-weaker, IfOk-weaker}
use Rattle.rcu_board.specs.Views.{sight}
use Rattle.rcu_board.specs.declared.view.View.{View}
use Rattle.rcu_part_steps.proofs.Turning.{steps_none}
use Rattle.rcu_part_hand.specs.Begins.{ClaimsFirst}
use Rattle.rcu_part_hand.specs.Hands.{RunsHeld}
use Rattle.rcu_part_hand.specs.InPlace.{StartsRunning, StaysResting, resting, running}
use Rattle.rcu_part_hand.proofs.HandBegins.{never_limit, same_begun_after}
use Rattle.rcu_part_hand.proofs.HandRuns.{ran_none, same_hand_again}
use Rattle.rcu_part_hand.proofs.in_place.HandInPlace.begin.Goals as goal

pub look-seen-requires : goal.look-seen-requires
look-seen-requires g c = (assumption, (assumption, (assumption, c.requires.rests)))

pub load-requires : goal.load-requires
load-requires g c = (assumption, (assumption, (assumption, (c.look-seen.ensures.looks.does c.requires.rests).0)))

pub returns-in-Some-clause-stops : goal.returns-in-Some-clause-stops
returns-in-Some-clause-stops g c = λ r.
    let a = c.look-seen.ensures.looks.does r in let b = c.load.ensures.loads.does a.0 in
    let o = resting c.args.self.now.state r in let p = resting c.look-seen.new.self.state a.0 in let q = resting c.load.new.self.state b.0 in
    let same = same_hand_again o p q a.1 b.1 in (
      b.0,
      same,
      record {
        seen = c.look-seen.result;
        tried = 0;
        first = p;
        second = q;
        same = (a.1, same);
        looks = a.2;
        loads = b.2;
        ran = ran_none 0 c.look-seen.result q q refl refl refl (ap (λ (v : View). sight v) b.2.view ∙ a.2.sight) (steps_none _ _ _ refl);
        stop = c.in-Some.ensures.none b.0 0 c.look-seen.result;
      },
    )

pub returns-in-Some-clause-counts : goal.returns-in-Some-clause-counts
returns-in-Some-clause-counts g c = let b = c.load.ensures.loads.does (c.look-seen.ensures.looks.does c.requires.rests).0 in
    never_limit c.in-Some.stop (resting c.load.new.self.state b.0) (c.in-Some.ensures.none b.0)

pub returns-in-Some-clause-sound : goal.returns-in-Some-clause-sound
returns-in-Some-clause-sound g c = λ sound. c.load.ensures.loads.sound (c.look-seen.ensures.looks.sound sound)

pub claim-requires-after_bounds : goal.claim-requires-after_bounds
claim-requires-after_bounds g c κs within = let a = c.look-seen.ensures.looks.does c.requires.rests in let b = c.load.ensures.loads.does a.0 in
    (assumption, (b.0, ap (λ (v : View). sight v) b.2.view ∙ a.2.sight))

pub returns-in-None-clause-begins : goal.returns-in-None-clause-begins
returns-in-None-clause-begins g c = IfOk-weaker c.claim.result (λ job. StartsRunning (λ p q. ClaimsFirst c.look-seen.result p q job) c.load.new.self.state c.claim.new.self.state) _ (λ job claims r.
    let a = c.look-seen.ensures.looks.does r in let b = c.load.ensures.loads.does a.0 in let w = claims b.0 in
    let o = resting c.args.self.now.state r in let p = resting c.look-seen.new.self.state a.0 in let q = resting c.load.new.self.state b.0 in let u = running c.claim.new.self.state w.0 w.1 in
    let same = same_hand_again o p q a.1 b.1 in
    (w.0, w.1, same_begun_after o q u same w.2, record { seen = c.look-seen.result; first = p; second = q; same = (a.1, same); looks = a.2; loads = b.2; claims = w.3 })) c.claim.ensures.claims.runs

pub returns-in-None-clause-stops : goal.returns-in-None-clause-stops
returns-in-None-clause-stops g c = IfErr-weaker c.claim.result (λ stop. StaysResting (λ p q. RunsHeld c.look-seen.result (record { ran = 0; stop = stop }) p q) c.load.new.self.state c.claim.new.self.state) _ (λ stop stops r.
    let a = c.look-seen.ensures.looks.does r in let b = c.load.ensures.loads.does a.0 in let w = stops b.0 in
    let o = resting c.args.self.now.state r in let p = resting c.look-seen.new.self.state a.0 in let q = resting c.load.new.self.state b.0 in let u = resting c.claim.new.self.state w.0 in
    let same = same_hand_again o p q a.1 b.1 in
    (w.0, same_hand_again o q u same w.1, record { seen = c.look-seen.result; tried = w.2.0; first = p; second = q; same = (a.1, same); looks = a.2; loads = b.2; ran = w.2.1; stop = w.2.2 })) c.claim.ensures.claims.stops

pub returns-in-None-clause-counts : goal.returns-in-None-clause-counts
returns-in-None-clause-counts g c = c.claim.ensures.claims.counts

pub returns-in-None-clause-keyed : goal.returns-in-None-clause-keyed
returns-in-None-clause-keyed g c = c.claim.ensures.claims.keyed

pub returns-in-None-clause-sound : goal.returns-in-None-clause-sound
returns-in-None-clause-sound g c = λ sound. c.claim.ensures.claims.sound (c.load.ensures.loads.sound (c.look-seen.ensures.looks.sound sound))
