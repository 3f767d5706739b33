use Rattle.std.proofs.Common.{◌∙◌, ap, refl}
use Rattle.rcu_board.specs.Views.{sight}
use Rattle.rcu_board.specs.declared.view.View.{View}
use Rattle.rcu_part_steps.proofs.Beginning.{runs_map, stops_map}
use Rattle.rcu_part_steps.proofs.Turning.{steps_none}
use Rattle.rcu_part_hand.specs.Begins.{BeginsHand, ClaimsFirst, SameBegun, StopsHand}
use Rattle.rcu_part_hand.specs.Hands.{RunsHeld, SameHand}
use Rattle.rcu_part_hand.proofs.HandBegins.{never_limit, same_begun_after}
use Rattle.rcu_part_hand.proofs.HandRuns.{ran_none, same_hand_again}
use Rattle.rcu_part_hand.proofs.hand.Hand.begin.Goals as goal

pub look-seen-requires : goal.look-seen-requires
look-seen-requires g c = assumption

pub load-requires : goal.load-requires
load-requires g c = assumption

pub returns-in-Some-clause-stays : goal.returns-in-Some-clause-stays
returns-in-Some-clause-stays g c = same_hand_again c.args.self.state c.look-seen.new.self.state c.load.new.self.state c.look-seen.ensures.looks.same c.load.ensures.loads.same

pub returns-in-Some-clause-stops : goal.returns-in-Some-clause-stops
returns-in-Some-clause-stops g c = let q = c.load.new.self.state in record {
  seen = c.look-seen.result;
  tried = 0;
  first = c.look-seen.new.self.state;
  second = q;
  same = (c.look-seen.ensures.looks.same, same_hand_again c.args.self.state c.look-seen.new.self.state c.load.new.self.state c.look-seen.ensures.looks.same c.load.ensures.loads.same);
  looks = c.look-seen.ensures.looks.does;
  loads = c.load.ensures.loads.does;
  ran = ran_none 0 c.look-seen.result q q refl refl refl (ap (λ (v : View). sight v) c.load.ensures.loads.does.view ∙ c.look-seen.ensures.looks.does.sight) (steps_none _ _ _ refl);
  stop = c.in-Some.ensures.none 0 c.look-seen.result;
}

pub returns-in-Some-clause-counts : goal.returns-in-Some-clause-counts
returns-in-Some-clause-counts g c = never_limit c.in-Some.stop c.load.new.self.state c.in-Some.ensures.none

pub returns-in-Some-clause-sound : goal.returns-in-Some-clause-sound
returns-in-Some-clause-sound g c = λ sound. (tt, c.load.ensures.loads.sound (c.look-seen.ensures.looks.sound sound))

pub claim-requires-clause-seen : goal.claim-requires-clause-seen
claim-requires-clause-seen g c κs within = (assumption, (assumption, ap (λ (v : View). sight v) c.load.ensures.loads.does.view ∙ c.look-seen.ensures.looks.does.sight))

pub returns-in-None-clause-same : goal.returns-in-None-clause-same
returns-in-None-clause-same g c = let p = c.args.self.state in let q = c.load.new.self.state in
    let before = same_hand_again p c.look-seen.new.self.state q c.look-seen.ensures.looks.same c.load.ensures.loads.same in
    runs_map (λ running _. SameBegun q running.state) (λ running _. SameBegun p running.state) c.claim.result (λ running _ same. same_begun_after p q running.state before same) c.claim.ensures.same

pub returns-in-None-clause-stays : goal.returns-in-None-clause-stays
returns-in-None-clause-stays g c = let p = c.args.self.state in let q = c.load.new.self.state in
    let before = same_hand_again p c.look-seen.new.self.state q c.look-seen.ensures.looks.same c.load.ensures.loads.same in
    stops_map (λ hand _. SameHand q hand.state) (λ hand _. SameHand p hand.state) c.claim.result (λ hand _ same. same_hand_again p q hand.state before same) c.claim.ensures.stays

pub returns-in-None-clause-runs : goal.returns-in-None-clause-runs
returns-in-None-clause-runs g c = let p = c.args.self.state in let q = c.load.new.self.state in let a = c.look-seen in
    let before = same_hand_again p a.new.self.state q a.ensures.looks.same c.load.ensures.loads.same in
    runs_map (λ running job. ClaimsFirst a.result q running.state job) (λ running job. BeginsHand p running.state job) c.claim.result
    (λ running job claims. record { seen = a.result; first = a.new.self.state; second = q; same = (a.ensures.looks.same, before); looks = a.ensures.looks.does; loads = c.load.ensures.loads.does; claims = claims }) c.claim.ensures.runs

pub returns-in-None-clause-stops : goal.returns-in-None-clause-stops
returns-in-None-clause-stops g c = let p = c.args.self.state in let q = c.load.new.self.state in let a = c.look-seen in
    let before = same_hand_again p a.new.self.state q a.ensures.looks.same c.load.ensures.loads.same in
    stops_map (λ hand stop. RunsHeld a.result (record { ran = 0; stop = stop }) q hand.state) (λ hand stop. StopsHand stop p hand.state) c.claim.result
    (λ hand stop r. record { seen = a.result; tried = r.0; first = a.new.self.state; second = q; same = (a.ensures.looks.same, before); looks = a.ensures.looks.does; loads = c.load.ensures.loads.does; ran = r.1; stop = r.2 }) c.claim.ensures.stops

pub returns-in-None-clause-counts : goal.returns-in-None-clause-counts
returns-in-None-clause-counts g c = c.claim.ensures.counts

pub returns-in-None-clause-keyed : goal.returns-in-None-clause-keyed
returns-in-None-clause-keyed g c = c.claim.ensures.keyed

pub returns-in-None-clause-sound : goal.returns-in-None-clause-sound
returns-in-None-clause-sound g c = λ sound. c.claim.ensures.sound (c.load.ensures.loads.sound (c.look-seen.ensures.looks.sound sound))
