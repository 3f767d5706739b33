use Rattle.std.proofs.Common.{◌∙◌, ◌≡◌, [], sym, ap, refl, arith, ℕ, ◌≤◌, subst}
use Rattle.rcu_board.specs.Words.{board_word}
use Rattle.rcu_board.specs.Views.{sight}
use Rattle.rcu_board.specs.declared.view.View.{View}
use Rattle.rcu_jobs.specs.declared.Stop.{Stop}
use Rattle.rcu_part_steps.specs.Stops.{StopsInTime}
use Rattle.rcu_part_steps.proofs.Stopping.{in_time}
use Rattle.rcu_part_hand.specs.Hands.{StopsAt, hand_held}
use Rattle.rcu_part_hand.proofs.HandBegins.{never_limit}
use Rattle.rcu_part_hand.proofs.HandRuns.{first_none, looked_once, ran_none, same_hand_again}
use Rattle.rcu_part_steps.proofs.Turning.{steps_none}
use Rattle.rcu_part_hand.proofs.hand.Hand.turn.Goals as goal

pub returns-in-Some-clause-turn : goal.returns-in-Some-clause-turn
returns-in-Some-clause-turn g c = let a = c.look-seen.ensures in let b = c.load.ensures in let q = c.load.new.self.state in record {
  seen = c.look-seen.result;
  tried = 0;
  first = c.look-seen.new.self.state;
  second = q;
  same = (c.look-seen.ensures.looks.same, same_hand_again c.args.self.now.state c.look-seen.new.self.state q c.look-seen.ensures.looks.same c.load.ensures.loads.same);
  looks = a.looks.does;
  loads = b.loads.does;
  ran = ran_none 0 c.look-seen.result q q refl refl refl (ap (λ (v : View). sight v) b.loads.does.view ∙ a.looks.does.sight) (steps_none _ _ _ refl);
  stop = c.in-Some.ensures.none 0 c.look-seen.result;
}

pub returns-in-Some-clause-sound : goal.returns-in-Some-clause-sound
returns-in-Some-clause-sound g c = λ sound. c.load.ensures.loads.sound (c.look-seen.ensures.looks.sound sound)

pub returns-clause-sound : goal.returns-clause-sound
returns-clause-sound g c = λ sound. c.run_held.ensures.runs.sound (c.load.ensures.loads.sound (c.look-seen.ensures.looks.sound sound))

pub returns-in-Some-clause-fresh : goal.returns-in-Some-clause-fresh
returns-in-Some-clause-fresh g c = let a = c.look-seen.ensures.looks.does in let b = c.load.ensures.loads.does in
    looked_once c.args.self.now.state c.look-seen.new.self.state c.load.new.self.state c.look-seen.result a b

pub returns-clause-fresh : goal.returns-clause-fresh
returns-clause-fresh g c = let a = c.look-seen.ensures.looks.does in let b = c.load.ensures.loads.does in let r = c.run_held.ensures.runs.does in
    (r.1.steps.others board_word (λ e. absurd (omega (arith, e)))).steps ∙ looked_once c.args.self.now.state c.look-seen.new.self.state c.load.new.self.state c.look-seen.result a b

pub look-seen-requires : goal.look-seen-requires
look-seen-requires g c = assumption

pub load-requires : goal.load-requires
load-requires g c = assumption

pub returns-in-Some-clause-same : goal.returns-in-Some-clause-same
returns-in-Some-clause-same g c = same_hand_again c.args.self.now.state c.look-seen.new.self.state c.load.new.self.state c.look-seen.ensures.looks.same c.load.ensures.loads.same

pub run_held-requires : goal.run_held-requires
run_held-requires g c = let a = c.look-seen.ensures in (assumption, (assumption, (assumption, (ap (λ (v : View). sight v) c.load.ensures.loads.does.view ∙ a.looks.does.sight, a.small))))

pub returns-clause-same : goal.returns-clause-same
returns-clause-same g c = let p = c.args.self.now.state in let q = c.load.new.self.state in
    same_hand_again p q c.run_held.new.self.state (same_hand_again p c.look-seen.new.self.state q c.look-seen.ensures.looks.same c.load.ensures.loads.same) c.run_held.ensures.runs.same

pub returns-clause-turn : goal.returns-clause-turn
returns-clause-turn g c = let r = c.run_held.ensures.runs.does in record {
  seen = c.look-seen.result;
  tried = r.0;
  first = c.look-seen.new.self.state;
  second = c.load.new.self.state;
  same = (c.look-seen.ensures.looks.same, same_hand_again c.args.self.now.state c.look-seen.new.self.state c.load.new.self.state c.look-seen.ensures.looks.same c.load.ensures.loads.same);
  looks = c.look-seen.ensures.looks.does;
  loads = c.load.ensures.loads.does;
  ran = r.1;
  stop = r.2;
}

pub returns-clause-few : goal.returns-clause-few
returns-clause-few g c = subst (λ (n : ℕ). c.run_held.result.ran ≤ n) (c.load.ensures.loads.same.blimit ∙ c.look-seen.ensures.looks.same.blimit) c.run_held.ensures.few

pub returns-in-Some-clause-first : goal.returns-in-Some-clause-first
returns-in-Some-clause-first g c = in_time c.in-Some.stop 0 c.args.self.now.state.hand.blimit (never_limit c.in-Some.stop c.load.new.self.state c.in-Some.ensures.none) (λ some. some)

pub returns-in-Some-clause-again : goal.returns-in-Some-clause-again
returns-in-Some-clause-again g c again = let q = c.load.new.self.state in
    let none : hand_held q ≡ [] = (subst (λ (s : Stop). StopsAt s 0 0 c.look-seen.result q) again (c.in-Some.ensures.none 0 c.look-seen.result)).0 in
    (sym c.look-seen.ensures.looks.does.held ∙ first_none (hand_held c.look-seen.new.self.state) c.load.ensures.loads.does.batch (sym c.load.ensures.loads.does.held ∙ none), refl)

pub returns-clause-first : goal.returns-clause-first
returns-clause-first g c = subst (λ (n : ℕ). StopsInTime c.run_held.result.stop c.run_held.result.ran n) (c.load.ensures.loads.same.blimit ∙ c.look-seen.ensures.looks.same.blimit) c.run_held.ensures.first

pub returns-clause-again : goal.returns-clause-again
returns-clause-again g c again = absurd (c.run_held.ensures.goes_on again)
