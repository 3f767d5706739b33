-- A callback run in two steps is one run of a turn.
use Rattle.std.proofs.Common.{◌≡◌, ℕ, ◌+◌, List, [], ◌∷◌, ap, sym, ◌∙◌, subst}
use Rattle.rcu_board.specs.Views.{sight}
use Rattle.rcu_board.specs.Words.{turns_word}
use Rattle.rcu_part_lists.specs.Helds.{drawn_by, held_by}
use Rattle.rcu_part_lists.specs.declared.hand.Held.{Held}
use Rattle.rcu_jobs.specs.declared.callback.Callback.{Callback}
use Rattle.rcu_part_order.specs.Recorded.{and_ran}
use Rattle.rcu_part_order.specs.Records.{numbered_record}
use Rattle.rcu_part_steps.specs.Begins.{record_with}
use Rattle.rcu_part_steps.specs.Changes.{StepsOnly}
use Rattle.rcu_part_steps.specs.declared.begins.ClaimedCallback.{ClaimedCallback}
use Rattle.rcu_part_steps.proofs.Turning.{steps_more}
use Rattle.rcu_part_hand.specs.Begins.{running_drawn, running_held, running_view}
use Rattle.rcu_part_hand.specs.Hands.{Ran, hand_drawn, hand_held, hand_view}
use Rattle.rcu_part_hand.specs.TwoSteps.{RunsInTwoSteps}
use Rattle.rcu_part_hand.specs.declared.hand.HandState.{HandState}
use Rattle.rcu_part_hand.proofs.HandRuns.{ran_more, ran_one}

module _ {J R : Type 0} where
  pub ran_in_two_steps : (seen : ℕ) (p q : HandState J R) → sight (hand_view p) ≡ seen → RunsInTwoSteps seen p q → Ran 1 1 seen p q
  ran_in_two_steps seen p q at r =
      let c = r.claims in let f = r.finishes in let b = r.between in let kept = record_with r.receipt b.claimed in
      let held : hand_held q ≡ running_held b = ap (λ (x : Held J). held_by x) f.held in
      let drawn : hand_drawn q ≡ running_drawn b = ap (λ (x : Held J). drawn_by x) f.held in
      ran_one seen p q c.first kept
      (c.held ∙ ap (λ (cs : List (Callback J)). c.first ∷ cs) (sym held))
      (drawn ∙ c.drawn)
      (f.records ∙ ap (and_ran (kept ∷ [])) c.records)
      (ap (λ (k : ClaimedCallback). numbered_record (record_with r.receipt k)) c.claimed)
      (ap (λ (k : ClaimedCallback). k.ready) c.claimed)
      (f.ends.sights ∙ (c.won.sights ∙ at))
      (steps_more (turns_word p.hand.cpu) 1 1 (hand_view p) (running_view b) (hand_view q) c.steps (subst (λ (i : ℕ). StepsOnly (turns_word i) 1 (running_view b) (hand_view q)) r.same.cpu f.steps))

  pub ran_after : (ran tried seen : ℕ) (o p q : HandState J R) → p.hand.cpu ≡ o.hand.cpu → Ran ran tried seen o p → RunsInTwoSteps seen p q → Ran (ran + 1) (tried + 1) seen o q
  ran_after ran tried seen o p q cpu before r = ran_more ran 1 tried 1 seen o p q cpu before (ran_in_two_steps seen p q before.sight r)
