-- A callback run in two steps is one run of a tick.
use Rattle.std.proofs.Common.{◌≡◌, ℕ, ◌+◌, [], ◌∷◌, ◌++◌, ap, sym, ◌∙◌, subst}
use Rattle.rcu_board.specs.Words.{turns_word}
use Rattle.rcu_part_lists.specs.ProcessorLists.{Holding, holding}
use Rattle.rcu_part_lists.specs.declared.processor_lists.ProcessorLists.{ProcessorLists}
use Rattle.rcu_lists.specs.Labels.{Done, marked}
use Rattle.rcu_part_order.specs.Recorded.{and_ran}
use Rattle.rcu_part_order.specs.Records.{numbered_record}
use Rattle.rcu_part_steps.specs.Begins.{record_with}
use Rattle.rcu_part_steps.specs.Changes.{StepsOnly}
use Rattle.rcu_part_steps.specs.declared.begins.ClaimedCallback.{ClaimedCallback}
use Rattle.rcu_part_steps.proofs.Turning.{steps_more}
use Rattle.rcu_part_processor.specs.Processors.{lists_of, view_of}
use Rattle.rcu_part_processor.specs.Running.{running_lists, running_view}
use Rattle.rcu_part_processor.specs.Ticks.{RanDone}
use Rattle.rcu_part_processor.specs.TwoSteps.{NeverFallsBack, RunsInTwoSteps}
use Rattle.rcu_part_processor.specs.declared.processor.ProcessorState.{ProcessorState}
use Rattle.rcu_part_processor.proofs.TickRuns.{done_more, done_one}

module _ {J R : Type 0} where
  pub ran_in_two_steps : (seen : ℕ) (p q : ProcessorState J R) → RunsInTwoSteps seen p q → NeverFallsBack p q → RanDone 1 1 seen p q
  ran_in_two_steps seen p q r later =
      let c = r.claims in let f = r.finishes in let b = r.between in let kept = record_with r.receipt b.claimed in
      let lists : lists_of q ≡ running_lists b = ap (λ (x : ProcessorLists J). holding x) f.lists in
      done_one seen p q c.first kept
      (c.done ∙ ap (λ (h : Holding J). marked Done (c.first ∷ []) ++ h.own) (sym lists))
      (lists ∙ (c.others ∙ ap (λ (h : Holding J). record (lists_of p) { own = h.own }) (sym lists)))
      (f.records ∙ ap (and_ran (kept ∷ [])) c.records)
      (ap (λ (k : ClaimedCallback). numbered_record (record_with r.receipt k)) c.claimed)
      (ap (λ (k : ClaimedCallback). k.ready) c.claimed)
      (steps_more (turns_word p.cpu) 1 1 (view_of p) (running_view b) (view_of q) c.steps (subst (λ (i : ℕ). StepsOnly (turns_word i) 1 (running_view b) (view_of q)) r.same.cpu f.steps))
      later

  pub ran_after : (ran tried seen : ℕ) (o p q : ProcessorState J R) → p.cpu ≡ o.cpu → RanDone ran tried seen o p → RunsInTwoSteps seen p q → NeverFallsBack p q → RanDone (ran + 1) (tried + 1) seen o q
  ran_after ran tried seen o p q cpu before r later = done_more ran 1 tried 1 seen o p q cpu before (ran_in_two_steps seen p q r later)
