-- A processor that leaves once its bypass list was released, and comes back, is the same part.
use Rattle.std.proofs.Common.{◌≡◌, ℕ, ◌+◌, ◌*◌, ap, ◌∙◌}
use Rattle.rcu_board.specs.Plays.{leave_own, stepped_own}
use Rattle.rcu_board.specs.Words.{reports_word}
use Rattle.rcu_board.specs.declared.view.View.{View}
use Rattle.rcu_board.proofs.Stepping.{same_again}
use Rattle.rcu_part_processor.specs.Away.{Leaves, SameLeft, SameReturned}
use Rattle.rcu_part_processor.specs.Processors.{SameProcessor, view_of}
use Rattle.rcu_part_processor.specs.declared.away.AwayState.{AwayState}
use Rattle.rcu_part_processor.specs.declared.processor.ProcessorState.{ProcessorState}

module _ {J R : Type 0} where
  pub same_left_after : (p q : ProcessorState J R) (r : AwayState J R) → SameProcessor p q → SameLeft q r → SameLeft p r
  same_left_after p q r a b = record {
    part = same_again _ _ _ _ _ _ a.part b.part;
    lane = b.lane ∙ a.lane;
    cpu = b.cpu ∙ a.cpu;
    offloadable = b.offloadable ∙ a.offloadable;
    limit = b.limit ∙ a.limit;
    blimit = b.blimit ∙ a.blimit;
    kept = b.kept ∙ a.kept;
  }

  pub same_there_and_back : (p : ProcessorState J R) (q : AwayState J R) (r : ProcessorState J R) → SameLeft p q → SameReturned q r → SameProcessor p r
  same_there_and_back p q r a b = record {
    part = same_again _ _ _ _ _ _ a.part b.part;
    lane = b.lane ∙ a.lane;
    cpu = b.cpu ∙ a.cpu;
    offloadable = b.offloadable ∙ a.offloadable;
    limit = b.limit ∙ a.limit;
    blimit = b.blimit ∙ a.blimit;
    kept = b.kept ∙ a.kept;
  }

  -- a release makes no step
  pub left_after : (p q : ProcessorState J R) (r : AwayState J R) → q.cpu ≡ p.cpu → view_of q ≡ view_of p → q.passed ≡ p.passed → Leaves q r → Leaves p r
  left_after p q r cpu view passed l = record {
    step = l.step ∙ (ap (λ (i : ℕ). stepped_own leave_own (reports_word i) (2 * q.passed + 1) (view_of q)) cpu
        ∙ (ap (λ (n : ℕ). stepped_own leave_own (reports_word p.cpu) (2 * n + 1) (view_of q)) passed
        ∙ ap (λ (v : View). stepped_own leave_own (reports_word p.cpu) (2 * p.passed + 1) v) view));
    away = l.away;
  }
