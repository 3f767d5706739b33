use Rattle.std.proofs.Common.{◌≡◌, ℕ, ◌<◌, ◌≤◌}
use Rattle.rcu_board.specs.Plays.{GatheredAcceptLaw, GatheredBoardLaw, GatheredTurnLaw}
use Rattle.rcu_part_close.specs.Gathered.{IsAccounted}
use Rattle.rcu_board.specs.Seats.{GatheredAt, SameGathered, gathered_view}
use Rattle.rcu_board.specs.Views.{seen_at, sight}
use Rattle.rcu_board.specs.Words.{accepts_word, turns_word}
use Rattle.rcu_part_close.proofs.last_loads.settle.Given as goal

abbrev pub invariant-loop-p : goal.invariant-loop-p
invariant-loop-p l = record {
  at : GatheredAt l.board l.all;
  same : SameGathered l.fn.all l.all;
  weight : (gathered_view l.all).weight ≡ (gathered_view l.fn.all).weight;
  own : (gathered_view l.all).own ≡ (gathered_view l.fn.all).own;
  claims : (gathered_view l.all).claims ≡ (gathered_view l.fn.all).claims;
  merged : (gathered_view l.all).merged ≡ (gathered_view l.fn.all).merged;
  running : (gathered_view l.all).running ≡ (gathered_view l.fn.all).running;
  turns_left : (q : ℕ) → l.p ≤ q → seen_at (gathered_view l.all) (turns_word q) ≡ seen_at (gathered_view l.fn.all) (turns_word q);
  counts_left : (q : ℕ) → l.p ≤ q → seen_at (gathered_view l.all) (accepts_word q) ≡ seen_at (gathered_view l.fn.all) (accepts_word q);
  turns : (q : ℕ) → q < l.p → (turn : ℕ) × (seen_at (gathered_view l.fn.all) (turns_word q) ≤ turn) × GatheredTurnLaw q turn (gathered_view l.fn.all);
  counts : (q : ℕ) → q < l.p → (accepts : ℕ) × GatheredAcceptLaw q accepts (gathered_view l.fn.all);
  number : sight (gathered_view l.all) ≡ l.number;
  board : GatheredBoardLaw l.number (gathered_view l.fn.all);
  reports : (q : ℕ) → q < l.p → (word : ℕ) × IsAccounted q l.number word (gathered_view l.fn.all);
}
