use Rattle.std.proofs.Common.{ℕ, ◌≡◌, ◌<◌, get_or, length}
use Rattle.rcu_c.proofs.words.counts_of_words.Given as goal

abbrev pub invariant-loop-p : goal.invariant-loop-p
invariant-loop-p l = record {
  many : l.counts.n ≡ l.fn.words.processors;
  long : length l.counts.counts ≡ 1024;
  each : (q : ℕ) → q < l.p → get_or l.counts.counts q 0 ≡ get_or l.fn.words.counts q 0;
}
