use Rattle.std.proofs.Common.{◌≡◌, ◌+◌, ◌≤◌, ◌++◌, map, length, vec_len, vec_capacity}
use Rattle.rcu_runtime_threads.proofs.pairs.pair.Given as goal

abbrev pub invariant-loop-processor : goal.invariant-loop-processor
invariant-loop-processor g l = record {
  order : l.yielded ++ l.processor-iterator.rest.items ≡ l.fn.processors.items;
  others : map (λ post. post.worker) l.posts.items ++ l.others.rest.items ≡ l.fn.workers.items;
  many : length l.others.rest.items ≡ length l.processor-iterator.rest.items;
  room : vec_len l.posts + length l.processor-iterator.rest.items ≤ vec_capacity l.posts;
  processors : map (λ post. post.processor) l.posts.items ≡ l.yielded;
}
