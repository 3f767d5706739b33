use Rattle.std.proofs.Common.{◌≡◌, ◌+◌, ◌≤◌, ◌++◌, map, length, vec_len, vec_capacity}
use Rattle.rcu_runtime_threads.proofs.pairs.part.Given as goal

abbrev pub invariant-loop-post : goal.invariant-loop-post
invariant-loop-post g l = let rest = length l.post-iterator.rest.items in record {
  order : l.yielded ++ l.post-iterator.rest.items ≡ l.fn.posts.items;
  processors : (l.processors.items ≡ map (λ post. post.processor) l.yielded) × (vec_len l.processors + rest ≤ vec_capacity l.processors);
  workers : (l.workers.items ≡ map (λ post. post.worker) l.yielded) × (vec_len l.workers + rest ≤ vec_capacity l.workers);
  ends : (l.ends.items ≡ map (λ post. post.end) l.yielded) × (vec_len l.ends + rest ≤ vec_capacity l.ends);
}
