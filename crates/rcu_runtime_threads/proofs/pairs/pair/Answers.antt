use Rattle.std.proofs.Common.{◌∙◌, ◌++◌, ap, map, length, refl, sym, arith}
use Rattle.std.specs.Vec.{vec_capacity, vec_len}
use Rattle.rcu_runtime_threads.proofs.Crews.{all_came, taken_pushed}
use Rattle.rcu_runtime_threads.proofs.pairs.pair.Goals as goal
use Rattle.rcu_lemmas.proofs.Zips.{order_after, room_for_more, room_for_one}

pub push_reserved-requires : goal.push_reserved-requires
push_reserved-requires g c = let l = c.loop-processor in room_for_one (vec_len l.posts) (vec_capacity l.posts) l.processor-iterator.rest.items c.next.new.self.rest.items c.in-Some.processor l.invariant.room c.in-Some.ensures.steps.0

pub loop-processor-preserved : goal.loop-processor-preserved
loop-processor-preserved g c = let l = c.loop-processor in let i = l.invariant in let rest = l.processor-iterator.rest.items in let more = c.next.new.self.rest.items in let next = c.in-Some.ensures.steps.0 in
    let others = c.next-in-loop-processor.new.self.rest.items in let other = c.in-Some-next.ensures.items in let put = c.push_reserved.ensures in record {
      order = order_after l.yielded rest more c.args.processors.items c.in-Some.processor i.order next;
      others = ap (λ workers. workers ++ others) (taken_pushed (λ post. post.worker) l.posts.items c.push_reserved.new.self.items _ _ put.items refl) ∙ order_after (map (λ post. post.worker) l.posts.items) l.others.rest.items others c.args.workers.items c.in-Some-next.worker i.others other;
      many = (let m = i.many in let p = ap (λ xs. length xs) next in let w = ap (λ xs. length xs) other in omega (arith, m, p, w));
      room = room_for_more (vec_len l.posts) (vec_len c.push_reserved.new.self) (vec_capacity l.posts) (vec_capacity c.push_reserved.new.self) rest more c.in-Some.processor i.room next put.len put.capacity;
      processors = taken_pushed (λ post. post.processor) l.posts.items c.push_reserved.new.self.items _ l.yielded put.items i.processors;
    }

pub returns-clause-processors : goal.returns-clause-processors
returns-clause-processors g c = let l = c.loop-processor in l.invariant.processors ∙ all_came l.yielded l.processor-iterator.rest.items c.args.processors.items l.invariant.order (sym l.processor-iterator.rest.ok.0 ∙ c.in-None.ensures.steps.0)

pub returns-clause-workers : goal.returns-clause-workers
returns-clause-workers g c = let l = c.loop-processor in all_came (map (λ post. post.worker) l.posts.items) l.others.rest.items c.args.workers.items l.invariant.others (l.invariant.many ∙ (sym l.processor-iterator.rest.ok.0 ∙ c.in-None.ensures.steps.0))
