use Rattle.std.proofs.Common.{◌≡◌, ◌<◌, ◌∙◌, true, ap, refl, sym, subst, arith}
use Rattle.rcu_lists.specs.Batches.{batch_items}
use Rattle.rcu_lists.specs.Chains.{chain_items}
use Rattle.rcu_lists.specs.Stamps.{last_stamp, stamps_from}
use Rattle.rcu_lists.proofs.Blocks.{nothing-left}
use Rattle.rcu_lists.proofs.Stamps.{last-append, stamps-append}
use Rattle.rcu_lists.proofs.chain.Chain.stamps_with.Goals as goal

pub returns-then-self-eq0-clause-order : goal.returns-then-self-eq0-clause-order
returns-then-self-eq0-clause-order g c = λ e. let s = c.args.self.now in rw (nothing-left (chain_items s) (s.counted ∙ c.if-self-eq0.true) refl) (c.stamps_behind.ensures.order e).1

pub returns-else-self-eq0-clause-order : goal.returns-else-self-eq0-clause-order
returns-else-self-eq0-clause-order g c = λ e. let s = c.args.self.now in let p = c.stamps_behind-else-self-eq0.ensures.order e in
    let cs = batch_items c.args.batch.now in let some : 0 < s.len = omega arith in
    stamps-append 0 (chain_items s) cs (s.stamps p.0) (subst (λ n. stamps_from n cs ≡ true) (s.newest some) p.1)

pub returns-else-self-eq0-clause-last : goal.returns-else-self-eq0-clause-last
returns-else-self-eq0-clause-last g c = let s = c.args.self.now in let cs = batch_items c.args.batch.now in let some : 0 < s.len = omega arith in
    c.stamps_behind-else-self-eq0.ensures.last ∙ ap (λ n. last_stamp n cs) (s.newest some) ∙ sym (last-append 0 (chain_items s) cs)

pub stamps_behind-requires : goal.stamps_behind-requires
stamps_behind-requires g c = assumption

pub stamps_behind-requires-else-self-eq0 : goal.stamps_behind-requires-else-self-eq0
stamps_behind-requires-else-self-eq0 g c = assumption

pub returns-then-self-eq0-clause-last : goal.returns-then-self-eq0-clause-last
returns-then-self-eq0-clause-last g c = let s = c.args.self.now in rw (nothing-left (chain_items s) (s.counted ∙ c.if-self-eq0.true) refl) c.stamps_behind.ensures.last
