use Rattle.std.proofs.Common.{◌≡◌, length, sym, subst, arith}
use Rattle.rcu_lists.specs.Labels.{IsGraced}
use Rattle.rcu_lists.proofs.Counts.{may-numbers}
use Rattle.rcu_lists.proofs.Graced.{graced-accelerate}
use Rattle.rcu_lists.specs.Chains.{chain_items}
use Rattle.rcu_lists.proofs.block_segments.BlockSegments.accelerate.Goals as goal

pub accelerate-requires : goal.accelerate-requires
accelerate-requires g c = let s = c.args.self.now in let b = s.bounds in
    let may = may-numbers c.args.seq b.wait_number b.ready_number b.done b.wait b.ready (chain_items s.list) s.within (λ e. (b.filled e).1) b.single c.requires in
    record { within = omega (arith, c.len.ensures, s.within); wait = may.0; ready = may.1 }

pub invariant_of-self : goal.invariant_of-self
invariant_of-self g c = let s = c.args.self.now in let new = c.accelerate.new.self in
    let len : length (chain_items s.list) ≡ c.len.result = sym c.len.ensures in record {
      within = omega (arith, len, c.accelerate.ensures.within);
      graced = rw c.accelerate.ensures.advanced (subst (IsGraced s.bounds.advanced) (sym (c.accelerate.ensures.list (chain_items s.list) len))
          (graced-accelerate s.bounds.advanced c.args.seq _ c.requires s.graced));
    }

pub returns-clause-list : goal.returns-clause-list
returns-clause-list g c = let s = c.args.self.now in let len : length (chain_items s.list) ≡ c.len.result = sym c.len.ensures in c.accelerate.ensures.list (chain_items s.list) len

pub returns-clause-carried : goal.returns-clause-carried
returns-clause-carried g c = let s = c.args.self.now in let len : length (chain_items s.list) ≡ c.len.result = sym c.len.ensures in c.accelerate.ensures.carried (chain_items s.list) len

pub returns-clause-advanced : goal.returns-clause-advanced
returns-clause-advanced g c = c.accelerate.ensures.advanced
