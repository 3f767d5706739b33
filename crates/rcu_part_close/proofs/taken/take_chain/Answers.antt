use Rattle.std.proofs.Common.{◌∙◌, length, refl, ap, arith}
use Rattle.rcu_lists.specs.Chains.{chain_items}
use Rattle.rcu_part_close.proofs.Endings.{all_taken, fewer, one_taken}
use Rattle.rcu_part_close.proofs.taken.take_chain.Goals as goal

pub loop-callback-smaller : goal.loop-callback-smaller
loop-callback-smaller g c = fewer (chain_items c.loop-callback.list) (chain_items c.take_first.new.self) c.in-Some.callback c.in-Some.ensures

pub loop-callback-init : goal.loop-callback-init
loop-callback-init g c = record { jobs = refl; len = refl; room = refl }

pub push_reserved-requires : goal.push_reserved-requires
push_reserved-requires g c = let i = c.loop-callback.invariant in omega (arith, i.len, i.room, c.requires, ap length c.in-Some.ensures)

pub loop-callback-preserved : goal.loop-callback-preserved
loop-callback-preserved g c =
    let i = c.loop-callback.invariant in
    let p = c.push_reserved.ensures in
    record {
      jobs = one_taken c.in-Some.callback _ _ c.loop-callback.jobs c.push_reserved.new.self _ c.in-Some.ensures p.items i.jobs;
      len = omega (arith, i.len, p.len, ap length c.in-Some.ensures);
      room = p.capacity ∙ i.room;
    }

pub returns : goal.returns
returns g c =
    let i = c.loop-callback.invariant in
    let e = c.in_default.ensures in
    record {
      jobs = all_taken (chain_items c.loop-callback.list) c.loop-callback.jobs _ e.0 i.jobs;
      len = omega (arith, i.len, ap length e.0);
      room = i.room;
    }
