use Rattle.std.proofs.Common.{Result, Ok, Err, ap, length, refl, arith}
use Rattle.std.specs.Prelude.{IsOk, OnErr}
use Rattle.std.proofs.lemmas.Result.{on_ok_weaker}
use Rattle.rcu_lists.specs.Bounds.{cut_by}
use Rattle.rcu_lists.proofs.segments.Segments.reserve.Goals as goal

-- what can't have failed
not-failed : {T E P : Type 0} (r : Result T E) → OnErr r P → (P → ⊥) → IsOk r
not-failed (Ok x) e h = refl
not-failed (Err x) e h = absurd (h e)

pub overflow_sub-places : goal.overflow_sub-places
overflow_sub-places g c = omega (arith, c.len-len.ensures, c.capacity-places.ensures, c.args.self.now.list.small.1)

pub invariant_of-self : goal.invariant_of-self
invariant_of-self g c = let s = c.args.self.now in let same = c.reserve.ensures.items in record {
  within = rw same s.within;
  stamps = rw same s.stamps;
  graced = rw same s.graced;
}

pub returns-then-len-places-clause-same : goal.returns-then-len-places-clause-same
returns-then-len-places-clause-same g c = let s = c.args.self.now in let same = c.reserve.ensures.items in record {
  list = ap (cut_by s.bounds) same;
  advanced = refl;
  room = λ more room. omega (arith, room, ap length same, c.reserve.ensures.capacity);
}

pub returns-then-len-places-clause-found : goal.returns-then-len-places-clause-found
returns-then-len-places-clause-found g c = on_ok_weaker c.reserve.result (λ room. omega (arith, room, c.reserve.new.self.ok.0)) c.reserve.ensures.ok

pub returns-then-len-places-clause-had : goal.returns-then-len-places-clause-had
returns-then-len-places-clause-had g c = λ room. not-failed c.reserve.result c.reserve.ensures.full (λ full. omega (arith, room, full, c.args.self.now.list.ok.0))

pub invariant_of-self-2 : goal.invariant_of-self-2
invariant_of-self-2 g c = let s = c.args.self.now in let same = c.reserve_exact.ensures.items in record {
  within = rw same s.within;
  stamps = rw same s.stamps;
  graced = rw same s.graced;
}

pub returns-clause-same : goal.returns-clause-same
returns-clause-same g c = let s = c.args.self.now in let same = c.reserve_exact.ensures.items in record {
  list = ap (cut_by s.bounds) same;
  advanced = refl;
  room = λ more room. omega (arith, room, ap length same, c.reserve_exact.ensures.capacity);
}

pub returns-clause-found : goal.returns-clause-found
returns-clause-found g c = on_ok_weaker c.reserve_exact.result (λ room. omega (arith, room, c.reserve_exact.new.self.ok.0, c.max.ensures)) c.reserve_exact.ensures.ok

pub returns-clause-had : goal.returns-clause-had
returns-clause-had g c = λ room. absurd (omega (arith, room, c.if-more-places.false, c.len-len.ensures, c.capacity-places.ensures, c.args.self.now.list.ok.0))
