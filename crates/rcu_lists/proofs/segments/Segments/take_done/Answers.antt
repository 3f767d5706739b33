use Rattle.std.specs.Option.{option_to_list}
use Rattle.std.proofs.Common.{◌-◌, ◌∙◌, take, drop, refl, subst, arith, length-drop, ap, length, length-append}
use Rattle.rcu_lists.specs.Cut.{cut}
use Rattle.rcu_lists.specs.Labels.{IsGraced}
use Rattle.rcu_lists.proofs.Counts.{count-done}
use Rattle.rcu_lists.proofs.Cuts.{take-done, take-front}
use Rattle.rcu_lists.proofs.Graced.{graced-left, first-graced}
use Rattle.rcu_lists.proofs.Stamps.{stamps-drop}
use Rattle.rcu_lists.proofs.segments.Segments.take_done.Goals as goal

pub returns-then-self-eq0-clause-taken : goal.returns-then-self-eq0-clause-taken
returns-then-self-eq0-clause-taken g c = let s = c.args.self.now in (count-done s.bounds.wait_number s.bounds.ready_number s.bounds.done s.bounds.wait s.bounds.ready s.list.items s.within ∙ c.if-self-eq0.true, refl)

pub invariant_of-self-2 : goal.invariant_of-self-2
invariant_of-self-2 g c = let s = c.args.self.now in record {
  within = rw c.pop_front.ensures.rest (let le = s.within in simp length-drop (omega arith));
  stamps = λ e. rw c.pop_front.ensures.rest (stamps-drop 0 1 s.list.items (s.stamps e));
  graced = rw c.pop_front.ensures.rest (graced-left s.bounds.advanced (take 1 s.list.items) (cut (s.bounds.done - 1) s.bounds.wait s.bounds.ready s.bounds.wait_number s.bounds.ready_number (drop 1 s.list.items))
      (subst (IsGraced s.bounds.advanced) (take-front s.bounds.wait_number s.bounds.ready_number s.bounds.done s.bounds.wait s.bounds.ready 1 s.list.items (omega arith) s.within) s.graced));
}

pub returns-clause-taken : goal.returns-clause-taken
returns-clause-taken g c = let s = c.args.self.now in let le = s.within in
    take-done _ c.pop_front.result s.bounds.wait_number s.bounds.ready_number s.bounds.done s.bounds.wait s.bounds.ready s.list.items c.pop_front.new.self.items (omega arith) (omega arith) c.pop_front.ensures.items c.pop_front.ensures.rest

pub returns-clause-graced : goal.returns-clause-graced
returns-clause-graced g c = let s = c.args.self.now in let le = s.within in
    first-graced (Unit {0}) s.bounds.advanced c.pop_front.result _ _ s.graced
    (take-done (Unit {0}) c.pop_front.result s.bounds.wait_number s.bounds.ready_number s.bounds.done s.bounds.wait s.bounds.ready s.list.items c.pop_front.new.self.items (omega arith) (omega arith) c.pop_front.ensures.items c.pop_front.ensures.rest)

pub returns-then-self-eq0-clause-graced : goal.returns-then-self-eq0-clause-graced
returns-then-self-eq0-clause-graced g c = tt

pub returns-then-self-eq0-clause-advanced : goal.returns-then-self-eq0-clause-advanced
returns-then-self-eq0-clause-advanced g c = refl

pub returns-then-self-eq0-clause-room : goal.returns-then-self-eq0-clause-room
returns-then-self-eq0-clause-room g c = λ k room. omega (arith, room)

pub invariant_of-self : goal.invariant_of-self
invariant_of-self g c = let b = c.args.self.now.bounds in record {
  counted = omega (arith, b.counted);
  filled = b.filled;
  single = b.single;
  rising = b.rising;
}

pub returns-clause-advanced : goal.returns-clause-advanced
returns-clause-advanced g c = refl

pub returns-clause-room : goal.returns-clause-room
returns-clause-room g c = let long = ap length c.pop_front.ensures.items ∙ length-append (option_to_list c.pop_front.result) c.pop_front.new.self.items in
    λ k room. omega (arith, room, long, c.pop_front.ensures.capacity)
