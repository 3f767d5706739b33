use Rattle.std.proofs.Common.{subst, sym}
use Rattle.rcu_lists.specs.Labels.{IsGraced}
use Rattle.rcu_lists.proofs.Graced.{graced-advance}
use Rattle.rcu_lists.proofs.segments.Segments.advance.Goals as goal

pub invariant_of-self : goal.invariant_of-self
invariant_of-self g c = let s = c.args.self.now in let new = c.advance.new.self in record {
  within = c.advance.ensures.within s.list.items s.within;
  stamps = s.stamps;
  graced = subst (IsGraced new.advanced) (sym (c.advance.ensures.list s.list.items s.within))
      (graced-advance s.bounds.advanced c.args.seq new.advanced _ c.advance.ensures.advanced s.graced);
}

pub returns-clause-list : goal.returns-clause-list
returns-clause-list g c = let s = c.args.self.now in c.advance.ensures.list s.list.items s.within

pub returns-clause-room : goal.returns-clause-room
returns-clause-room g c = λ _ room. room

pub returns-clause-advanced : goal.returns-clause-advanced
returns-clause-advanced g c = c.advance.ensures.advanced
