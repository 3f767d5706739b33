use Rattle.std.proofs.Common.{ap, refl}
use Rattle.rcu_lists.specs.Batches.{batch_items}
use Rattle.rcu_lists.specs.declared.pace.Pace.{Pace}
use Rattle.rcu_lists.proofs.Sizes.{bypass-batch}
use denote.Param.{param}
use Rattle.rcu_lists.proofs.bypass.Bypass.flush.Goals as goal

pub take_all-requires : goal.take_all-requires
take_all-requires g c = bypass-batch (param 0 g.row.J) assumption

pub invariant_of-self : goal.invariant_of-self
invariant_of-self g c = record {
  unmarked = λ _. (ap (λ (p : Pace). p.plain) c.emptied-self.ensures, ap (λ (p : Pace). p.lazy) c.emptied-self.ensures);
  marked = λ _ _. c.take_all.ensures.left;
  roomy = λ _. c.take_all.ensures.room;
}

pub returns-clause-all : goal.returns-clause-all
returns-clause-all g c = ap batch_items c.take_all.ensures.all

pub returns-clause-none : goal.returns-clause-none
returns-clause-none g c = c.take_all.ensures.left

pub returns-clause-pace : goal.returns-clause-pace
returns-clause-pace g c = c.emptied-self.ensures

pub returns-clause-qhimark : goal.returns-clause-qhimark
returns-clause-qhimark g c = refl

pub returns-clause-room : goal.returns-clause-room
returns-clause-room g c = c.take_all.ensures.room
