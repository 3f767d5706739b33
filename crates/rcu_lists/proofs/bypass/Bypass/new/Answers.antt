use Rattle.std.proofs.Common.{ap, refl}
use Rattle.rcu_lists.specs.declared.pace.Pace.{Pace}
use Rattle.rcu_lists.proofs.Sizes.{bypass-batch}
use denote.Param.{param}
use Rattle.rcu_lists.proofs.bypass.Bypass.new.Goals as goal

pub new-requires : goal.new-requires
new-requires g c = bypass-batch (param 0 g.row.J) assumption

pub invariant_of-result : goal.invariant_of-result
invariant_of-result g c = record {
  unmarked = λ _. (ap (λ (p : Pace). p.plain) c.new-2.ensures, ap (λ (p : Pace). p.lazy) c.new-2.ensures);
  marked = λ _ _. c.new.ensures.items;
  roomy = λ _. c.new.ensures.room;
}

pub returns-clause-items : goal.returns-clause-items
returns-clause-items g c = c.new.ensures.items

pub returns-clause-pace : goal.returns-clause-pace
returns-clause-pace g c = c.new-2.ensures

pub returns-clause-qhimark : goal.returns-clause-qhimark
returns-clause-qhimark g c = refl

pub returns-clause-room : goal.returns-clause-room
returns-clause-room g c = c.new.ensures.room
