use Rattle.std.proofs.lemmas.Bool.{false≢true}
use Rattle.std.proofs.Common.{refl, ap}
use Rattle.rcu_lists.specs.Batches.{batch_items}
use Rattle.rcu_lists.specs.declared.pace.Pace.{Pace}
use Rattle.rcu_lists.proofs.Sizes.{bypass-batch}
use denote.Param.{param}
use Rattle.rcu_lists.proofs.bypass.Bypass.flush_single.Goals as goal

pub invariant_of-self : goal.invariant_of-self
invariant_of-self g c = let b = c.args.self.now in let same = c.in-None.ensures.taken.1 in record { unmarked = rw same b.unmarked; marked = rw same b.marked; roomy = rw same b.roomy }

pub returns-in-None-clause-single : goal.returns-in-None-clause-single
returns-in-None-clause-single g c = let same = c.in-None.ensures.taken.1 in (c.in-None.ensures.taken.0, record { items = ap batch_items same; pace = refl; qhimark = refl; room = λ more h. rw same h })

pub take_single-requires : goal.take_single-requires
take_single-requires g c = bypass-batch (param 0 g.row.J) assumption

pub invariant_of-self-in-Some : goal.invariant_of-self-in-Some
invariant_of-self-in-Some g c = let none = c.in-Some.ensures.taken.1 in record {
  unmarked = λ _. (ap (λ (p : Pace). p.plain) c.emptied-rested.ensures, ap (λ (p : Pace). p.lazy) c.emptied-rested.ensures);
  marked = λ _ _. none;
  roomy = λ _. c.in-Some.ensures.room refl;
}

pub returns-in-None-clause-qhimark : goal.returns-in-None-clause-qhimark
returns-in-None-clause-qhimark g c = refl

pub returns-in-None-clause-room : goal.returns-in-None-clause-room
returns-in-None-clause-room g c = λ h. absurd (false≢true h)

pub returns-in-Some-clause-single : goal.returns-in-Some-clause-single
returns-in-Some-clause-single g c = (c.in-Some.ensures.taken.0, c.in-Some.ensures.taken.1, c.emptied-rested.ensures)

pub returns-in-Some-clause-qhimark : goal.returns-in-Some-clause-qhimark
returns-in-Some-clause-qhimark g c = refl

pub returns-in-Some-clause-room : goal.returns-in-Some-clause-room
returns-in-Some-clause-room g c = λ _. c.in-Some.ensures.room refl
