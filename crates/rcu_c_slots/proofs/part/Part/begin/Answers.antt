use Rattle.std.proofs.Common.{refl, subst, sym}
use Rattle.rcu_c_slots.specs.Runs.{BeginsBy, handed}
use Rattle.rcu_c_slots.specs.declared.part.Part.TheVariants as part
use Rattle.rcu_c_slots.proofs.part.Part.begin.Goals as goal

pub returns-in-Processor : goal.returns-in-Processor
returns-in-Processor c = record {
  begins = subst (λ old. BeginsBy c.args.moment (handed c.begin.result c.begin.new.begun) old (part.Processor c.begin.new.self)) (sym c.in-Processor.is) (c.begin.new.self, refl, c.begin.ensures.begins);
  none = c.begin.ensures.none;
}

pub returns-in-Hand : goal.returns-in-Hand
returns-in-Hand c = record {
  begins = subst (λ old. BeginsBy c.args.moment (handed c.begin-in-Hand.result c.begin-in-Hand.new.begun) old (part.Hand c.begin-in-Hand.new.self)) (sym c.in-Hand.is) (c.begin-in-Hand.new.self, refl, c.begin-in-Hand.ensures.begins);
  none = c.begin-in-Hand.ensures.none;
}
