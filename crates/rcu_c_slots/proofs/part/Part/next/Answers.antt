use Rattle.rcu_c_slots.proofs.GoingOn.{hand_part_goes_on, processor_part_goes_on}
use Rattle.rcu_c_slots.specs.Runs.{handed}
use Rattle.rcu_c_slots.proofs.part.Part.next.Goals as goal

pub returns-in-Processor : goal.returns-in-Processor
returns-in-Processor c = record {
  begins = processor_part_goes_on c.args.moment (handed c.next.result c.next.new.begun) c.args.self.now c.in-Processor.processor c.next.new.self c.in-Processor.is c.next.ensures.begins;
  none = c.next.ensures.none;
}

pub returns-in-Hand : goal.returns-in-Hand
returns-in-Hand c = record {
  begins = hand_part_goes_on c.args.moment (handed c.next-in-Hand.result c.next-in-Hand.new.begun) c.args.self.now c.in-Hand.hand c.next-in-Hand.new.self c.in-Hand.is c.next-in-Hand.ensures.begins;
  none = c.next-in-Hand.ensures.none;
}
