use Rattle.std.proofs.Common.{refl, subst, sym}
use Rattle.std.specs.declared.result.Result.TheVariants.{Ok}
use Rattle.rcu_c_slots.specs.Others.{ReadsHaltBy}
use Rattle.rcu_c_slots.specs.declared.part.Part.TheVariants as part
use Rattle.rcu_c_slots.proofs.Jobs.{cpu_fits, group_fits, hand_fits, job_sends, receipt_sends}
use Rattle.rcu_c_slots.proofs.part.Part.is_halted.Goals as goal

pub returns-in-Driver : goal.returns-in-Driver
returns-in-Driver c = let e = c.is_halted.ensures in subst (λ old. ReadsHaltBy (Ok c.is_halted.result) old (part.Driver c.is_halted.new.self)) (sym c.in-Driver.is) (record {
  answer = c.is_halted.result;
  after = c.is_halted.new.self;
  result_is = refl;
  new_is = refl;
  does = record { same = e.same; reads = e.view };
})

pub returns-in-Processor : goal.returns-in-Processor
returns-in-Processor c = subst (λ old. ReadsHaltBy c.is_halted-in-Processor.result old (part.Processor c.is_halted-in-Processor.new.self)) (sym c.in-Processor.is) (c.is_halted-in-Processor.new.self, refl, c.is_halted-in-Processor.ensures)

pub returns-in-Hand : goal.returns-in-Hand
returns-in-Hand c = subst (λ old. ReadsHaltBy c.is_halted-in-Hand.result old (part.Hand c.is_halted-in-Hand.new.self)) (sym c.in-Hand.is) (c.is_halted-in-Hand.new.self, refl, c.is_halted-in-Hand.ensures)

pub returns-in-Group : goal.returns-in-Group
returns-in-Group c = let e = c.is_halted-in-Group.ensures in subst (λ old. ReadsHaltBy (Ok c.is_halted-in-Group.result) old (part.Group c.is_halted-in-Group.new.self)) (sym c.in-Group.is) (record {
  answer = c.is_halted-in-Group.result;
  after = c.is_halted-in-Group.new.self;
  result_is = refl;
  new_is = refl;
  does = record { same = e.same; members = e.members; reads = e.view };
})

pub is_halted-requires-in-Group-send-J : goal.is_halted-requires-in-Group-send-J
is_halted-requires-in-Group-send-J c κs = job_sends

pub is_halted-requires-in-Group-send-J-Receipt : goal.is_halted-requires-in-Group-send-J-Receipt
is_halted-requires-in-Group-send-J-Receipt c κs = receipt_sends

pub is_halted-requires-in-Group-after_bounds : goal.is_halted-requires-in-Group-after_bounds
is_halted-requires-in-Group-after_bounds c κs = group_fits
