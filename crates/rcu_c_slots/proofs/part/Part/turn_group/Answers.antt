use Rattle.std.proofs.Common.{refl, subst, sym}
use Rattle.std.specs.declared.result.Result.TheVariants.{Ok}
use Rattle.rcu_c_slots.specs.Others.{GroupTurnsBy}
use Rattle.rcu_c_slots.specs.declared.part.Part.TheVariants as part
use Rattle.rcu_c_slots.proofs.Jobs.{group_fits, job_sends, receipt_sends}
use Rattle.rcu_c_slots.proofs.part.Part.turn_group.Goals as goal

pub returns-in-Group : goal.returns-in-Group
returns-in-Group c = let e = c.turn.ensures in subst (λ old. GroupTurnsBy (Ok c.turn.result) old (part.Group c.turn.new.self)) (sym c.in-Group.is) (record {
  answer = c.turn.result;
  after = c.turn.new.self;
  result_is = refl;
  new_is = refl;
  does = record { same = e.same; turns = e.turn };
})

pub turn-requires-send-J : goal.turn-requires-send-J
turn-requires-send-J c κs = job_sends

pub turn-requires-send-J-Receipt : goal.turn-requires-send-J-Receipt
turn-requires-send-J-Receipt c κs = receipt_sends

pub turn-requires-after_bounds : goal.turn-requires-after_bounds
turn-requires-after_bounds c κs = group_fits
