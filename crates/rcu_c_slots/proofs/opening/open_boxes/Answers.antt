use Rattle.rcu_c_slots.proofs.NewParts.{opens_boxes}
use Rattle.rcu_c_slots.proofs.Jobs.{job_sends, receipt_sends}
use Rattle.rcu_c_slots.proofs.opening.open_boxes.Goals as goal

pub returns-in-Ok : goal.returns-in-Ok
returns-in-Ok c = let e = c.in-Ok.ensures in opens_boxes c.args.kept c.args.shape.now c.args.number c.in-Ok.parts c.box_all.result (record { opened = e.opened; can_close = (e.one, e.sound) }) c.box_all.ensures

pub open_with-requires-send-J : goal.open_with-requires-send-J
open_with-requires-send-J c κs = job_sends

pub open_with-requires-send-J-Receipt : goal.open_with-requires-send-J-Receipt
open_with-requires-send-J-Receipt c κs = receipt_sends
