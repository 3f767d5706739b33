use Rattle.test_world.proofs.Sends.{sent_as}
use Rattle.test_world.proofs.steps.play_one.Goals as goal

pub call-requires-after_bounds : goal.call-requires-after_bounds
call-requires-after_bounds g c κs within = (assumption, c.requires)

pub returns-in-Call : goal.returns-in-Call
returns-in-Call g c = c.call.ensures

pub call_lazily-requires-after_bounds : goal.call_lazily-requires-after_bounds
call_lazily-requires-after_bounds g c κs within = (assumption, c.requires)

pub returns-in-Lazy : goal.returns-in-Lazy
returns-in-Lazy g c = c.call_lazily.ensures

pub tick-requires-after_bounds : goal.tick-requires-after_bounds
tick-requires-after_bounds g c κs within = (assumption, c.requires)

pub returns-in-Tick : goal.returns-in-Tick
returns-in-Tick g c = c.tick.ensures

pub drive-requires-after_bounds : goal.drive-requires-after_bounds
drive-requires-after_bounds g c κs within = (assumption, c.requires)

pub returns-in-Drive : goal.returns-in-Drive
returns-in-Drive g c = c.drive.ensures.resting

pub report-requires-after_bounds : goal.report-requires-after_bounds
report-requires-after_bounds g c κs within = (assumption, c.requires)

pub returns-in-Report : goal.returns-in-Report
returns-in-Report g c = c.report.ensures.resting

pub leave-requires-after_bounds : goal.leave-requires-after_bounds
leave-requires-after_bounds g c κs within = (assumption, c.requires)

pub returns-in-Leave : goal.returns-in-Leave
returns-in-Leave g c = c.leave.ensures.resting

pub come_back-requires-after_bounds : goal.come_back-requires-after_bounds
come_back-requires-after_bounds g c κs within = (assumption, c.requires)

pub returns-in-ComeBack : goal.returns-in-ComeBack
returns-in-ComeBack g c = c.come_back.ensures.resting

pub turn_group-requires-after_bounds : goal.turn_group-requires-after_bounds
turn_group-requires-after_bounds g c κs within = (assumption, c.requires)

pub returns-in-Group : goal.returns-in-Group
returns-in-Group g c = c.turn_group.ensures

pub offload-requires-after_bounds : goal.offload-requires-after_bounds
offload-requires-after_bounds g c κs within = (assumption, c.requires)

pub returns-in-Offload : goal.returns-in-Offload
returns-in-Offload g c = c.offload.ensures

pub deoffload-requires-after_bounds : goal.deoffload-requires-after_bounds
deoffload-requires-after_bounds g c κs within = (assumption, c.requires)

pub returns-in-Deoffload : goal.returns-in-Deoffload
returns-in-Deoffload g c = c.deoffload.ensures

pub open-requires-after_bounds : goal.open-requires-after_bounds
open-requires-after_bounds g c κs within = (assumption, c.requires)

pub returns-in-Open : goal.returns-in-Open
returns-in-Open g c = c.open.ensures

pub poll-requires-after_bounds : goal.poll-requires-after_bounds
poll-requires-after_bounds g c κs within = (assumption, c.requires)

pub returns-in-Poll : goal.returns-in-Poll
returns-in-Poll g c = c.poll.ensures

pub returns-in-Show : goal.returns-in-Show
returns-in-Show g c = c.requires

pub call-requires-send-J : goal.call-requires-send-J
call-requires-send-J g c κs within = c.type_bounds.send-J

pub call-requires-send-J-Receipt : goal.call-requires-send-J-Receipt
call-requires-send-J-Receipt g c κs within = c.type_bounds.send-J-Receipt

pub call_lazily-requires-send-J : goal.call_lazily-requires-send-J
call_lazily-requires-send-J g c κs within = c.type_bounds.send-J

pub call_lazily-requires-send-J-Receipt : goal.call_lazily-requires-send-J-Receipt
call_lazily-requires-send-J-Receipt g c κs within = c.type_bounds.send-J-Receipt

pub tick-requires-send-J : goal.tick-requires-send-J
tick-requires-send-J g c κs within = c.type_bounds.send-J

pub tick-requires-send-J-Receipt : goal.tick-requires-send-J-Receipt
tick-requires-send-J-Receipt g c κs within = c.type_bounds.send-J-Receipt

pub drive-requires-send-J : goal.drive-requires-send-J
drive-requires-send-J g c κs within = c.type_bounds.send-J

pub drive-requires-send-J-Receipt : goal.drive-requires-send-J-Receipt
drive-requires-send-J-Receipt g c κs within = c.type_bounds.send-J-Receipt

pub report-requires-send-J : goal.report-requires-send-J
report-requires-send-J g c κs within = c.type_bounds.send-J

pub report-requires-send-J-Receipt : goal.report-requires-send-J-Receipt
report-requires-send-J-Receipt g c κs within = c.type_bounds.send-J-Receipt

pub leave-requires-send-J : goal.leave-requires-send-J
leave-requires-send-J g c κs within = c.type_bounds.send-J

pub leave-requires-send-J-Receipt : goal.leave-requires-send-J-Receipt
leave-requires-send-J-Receipt g c κs within = c.type_bounds.send-J-Receipt

pub come_back-requires-send-J : goal.come_back-requires-send-J
come_back-requires-send-J g c κs within = c.type_bounds.send-J

pub come_back-requires-send-J-Receipt : goal.come_back-requires-send-J-Receipt
come_back-requires-send-J-Receipt g c κs within = c.type_bounds.send-J-Receipt

pub turn_group-requires-send-J : goal.turn_group-requires-send-J
turn_group-requires-send-J g c κs within = c.type_bounds.send-J

pub turn_group-requires-send-J-Receipt : goal.turn_group-requires-send-J-Receipt
turn_group-requires-send-J-Receipt g c κs within = c.type_bounds.send-J-Receipt

pub poll-requires-send-J : goal.poll-requires-send-J
poll-requires-send-J g c κs within = c.type_bounds.send-J

pub poll-requires-send-J-Receipt : goal.poll-requires-send-J-Receipt
poll-requires-send-J-Receipt g c κs within = c.type_bounds.send-J-Receipt

pub offload-requires-send-J : goal.offload-requires-send-J
offload-requires-send-J g c κs within = c.type_bounds.send-J

pub offload-requires-send-J-Receipt : goal.offload-requires-send-J-Receipt
offload-requires-send-J-Receipt g c κs within = sent_as 2 1 g.row.J-Receipt c.type_bounds.send-J-Receipt

pub deoffload-requires-send-J : goal.deoffload-requires-send-J
deoffload-requires-send-J g c κs within = c.type_bounds.send-J

pub deoffload-requires-send-J-Receipt : goal.deoffload-requires-send-J-Receipt
deoffload-requires-send-J-Receipt g c κs within = sent_as 2 1 g.row.J-Receipt c.type_bounds.send-J-Receipt

pub open-requires-send-J : goal.open-requires-send-J
open-requires-send-J g c κs within = c.type_bounds.send-J

pub open-requires-send-J-Receipt : goal.open-requires-send-J-Receipt
open-requires-send-J-Receipt g c κs within = sent_as 2 1 g.row.J-Receipt c.type_bounds.send-J-Receipt

pub lists-requires-send-J : goal.lists-requires-send-J
lists-requires-send-J g c κs within = c.type_bounds.send-J

pub lists-requires-send-J-Receipt : goal.lists-requires-send-J-Receipt
lists-requires-send-J-Receipt g c κs within = sent_as 2 1 g.row.J-Receipt c.type_bounds.send-J-Receipt
