use Rattle.rcu_world.proofs.Settling.{are_counted}
use Rattle.std.proofs.Common.{arith}
use denote.Param.{param}
use Rattle.std.proofs.lemmas.List.{length-map}
use Rattle.rcu_world_processor.specs.Views.{seen}
use Rattle.rcu_world.proofs.Sizes.{processor_fits}
use Rattle.rcu_world.proofs.end.Core+J+J+Receipt.find_room.Goals as goal

pub count_marks-requires-send-J : goal.count_marks-requires-send-J
count_marks-requires-send-J g c κs within = c.type_bounds.send-J

pub count_marks-requires-send-J-Receipt : goal.count_marks-requires-send-J-Receipt
count_marks-requires-send-J-Receipt g c κs within = c.type_bounds.send-J-Receipt

pub count_marks-requires-after_bounds : goal.count_marks-requires-after_bounds
count_marks-requires-after_bounds g c κs within = (processor_fits (param 0 g.row.J) (param 1 g.row.J-Receipt) assumption, (are_counted g.J.Job.key_of c.args.self.now c.requires, omega (arith, c.requires.few, length-map c.args.self.now.processors.items (seen g.J.Job.key_of), c.args.self.now.processors.ok.0)))

pub find_rooms-requires-send-J : goal.find_rooms-requires-send-J
find_rooms-requires-send-J g c κs within = c.type_bounds.send-J

pub find_rooms-requires-send-J-Receipt : goal.find_rooms-requires-send-J-Receipt
find_rooms-requires-send-J-Receipt g c κs within = c.type_bounds.send-J-Receipt

pub find_rooms-requires-after_bounds : goal.find_rooms-requires-after_bounds
find_rooms-requires-after_bounds g c κs within = (processor_fits (param 0 g.row.J) (param 1 g.row.J-Receipt) assumption, are_counted g.J.Job.key_of c.args.self.now c.requires)
