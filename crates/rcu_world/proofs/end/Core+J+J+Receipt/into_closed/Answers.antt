use Rattle.std.proofs.Common.{◌∙◌, ap, ◌++◌, map, arith, length}
use Rattle.rcu_world_law.specs.Closing.{shut_marks}
use Rattle.rcu_world_processor.specs.Leaving.{left_keys}
use Rattle.rcu_world.specs.Leaving.{backs}
use Rattle.rcu_world.specs.Views.{all_seen}
use Rattle.rcu_world.proofs.Leaving.{shuts_room, last_room, backs_left}
use denote.Param.{param}
use Rattle.rcu_world.proofs.Sizes.{processor_fits}
use Rattle.rcu_world.proofs.end.Core+J+J+Receipt.into_closed.Goals as goal

pub add_backs-requires-clause-room : goal.add_backs-requires-clause-room
add_backs-requires-clause-room g c κs within = last_room g.J.Job.key_of c.args.self.processors.items c.args.room.back.items c.take_apart.new.back.items _ _ _ _ _ c.args.self.processors.ok.0 c.requires.empty.1 c.take_apart.ensures.back
    c.add_shuts.ensures.len c.add_shuts.ensures.capacity c.requires.more

pub returns-clause-marks : goal.returns-clause-marks
returns-clause-marks g c = c.add_backs.ensures
    ∙ ap (λ x. x ++ backs 0 (map (λ v. map g.J.Job.key_of v.items) c.take_apart.new.back.items)) (c.add_shuts.ensures.marks ∙ ap (λ x. x ++ shut_marks 0 (all_seen g.J.Job.key_of c.args.self.processors.items)) c.requires.marks)
    ∙ ap (λ x. (c.args.self.history.items ++ shut_marks 0 (all_seen g.J.Job.key_of c.args.self.processors.items)) ++ backs 0 x)
    (c.take_apart.ensures.back ∙ ap (λ x. map (λ v. map g.J.Job.key_of v.items) x ++ map left_keys (all_seen g.J.Job.key_of c.args.self.processors.items)) c.requires.empty.1)
    ∙ ap (λ x. (c.args.self.history.items ++ shut_marks 0 (all_seen g.J.Job.key_of c.args.self.processors.items)) ++ x) (backs_left 0 (all_seen g.J.Job.key_of c.args.self.processors.items))

pub add_shuts-requires-clause-room : goal.add_shuts-requires-clause-room
add_shuts-requires-clause-room g c κs within = (processor_fits (param 0 g.row.J) (param 1 g.row.J-Receipt) assumption, shuts_room g.J.Job.key_of c.args.self.processors.items _ _ _ c.args.self.processors.ok.0 c.requires.more)

pub take_apart-requires-send-J : goal.take_apart-requires-send-J
take_apart-requires-send-J g c κs within = c.type_bounds.send-J

pub take_apart-requires-send-J-Receipt : goal.take_apart-requires-send-J-Receipt
take_apart-requires-send-J-Receipt g c κs within = c.type_bounds.send-J-Receipt

pub take_apart-requires-after_bounds : goal.take_apart-requires-after_bounds
take_apart-requires-after_bounds g c κs within = (processor_fits (param 0 g.row.J) (param 1 g.row.J-Receipt) assumption, (c.requires.jobs, (omega (arith, ap length c.requires.empty.0, c.args.room.ran.ok.0, c.requires.ran), omega (arith, ap length c.requires.empty.1, c.args.room.back.ok.0, c.requires.back))))

pub add_shuts-requires-send-J : goal.add_shuts-requires-send-J
add_shuts-requires-send-J g c κs within = c.type_bounds.send-J

pub add_shuts-requires-send-J-Receipt : goal.add_shuts-requires-send-J-Receipt
add_shuts-requires-send-J-Receipt g c κs within = c.type_bounds.send-J-Receipt
