use Rattle.std.specs.List.{insert}
use Rattle.std.specs.Vec.{vec_capacity, vec_len}
use Rattle.rcu_lists.proofs.Outcomes.{where_ok}
use Rattle.rcuo_replay.proofs.Seating.{is_done}
use Rattle.rcuo_replay.proofs.commands.put_back.Goals as goal

pub insert-requires : goal.insert-requires
insert-requires g c = c.requires.place

pub unwrap-requires : goal.unwrap-requires
unwrap-requires g c = let old = c.args.processors.now in is_done c.insert.result (vec_len old) (vec_capacity old) c.insert.ensures.full c.requires.room

pub returns : goal.returns
returns g c = let old = c.args.processors.now in where_ok c.insert.result (insert old.items c.args.place c.args.processor) old.items c.insert.new.self.items (is_done c.insert.result (vec_len old) (vec_capacity old) c.insert.ensures.full c.requires.room) c.insert.ensures.items
