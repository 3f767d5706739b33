use Rattle.rcu_parts.proofs.opening.open.Goals as goal

pub returns-clause-opened : goal.returns-clause-opened
returns-clause-opened g c = c.open_with.ensures.opened

pub returns-clause-one : goal.returns-clause-one
returns-clause-one g c = c.open_with.ensures.one

pub returns-clause-sound : goal.returns-clause-sound
returns-clause-sound g c = c.open_with.ensures.sound

pub open_with-requires-send-J : goal.open_with-requires-send-J
open_with-requires-send-J g c κs within = c.type_bounds.send-J

pub open_with-requires-send-J-Receipt : goal.open_with-requires-send-J-Receipt
open_with-requires-send-J-Receipt g c κs within = c.type_bounds.send-J-Receipt

pub open_with-requires-after_bounds : goal.open_with-requires-after_bounds
open_with-requires-after_bounds g c κs within = assumption
