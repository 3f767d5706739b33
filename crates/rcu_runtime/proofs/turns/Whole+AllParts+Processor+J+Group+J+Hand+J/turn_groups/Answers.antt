use Rattle.std.proofs.Common.{refl}
use Rattle.rcu_runtime.proofs.AllTurns.{turns_groups}
use Rattle.rcu_runtime.proofs.Wholes.{all_hands_itself, cpus_itself, driver_itself, groups_stay, turned_whole}
use Rattle.rcu_runtime.proofs.turns.Whole+AllParts+Processor+J+Group+J+Hand+J.turn_groups.Goals as goal

pub invariant_of-self : goal.invariant_of-self
invariant_of-self g c = turned_whole g.J.Job.key_of g.J.Job.gives c.self.inside.limit c.self.inside.parts _ (record { processors = cpus_itself g.J.Job.key_of g.J.Job.gives c.self.inside.parts.processors.items; groups = groups_stay g.J.Job.key_of g.J.Job.gives _ _ c.turn_each_group.ensures; hands = all_hands_itself g.J.Job.key_of g.J.Job.gives c.self.inside.parts.hands.items; driver = driver_itself c.self.inside.parts.driver; control = refl }) c.self.invariant

pub returns : goal.returns
returns g c = record { turns = turns_groups g.J.Job.key_of g.J.Job.gives c.args.self.now c.self.inside.parts _ c.self.view_is (record { processors = cpus_itself g.J.Job.key_of g.J.Job.gives c.self.inside.parts.processors.items; groups = groups_stay g.J.Job.key_of g.J.Job.gives _ _ c.turn_each_group.ensures; hands = all_hands_itself g.J.Job.key_of g.J.Job.gives c.self.inside.parts.hands.items; driver = driver_itself c.self.inside.parts.driver; control = refl }) c.self.invariant.close.one c.turn_each_group.ensures refl refl refl refl }

pub turn_each_group-requires-send-J : goal.turn_each_group-requires-send-J
turn_each_group-requires-send-J g c κs within = c.type_bounds.send-J

pub turn_each_group-requires-send-J-Receipt : goal.turn_each_group-requires-send-J-Receipt
turn_each_group-requires-send-J-Receipt g c κs within = c.type_bounds.send-J-Receipt

pub turn_each_group-requires-after_bounds : goal.turn_each_group-requires-after_bounds
turn_each_group-requires-after_bounds g c κs within = assumption
