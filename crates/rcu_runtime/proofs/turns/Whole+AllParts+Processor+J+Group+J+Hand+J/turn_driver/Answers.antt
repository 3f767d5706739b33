use Rattle.std.proofs.Common.{refl}
use Rattle.rcu_runtime.proofs.AllTurns.{turns_driver}
use Rattle.rcu_runtime.proofs.Wholes.{all_hands_itself, cpus_itself, groups_itself, turned_whole}
use Rattle.rcu_runtime.proofs.turns.Whole+AllParts+Processor+J+Group+J+Hand+J.turn_driver.Goals as goal

pub invariant_of-self : goal.invariant_of-self
invariant_of-self g c = turned_whole g.J.Job.key_of g.J.Job.gives c.self.inside.limit c.self.inside.parts _ (record { processors = cpus_itself g.J.Job.key_of g.J.Job.gives c.self.inside.parts.processors.items; groups = groups_itself c.self.inside.parts.groups.items; hands = all_hands_itself g.J.Job.key_of g.J.Job.gives c.self.inside.parts.hands.items; driver = c.turn.ensures.same; control = refl }) c.self.invariant

pub returns : goal.returns
returns g c = record { turns = turns_driver g.J.Job.key_of g.J.Job.gives c.args.self.now c.self.inside.parts _ c.self.view_is (record { processors = cpus_itself g.J.Job.key_of g.J.Job.gives c.self.inside.parts.processors.items; groups = groups_itself c.self.inside.parts.groups.items; hands = all_hands_itself g.J.Job.key_of g.J.Job.gives c.self.inside.parts.hands.items; driver = c.turn.ensures.same; control = refl }) c.self.invariant.close.one c.turn.result c.turn.ensures.turn refl refl refl refl }
