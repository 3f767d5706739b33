use Rattle.std.proofs.Common.{refl}
use Rattle.rcu_runtime.proofs.AllTurns.{all_turned, turns_all}
use Rattle.rcu_runtime.proofs.Wholes.{turned_whole}
use Rattle.rcu_runtime.proofs.turns.Whole+AllParts+Processor+J+Group+J+Hand+J.turn_all.Goals as goal

pub invariant_of-self : goal.invariant_of-self
invariant_of-self g c = turned_whole g.J.Job.key_of g.J.Job.gives c.self.inside.limit c.self.inside.parts _ (all_turned g.J.Job.key_of g.J.Job.gives c.self.inside.parts _ c.args.moment c.turn_each_processor.ensures c.turn_each_group.ensures c.turn_each_hand.ensures c.turn.ensures.same refl) c.self.invariant

pub returns : goal.returns
returns g c = record { turns = turns_all g.J.Job.key_of g.J.Job.gives c.args.self.now c.self.inside.parts _ c.self.view_is (all_turned g.J.Job.key_of g.J.Job.gives c.self.inside.parts _ c.args.moment c.turn_each_processor.ensures c.turn_each_group.ensures c.turn_each_hand.ensures c.turn.ensures.same refl) c.self.invariant.close.one c.args.moment c.turn.result c.turn_each_processor.ensures c.turn_each_group.ensures c.turn_each_hand.ensures c.turn.ensures.turn refl }

pub turn_each_processor-requires-send-J : goal.turn_each_processor-requires-send-J
turn_each_processor-requires-send-J g c κs within = c.type_bounds.send-J

pub turn_each_processor-requires-send-J-Receipt : goal.turn_each_processor-requires-send-J-Receipt
turn_each_processor-requires-send-J-Receipt g c κs within = c.type_bounds.send-J-Receipt

pub turn_each_processor-requires-after_bounds : goal.turn_each_processor-requires-after_bounds
turn_each_processor-requires-after_bounds g c κs within = assumption

pub turn_each_group-requires-send-J : goal.turn_each_group-requires-send-J
turn_each_group-requires-send-J g c κs within = c.type_bounds.send-J

pub turn_each_group-requires-send-J-Receipt : goal.turn_each_group-requires-send-J-Receipt
turn_each_group-requires-send-J-Receipt g c κs within = c.type_bounds.send-J-Receipt

pub turn_each_group-requires-after_bounds : goal.turn_each_group-requires-after_bounds
turn_each_group-requires-after_bounds g c κs within = assumption

pub turn_each_hand-requires-send-J : goal.turn_each_hand-requires-send-J
turn_each_hand-requires-send-J g c κs within = c.type_bounds.send-J

pub turn_each_hand-requires-send-J-Receipt : goal.turn_each_hand-requires-send-J-Receipt
turn_each_hand-requires-send-J-Receipt g c κs within = c.type_bounds.send-J-Receipt

pub turn_each_hand-requires-after_bounds : goal.turn_each_hand-requires-after_bounds
turn_each_hand-requires-after_bounds g c κs within = assumption
