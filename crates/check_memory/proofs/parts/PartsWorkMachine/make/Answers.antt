use Rattle.check_memory.proofs.Keeping.{groups_driven, hands_driven, processors_driven}
use Rattle.check_memory.proofs.parts.PartsWorkMachine.make.Goals as goal

pub returns-in-Call : goal.returns-in-Call
returns-in-Call c = processors_driven c.args.self.now c.requires c.make_at.new.processors c.make_at.ensures.same c.make_at.ensures.sound

pub returns-in-Group : goal.returns-in-Group
returns-in-Group c = groups_driven c.args.self.now c.requires c.turn_group.new.groups c.turn_group.ensures

pub returns-in-Hand : goal.returns-in-Hand
returns-in-Hand c = hands_driven c.args.self.now c.requires c.turn_hand.new.hands c.turn_hand.ensures.same c.turn_hand.ensures.sound
