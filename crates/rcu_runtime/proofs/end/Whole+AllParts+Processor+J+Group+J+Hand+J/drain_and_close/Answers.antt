use Rattle.std.proofs.Common.{◌∙◌, refl}
use Rattle.rcu_runtime.proofs.end.Whole+AllParts+Processor+J+Group+J+Hand+J.drain_and_close.Goals as goal

pub returns-in-Ok-clause-none_back : goal.returns-in-Ok-clause-none_back
returns-in-Ok-clause-none_back g c = c.in-Ok.ensures.drained (c.if-not-drain.ensures.drained refl)

pub returns-in-Ok-clause-closes : goal.returns-in-Ok-clause-closes
returns-in-Ok-clause-closes g c = record { ended = c.drain.new.self; continues = c.drain.ensures.turns.continues; drains = c.if-not-drain.ensures.turns; closes = c.in-Ok.ensures.closes }

pub returns-then-not-drain-clause-fault : goal.returns-then-not-drain-clause-fault
returns-then-not-drain-clause-fault g c = (c.drain.new.self, c.if-not-drain.ensures.turns)

pub returns-in-Err-clause-fault : goal.returns-in-Err-clause-fault
returns-in-Err-clause-fault g c = (c.drain.new.self, c.if-not-drain.ensures.turns)

pub drain-requires-send-J : goal.drain-requires-send-J
drain-requires-send-J g c κs within = c.type_bounds.send-J

pub drain-requires-send-J-Receipt : goal.drain-requires-send-J-Receipt
drain-requires-send-J-Receipt g c κs within = c.type_bounds.send-J-Receipt

pub drain-requires-after_bounds : goal.drain-requires-after_bounds
drain-requires-after_bounds g c κs within = assumption

pub drop-runtime-requires-room-A-Wholeness : goal.drop-runtime-requires-room-A-Wholeness
drop-runtime-requires-room-A-Wholeness g c κs within = assumption

pub drop-runtime-requires-room-A-Wholeness-2 : goal.drop-runtime-requires-room-A-Wholeness-2
drop-runtime-requires-room-A-Wholeness-2 g c κs within = assumption

pub drop-runtime-requires-room-A-Wholeness-3 : goal.drop-runtime-requires-room-A-Wholeness-3
drop-runtime-requires-room-A-Wholeness-3 g c κs within = assumption

pub drop-runtime-requires-room-A-Destruct : goal.drop-runtime-requires-room-A-Destruct
drop-runtime-requires-room-A-Destruct g c κs within = assumption

pub drop-runtime-requires-room-A-Destruct-2 : goal.drop-runtime-requires-room-A-Destruct-2
drop-runtime-requires-room-A-Destruct-2 g c κs within = assumption

pub drop-runtime-requires-room-A-Destruct-3 : goal.drop-runtime-requires-room-A-Destruct-3
drop-runtime-requires-room-A-Destruct-3 g c κs within = assumption

pub close_or_drop-requires-send-J : goal.close_or_drop-requires-send-J
close_or_drop-requires-send-J g c κs within = c.type_bounds.send-J

pub close_or_drop-requires-send-J-Receipt : goal.close_or_drop-requires-send-J-Receipt
close_or_drop-requires-send-J-Receipt g c κs within = c.type_bounds.send-J-Receipt

pub close_or_drop-requires-after_bounds : goal.close_or_drop-requires-after_bounds
close_or_drop-requires-after_bounds g c κs within = assumption

pub returns-in-Ok-clause-none_lost : goal.returns-in-Ok-clause-none_lost
returns-in-Ok-clause-none_lost g c = c.in-Ok.ensures.none_lost ∙ c.drain.ensures.turns.none

pub returns-in-Ok-clause-receipts : goal.returns-in-Ok-clause-receipts
returns-in-Ok-clause-receipts g c = c.in-Ok.ensures.receipts
