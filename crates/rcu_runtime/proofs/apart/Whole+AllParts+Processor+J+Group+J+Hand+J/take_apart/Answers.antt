use Rattle.rcu_runtime.proofs.apart.Whole+AllParts+Processor+J+Group+J+Hand+J.take_apart.Goals as goal

pub into_fields-requires-room-A-Wholeness : goal.into_fields-requires-room-A-Wholeness
into_fields-requires-room-A-Wholeness g c κs within = assumption

pub into_fields-requires-room-A-Wholeness-2 : goal.into_fields-requires-room-A-Wholeness-2
into_fields-requires-room-A-Wholeness-2 g c κs within = assumption

pub into_fields-requires-room-A-Wholeness-3 : goal.into_fields-requires-room-A-Wholeness-3
into_fields-requires-room-A-Wholeness-3 g c κs within = assumption

pub returns-clause-parts : goal.returns-clause-parts
returns-clause-parts g c = c.into_fields.ensures.parts

pub returns-clause-whole : goal.returns-clause-whole
returns-clause-whole g c = c.into_fields.ensures.whole
