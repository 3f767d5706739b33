use Rattle.rcu_part_processor.proofs.processor.into_state.Goals as goal

pub into_inner-requires-send-J : goal.into_inner-requires-send-J
into_inner-requires-send-J g c κs within = c.type_bounds.send-J

pub into_inner-requires-send-J-Receipt : goal.into_inner-requires-send-J-Receipt
into_inner-requires-send-J-Receipt g c κs within = c.type_bounds.send-J-Receipt

pub into_inner-requires-after_bounds : goal.into_inner-requires-after_bounds
into_inner-requires-after_bounds g c κs within = assumption

pub returns : goal.returns
returns g c = c.into_inner.ensures
