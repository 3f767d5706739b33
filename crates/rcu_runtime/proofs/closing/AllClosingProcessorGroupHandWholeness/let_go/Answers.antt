use Rattle.rcu_runtime.proofs.closing.AllClosingProcessorGroupHandWholeness.let_go.Goals as goal

pub drop-requires-room-T-Destruct : goal.drop-requires-room-T-Destruct
drop-requires-room-T-Destruct g c κs within = assumption

pub drop-requires-room-T-Destruct-2 : goal.drop-requires-room-T-Destruct-2
drop-requires-room-T-Destruct-2 g c κs within = assumption

pub drop-requires-room-T-Destruct-3 : goal.drop-requires-room-T-Destruct-3
drop-requires-room-T-Destruct-3 g c κs within = assumption
