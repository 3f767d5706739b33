use Rattle.test_parts.proofs.Gathered.{of_the_part}
use denote.Param.Send.{sendable}
use Rattle.test_parts.proofs.phases.player.run_callers.Goals as goal

pub join-callers-requires-room-F-FnOnce : goal.join-callers-requires-room-F-FnOnce
join-callers-requires-room-F-FnOnce g c κs within = assumption

pub join-callers-requires-room-F-Destruct : goal.join-callers-requires-room-F-Destruct
join-callers-requires-room-F-Destruct g c κs within = assumption

pub join-callers-requires-after_bounds : goal.join-callers-requires-after_bounds
join-callers-requires-after_bounds g c κs within = let send = c.type_bounds.send-J in ((assumption, (search sendable, search sendable)), tt)

pub returns-clause-processors : goal.returns-clause-processors
returns-clause-processors g c = of_the_part (λ t. t.0) _ _ c.join-callers.result.0 c.both.result c.both.ensures.first c.join-callers.ensures.first (λ t keeps. keeps)

pub returns-clause-driver : goal.returns-clause-driver
returns-clause-driver g c = of_the_part (λ t. t.1) _ _ c.join-callers.result.1 c.both.result c.both.ensures.second c.join-callers.ensures.second (λ t same. same.0)

pub returns-clause-control : goal.returns-clause-control
returns-clause-control g c = of_the_part (λ t. t.1) _ _ c.join-callers.result.1 c.both.result c.both.ensures.second c.join-callers.ensures.second (λ t same. same.1)
