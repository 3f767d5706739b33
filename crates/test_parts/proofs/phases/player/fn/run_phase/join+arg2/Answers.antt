use Rattle.std.proofs.Common.{IfOk}
use Rattle.std.specs.Prelude.{Ok, Err, Result}
use Rattle.test_parts.proofs.phases.player.fn.run_phase.join+arg2.Goals as goal

all_three : {T E : Type 0} (P Q S : T → Type 0) (r : Result T E) → IfOk r P → IfOk r Q → IfOk r S → IfOk r (λ t. P t × Q t × S t)
all_three P Q S (Ok t) p q s = (p, q, s)
all_three P Q S (Err e) p q s = tt

pub returns : goal.returns
returns g c = let e = c.run_callers.ensures in all_three _ _ _ c.run_callers.result e.processors e.driver e.control

pub run_callers-requires-send-J : goal.run_callers-requires-send-J
run_callers-requires-send-J g c κs within = c.requires.0

pub run_callers-requires-sync-R : goal.run_callers-requires-sync-R
run_callers-requires-sync-R g c κs within = c.requires.1

pub run_callers-requires-after_bounds : goal.run_callers-requires-after_bounds
run_callers-requires-after_bounds g c κs within = assumption
