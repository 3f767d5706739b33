use Rattle.std.proofs.Common.{refl, subst, sym}
use Rattle.rcu_runtime_threads.specs.Steers.{LooksBy}
use Rattle.rcu_runtime_threads.specs.declared.run.Ending.{Ending}
use Rattle.rcu_runtime.proofs.Wholes.{continues_itself}
use Rattle.rcu_runtime_threads.proofs.worked.is_settled.Goals as goal

pub returns-in-AtOnce-clause-continues : goal.returns-in-AtOnce-clause-continues
returns-in-AtOnce-clause-continues g c = continues_itself c.args.runtime.now

pub has_run_all-requires-send-J : goal.has_run_all-requires-send-J
has_run_all-requires-send-J g c κs within = c.type_bounds.send-J

pub has_run_all-requires-send-J-Receipt : goal.has_run_all-requires-send-J-Receipt
has_run_all-requires-send-J-Receipt g c κs within = c.type_bounds.send-J-Receipt

pub has_run_all-requires-after_bounds : goal.has_run_all-requires-after_bounds
has_run_all-requires-after_bounds g c κs within = assumption

pub drain-requires-send-J : goal.drain-requires-send-J
drain-requires-send-J g c κs within = c.type_bounds.send-J

pub drain-requires-send-J-Receipt : goal.drain-requires-send-J-Receipt
drain-requires-send-J-Receipt g c κs within = c.type_bounds.send-J-Receipt

pub drain-requires-after_bounds : goal.drain-requires-after_bounds
drain-requires-after_bounds g c κs within = assumption

pub returns-in-AtOnce-clause-at_once : goal.returns-in-AtOnce-clause-at_once
returns-in-AtOnce-clause-at_once g c = λ _. refl

pub returns-in-AtOnce-clause-run : goal.returns-in-AtOnce-clause-run
returns-in-AtOnce-clause-run g c = λ asked. absurd (let e = c.in-AtOnce.is in cc)

pub returns-in-AtOnce-clause-drained : goal.returns-in-AtOnce-clause-drained
returns-in-AtOnce-clause-drained g c = λ asked. absurd (let e = c.in-AtOnce.is in cc)

pub returns-in-AfterBarrier-clause-continues : goal.returns-in-AfterBarrier-clause-continues
returns-in-AfterBarrier-clause-continues g c = c.has_run_all.ensures.asks.continues

pub returns-in-AfterBarrier-clause-at_once : goal.returns-in-AfterBarrier-clause-at_once
returns-in-AfterBarrier-clause-at_once g c = λ asked. absurd (let e = c.in-AfterBarrier.is in cc)

pub returns-in-AfterBarrier-clause-run : goal.returns-in-AfterBarrier-clause-run
returns-in-AfterBarrier-clause-run g c = λ _. c.has_run_all.ensures.run

pub returns-in-AfterBarrier-clause-drained : goal.returns-in-AfterBarrier-clause-drained
returns-in-AfterBarrier-clause-drained g c = λ asked. absurd (let e = c.in-AfterBarrier.is in cc)

pub returns-in-Drained-clause-continues : goal.returns-in-Drained-clause-continues
returns-in-Drained-clause-continues g c = c.drain.ensures.turns.continues

pub returns-in-Drained-clause-at_once : goal.returns-in-Drained-clause-at_once
returns-in-Drained-clause-at_once g c = λ asked. absurd (let e = c.in-Drained.is in cc)

pub returns-in-Drained-clause-run : goal.returns-in-Drained-clause-run
returns-in-Drained-clause-run g c = λ asked. absurd (let e = c.in-Drained.is in cc)

pub returns-in-Drained-clause-drained : goal.returns-in-Drained-clause-drained
returns-in-Drained-clause-drained g c = λ _. c.drain.ensures.drained

pub returns-in-AtOnce-clause-looks : goal.returns-in-AtOnce-clause-looks
returns-in-AtOnce-clause-looks g c = subst (λ (e : Ending). LooksBy e c.args.runtime.now c.args.runtime.now) (sym c.in-AtOnce.is) refl

pub returns-in-AfterBarrier-clause-looks : goal.returns-in-AfterBarrier-clause-looks
returns-in-AfterBarrier-clause-looks g c = subst (λ (e : Ending). LooksBy e c.args.runtime.now c.has_run_all.new.self) (sym c.in-AfterBarrier.is) c.has_run_all.ensures.asks

pub returns-in-Drained-clause-looks : goal.returns-in-Drained-clause-looks
returns-in-Drained-clause-looks g c = subst (λ (e : Ending). LooksBy e c.args.runtime.now c.drain.new.self) (sym c.in-Drained.is) (c.drain.result, c.drain.ensures.turns)
