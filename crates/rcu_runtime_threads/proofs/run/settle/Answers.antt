use Rattle.std.proofs.Common.{refl, subst, sym}
use Rattle.rcu_board.proofs.Stepping.{same_again}
use Rattle.rcu_runtime_threads.specs.Steers.{EndsBy, ShutsAndPasses}
use Rattle.rcu_runtime_threads.specs.declared.run.Ending.{Ending}
use Rattle.rcu_runtime_threads.proofs.run.settle.Goals as goal

pub returns-in-Drained-clause-same : goal.returns-in-Drained-clause-same
returns-in-Drained-clause-same g c = same_again _ _ _ _ _ _ c.shut.ensures.same c.pass-in-Drained.ensures.same

pub returns-in-AtOnce-clause-ends : goal.returns-in-AtOnce-clause-ends
returns-in-AtOnce-clause-ends g c = subst (λ (e : Ending). EndsBy e c.args.control.now c.args.control.now) (sym c.in-AtOnce.is) refl

pub returns-in-AfterBarrier-clause-ends : goal.returns-in-AfterBarrier-clause-ends
returns-in-AfterBarrier-clause-ends g c = subst (λ (e : Ending). EndsBy e c.args.control.now c.pass.new.control) (sym c.in-AfterBarrier.is) c.pass.ensures.passes

pub returns-in-Drained-clause-ends : goal.returns-in-Drained-clause-ends
returns-in-Drained-clause-ends g c =
    let done : ShutsAndPasses c.args.control.now c.pass-in-Drained.new.control = record {
      counts = c.shut.result;
      between = c.shut.new.self;
      shuts = record { many = c.shut.ensures.many; shuts = c.shut.ensures.shuts };
      passes = c.pass-in-Drained.ensures.passes;
    } in
    subst (λ (e : Ending). EndsBy e c.args.control.now c.pass-in-Drained.new.control) (sym c.in-Drained.is) done
