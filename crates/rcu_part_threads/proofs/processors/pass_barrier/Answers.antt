use Rattle.std.proofs.Common.{ap, sym, ◌∙◌}
use Rattle.rcu_board.proofs.Stepping.{same_again}
use Rattle.rcu_part_threads.proofs.processors.pass_barrier.Goals as goal

pub wait-requires : goal.wait-requires
wait-requires g c = record { «open» = ap (λ b. b.processors) c.barrier.ensures.same.board ∙ sym c.in-Ok.ensures.opens.0.many }

pub returns-clause-same : goal.returns-clause-same
returns-clause-same g c = same_again _ _ _ _ _ _ c.barrier.ensures.same c.wait.ensures.same

pub returns-clause-control : goal.returns-clause-control
returns-clause-control g c = record {
  barrier = c.in-Ok.barrier;
  between = c.barrier.new.self;
  opens = c.in-Ok.ensures.opens;
  over = c.wait.ensures.over;
  only = c.wait.ensures.only;
}
