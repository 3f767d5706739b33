use Rattle.std.proofs.Common.{refl, subst, sym}
use Rattle.rcu_runtime_threads.specs.Crews.{HasEnded}
use Rattle.rcu_runtime_threads.proofs.crew.join.Goals as goal

pub returns-in-Running : goal.returns-in-Running
returns-in-Running g c = subst (λ s. HasEnded (λ thread part. g.P.Promise.kept_by thread.promise part) s c.join.result) (sym c.in-Running.is) c.join.ensures

pub returns-in-Back : goal.returns-in-Back
returns-in-Back g c = subst (λ s. HasEnded (λ thread part. g.P.Promise.kept_by thread.promise part) s c.in-Back.part) (sym c.in-Back.is) refl
