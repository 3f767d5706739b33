use Rattle.std.proofs.Common.{◌≡◌, length, subst}
use Rattle.check_torture.proofs.Keeping.{cpu_keeps}
use Rattle.check_torture.specs.Ends.{CpuKeeps}
use Rattle.check_torture.specs.Kept.{Keeps}
use Rattle.check_torture.proofs.actors.join_actors.Goals as goal
use Rattle.rcu_lemmas.proofs.Zips.{zip_chain, zip_weaker}

pub returns-in-Ok-clause-kept : goal.returns-in-Ok-clause-kept
returns-in-Ok-clause-kept g c =
    let threads = c.args.actors.threads.items in
    let driven = c.in_ok-join_all.field-0.items in
    let drove = zip_weaker (λ t d. Keeps 0 (length d.log.keys.items) t.promise.0.value d.processor) (λ t d. CpuKeeps t.promise.0.value d.processor) (λ t d kept. cpu_keeps 0 (length d.log.keys.items) t.promise.0.value d.processor kept) threads driven c.in_ok-join_all.ensures.kept in
    zip_chain (λ t d. CpuKeeps t.promise.0.value d.processor) (λ d p. d.processor ≡ p) (λ t p. CpuKeeps t.promise.0.value p) (λ t d p kept same. subst (CpuKeeps t.promise.0.value) same kept) threads driven c.in-Ok.parted.processors.items drove c.in-Ok.ensures
