use Rattle.std.proofs.Common.{ℕ, List, length, subst}
use Rattle.check_torture.specs.Kept.{Cpu, Keeps}
use Rattle.check_torture.proofs.actors.drive.Goals as goal

pub returns : goal.returns
returns g c = let end = c.go_on.result in let n = length end.log.keys.items in
    subst (λ (p : Cpu). Keeps 0 n p end.processor) c.new-actor.ensures.processor
    (subst (λ (l : List ℕ). Keeps (length l) n c.new-actor.result.processor end.processor) c.new-actor.ensures.keys c.go_on.ensures)
