use Rattle.check_torture.proofs.Keeping.{keeps_again, keeps_count}
use Rattle.check_torture.proofs.actors.go_on.Goals as goal

pub returns : goal.returns
returns g c =
    keeps_again _ _ _ _ _ _ (keeps_again _ _ _ _ _ _ c.take_in_parts-actor.ensures c.take_more.ensures)
    (keeps_count _ _ _ c.run.ensures.same c.run.ensures.sound c.run.ensures.count)
