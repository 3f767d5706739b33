use Rattle.std.proofs.Common.{◌∙◌}
use Rattle.check_torture.proofs.Keeping.{keeps_away, keeps_count}
use Rattle.check_torture.proofs.acts.leave_and_return.Goals as goal

pub returns-in-Ok : goal.returns-in-Ok
returns-in-Ok c = let a = c.in-Ok.ensures in let b = c.come_back.ensures in
    keeps_away _ c.in-Ok.away.state _ a.same b.same (λ s. b.sound (a.sound s).0) (b.keeps.count ∙ a.keeps.count)

pub returns-in-Err : goal.returns-in-Err
returns-in-Err c = let e = c.in-Err.ensures in keeps_count _ _ _ e.stays.same (λ s. (e.sound s).1) e.stays.count
