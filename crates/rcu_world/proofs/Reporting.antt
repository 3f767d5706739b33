-- What a report does
use Rattle.std.proofs.Common.{◌≡◌, ℕ, Bool, false, cond, List, Some, None, set, ap, sym, ◌∙◌}
use Rattle.rcu_world_law.specs.declared.marks.Mark.{Mark}
use Rattle.rcu_world_law.specs.declared.marks.Mark.TheVariants.{Reported}
use Rattle.rcu_world_law.specs.States.{State, added, owes}
use Rattle.rcu_world_law.specs.Events.{after}
use Rattle.rcu_world_law.specs.Events.CoreEvent.{Report}

pub reported : (w : State) (p : ℕ) (owed : Bool) (h : List Mark) → owes w p ≡ owed → h ≡ added w.history (cond owed (Some (Reported p)) None)
    → record w { owing = set w.owing p false; history = h } ≡ after w (Report p)
reported w p owed h e n = ap {B = State} (λ x. record w { owing = set w.owing p false; history = x }) n
    ∙ ap {B = State} (λ b. record w { owing = set w.owing p false; history = added w.history (cond b (Some (Reported p)) None) }) (sym e)
