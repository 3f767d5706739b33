-- A step on an urge word, as its clause says it.
use Rattle.std.proofs.Common.{◌≡◌, ℕ, ◌<◌, length, ap, sym, ◌∙◌}
use Rattle.rcu_board.specs.Plays.{urged}
use Rattle.rcu_board.specs.Views.{seen_at}
use Rattle.rcu_board.specs.declared.view.View.{View}
use Rattle.rcu_board.proofs.BoardSteps.{seen_here}

-- what stood there is what the view has seen there, and what it left is found from that
pub urged_view : (i r y : ℕ) (f : ℕ → ℕ) (v u : View) → i < length v.seen → y ≡ f r → u ≡ urged i r y v → u ≡ urged i (seen_at u i) (f (seen_at u i)) v
urged_view i r y f v u near is step =
    let here : u ≡ urged i r (f r) v = step ∙ ap (λ (z : ℕ). urged i r z v) is in
    let seen : seen_at u i ≡ r = ap (λ (t : View). seen_at t i) here ∙ seen_here (record v { left = f r }) i r near in
    here ∙ ap (λ (x : ℕ). urged i x (f x) v) (sym seen)
