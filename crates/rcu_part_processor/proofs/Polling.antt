-- What a poll's look and its ask come to.
use Rattle.std.proofs.Common.{◌≡◌, ℕ, Some, max, ap, sym, ◌∙◌, refl, arith}
use Rattle.rcu_board.specs.Plays.{looked, touched}
use Rattle.rcu_board.specs.Views.{sight}
use Rattle.rcu_board.specs.Words.{needed_word}
use Rattle.rcu_board.specs.declared.view.View.{View}
use Rattle.rcu_part_steps.proofs.Telling.{sight_touched}
use Rattle.rcu_part_processor.specs.Ticks.{Asks}
use Rattle.rcu_part_processor.proofs.CatchingUp.{asks_one}

pub asks_cookie : (seen found cookie : ℕ) (v u w : View) → seen ≡ sight u → u ≡ looked seen v → w ≡ touched needed_word (max found cookie) u → Asks (Some cookie) (looked (sight w) v) w
asks_cookie seen found cookie v u w at look need =
    let now : seen ≡ sight w = at ∙ sym (sight_touched needed_word (max found cookie) u w (λ z. absurd (omega (arith, z))) need) in
    asks_one (Some cookie) found cookie (looked (sight w) v) w refl (need ∙ (ap (λ (x : View). touched needed_word (max found cookie) x) look ∙ ap (λ (n : ℕ). touched needed_word (max found cookie) (looked n v)) now))
