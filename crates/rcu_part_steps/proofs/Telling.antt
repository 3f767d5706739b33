-- Steps that change neither an accepted number nor a claim.
use Rattle.std.proofs.Common.{◌≡◌, ◌≢◌, ℕ, None, ap, sym, ◌∙◌, subst}
use Rattle.rcu_board.specs.Plays.{looked, touched, urged}
use Rattle.rcu_board.specs.Seats.{accepted_of, fresh_of}
use Rattle.std.specs.Prelude.{bit_and}
use Rattle.rcu_board.specs.Views.{seen_at, sight}
use Rattle.rcu_board.specs.Words.{urge_word, urge_bit}
use Rattle.rcu_board.specs.declared.board.Board.{Board}
use Rattle.rcu_board.specs.declared.view.View.{View}
use Rattle.rcu_board.proofs.Facts.{accepted-kept, fresh-looked}
use Rattle.rcu_board.proofs.Stepping.{untouched}
use Rattle.rcu_numbers.specs.Words.{all_but_of}
use Rattle.rcu_part_steps.specs.Changes.{Tells}

pub tells_none : (v w : View) → w ≡ v → Tells v w
tells_none v w e = record { accepted = ap accepted_of e; fresh = ap fresh_of e; claims = ap (λ (u : View). u.claims) e; running = ap (λ (u : View). u.running) e }

pub tells_again : (u v w : View) → Tells u v → Tells v w → Tells u w
tells_again u v w a b = record { accepted = b.accepted ∙ a.accepted; fresh = b.fresh ∙ a.fresh; claims = b.claims ∙ a.claims; running = b.running ∙ a.running }

pub tells_looked : (r : ℕ) (v w : View) → fresh_of v ≡ None → w ≡ looked r v → Tells v w
tells_looked r v w none e = record {
  accepted = ap accepted_of e ∙ accepted-kept v r none;
  fresh = ap fresh_of e ∙ (fresh-looked v r ∙ sym none);
  claims = ap (λ (u : View). u.claims) e;
  running = ap (λ (u : View). u.running) e;
}

pub tells_touched : (i x : ℕ) (v w : View) → w ≡ touched i x v → Tells v w
tells_touched i x v w e = record { accepted = ap accepted_of e; fresh = ap fresh_of e; claims = ap (λ (u : View). u.claims) e; running = ap (λ (u : View). u.running) e }

pub tells_urged : (i x y : ℕ) (v w : View) → w ≡ urged i x y v → Tells v w
tells_urged i x y v w e = record { accepted = ap accepted_of e; fresh = ap fresh_of e; claims = ap (λ (u : View). u.claims) e; running = ap (λ (u : View). u.running) e }

-- a step on another word leaves the board sight
pub sight_touched : (i x : ℕ) (v w : View) → 0 ≢ i → w ≡ touched i x v → sight w ≡ sight v
sight_touched i x v w ne e = ap sight e ∙ (untouched i 0 x v ne).seen

pub sight_urged : (i x y : ℕ) (v w : View) → 0 ≢ i → w ≡ urged i x y v → sight w ≡ sight v
sight_urged i x y v w ne e = ap sight e ∙ (untouched i 0 x v ne).seen

-- the step on a processor's urge word of a board, however the board is written
pub urges : (b t : Board) → t ≡ b → (cpu : ℕ) (u w : View) → w ≡ urged (urge_word t.processors cpu) (seen_at w (urge_word t.processors cpu)) (bit_and (seen_at w (urge_word t.processors cpu)) (all_but_of (urge_bit cpu))) u
    → w ≡ urged (urge_word b.processors cpu) (seen_at w (urge_word b.processors cpu)) (bit_and (seen_at w (urge_word b.processors cpu)) (all_but_of (urge_bit cpu))) u
urges b t e cpu u w step = subst (λ (x : Board). w ≡ urged (urge_word x.processors cpu) (seen_at w (urge_word x.processors cpu)) (bit_and (seen_at w (urge_word x.processors cpu)) (all_but_of (urge_bit cpu))) u) e step
