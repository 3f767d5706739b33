-- What a tick's look and its ask come to.
use Rattle.std.proofs.Common.{◌≡◌, ℕ, ◌≤◌, Bool, Option, Some, None, List, [], ◌++◌, append-nil, max, ap, sym, ◌∙◌, arith}
use Rattle.rcu_board.specs.Plays.{touched}
use Rattle.rcu_board.specs.Seats.{view, AtBoard}
use Rattle.rcu_board.specs.Views.{seen_at, sight}
use Rattle.rcu_board.specs.Words.{needed_word}
use Rattle.rcu_board.specs.declared.board.Board.{Board}
use Rattle.rcu_board.specs.declared.board.Seat.{Seat}
use Rattle.rcu_board.specs.declared.view.View.{View}
use Rattle.rcu_board.proofs.Facts.{seen-touched, words-at}
use Rattle.rcu_part_lists.specs.Aims.{AreUpTo}
use Rattle.rcu_part_lists.specs.ProcessorLists.{Holding, after_look, held_in, passed_on, put_by}
use Rattle.rcu_jobs.specs.declared.callback.Callback.{Callback}
use Rattle.rcu_jobs.specs.declared.callback.Record.{Record}
use Rattle.rcu_part_steps.specs.Changes.{Tells}
use Rattle.rcu_part_processor.specs.Lawful.{IsLawful, StaysLocal}
use Rattle.rcu_part_processor.specs.Ticks.{Asks}
use Rattle.rcu_part_processor.proofs.Moving.{kept_by_moves}

-- what was asked for is at most what is needed
pub asked_for : (b : Board) (s : Seat) (found number : ℕ) (w : View) → AtBoard b s → w ≡ touched needed_word (max found number) (view s) → number ≤ seen_at w needed_word
asked_for b s found number w at e =
    let i = words-at b s at in
    omega (arith, ap (λ (v : View). seen_at v needed_word) e, seen-touched s needed_word (max found number) (omega (arith, i)))

pub asks_none : (o : Option ℕ) (v w : View) → o ≡ None → w ≡ v → Asks o v w
asks_none o v w none e = record { found = 0; some = λ s some. (let f : ◌≡◌ {A = Option ℕ} None (Some s) = sym none ∙ some in cc); none = λ _. e }

pub asks_one : (o : Option ℕ) (found number : ℕ) (v w : View) → o ≡ Some number → w ≡ touched needed_word (max found number) v → Asks o v w
asks_one o found number v w some e = record {
  found = found;
  some = λ s is. e ∙ ap (λ (k : ℕ). touched needed_word (max found k) v) (ap value (sym some ∙ is));
  none = λ none. (let f : ◌≡◌ {A = Option ℕ} None (Some number) = sym none ∙ some in cc);
} where
  value : Option ℕ → ℕ
  value (Some n) = n
  value None = 0

module _ {J : Type 0} where
  pub caught_local : (seen : ℕ) (b : Bool) (h n : Holding J) → n ≡ after_look seen h → StaysLocal b h → StaysLocal b n
  caught_local seen b h n e local is = let l = local is in (ap (λ (x : Holding J). x.mode) e ∙ l.0, ap (λ (x : Holding J). put_by x) e ∙ l.1)

  pub caught_passes : (seen : ℕ) (h n : Holding J) → n ≡ after_look seen h → held_in n ≡ held_in h → passed_on n ≡ passed_on h
  caught_passes seen h n e held = ap (λ (cs : List (Callback J)). cs ++ held_in n) (ap (λ (x : Holding J). put_by x) e) ∙ ap (λ (cs : List (Callback J)). put_by h ++ cs) held

module _ {J R : Type 0} where
  pub caught_law : (cpu n seen : ℕ) (v w : View) (ran : List (Record R)) (h h' : Holding J) → Tells v w → h' ≡ after_look seen h → held_in h' ≡ held_in h → seen ≤ sight w → AreUpTo (seen_at w needed_word) h'.own
      → IsLawful cpu n v ran h → IsLawful cpu n w ran h'
  caught_law cpu n seen v w ran h h' tells list held later up l = kept_by_moves cpu n v w ran h h' [] tells (ap (λ (x : Holding J). put_by x) list ∙ sym (append-nil (put_by h))) (caught_passes seen h h' list held)
      (omega (arith, ap (λ (x : Holding J). x.advanced) list)) up l
