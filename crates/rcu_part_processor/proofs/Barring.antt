-- What the opening of a barrier changes of a processor's view.
use Rattle.std.proofs.Common.{◌≡◌, ℕ, ◌<◌, List, [], append-nil, ap, sym, ◌∙◌, refl, subst, arith}
use Rattle.rcu_board.specs.Seats.{view, first_accepted, first_fresh, first_word, own_word}
use Rattle.rcu_board.specs.Views.{sight, fresh_count}
use Rattle.rcu_board.specs.Words.{board_word, needed_word}
use Rattle.rcu_board.specs.declared.board.Role.TheVariants.{Processor}
use Rattle.rcu_board.specs.declared.board.Seat.{Seat}
use Rattle.rcu_board.specs.declared.view.View.{View}
use Rattle.rcu_part_control.specs.Barriers.{Opens, CountsItsOwn, count_at}
use Rattle.rcu_board.specs.Frames.{Untouched}
use Rattle.rcu_part_control.specs.declared.barrier.Barrier.{Barrier}
use Rattle.rcu_board.proofs.Stepping.{untouched_again}
use Rattle.rcu_part_control.proofs.Urging.{all_urged_lists, all_urged_leave}
use Rattle.rcu_part_lists.specs.Aims.{AreUpTo}
use Rattle.rcu_part_lists.specs.ProcessorLists.{Holding, put_by}
use Rattle.rcu_jobs.specs.declared.Counts.{Counts}
use Rattle.rcu_jobs.specs.declared.callback.Record.{Record}
use Rattle.rcu_part_steps.specs.Changes.{Tells}
use Rattle.rcu_part_processor.specs.Lawful.{IsLawful}
use Rattle.rcu_part_processor.proofs.Moving.{kept_by_moves}

-- the board sight and what is needed stay
opens_leaves : (n : ℕ) (b : Barrier) (v w : View) → Opens n b v w → (j : ℕ) → j < 3 → Untouched j v w
opens_leaves n b v w o j low = untouched_again j v o.between w (o.reads.steps.others j (λ p few e. absurd (omega (arith, e, low)))) (all_urged_leave n j o.between w (omega (arith, low)) o.urges)

opens_tells : (n : ℕ) (b : Barrier) (v w : View) → Opens n b v w → Tells v w
opens_tells n b v w o = let k = o.reads.steps.lists in let u = all_urged_lists n o.between w o.urges in record {
  accepted = ap first_accepted (u.own ∙ k.own);
  fresh = ap first_fresh (u.own ∙ k.own);
  claims = u.claims ∙ k.claims;
  running = u.running ∙ k.running;
}

-- the processor's own report word stays too
pub opens_word : (n : ℕ) (b : Barrier) (v w : View) → Opens n b v w → own_word w ≡ own_word v
opens_word n b v w o = ap first_word ((all_urged_lists n o.between w o.urges).own ∙ o.reads.steps.lists.own)

pub opens_law : {J R : Type 0} → (cpu count n : ℕ) (b : Barrier) (v w : View) (ran : List (Record R)) (h : Holding J) → Opens n b v w → IsLawful cpu count v ran h → IsLawful cpu count w ran h
opens_law cpu count n b v w ran h o l =
    let board = opens_leaves n b v w o board_word (omega arith) in
    let needed = opens_leaves n b v w o needed_word (omega arith) in
    let same : sight w ≡ sight v = board.seen in
    kept_by_moves cpu count v w ran h h [] (opens_tells n b v w o) (sym (append-nil (put_by h))) refl (let z = l.looked in omega (arith, same)) (subst (λ (s : ℕ). AreUpTo s h.own) (sym needed.seen) l.needed) l

-- the count of the processor that reads is its own
pub own_is_exact : {J R : Type 0} → (n cpu count : ℕ) (counts : Counts) (s : Seat) (ran : List (Record R)) (h : Holding J) → CountsItsOwn n counts s → cpu < n → s.role ≡ Processor cpu → IsLawful cpu count (view s) ran h → count_at counts cpu ≡ count
own_is_exact n cpu count counts s ran h own low is l = own cpu low is ∙ (let long = l.counted in let none = ap fresh_count l.stamped in omega arith)
