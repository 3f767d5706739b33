-- How a runtime is drained: it is shut, and then a barrier is opened and passes.
use Rattle.std.proofs.Common.{◌≡◌, ℕ, ◌/◌, ◌%◌, ◌<◌, ◌∙◌, List, [], ◌∷◌, Some, Ok, Err, length, sym, ap, refl, arith}
use Rattle.std.specs.List.{Any}
use Rattle.rcu_board.specs.Seats.{NeverFalls, SawShut}
use Rattle.rcu_board.specs.Views.{seen_at}
use Rattle.rcu_board.specs.Words.{accepts_word}
use Rattle.rcu_part_control.proofs.Urging.{all_urged_leave}
use Rattle.rcu_board.specs.declared.view.View.{View}
use Rattle.rcu_part_control.specs.Parts.{control_view}
use Rattle.rcu_part_control.specs.declared.barrier.Barrier.{Barrier}
use Rattle.rcu_jobs.specs.declared.BarrierFault.{BarrierFault}
use Rattle.rcu_jobs.specs.declared.Counts.{Counts}
use Rattle.rcu_jobs.specs.declared.Passed.{Passed}
use Rattle.rcu_parts.specs.Drained.{IsCountedFor}
use Rattle.rcu_parts.specs.OneOpen.{Parts, parts_board}
use Rattle.rcu_parts.specs.SameParts.{AreSameParts}
use Rattle.rcu_runtime.specs.Calls.{OnControl, Opens, Polls, ShutsAll}
use Rattle.rcu_runtime.specs.Runtimes.{IsDrained, IsShut, IsShutFor}

any_first : {A : Type 0} (P : A → Type 0) (x : A) (xs : List A) → P x → Any P (x ∷ xs)
any_first P x xs p = (0, x, (let some : 0 < length (x ∷ xs) = omega arith in some), refl, p)

still_counted : (n p : ℕ) (counts : Counts) (v w : View) → p < n → NeverFalls n v w → IsCountedFor p counts v → IsCountedFor p counts w
still_counted n p counts v w low later is = let same = later.shut p low is.0 in (ap (λ (x : ℕ). x % 2) same ∙ is.0, omega (arith, ap (λ (x : ℕ). x / 2) same, is.1))

module _ {J R : Type 0} where
  -- no sight of control falls
  control_later : (old new : Parts J R) → AreSameParts old new → NeverFalls (parts_board old).processors (control_view old.control) (control_view new.control)
  control_later old new same = same.control.seat.later (parts_board old) old.control.here

  pub still_shut : (counts : Counts) (old new : Parts J R) → AreSameParts old new → IsShutFor counts old → IsShutFor counts new
  still_shut counts old new same shut = record {
    many = shut.many ∙ ap (λ b. b.processors) (sym same.control.board);
    counted = λ p low. still_counted (parts_board old).processors p counts (control_view old.control) (control_view new.control) (omega (arith, low, shut.many)) (control_later old new same) (shut.counted p low);
  }

  pub all_shut : (counts : Counts) (parts : Parts J R) → IsShutFor counts parts → IsShut parts
  all_shut counts parts shut p low = (shut.counted p (omega (arith, low, shut.many))).0

  -- a barrier for no ticket is never refused
  pub never_refused : (fault : BarrierFault) (old new : Parts J R) → OnControl (Opens [] (Err fault)) old new → ⊥
  never_refused fault old new opens = let first = opens.does.first in cc

  -- a barrier that was opened once all were shut counts all that they accepted
  pub opened_for : (counts : Counts) (b : Barrier) (old between new : Parts J R) → OnControl (ShutsAll counts) old between → AreSameParts old between → OnControl (Opens [] (Ok b)) between new → AreSameParts between new → IsShutFor b.counts new
  opened_for counts b old between new shuts first opens second =
      let o = opens.does.0 in let n = (parts_board between).processors in
      let board = ap (λ c. c.processors) first.control.board in
      let v = control_view between.control in let w = control_view new.control in record {
        many = o.many ∙ ap (λ c. c.processors) (sym second.control.board);
        counted = λ p low.
            let below : p < n = omega (arith, low, o.many) in
            let odd = shuts.does.shuts.shut p (omega (arith, below, board)) in
            let saw : SawShut p v = omega (arith, odd) in
            let same = (control_later between new second).shut p below saw in
            let stays : seen_at w (accepts_word p) ≡ seen_at o.between (accepts_word p) = (all_urged_leave n (accepts_word p) o.between w (omega (arith, below)) o.urges).seen in
            let half = o.reads.halves p below in
            (ap (λ (x : ℕ). x % 2) same ∙ saw, omega (arith, half, ap (λ (x : ℕ). x / 2) stays));
      }

  -- and once it has passed the runtime is drained
  pub drained_by : (counts : Counts) (passed : Passed) (old new : Parts J R) → IsShutFor counts old → OnControl (Polls counts (Some passed)) old new → AreSameParts old new → IsDrained new
  drained_by counts passed old new shut polls same =
      let s = still_shut counts old new same shut in (
        counts,
        record {
          many = s.many;
          counted = λ p low. any_first (IsCountedFor p counts) (control_view new.control) _ (s.counted p low);
          passed = any_first _ (control_view new.control) _ polls.does.1.over;
        },
      )
