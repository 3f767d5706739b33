-- The seats of a row are at their board, and what they are ready for.
use Rattle.std.proofs.Common.{◌≡◌, [], length, None, ap, sym, subst}
use Rattle.rcu_board.specs.Roles.{MayClaim, MayCount}
use Rattle.rcu_board.specs.Seats.{AtBoard, accepted_of, fresh_of, own_word, view}
use Rattle.rcu_board.specs.declared.board.Board.{Board}
use Rattle.rcu_board.specs.declared.board.Role.{Role}
use Rattle.rcu_board.specs.declared.view.View.{View}
use Rattle.bench_board.specs.Pairs.{AreOneOfEach, pair_of}
use Rattle.bench_board.specs.declared.seats.OneOfEach.{OneOfEach}
use Rattle.bench_board.specs.declared.seats.Pair.{Pair}
use Rattle.bench_board.specs.declared.seats.Pair.TheVariants as pairs

module _ (b : Board) (each : OneOfEach) (are : AreOneOfEach b each) where
  pub at_board : (p : Pair) → AtBoard b (pair_of each p).0 × AtBoard b (pair_of each p).1
  at_board pairs.ProcessorHand = (are.processor.board, are.hand)
  at_board pairs.ProcessorDriver = (are.processor.board, are.driver)
  at_board pairs.ProcessorControl = (are.processor.board, are.control)
  at_board pairs.DriverProcessor = (are.driver, are.processor.board)
  at_board pairs.DriverControl = (are.driver, are.control)
  at_board pairs.ControlProcessor = (are.control, are.processor.board)
  at_board pairs.ControlHand = (are.control, are.hand)
  at_board pairs.ControlDriver = (are.control, are.driver)

  pub control_counts : MayCount each.control.role
  control_counts = subst (λ (r : Role). MayCount r) (sym are.controls) tt

  pub processor_counts : MayCount each.processor.role
  processor_counts = subst (λ (r : Role). MayCount r) (sym are.processor.who) tt

  pub processor_claims : MayClaim each.processor.role × ((view each.processor).running ≡ [])
  processor_claims = (subst (λ (r : Role). MayClaim r) (sym are.processor.who) tt, ap (λ (v : View). v.running) are.processor.first_view)

  pub is_here : own_word (view each.processor) ≡ 0
  is_here = ap own_word are.processor.first_view

  pub none_accepted : (length (accepted_of (view each.processor)) ≡ 0) × (fresh_of (view each.processor) ≡ None)
  none_accepted = (ap (λ (v : View). length (accepted_of v)) are.processor.first_view, ap fresh_of are.processor.first_view)
