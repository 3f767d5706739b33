use Rattle.std.proofs.Common.{ℕ, ◌+◌, ◌*◌, ◌-◌, ◌<◌, ◌≡◌, map, length, arith, ap, sym, refl, subst, ◌∙◌}
use Rattle.atomic_table.specs.Table.{Me}
use Rattle.rcu_board.specs.Words.{period_of, away_of, reports_word}
use Rattle.rcu_board.specs.Views.{cpus}
use Rattle.rcu_board.specs.Seats.{first_word, NeverFalls}
use Rattle.rcu_board.specs.Memory.{many}
use Rattle.rcu_board.specs.Plays.{return_own}
use Rattle.rcu_board.specs.declared.view.Own.{Own}
use Rattle.rcu_board.specs.declared.view.View.{View}
use Rattle.rcu_board.proofs.Roles.{alone, role_else, alike_own}
use Rattle.rcu_board.proofs.Views.{cpus-map}
use Rattle.rcu_board.proofs.Facts.{seen-long}
use Rattle.rcu_board.proofs.Later.{later_reports}
use Rattle.rcu_board.proofs.BoardSteps.{report_allowed, leave_allowed, return_allowed}
use Rattle.rcu_board.proofs.steps.come_back.Goals as goal

pub fetch_sub-found-requires : goal.fetch_sub-found-requires
fetch_sub-found-requires c = let b = c.args.board.now in let z = b.sized in let f = b.framed in let s = c.args.seat.now.of_role in let near = s.processor c.in-Processor.p c.in-Processor.is in let e = ap (λ z. z.words) c.requires.board in let a = alone c.args.seat.now.seat.me.0.own c.in-Processor.p (s.own c.in-Processor.p c.in-Processor.is) in let word : first_word c.args.seat.now.seat.me.0.own ≡ a.0.word = ap first_word a.1 in
    (c.requires.board, omega arith, return_allowed _ _ _ _ c.args.seat.now.seat.me s.can_step.live c.in-Processor.p (omega arith) a.0 a.1 a.2 (sym (ap away_of word) ∙ c.requires.away))

pub invariant_of-seat : goal.invariant_of-seat
invariant_of-seat c = let m = c.args.seat.now.seat.me in let e = c.fetch_sub-found.ensures in let own = map (return_own (c.fetch_sub-found.result - 1)) m.0.own in record {
  of_role = role_else _ _ m _ (reports_word c.in-Processor.p) (c.fetch_sub-found.result - 1) (record m.0 { own = own }) (ap many e.0) e.2.view (alike_own m.0 own (cpus-map (return_own (c.fetch_sub-found.result - 1)) (λ o. refl) m.0.own)) _ c.args.seat.now.of_role (λ z. omega arith);
}

pub returns-clause-same : goal.returns-clause-same
returns-clause-same c = let m = c.args.seat.now.seat.me in let e = c.fetch_sub-found.ensures in let own = map (return_own (c.fetch_sub-found.result - 1)) m.0.own in record {
  role = refl;
  table = e.0;
  weight = ap (λ (k : Me ℕ View). k.0.weight) e.2.view;
  later = λ b at. subst (λ (k : Me ℕ View). NeverFalls b.processors m.0 k.0) (sym e.2.view)
      (later_reports b.processors m.0 (record m.0 { own = own }) (reports_word c.in-Processor.p) (c.fetch_sub-found.result - 1) refl (seen-long b c.args.seat.now at) c.in-Processor.p refl e.2.later);
}

pub returns-clause-later : goal.returns-clause-later
returns-clause-later c = let s = c.args.seat.now.of_role in let a = alone c.args.seat.now.seat.me.0.own c.in-Processor.p (s.own c.in-Processor.p c.in-Processor.is) in let word : first_word c.args.seat.now.seat.me.0.own ≡ a.0.word = ap first_word a.1 in
    let g = c.fetch_sub-found.ensures.2.grows a.0 a.1 in omega (arith, ap period_of word)

pub returns-clause-small : goal.returns-clause-small
returns-clause-small c = let s = c.fetch_sub-found.ensures.2.small in omega arith

pub overflow_mul-p : goal.overflow_mul-p
overflow_mul-p c = let b = c.args.board.now in let w = b.sized in let few = b.few in let near = c.args.seat.now.of_role.processor c.in-Processor.p c.in-Processor.is in let fit = ap (λ z. z.words) c.requires.board in omega arith

pub overflow_add-p : goal.overflow_add-p
overflow_add-p c = let b = c.args.board.now in let w = b.sized in let few = b.few in let near = c.args.seat.now.of_role.processor c.in-Processor.p c.in-Processor.is in let fit = ap (λ z. z.words) c.requires.board in omega arith
