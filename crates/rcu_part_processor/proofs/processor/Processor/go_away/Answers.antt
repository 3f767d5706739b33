use Rattle.std.proofs.Common.{ℕ, ◌+◌, ◌*◌, ap, sym, ◌∙◌, refl, subst}
use Rattle.std.specs.Arc.{arc_value}
use Rattle.rcu_board.specs.Plays.{leave_own, stepped_own}
use Rattle.rcu_board.specs.Roles.{IsProcessor, cpu_of_role}
use Rattle.rcu_board.specs.Seats.{view}
use Rattle.rcu_board.specs.Words.{reports_word}
use Rattle.rcu_part_lists.specs.ProcessorLists.{holding}
use Rattle.rcu_part_order.specs.Recorded.{ran_of}
use Rattle.rcu_part_processor.proofs.Keeping.{kept_by_tells}
use Rattle.rcu_part_processor.proofs.Leaving.{is_away, since_left, tells_left}
use Rattle.rcu_part_processor.proofs.Standing.{stands}
use Rattle.rcu_part_processor.proofs.processor.Processor.go_away.Goals as goal

pub leave-requires-clause-board : goal.leave-requires-clause-board
leave-requires-clause-board g c = let s = c.args.self.state in stands (arc_value s.board) c.deref.result.now s.seat c.deref.ensures s.here

pub leave-requires-clause-who : goal.leave-requires-clause-who
leave-requires-clause-who g c = subst IsProcessor (sym c.args.self.state.role) tt

pub leave-requires-clause-here : goal.leave-requires-clause-here
leave-requires-clause-here g c = c.args.self.state.since.word

pub leave-requires-clause-small : goal.leave-requires-clause-small
leave-requires-clause-small g c = c.args.self.state.since.small

pub invariant_of-state : goal.invariant_of-state
invariant_of-state g c = let s = c.args.self.state in let e = c.leave.ensures in record {
  here = e.same.table ∙ s.here;
  role = e.same.role ∙ s.role;
  there = s.there;
  bit = s.bit;
  local = s.local;
  small = s.small;
  since = since_left s.seat c.leave.new.seat s.cpu _ s.passed s.role e.view s.since;
  lawful = kept_by_tells s.cpu s.accepted _ (view s.seat) (view c.leave.new.seat) (ran_of s.ran) (holding s.lists) (tells_left _ _ _ _ e.view) (e.same.later (arc_value s.board) s.here) s.lawful;
  empty = c.requires.empty;
}

pub returns-clause-same : goal.returns-clause-same
returns-clause-same g c = record { part = record { board = refl; seat = c.leave.ensures.same }; lane = refl; cpu = refl; offloadable = refl; limit = refl; blimit = refl; kept = refl }

pub returns-clause-away : goal.returns-clause-away
returns-clause-away g c = let s = c.args.self.state in let e = c.leave.ensures in record {
  step = e.view ∙ ap (λ (p : ℕ). stepped_own leave_own (reports_word p) (2 * s.passed + 1) (view s.seat)) (ap cpu_of_role s.role);
  away = is_away s.passed (view c.leave.new.seat) (since_left s.seat c.leave.new.seat s.cpu _ s.passed s.role e.view s.since);
}

pub returns-clause-lists : goal.returns-clause-lists
returns-clause-lists g c = refl

pub returns-clause-count : goal.returns-clause-count
returns-clause-count g c = (refl, refl)

pub returns-clause-records : goal.returns-clause-records
returns-clause-records g c = refl
