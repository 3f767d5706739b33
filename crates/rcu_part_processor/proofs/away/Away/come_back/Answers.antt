use Rattle.std.proofs.Common.{ℕ, ◌*◌, ap, sym, ◌∙◌, refl, subst, arith}
use Rattle.std.specs.Arc.{arc_value}
use Rattle.rcu_board.specs.Plays.{return_own, stepped_own}
use Rattle.rcu_board.specs.Roles.{IsProcessor, cpu_of_role}
use Rattle.rcu_board.specs.Seats.{view}
use Rattle.rcu_board.specs.Words.{reports_word}
use Rattle.rcu_part_lists.specs.ProcessorLists.{holding}
use Rattle.rcu_part_order.specs.Recorded.{ran_of}
use Rattle.rcu_part_processor.proofs.Keeping.{kept_by_tells}
use Rattle.rcu_part_processor.proofs.Leaving.{is_away, since_returned, tells_returned}
use Rattle.rcu_part_processor.proofs.Standing.{stands}
use Rattle.rcu_part_processor.proofs.away.Away.come_back.Goals as goal

pub come_back-passed-requires-clause-board : goal.come_back-passed-requires-clause-board
come_back-passed-requires-clause-board g c = let s = c.args.self.state in stands (arc_value s.board) c.deref.result.now s.seat c.deref.ensures s.here

pub come_back-passed-requires-clause-who : goal.come_back-passed-requires-clause-who
come_back-passed-requires-clause-who g c = subst IsProcessor (sym c.args.self.state.role) tt

pub come_back-passed-requires-clause-away : goal.come_back-passed-requires-clause-away
come_back-passed-requires-clause-away g c = let s = c.args.self.state in is_away s.passed (view s.seat) s.since

pub invariant_of-state : goal.invariant_of-state
invariant_of-state g c = let s = c.args.self.state in let e = c.come_back-passed.ensures in record {
  here = e.same.table ∙ s.here;
  role = e.same.role ∙ s.role;
  there = s.there;
  bit = s.bit;
  local = s.local;
  small = s.small;
  since = since_returned s.seat c.come_back-passed.new.seat s.cpu _ c.come_back-passed.result s.role e.view e.small;
  lawful = kept_by_tells s.cpu s.accepted _ (view s.seat) (view c.come_back-passed.new.seat) (ran_of s.ran) (holding s.lists) (tells_returned _ _ _ _ e.view) (e.same.later (arc_value s.board) s.here) s.lawful;
}

pub returns-clause-same : goal.returns-clause-same
returns-clause-same g c = record { part = record { board = refl; seat = c.come_back-passed.ensures.same }; lane = refl; cpu = refl; offloadable = refl; limit = refl; blimit = refl; kept = refl }

pub returns-clause-keeps : goal.returns-clause-keeps
returns-clause-keeps g c = record { count = refl; records = refl; lists = refl }

pub returns-clause-passed : goal.returns-clause-passed
returns-clause-passed g c = let s = c.args.self.state in c.come_back-passed.ensures.view ∙ ap (λ (p : ℕ). stepped_own return_own (reports_word p) (2 * c.come_back-passed.result) (view s.seat)) (ap cpu_of_role s.role)

pub returns-clause-later : goal.returns-clause-later
returns-clause-later g c = let e = c.come_back-passed.ensures.later in let w = c.args.self.state.since.word in omega arith

pub returns-clause-sound : goal.returns-clause-sound
returns-clause-sound g c = λ sound. record { keyed = sound.keyed; given = sound.given }
