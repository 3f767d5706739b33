use Rattle.std.proofs.Common.{◌∙◌, refl}
use Rattle.rcu_part_order.specs.Recorded.{ran_of}
use Rattle.rcu_part_processor.proofs.Keeping.{runs_by_tells}
use Rattle.std.specs.Arc.{arc_value}
use Rattle.rcu_part_processor.proofs.Passing.{since_kept, since_reported}
use Rattle.rcu_part_processor.proofs.Standing.{stands}
use Rattle.rcu_part_processor.proofs.running_processor.RunningProcessor.quiescent.Goals as goal

pub report_quiescent_state-counted-requires-clause-board : goal.report_quiescent_state-counted-requires-clause-board
report_quiescent_state-counted-requires-clause-board g c = let s = c.args.self.now.state in stands (arc_value s.board) c.deref.result.now s.seat c.deref.ensures s.here

pub invariant_of-state : goal.invariant_of-state
invariant_of-state g c = let s = c.args.self.now.state in let e = c.report_quiescent_state-counted.ensures in record {
  here = e.same.table ∙ s.here;
  role = e.same.role ∙ s.role;
  there = s.there;
  bit = s.bit;
  local = s.local;
  small = s.small;
  below = s.below;
  room = s.room;
  since = since_reported (arc_value s.board) s.cpu c.in-Some.seq s.seat c.report_quiescent_state-counted.new.seat s.here c.in-Some.ensures.reports;
  lawful = runs_by_tells s.cpu s.accepted _ s.claimed _ _ (ran_of s.ran) _ e.tells (e.same.later (arc_value s.board) s.here) s.lawful;
}

pub invariant_of-state-in_default : goal.invariant_of-state-in_default
invariant_of-state-in_default g c = let s = c.args.self.now.state in let e = c.report_quiescent_state-counted.ensures in record {
  here = e.same.table ∙ s.here;
  role = e.same.role ∙ s.role;
  there = s.there;
  bit = s.bit;
  local = s.local;
  small = s.small;
  below = s.below;
  room = s.room;
  since = since_kept _ _ _ c.in_default.ensures.reports.word s.since;
  lawful = runs_by_tells s.cpu s.accepted _ s.claimed _ _ (ran_of s.ran) _ e.tells (e.same.later (arc_value s.board) s.here) s.lawful;
}

pub returns-in-Some-clause-same : goal.returns-in-Some-clause-same
returns-in-Some-clause-same g c = record { part = record { board = refl; seat = c.report_quiescent_state-counted.ensures.same }; lane = refl; cpu = refl; offloadable = refl; limit = refl; blimit = refl; kept = refl }

pub returns-in-Some-clause-keeps : goal.returns-in-Some-clause-keeps
returns-in-Some-clause-keeps g c = record { count = refl; lists = refl; records = refl }

pub returns-in-Some-clause-sound : goal.returns-in-Some-clause-sound
returns-in-Some-clause-sound g c = λ sound. record { keyed = sound.keyed; given = sound.given }

pub returns-in_default-clause-same : goal.returns-in_default-clause-same
returns-in_default-clause-same g c = record { part = record { board = refl; seat = c.report_quiescent_state-counted.ensures.same }; lane = refl; cpu = refl; offloadable = refl; limit = refl; blimit = refl; kept = refl }

pub returns-in_default-clause-keeps : goal.returns-in_default-clause-keeps
returns-in_default-clause-keeps g c = record { count = refl; lists = refl; records = refl }

pub returns-in_default-clause-sound : goal.returns-in_default-clause-sound
returns-in_default-clause-sound g c = λ sound. record { keyed = sound.keyed; given = sound.given }

pub report_quiescent_state-counted-requires-clause-role : goal.report_quiescent_state-counted-requires-clause-role
report_quiescent_state-counted-requires-clause-role g c = c.args.self.now.state.role

pub report_quiescent_state-counted-requires-clause-stamped : goal.report_quiescent_state-counted-requires-clause-stamped
report_quiescent_state-counted-requires-clause-stamped g c = c.args.self.now.state.lawful.has.stamped

pub report_quiescent_state-counted-requires-clause-here : goal.report_quiescent_state-counted-requires-clause-here
report_quiescent_state-counted-requires-clause-here g c = c.args.self.now.state.since.word

pub returns-in-Some-clause-reports : goal.returns-in-Some-clause-reports
returns-in-Some-clause-reports g c = c.in-Some.ensures.reports

pub returns-in_default-clause-reports : goal.returns-in_default-clause-reports
returns-in_default-clause-reports g c = c.report_quiescent_state-counted.ensures.reports

pub returns-in-Some-clause-claimed : goal.returns-in-Some-clause-claimed
returns-in-Some-clause-claimed g c = refl

pub returns-in_default-clause-claimed : goal.returns-in_default-clause-claimed
returns-in_default-clause-claimed g c = refl
