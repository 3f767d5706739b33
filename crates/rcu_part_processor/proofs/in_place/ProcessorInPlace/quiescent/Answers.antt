use Rattle.std.proofs.Common.{◌∙◌, refl}
use Rattle.std.specs.Arc.{arc_value}
use Rattle.rcu_part_order.specs.Recorded.{ran_of}
use Rattle.rcu_part_processor.proofs.InPlace.{places_in_place}
use Rattle.rcu_part_processor.proofs.Keeping.{kept_by_tells, runs_by_tells}
use Rattle.rcu_part_processor.proofs.Passing.{since_kept, since_reported}
use Rattle.rcu_part_processor.proofs.Standing.{stands}
use Rattle.rcu_part_processor.proofs.in_place.ProcessorInPlace.quiescent.Goals as goal

pub report_quiescent_state-counted-requires-clause-board : goal.report_quiescent_state-counted-requires-clause-board
report_quiescent_state-counted-requires-clause-board g c = let s = c.args.self.now.state in stands (arc_value s.board) c.deref.result.now s.seat c.deref.ensures s.here

pub report_quiescent_state-counted-requires-clause-stamped : goal.report_quiescent_state-counted-requires-clause-stamped
report_quiescent_state-counted-requires-clause-stamped g c = (places_in_place c.args.self.now.state).1.stamped

pub invariant_of-state : goal.invariant_of-state
invariant_of-state g c = let s = c.args.self.now.state in let e = c.report_quiescent_state-counted.ensures in record {
  here = e.same.table ∙ s.here;
  role = e.same.role ∙ s.role;
  there = s.there;
  bit = s.bit;
  local = s.local;
  small = s.small;
  since = since_reported (arc_value s.board) s.cpu c.in-Some.seq s.seat c.report_quiescent_state-counted.new.seat s.here c.in-Some.ensures.reports;
  rests = λ r. kept_by_tells s.cpu s.accepted _ _ _ (ran_of s.ran) _ e.tells (e.same.later (arc_value s.board) s.here) (s.rests r);
  runs = λ k f. let l = s.runs k f in record { below = l.below; room = l.room; lawful = runs_by_tells s.cpu s.accepted _ k _ _ (ran_of s.ran) _ e.tells (e.same.later (arc_value s.board) s.here) l.lawful };
}

pub invariant_of-state-in_default : goal.invariant_of-state-in_default
invariant_of-state-in_default g c = let s = c.args.self.now.state in let e = c.report_quiescent_state-counted.ensures in record {
  here = e.same.table ∙ s.here;
  role = e.same.role ∙ s.role;
  there = s.there;
  bit = s.bit;
  local = s.local;
  small = s.small;
  since = since_kept _ _ _ c.in_default.ensures.reports.word s.since;
  rests = λ r. kept_by_tells s.cpu s.accepted _ _ _ (ran_of s.ran) _ e.tells (e.same.later (arc_value s.board) s.here) (s.rests r);
  runs = λ k f. let l = s.runs k f in record { below = l.below; room = l.room; lawful = runs_by_tells s.cpu s.accepted _ k _ _ (ran_of s.ran) _ e.tells (e.same.later (arc_value s.board) s.here) l.lawful };
}

pub report_quiescent_state-counted-requires-clause-role : goal.report_quiescent_state-counted-requires-clause-role
report_quiescent_state-counted-requires-clause-role g c = c.args.self.now.state.role

pub report_quiescent_state-counted-requires-clause-here : goal.report_quiescent_state-counted-requires-clause-here
report_quiescent_state-counted-requires-clause-here g c = c.args.self.now.state.since.word

pub returns-in-Some : goal.returns-in-Some
returns-in-Some g c = record {
  reports = record {
    does = c.in-Some.ensures.reports;
    same = record { part = record { part = record { board = refl; seat = c.report_quiescent_state-counted.ensures.same }; lane = refl; cpu = refl; offloadable = refl; limit = refl; blimit = refl; kept = refl }; claimed = refl };
    keeps = record { count = refl; lists = refl; records = refl };
    sound = λ sound. record { keyed = sound.keyed; given = sound.given };
  };
}

pub returns-in_default : goal.returns-in_default
returns-in_default g c = record {
  reports = record {
    does = c.report_quiescent_state-counted.ensures.reports;
    same = record { part = record { part = record { board = refl; seat = c.report_quiescent_state-counted.ensures.same }; lane = refl; cpu = refl; offloadable = refl; limit = refl; blimit = refl; kept = refl }; claimed = refl };
    keeps = record { count = refl; lists = refl; records = refl };
    sound = λ sound. record { keyed = sound.keyed; given = sound.given };
  };
}
