use Rattle.std.proofs.Common.{[], ◌∷◌, ◌++◌, ◌∙◌, refl}
use Rattle.std.specs.Arc.{arc_value}
use Rattle.std.specs.Mem.{FitsInMemory}
use denote.Param.{param}
use Rattle.rcu_board.specs.Seats.{view}
use Rattle.rcu_part_lists.specs.ProcessorLists.{holding}
use Rattle.rcu_part_lists.proofs.Sizes.{in_struct}
use Rattle.rcu_part_order.specs.Records.{numbered_records}
use Rattle.rcu_part_steps.specs.Begins.{number_that_runs}
use Rattle.rcu_part_order.specs.Recorded.{ran_of, recorded}
use Rattle.rcu_part_processor.specs.Accepting.{pieces}
use Rattle.rcu_part_processor.specs.contracts.in_place.ProcessorInPlace as row
use Rattle.rcu_part_processor.proofs.CallPieces.{accepts_none_with, accepts_with, refuses_with}
use Rattle.rcu_part_processor.proofs.InPlace.{places_in_place}
use Rattle.rcu_part_processor.proofs.Keeping.{few_placed, kept_by_places, places_of, runs_by_places}
use Rattle.rcu_part_processor.proofs.Passing.{since_kept}
use Rattle.rcu_part_processor.proofs.Standing.{stands}
use Rattle.rcu_part_processor.proofs.in_place.ProcessorInPlace.call.Goals as goal

pub invariant_of-state : goal.invariant_of-state
invariant_of-state g c = let s = c.args.self.now.state in let e = c.accept_job.ensures in record {
  here = e.same.0.table ∙ s.here;
  role = e.same.0.role ∙ s.role;
  there = s.there;
  bit = s.bit;
  local = e.local s.offloadable s.local;
  small = (e.small, s.small.1);
  since = since_kept _ _ _ (e.word) s.since;
  rests = λ r. kept_by_places s.cpu s.accepted _ (view s.seat) (view c.accept_job.new.seat) (ran_of s.ran) (holding s.lists) (holding c.accept_job.new.lists) e.claims.0 e.claims.1
      (e.places (numbered_records (ran_of s.ran)) (places_of s.cpu s.accepted (view s.seat) (ran_of s.ran) (holding s.lists) (s.rests r))) (s.rests r);
  runs = λ k f. let l = s.runs k f in record {
    below = l.below;
    room = l.room;
    lawful = runs_by_places s.cpu s.accepted _ k (view s.seat) (view c.accept_job.new.seat) (ran_of s.ran) (holding s.lists) (holding c.accept_job.new.lists) e.claims.0 e.claims.1
        (e.places (numbered_records (ran_of s.ran) ++ number_that_runs k ∷ []) l.lawful.has) l.lawful;
  };
}

pub accept_job-requires-after_bounds : goal.accept_job-requires-after_bounds
accept_job-requires-after_bounds g c κs within =
    let h : FitsInMemory (row.the_row (param 0 g.row.J) (param 1 g.row.J-Receipt)) = assumption in
    let s = c.args.self.now.state in let p = places_in_place s in (
      in_struct _ _ _ (in_struct _ _ _ h),
      (
        stands (arc_value s.board) c.deref.result.now s.seat c.deref.ensures s.here,
        (s.role, (s.small, (p.1.counted, (p.1.stamped, few_placed s.accepted (view s.seat) p.0 (holding s.lists) p.1)))),
      ),
    )

pub returns : goal.returns
returns g c = let s = c.args.self.now.state in let e = c.accept_job.ensures in record {
  calls = record {
    same = record { part = record { part = record { board = refl; seat = e.same.0 }; lane = e.same.1; cpu = refl; offloadable = refl; limit = refl; blimit = refl; kept = refl }; claimed = refl };
    ok = accepts_with (recorded s.ran) c.args.moment c.args.kind (g.J.Job.key_of c.args.job) c.args.job
        (pieces s.cpu s.limit s.accepted s.seat s.lists) (pieces s.cpu s.limit c.accept_job.new.accepted c.accept_job.new.seat c.accept_job.new.lists) c.accept_job.result e.ok;
    err = accepts_none_with (recorded s.ran)
        (pieces s.cpu s.limit s.accepted s.seat s.lists) (pieces s.cpu s.limit c.accept_job.new.accepted c.accept_job.new.seat c.accept_job.new.lists) c.accept_job.result e.err;
    refused = refuses_with (recorded s.ran) c.args.job
        (pieces s.cpu s.limit s.accepted s.seat s.lists) (pieces s.cpu s.limit c.accept_job.new.accepted c.accept_job.new.seat c.accept_job.new.lists) c.accept_job.result e.refused;
    closed = e.closed;
    full = e.full;
    sound = λ sound. record { keyed = e.keyed sound.keyed; given = sound.given };
  };
}

pub accept_job-requires-send-J : goal.accept_job-requires-send-J
accept_job-requires-send-J g c κs within = c.type_bounds.send-J

pub accept_job-requires-send-J-Receipt : goal.accept_job-requires-send-J-Receipt
accept_job-requires-send-J-Receipt g c κs within = c.type_bounds.send-J-Receipt
