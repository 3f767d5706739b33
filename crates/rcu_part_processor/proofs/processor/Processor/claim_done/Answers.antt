use Rattle.std.proofs.Common.{ℕ, List, ◌≤◌, ◌++◌, ◌∙◌, ap, sym, subst, refl, arith}
use Rattle.std.specs.Arc.{arc_value}
use Rattle.std.specs.Mem.{FitsInMemory}
use denote.Param.{param}
use Rattle.std.specs.Prelude.{IsTrue}
use Rattle.std.proofs.lemmas.List.Elements.{All-rest}
use Rattle.rcu_board.specs.Roles.{MayClaim, cpu_of_role}
use Rattle.rcu_board.specs.Seats.{NeverFalls, view}
use Rattle.rcu_jobs.specs.Records.{Given}
use Rattle.rcu_jobs.specs.declared.callback.Record.{Record}
use Rattle.rcu_lists.specs.Labels.{Done, Labelled}
use Rattle.rcu_numbers.specs.Numbers.{snap_of}
use Rattle.rcu_part_lists.specs.Aims.{AreUpTo, is_up_to}
use Rattle.rcu_part_lists.proofs.Sizes.{in_struct}
use Rattle.rcu_part_lists.specs.ProcessorLists.{Holding, held_in, holding, put_by}
use Rattle.rcu_part_lists.specs.declared.processor_lists.ProcessorLists.{ProcessorLists}
use Rattle.rcu_part_order.specs.Recorded.{Recorded, ran_of}
use Rattle.rcu_part_steps.specs.Places.{AreKeyed}
use Rattle.rcu_part_steps.specs.declared.begins.ClaimedCallback.{ClaimedCallback}
use Rattle.rcu_part_processor.specs.Lawful.{IsLawful, StaysLocal}
use Rattle.rcu_part_processor.specs.contracts.processor.Processor as row
use Rattle.rcu_part_processor.proofs.BeginTicks.{none_claimed}
use Rattle.rcu_part_processor.proofs.Claiming.{begun_law, keyed_in, keyed_without}
use Rattle.rcu_part_processor.proofs.Keeping.{kept_untaken}
use Rattle.rcu_part_processor.proofs.Passing.{since_kept}
use Rattle.rcu_part_processor.proofs.Standing.{same_lane, stands}
use Rattle.rcu_part_processor.proofs.Taking.{sound_same}
use Rattle.rcu_part_processor.proofs.processor.Processor.claim_done.Goals as goal

pub claim_first-requires-after_bounds : goal.claim_first-requires-after_bounds
claim_first-requires-after_bounds g c κs within = let s = c.args.self.state in let h : FitsInMemory (row.the_row (param 0 g.row.J) (param 1 g.row.J-Receipt)) = assumption in (
  in_struct _ _ _ (in_struct _ _ _ h),
  (stands (arc_value s.board) c.deref.result.now s.seat c.deref.ensures s.here, (subst MayClaim (sym s.role) tt, (ap cpu_of_role s.role, s.lawful.rests))),
)

pub invariant_of-state : goal.invariant_of-state
invariant_of-state g c = let s = c.args.self.state in let e = c.claim_first.ensures in let t = c.in-Err.ensures.stops in record {
  here = e.same.table ∙ s.here;
  role = e.same.role ∙ s.role;
  there = s.there;
  bit = s.bit;
  local = subst (λ (l : ProcessorLists g.row.J.Denot). StaysLocal s.offloadable (holding l)) (sym t.lists) s.local;
  small = s.small;
  since = since_kept _ _ _ t.keeps.word s.since;
  lawful = kept_untaken s.cpu s.accepted _ (view s.seat) (view c.claim_first.new.seat) (ran_of s.ran) (ran_of c.claim_first.new.ran) s.lists c.claim_first.new.lists t.keeps (e.same.later (arc_value s.board) s.here)
      (ap (λ (r : Recorded g.row.J-Receipt.Denot). r.all) e.records) t.lists s.lawful;
}

pub returns-in-Err-clause-same : goal.returns-in-Err-clause-same
returns-in-Err-clause-same g c = let s = c.args.self.state in let e = c.claim_first.ensures in
    (tt, record { part = record { board = refl; seat = e.same }; lane = same_lane s.lists c.claim_first.new.lists e.lane; cpu = refl; offloadable = refl; limit = refl; blimit = refl; kept = ap (λ (r : Recorded g.row.J-Receipt.Denot). r.kept) e.records })

pub returns-in-Err-clause-stops : goal.returns-in-Err-clause-stops
returns-in-Err-clause-stops g c = let s = c.args.self.state in let e = c.claim_first.ensures in none_claimed c.args.seen c.in-Err.stop s _ c.in-Err.ensures.stops refl e.records ((e.same.later (arc_value s.board) s.here).turns s.cpu s.there)

pub returns-in-Err-clause-counts : goal.returns-in-Err-clause-counts
returns-in-Err-clause-counts g c = c.in-Err.ensures.stops.counts

pub returns-in-Err-clause-count : goal.returns-in-Err-clause-count
returns-in-Err-clause-count g c = refl

pub returns-in-Err-clause-keyed : goal.returns-in-Err-clause-keyed
returns-in-Err-clause-keyed g c = λ sound. tt

pub returns-in-Err-clause-sound : goal.returns-in-Err-clause-sound
returns-in-Err-clause-sound g c = λ sound. let s = c.args.self.state in
    (tt, sound_same g.J.Job.key_of g.J.Job.gives s _ (ap (λ (l : ProcessorLists g.row.J.Denot). holding l) c.in-Err.ensures.stops.lists) c.claim_first.ensures.records sound)

pub invariant_of-state-in-Ok : goal.invariant_of-state-in-Ok
invariant_of-state-in-Ok g c =
    let s = c.args.self.state in let e = c.claim_first.ensures in let t = c.in-Ok.ensures.takes in let x = c.in-Ok.callback in
    let h = holding s.lists in let h' = holding c.claim_first.new.lists in let seen = c.args.seen in let u = view c.claim_first.new.seat in
    let m = (arc_value s.board).processors in
    let later : NeverFalls m (view s.seat) u = e.same.later (arc_value s.board) s.here in
    let over : snap_of x.stamp ≤ seen = let a = t.graced in let b = c.requires.seen.1 in omega arith in
    let less : (m : ℕ) → AreUpTo m h.own → AreUpTo m h'.own = λ m up. All-rest (λ (y : Labelled g.row.J.Denot). IsTrue (is_up_to m y.label)) (record { label = Done; callback = x }) h'.own h.own t.done up in record {
      here = e.same.table ∙ s.here;
      role = e.same.role ∙ s.role;
      there = s.there;
      bit = s.bit;
      local = λ off. let l = s.local off in (ap (λ (o : Holding g.row.J.Denot). o.mode) t.others ∙ l.0, ap put_by t.others ∙ l.1);
      small = s.small;
      below = rw c.of-claimed.ensures t.small;
      room = c.in-Ok.ensures.room;
      since = since_kept _ _ _ t.won.word s.since;
      lawful = begun_law s.cpu s.accepted m seen (view s.seat) u (ran_of c.claim_first.new.ran) h h' x c.of-claimed.result c.of-claimed.ensures t.won later c.requires.seen.0 (ap put_by t.others) t.places (ap (λ (o : Holding g.row.J.Denot). o.advanced) t.others) less over
          (subst (λ (rs : List (Record g.row.J-Receipt.Denot)). IsLawful s.cpu s.accepted (view s.seat) rs h) (sym (ap (λ (y : Recorded g.row.J-Receipt.Denot). y.all) e.records)) s.lawful);
    }

pub returns-in-Ok-clause-same : goal.returns-in-Ok-clause-same
returns-in-Ok-clause-same g c = let s = c.args.self.state in let e = c.claim_first.ensures in
    (record { part = record { board = refl; seat = e.same }; lane = same_lane s.lists c.claim_first.new.lists e.lane; cpu = refl; offloadable = refl; limit = refl; blimit = refl; kept = ap (λ (r : Recorded g.row.J-Receipt.Denot). r.kept) e.records }, tt)

pub returns-in-Ok-clause-runs : goal.returns-in-Ok-clause-runs
returns-in-Ok-clause-runs g c = let t = c.in-Ok.ensures.takes in record {
  first = c.in-Ok.callback;
  job_is = refl;
  done = t.done;
  others = t.others;
  records = c.claim_first.ensures.records;
  count = refl;
  claimed = c.of-claimed.ensures;
  over = let a = t.graced in let b = c.requires.seen.1 in omega arith;
  won = t.won;
  steps = t.steps;
}

pub returns-in-Ok-clause-keyed : goal.returns-in-Ok-clause-keyed
returns-in-Ok-clause-keyed g c = λ sound. let h = holding c.args.self.state.lists in let h' = holding c.claim_first.new.lists in
    keyed_in g.J.Job.key_of (put_by h) c.in-Ok.callback (held_in h') (subst (AreKeyed g.J.Job.key_of) (ap (λ l. put_by h ++ l) c.in-Ok.ensures.takes.places) sound.keyed) ∙ ap (λ (y : ClaimedCallback). y.key) (sym c.of-claimed.ensures)

pub returns-in-Ok-clause-sound : goal.returns-in-Ok-clause-sound
returns-in-Ok-clause-sound g c = λ sound. let t = c.in-Ok.ensures.takes in let h = holding c.args.self.state.lists in let h' = holding c.claim_first.new.lists in (
  record {
    keyed = subst (AreKeyed g.J.Job.key_of) (sym (ap (λ l. l ++ held_in h') (ap put_by t.others))) (keyed_without g.J.Job.key_of (put_by h) c.in-Ok.callback (held_in h') (subst (AreKeyed g.J.Job.key_of) (ap (λ l. put_by h ++ l) t.places) sound.keyed));
    given = subst (λ (rs : List (Record g.row.J-Receipt.Denot)). Given g.J.Job.gives rs) (sym (ap (λ (y : Recorded g.row.J-Receipt.Denot). y.all) c.claim_first.ensures.records)) sound.given;
  },
  tt,
)
