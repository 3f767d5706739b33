use Rattle.std.proofs.Common.{◌≡◌, None, Some, ℕ, List, ◌≤◌, ◌++◌, ◌∙◌, ap, sym, subst, refl, arith}
use Rattle.std.specs.Arc.{arc_value}
use Rattle.std.specs.Mem.{FitsInMemory}
use denote.Param.{param}
use Rattle.std.specs.Prelude.{IsTrue}
use Rattle.std.proofs.lemmas.List.Elements.{All-rest}
use Rattle.rcu_board.specs.Roles.{MayClaim, cpu_of_role}
use Rattle.rcu_board.specs.Seats.{NeverFalls, view}
use Rattle.rcu_jobs.specs.Records.{Given}
use Rattle.rcu_jobs.specs.declared.callback.Record.{Record}
use Rattle.rcu_lists.specs.Labels.{Done, Labelled}
use Rattle.rcu_numbers.specs.Numbers.{snap_of}
use Rattle.rcu_part_lists.specs.Aims.{AreUpTo, is_up_to}
use Rattle.rcu_part_lists.proofs.Sizes.{in_struct}
use Rattle.rcu_part_lists.specs.ProcessorLists.{Holding, held_in, holding, put_by}
use Rattle.rcu_part_lists.specs.declared.processor_lists.ProcessorLists.{ProcessorLists}
use Rattle.rcu_part_order.specs.Recorded.{Recorded, ran_of}
use Rattle.rcu_part_steps.specs.Begins.{claimed_as}
use Rattle.rcu_part_steps.specs.Places.{AreKeyed}
use Rattle.rcu_part_steps.specs.declared.begins.ClaimedCallback.{ClaimedCallback}
use Rattle.rcu_part_processor.specs.InPlace.{resting}
use Rattle.rcu_part_processor.specs.InPlaceLaw.{RunsAs}
use Rattle.rcu_part_processor.specs.Lawful.{IsLawful, StaysLocal}
use Rattle.rcu_part_processor.proofs.BeginTicks.{none_claimed}
use Rattle.rcu_part_processor.proofs.Claiming.{begun_law, keyed_in, keyed_without}
use Rattle.rcu_part_processor.proofs.InPlace.{some_is, sound_same_in_place}
use Rattle.rcu_part_processor.specs.contracts.in_place.ProcessorInPlace as row
use Rattle.rcu_part_processor.proofs.Keeping.{kept_untaken}
use Rattle.rcu_part_processor.proofs.Passing.{since_kept}
use Rattle.rcu_part_processor.proofs.Standing.{same_lane, stands}
use Rattle.rcu_part_processor.proofs.in_place.ProcessorInPlace.claim_done.Goals as goal

pub claim_first-requires-after_bounds : goal.claim_first-requires-after_bounds
claim_first-requires-after_bounds g c κs within = let s = c.args.self.now.state in let h : FitsInMemory (row.the_row (param 0 g.row.J) (param 1 g.row.J-Receipt)) = assumption in (
  in_struct _ _ _ (in_struct _ _ _ h),
  (stands (arc_value s.board) c.deref.result.now s.seat c.deref.ensures s.here, (subst MayClaim (sym s.role) tt, (ap cpu_of_role s.role, (s.rests c.requires.rests).rests))),
)

pub invariant_of-state : goal.invariant_of-state
invariant_of-state g c = let s = c.args.self.now.state in let e = c.claim_first.ensures in let t = c.in-Err.ensures.stops in record {
  here = e.same.table ∙ s.here;
  role = e.same.role ∙ s.role;
  there = s.there;
  bit = s.bit;
  local = subst (λ (l : ProcessorLists g.row.J.Denot). StaysLocal s.offloadable (holding l)) (sym t.lists) s.local;
  small = s.small;
  since = since_kept _ _ _ t.keeps.word s.since;
  rests = λ r. kept_untaken s.cpu s.accepted _ (view s.seat) (view c.claim_first.new.seat) (ran_of s.ran) (ran_of c.claim_first.new.ran) s.lists c.claim_first.new.lists t.keeps (e.same.later (arc_value s.board) s.here)
      (ap (λ (x : Recorded g.row.J-Receipt.Denot). x.all) e.records) t.lists (s.rests r);
  runs = λ k f. (let x : None ≡ Some k = sym c.requires.rests ∙ f in cc);
}

pub invariant_of-state-in-Ok : goal.invariant_of-state-in-Ok
invariant_of-state-in-Ok g c =
    let s = c.args.self.now.state in let e = c.claim_first.ensures in let t = c.in-Ok.ensures.takes in let x = c.in-Ok.callback in
    let h = holding s.lists in let h' = holding c.claim_first.new.lists in let seen = c.args.seen in let u = view c.claim_first.new.seat in
    let m = (arc_value s.board).processors in
    let later : NeverFalls m (view s.seat) u = e.same.later (arc_value s.board) s.here in
    let over : snap_of x.stamp ≤ seen = let a = t.graced in let b = c.requires.seen.1 in omega arith in
    let less : (m : ℕ) → AreUpTo m h.own → AreUpTo m h'.own = λ m up. All-rest (λ (y : Labelled g.row.J.Denot). IsTrue (is_up_to m y.label)) (record { label = Done; callback = x }) h'.own h.own t.done up in
    let law = begun_law s.cpu s.accepted m seen (view s.seat) u (ran_of c.claim_first.new.ran) h h' x (claimed_as seen x) refl t.won later c.requires.seen.0 (ap put_by t.others) t.places (ap (λ (o : Holding g.row.J.Denot). o.advanced) t.others) less over
    (subst (λ (rs : List (Record g.row.J-Receipt.Denot)). IsLawful s.cpu s.accepted (view s.seat) rs h) (sym (ap (λ (y : Recorded g.row.J-Receipt.Denot). y.all) e.records)) (s.rests c.requires.rests)) in record {
      here = e.same.table ∙ s.here;
      role = e.same.role ∙ s.role;
      there = s.there;
      bit = s.bit;
      local = λ off. let l = s.local off in (ap (λ (o : Holding g.row.J.Denot). o.mode) t.others ∙ l.0, ap put_by t.others ∙ l.1);
      small = s.small;
      since = since_kept _ _ _ t.won.word s.since;
      rests = λ r. (let y : Some c.of.result ≡ None = r in cc);
      runs = λ k f. subst (λ (y : ClaimedCallback). RunsAs s.cpu s.accepted y u c.claim_first.new.ran h') (sym c.of.ensures ∙ some_is c.of.result k f) (record { below = t.small; room = c.in-Ok.ensures.room; lawful = law });
    }

pub returns-in-Err : goal.returns-in-Err
returns-in-Err g c = let s = c.args.self.now.state in let e = c.claim_first.ensures in let t = c.in-Err.ensures.stops in record {
  begins = record {
    runs = tt;
    stops = λ r. (
      r,
      record { part = record { board = refl; seat = e.same }; lane = same_lane s.lists c.claim_first.new.lists e.lane; cpu = refl; offloadable = refl; limit = refl; blimit = refl; kept = ap (λ (x : Recorded g.row.J-Receipt.Denot). x.kept) e.records },
      none_claimed c.args.seen c.in-Err.stop (resting s r) _ t refl e.records ((e.same.later (arc_value s.board) s.here).turns s.cpu s.there),
    );
    counts = t.counts;
    count = refl;
    keyed = λ sound. tt;
    sound = sound_same_in_place g.J.Job.key_of g.J.Job.gives s _ (ap (λ (l : ProcessorLists g.row.J.Denot). holding l) t.lists) (ap (λ (x : Recorded g.row.J-Receipt.Denot). x.all) e.records);
  };
}

pub returns-in-Ok : goal.returns-in-Ok
returns-in-Ok g c = let s = c.args.self.now.state in let e = c.claim_first.ensures in let t = c.in-Ok.ensures.takes in let x = c.in-Ok.callback in
    let h = holding s.lists in let h' = holding c.claim_first.new.lists in record {
      begins = record {
        runs = λ r. (
          c.of.result,
          refl,
          record { part = record { board = refl; seat = e.same }; lane = same_lane s.lists c.claim_first.new.lists e.lane; cpu = refl; offloadable = refl; limit = refl; blimit = refl; kept = ap (λ (y : Recorded g.row.J-Receipt.Denot). y.kept) e.records },
          record {
            first = x;
            job_is = refl;
            done = t.done;
            others = t.others;
            records = e.records;
            count = refl;
            claimed = c.of.ensures;
            over = let a = t.graced in let b = c.requires.seen.1 in omega arith;
            won = t.won;
            steps = t.steps;
          },
        );
        stops = tt;
        counts = tt;
        count = refl;
        keyed = λ sound k f. keyed_in g.J.Job.key_of (put_by h) x (held_in h') (subst (AreKeyed g.J.Job.key_of) (ap (λ l. put_by h ++ l) t.places) sound.keyed) ∙ ap (λ (y : ClaimedCallback). y.key) (sym c.of.ensures ∙ some_is c.of.result k f);
        sound = λ sound. record {
          keyed = subst (AreKeyed g.J.Job.key_of) (sym (ap (λ l. l ++ held_in h') (ap put_by t.others))) (keyed_without g.J.Job.key_of (put_by h) x (held_in h') (subst (AreKeyed g.J.Job.key_of) (ap (λ l. put_by h ++ l) t.places) sound.keyed));
          given = subst (λ (rs : List (Record g.row.J-Receipt.Denot)). Given g.J.Job.gives rs) (sym (ap (λ (y : Recorded g.row.J-Receipt.Denot). y.all) e.records)) sound.given;
        };
      };
    }
