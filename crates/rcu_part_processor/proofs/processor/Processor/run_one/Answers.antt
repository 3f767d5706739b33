use Rattle.std.proofs.Common.{ℕ, ◌≤◌, List, [], ◌∷◌, ◌++◌, ◌∙◌, ap, sym, subst, refl, arith}
use Rattle.std.specs.Arc.{arc_value}
use Rattle.std.specs.Mem.{FitsInMemory}
use denote.Param.{param}
use Rattle.std.specs.Prelude.{IsTrue}
use Rattle.std.proofs.lemmas.List.Elements.{All-rest}
use Rattle.rcu_board.specs.Roles.{cpu_of_role, MayClaim}
use Rattle.rcu_board.specs.Seats.{NeverFalls, view}
use Rattle.rcu_board.specs.Views.{seen_at, sight}
use Rattle.rcu_board.specs.Words.{turns_word}
use Rattle.rcu_board.specs.declared.view.Claim.{Claim}
use Rattle.rcu_board.proofs.Facts.{never_falls_again, same_seat_again}
use Rattle.rcu_part_lists.specs.Aims.{AreUpTo, is_up_to}
use Rattle.rcu_part_lists.proofs.Sizes.{in_struct}
use Rattle.rcu_part_lists.specs.ProcessorLists.{Holding, held_in, holding, put_by}
use Rattle.rcu_part_lists.specs.declared.processor_lists.ProcessorLists.{ProcessorLists}
use Rattle.rcu_lists.specs.Labels.{Done, Labelled}
use Rattle.rcu_numbers.specs.Numbers.{snap_of}
use Rattle.rcu_part_order.specs.Recorded.{Recorded, and_ran, ran_of}
use Rattle.rcu_part_steps.specs.Changes.{StepsOnly}
use Rattle.rcu_part_steps.proofs.Turning.{steps_more}
use Rattle.rcu_part_processor.specs.Lawful.{StaysLocal}
use Rattle.rcu_part_processor.specs.contracts.processor.Processor as row
use Rattle.rcu_part_processor.proofs.Keeping.{kept_untaken}
use Rattle.rcu_part_processor.proofs.Moving.{kept_by_runs}
use Rattle.rcu_part_processor.proofs.Passing.{since_kept}
use Rattle.rcu_part_processor.proofs.Standing.{same_lane, stands}
use Rattle.rcu_part_processor.proofs.Taking.{sound_same}
use Rattle.rcu_part_processor.proofs.TickRuns.{done_one, done_untaken, sound_ran}
use Rattle.rcu_part_processor.proofs.processor.Processor.run_one.Goals as goal

pub claim_first-requires-after_bounds : goal.claim_first-requires-after_bounds
claim_first-requires-after_bounds g c κs within = let s = c.args.self.now.state in let h : FitsInMemory (row.the_row (param 0 g.row.J) (param 1 g.row.J-Receipt)) = assumption in (
  in_struct _ _ _ (in_struct _ _ _ h),
  (stands (arc_value s.board) c.deref.result.now s.seat c.deref.ensures s.here, (subst MayClaim (sym s.role) tt, (ap cpu_of_role s.role, s.lawful.rests))),
)

pub invariant_of-state : goal.invariant_of-state
invariant_of-state g c = let s = c.args.self.now.state in let e = c.claim_first.ensures in let t = c.in-Err.ensures.stops in record {
  here = e.same.table ∙ s.here;
  role = e.same.role ∙ s.role;
  there = s.there;
  bit = s.bit;
  local = subst (λ (l : ProcessorLists g.row.J.Denot). StaysLocal s.offloadable (holding l)) (sym t.lists) s.local;
  small = s.small;
  since = since_kept _ _ _ t.keeps.word s.since;
  lawful = kept_untaken s.cpu s.accepted _ (view s.seat) (view c.claim_first.new.seat) (ran_of s.ran) (ran_of c.claim_first.new.ran) s.lists c.claim_first.new.lists t.keeps (e.same.later (arc_value s.board) s.here)
      (ap (λ (r : Recorded g.row.J-Receipt.Denot). r.all) e.records) t.lists s.lawful;
}

pub returns-in-Err-clause-sight : goal.returns-in-Err-clause-sight
returns-in-Err-clause-sight g c = let t = c.in-Err.ensures.stops in (t.sight ∙ c.requires.seen.0, ap (λ (l : ProcessorLists g.row.J.Denot). (holding l).advanced) t.lists ∙ c.requires.seen.1)

pub returns-in-Err-clause-runs : goal.returns-in-Err-clause-runs
returns-in-Err-clause-runs g c = let s = c.args.self.now.state in let e = c.claim_first.ensures in let t = c.in-Err.ensures.stops in record {
  does = record {
    ran = tt;
    not = (t.tried, done_untaken c.args.seen c.in-Err.stop s _ t e.records ((e.same.later (arc_value s.board) s.here).turns s.cpu s.there), t.why _ refl refl t.lists);
    counts = t.counts;
  };
  same = record { part = record { board = refl; seat = e.same }; lane = same_lane s.lists c.claim_first.new.lists e.lane; cpu = refl; offloadable = refl; limit = refl; blimit = refl; kept = ap (λ (r : Recorded g.row.J-Receipt.Denot). r.kept) e.records };
  count = refl;
  sound = sound_same g.J.Job.key_of g.J.Job.gives s _ (ap (λ (l : ProcessorLists g.row.J.Denot). holding l) t.lists) e.records;
}

pub run_claimed-record-requires-clause-board : goal.run_claimed-record-requires-clause-board
run_claimed-record-requires-clause-board g c κs within = let s = c.args.self.now.state in stands (arc_value s.board) c.deref-in-Ok.result.now c.claim_first.new.seat c.deref-in-Ok.ensures (c.claim_first.ensures.same.table ∙ s.here)

pub run_claimed-record-requires-clause-who : goal.run_claimed-record-requires-clause-who
run_claimed-record-requires-clause-who g c κs within = subst MayClaim (sym (c.claim_first.ensures.same.role ∙ c.args.self.now.state.role)) tt

pub run_claimed-record-requires-clause-runs : goal.run_claimed-record-requires-clause-runs
run_claimed-record-requires-clause-runs g c κs within = let s = c.args.self.now.state in let e = c.claim_first.ensures in let w = c.in-Ok.ensures.takes.won in
    let at : ℕ → ℕ → List Claim = λ p x. record { cpu = p; number = c.in-Ok.callback.number; sight = x } ∷ [] in
    w.running ∙ (ap (λ (x : ℕ). at s.cpu x) (sym w.sights) ∙ ap (λ (p : ℕ). at p (sight (view c.claim_first.new.seat))) (sym (ap cpu_of_role (e.same.role ∙ s.role))))

pub run_claimed-record-requires-clause-small : goal.run_claimed-record-requires-clause-small
run_claimed-record-requires-clause-small g c κs within = c.in-Ok.ensures.takes.small

pub add-requires : goal.add-requires
add-requires g c = record { room = c.in-Ok.ensures.room }

pub invariant_of-state-in-Ok : goal.invariant_of-state-in-Ok
invariant_of-state-in-Ok g c =
    let s = c.args.self.now.state in let e = c.claim_first.ensures in let r = c.run_claimed-record.ensures in let t = c.in-Ok.ensures.takes in
    let x = c.in-Ok.callback in let h = holding s.lists in let h' = holding c.claim_first.new.lists in
    let n = (arc_value s.board).processors in
    let later : NeverFalls n (view s.seat) (view c.claim_first.new.seat) = e.same.later (arc_value s.board) s.here in
    let later2 : NeverFalls n (view c.claim_first.new.seat) (view c.run_claimed-record.new.seat) = r.same.later (arc_value s.board) (e.same.table ∙ s.here) in
    let over : snap_of x.stamp ≤ c.args.seen = let a = t.graced in let b = c.requires.seen.1 in omega arith in
    let less : (m : ℕ) → AreUpTo m h.own → AreUpTo m h'.own = λ m up. All-rest (λ (y : Labelled g.row.J.Denot). IsTrue (is_up_to m y.label)) (record { label = Done; callback = x }) h'.own h.own t.done up in record {
      here = r.same.table ∙ (e.same.table ∙ s.here);
      role = r.same.role ∙ (e.same.role ∙ s.role);
      there = s.there;
      bit = s.bit;
      local = λ is. let l = s.local is in (ap (λ (o : Holding g.row.J.Denot). o.mode) t.others ∙ l.0, ap put_by t.others ∙ l.1);
      small = s.small;
      since = since_kept _ _ _ (r.ends.word ∙ t.won.word) s.since;
      lawful = kept_by_runs s.cpu s.accepted n c.args.seen (view s.seat) (view c.claim_first.new.seat) (view c.run_claimed-record.new.seat) (ran_of s.ran) (ran_of c.add.new.self) h h' x c.run_claimed-record.result
          t.won r.ends (never_falls_again n (view s.seat) (view c.claim_first.new.seat) (view c.run_claimed-record.new.seat) later later2) c.requires.seen.0
          (ap (λ (r : Recorded g.row.J-Receipt.Denot). r.all) (c.add.ensures.added ∙ ap (and_ran (c.run_claimed-record.result ∷ [])) e.records)) (ap put_by t.others) t.places (ap (λ (o : Holding g.row.J.Denot). o.advanced) t.others) less r.record r.ready over s.lawful;
    }

pub returns-in-Ok-clause-sight : goal.returns-in-Ok-clause-sight
returns-in-Ok-clause-sight g c = let t = c.in-Ok.ensures.takes in
    (c.run_claimed-record.ensures.ends.sights ∙ (t.won.sights ∙ c.requires.seen.0), ap (λ (o : Holding g.row.J.Denot). o.advanced) t.others ∙ c.requires.seen.1)

pub returns-in-Ok-clause-runs : goal.returns-in-Ok-clause-runs
returns-in-Ok-clause-runs g c =
    let s = c.args.self.now.state in let e = c.claim_first.ensures in let r = c.run_claimed-record.ensures in let t = c.in-Ok.ensures.takes in
    let u = view c.claim_first.new.seat in let w = view c.run_claimed-record.new.seat in let h = holding s.lists in let h' = holding c.claim_first.new.lists in
    let first : seen_at (view s.seat) (turns_word s.cpu) ≤ seen_at u (turns_word s.cpu) = (e.same.later (arc_value s.board) s.here).turns s.cpu s.there in
    let second : seen_at u (turns_word s.cpu) ≤ seen_at w (turns_word s.cpu) = (r.same.later (arc_value s.board) (e.same.table ∙ s.here)).turns s.cpu s.there in
    let added = c.add.ensures.added ∙ ap (and_ran (c.run_claimed-record.result ∷ [])) e.records in record {
      does = record {
        ran = done_one c.args.seen s _ c.in-Ok.callback c.run_claimed-record.result t.done t.others added r.record r.ready
            (steps_more (turns_word s.cpu) 1 1 (view s.seat) u w t.steps (subst (λ (p : ℕ). StepsOnly (turns_word p) 1 u w) (ap cpu_of_role (e.same.role ∙ s.role)) r.only)) (omega (arith, first, second));
        not = tt;
        counts = tt;
      };
      same = record { part = record { board = refl; seat = same_seat_again s.seat c.claim_first.new.seat c.run_claimed-record.new.seat e.same r.same }; lane = same_lane s.lists c.claim_first.new.lists e.lane; cpu = refl; offloadable = refl; limit = refl; blimit = refl; kept = ap (λ (r : Recorded g.row.J-Receipt.Denot). r.kept) added };
      count = refl;
      sound = sound_ran g.J.Job.key_of g.J.Job.gives s _ c.in-Ok.callback c.run_claimed-record.result (put_by h) (held_in h') (ap (λ l. put_by h ++ l) t.places) (ap (λ l. l ++ held_in h') (ap put_by t.others)) added r.given;
    }
