use Rattle.std.proofs.Common.{List, ◌++◌, ◌∙◌, ap, sym, subst, refl}
use Rattle.std.specs.Arc.{arc_value}
use Rattle.std.specs.Mem.{FitsInMemory}
use denote.Param.{param}
use Rattle.rcu_board.specs.Roles.{MayClaim, cpu_of_role}
use Rattle.rcu_board.specs.Seats.{view}
use Rattle.rcu_jobs.specs.declared.callback.Record.{Record}
use Rattle.rcu_part_lists.proofs.Sizes.{in_struct}
use Rattle.rcu_part_lists.specs.Helds.{drawn_by, held_by, taken_by}
use Rattle.rcu_part_lists.specs.Lanes.{drawn_calls}
use Rattle.rcu_part_lists.specs.declared.hand.Held.{Held}
use Rattle.rcu_part_hand.specs.HandLaw.{IsLawfulHand}
use Rattle.rcu_part_hand.proofs.HandBegins.{hand_begun, keyed_that_runs}
use Rattle.rcu_part_hand.specs.contracts.hand.Hand as row
use Rattle.rcu_part_hand.proofs.HandRuns.{all_as, hand_kept, hand_sound_kept, held_untaken, kept_as}
use Rattle.rcu_part_hand.proofs.Standing.{same_lane, stands}
use Rattle.rcu_part_hand.proofs.hand.Hand.claim.Goals as goal

pub claim_first-requires-after_bounds : goal.claim_first-requires-after_bounds
claim_first-requires-after_bounds g c κs within = let s = c.args.self.state in let h : FitsInMemory (row.the_row (param 0 g.row.J) (param 1 g.row.J-Receipt)) = assumption in (
  in_struct _ _ _ (in_struct _ _ _ (in_struct _ _ _ h)),
  (stands (arc_value s.hand.board) c.deref.result.now s.hand.seat c.deref.ensures s.hand.here, (subst MayClaim (sym s.hand.role) tt, (ap cpu_of_role s.hand.role, s.lawful.rests))),
)

pub invariant_of-seated : goal.invariant_of-seated
invariant_of-seated g c = let s = c.args.self.state.hand in let e = c.claim_first.ensures in record { here = e.same.table ∙ s.here; role = e.same.role ∙ s.role }

pub invariant_of-state : goal.invariant_of-state
invariant_of-state g c = let s = c.args.self.state in let e = c.claim_first.ensures in let t = c.in-Err.ensures.stops in record {
  lawful = hand_kept s.hand.cpu (view s.hand.seat) (view c.claim_first.new.seat) s.hand.ran.all.items _ (taken_by s.hand.held) (taken_by c.claim_first.new.held) t.keeps (all_as _ _ e.records) (ap (λ (h : Held g.row.J.Denot). taken_by h) t.held) s.lawful;
}

pub returns-in-Err-clause-stays : goal.returns-in-Err-clause-stays
returns-in-Err-clause-stays g c = let s = c.args.self.state in let e = c.claim_first.ensures in
    record { part = record { board = refl; seat = e.same }; lane = same_lane s.hand.held c.claim_first.new.held e.lane; cpu = refl; blimit = refl; kept = kept_as _ _ e.records }

pub returns-in-Err-clause-stops : goal.returns-in-Err-clause-stops
returns-in-Err-clause-stops g c = let s = c.args.self.state in let e = c.claim_first.ensures in let t = c.in-Err.ensures.stops in
    held_untaken c.args.seen c.in-Err.stop s _ t refl e.records c.requires.seen

pub returns-in-Err-clause-counts : goal.returns-in-Err-clause-counts
returns-in-Err-clause-counts g c = c.in-Err.ensures.stops.counts.0

pub returns-in-Err-clause-sound : goal.returns-in-Err-clause-sound
returns-in-Err-clause-sound g c = λ sound. let s = c.args.self.state in let e = c.claim_first.ensures in
    (tt, hand_sound_kept g.J.Job.key_of g.J.Job.gives (drawn_by s.hand.held) (drawn_by c.claim_first.new.held) s.hand.ran.all.items c.claim_first.new.ran.all.items (ap (λ f. drawn_calls f) e.lane) (all_as _ _ e.records) sound)

pub invariant_of-state-in-Ok : goal.invariant_of-state-in-Ok
invariant_of-state-in-Ok g c = let s = c.args.self.state in let e = c.claim_first.ensures in let t = c.in-Ok.ensures.takes in record {
  small = rw c.of-claimed.ensures t.small;
  room = c.in-Ok.ensures.room;
  lawful = hand_begun s.hand.cpu c.args.seen (view s.hand.seat) (view c.claim_first.new.seat) c.claim_first.new.ran.all.items (taken_by s.hand.held) (taken_by c.claim_first.new.held) c.in-Ok.callback c.of-claimed.result c.of-claimed.ensures t.won c.requires.seen t.taken t.over
      (subst (λ (rs : List (Record g.row.J-Receipt.Denot)). IsLawfulHand s.hand.cpu (view s.hand.seat) rs (taken_by s.hand.held)) (sym (all_as _ _ e.records)) s.lawful);
}

pub returns-in-Ok-clause-same : goal.returns-in-Ok-clause-same
returns-in-Ok-clause-same g c = let s = c.args.self.state in let e = c.claim_first.ensures in
    record { part = record { board = refl; seat = e.same }; lane = same_lane s.hand.held c.claim_first.new.held e.lane; cpu = refl; blimit = refl; kept = kept_as _ _ e.records }

pub returns-in-Ok-clause-runs : goal.returns-in-Ok-clause-runs
returns-in-Ok-clause-runs g c = let e = c.claim_first.ensures in let t = c.in-Ok.ensures.takes in record {
  first = c.in-Ok.callback;
  job_is = refl;
  held = t.held;
  drawn = ap (λ f. drawn_calls f) e.lane;
  records = e.records;
  claimed = c.of-claimed.ensures;
  over = t.over;
  won = t.won;
  steps = t.steps;
}

pub returns-in-Ok-clause-keyed : goal.returns-in-Ok-clause-keyed
returns-in-Ok-clause-keyed g c = let s = c.args.self.state in let e = c.claim_first.ensures in let t = c.in-Ok.ensures.takes in
    keyed_that_runs g.J.Job.key_of c.args.seen (drawn_by s.hand.held) (drawn_by c.claim_first.new.held) (taken_by s.hand.held) (held_by c.claim_first.new.held) c.in-Ok.callback c.of-claimed.result c.of-claimed.ensures
    (s.hand.held.order ∙ ap (λ l. taken_by s.hand.held ++ l) t.held) (ap (λ f. drawn_calls f) e.lane)

pub returns-in-Ok-clause-sound : goal.returns-in-Ok-clause-sound
returns-in-Ok-clause-sound g c = λ sound. let s = c.args.self.state in let e = c.claim_first.ensures in
    (hand_sound_kept g.J.Job.key_of g.J.Job.gives (drawn_by s.hand.held) (drawn_by c.claim_first.new.held) s.hand.ran.all.items c.claim_first.new.ran.all.items (ap (λ f. drawn_calls f) e.lane) (all_as _ _ e.records) sound, tt)
