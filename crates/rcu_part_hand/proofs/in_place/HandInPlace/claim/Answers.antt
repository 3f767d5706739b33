use Rattle.std.proofs.Common.{None, Some, ◌≡◌, ◌++◌, ◌∙◌, ap, sym, subst, refl, arith}
use Rattle.std.specs.Arc.{arc_value}
use Rattle.std.specs.Mem.{FitsInMemory}
use denote.Param.{param}
use Rattle.rcu_board.specs.Roles.{MayClaim, cpu_of_role}
use Rattle.rcu_board.specs.Seats.{view}
use Rattle.rcu_part_lists.proofs.Sizes.{in_struct}
use Rattle.rcu_part_lists.specs.Helds.{drawn_by, held_by, taken_by}
use Rattle.rcu_part_lists.specs.Lanes.{drawn_calls}
use Rattle.rcu_part_lists.specs.declared.hand.Held.{Held}
use Rattle.rcu_part_hand.proofs.HandBegins.{hand_begun, keyed_that_runs}
use Rattle.rcu_part_hand.specs.contracts.in_place.HandInPlace as row
use Rattle.rcu_part_hand.proofs.HandRuns.{all_as, hand_kept, hand_sound_kept, held_untaken, kept_as}
use Rattle.rcu_part_hand.proofs.InPlace.{some_is}
use Rattle.rcu_part_hand.proofs.Standing.{same_lane, stands}
use Rattle.rcu_part_hand.specs.HandLaw.{IsLawfulHand}
use Rattle.rcu_part_hand.specs.InPlace.{resting}
use Rattle.rcu_part_hand.specs.InPlaceLaw.{RunsAs}
use Rattle.rcu_part_steps.specs.Begins.{claimed_as}
use Rattle.rcu_part_steps.specs.declared.begins.ClaimedCallback.{ClaimedCallback}
use Rattle.rcu_part_hand.proofs.in_place.HandInPlace.claim.Goals as goal

pub claim_first-requires-after_bounds : goal.claim_first-requires-after_bounds
claim_first-requires-after_bounds g c κs within = let s = c.args.self.now.state in let h : FitsInMemory (row.the_row (param 0 g.row.J) (param 1 g.row.J-Receipt)) = assumption in (
  in_struct _ _ _ (in_struct _ _ _ (in_struct _ _ _ h)),
  (stands (arc_value s.hand.board) c.deref.result.now s.hand.seat c.deref.ensures s.hand.here, (subst MayClaim (sym s.hand.role) tt, (ap cpu_of_role s.hand.role, (s.rests c.requires.rests).rests))),
)

pub invariant_of-hand : goal.invariant_of-hand
invariant_of-hand g c = let s = c.args.self.now.state.hand in let e = c.claim_first.ensures in record { here = e.same.table ∙ s.here; role = e.same.role ∙ s.role }

pub invariant_of-state : goal.invariant_of-state
invariant_of-state g c = let s = c.args.self.now.state in let e = c.claim_first.ensures in let t = c.in-Err.ensures.stops in record {
  rests = λ r. hand_kept s.hand.cpu (view s.hand.seat) (view c.claim_first.new.seat) s.hand.ran.all.items _ (taken_by s.hand.held) (taken_by c.claim_first.new.held) t.keeps (all_as _ _ e.records) (ap (λ (h : Held g.row.J.Denot). taken_by h) t.held) (s.rests r);
  runs = λ k f. (let x : None ≡ Some k = sym c.requires.rests ∙ f in cc);
}

pub invariant_of-state-in-Ok : goal.invariant_of-state-in-Ok
invariant_of-state-in-Ok g c = let s = c.args.self.now.state in let e = c.claim_first.ensures in let t = c.in-Ok.ensures.takes in let u = view c.claim_first.new.seat in record {
  rests = λ r. (let y : Some c.of.result ≡ None = r in cc);
  runs = λ k f. subst (λ (y : ClaimedCallback). RunsAs s.hand.cpu y u c.claim_first.new.ran (taken_by c.claim_first.new.held)) (sym c.of.ensures ∙ some_is c.of.result k f) (record {
    small = t.small;
    room = c.in-Ok.ensures.room;
    lawful = hand_begun s.hand.cpu c.args.seen (view s.hand.seat) u c.claim_first.new.ran.all.items (taken_by s.hand.held) (taken_by c.claim_first.new.held) c.in-Ok.callback (claimed_as c.args.seen c.in-Ok.callback) refl t.won c.requires.seen t.taken t.over
        (subst (λ rs. IsLawfulHand s.hand.cpu (view s.hand.seat) rs (taken_by s.hand.held)) (sym (all_as _ _ e.records)) (s.rests c.requires.rests));
    seen = (let a = t.won.sights in omega (arith, a, c.requires.seen));
  });
}

pub returns-in-Err : goal.returns-in-Err
returns-in-Err g c = let s = c.args.self.now.state in let e = c.claim_first.ensures in let t = c.in-Err.ensures.stops in record {
  claims = record {
    runs = tt;
    stops = λ r. (
      r,
      record { part = record { board = refl; seat = e.same }; lane = same_lane s.hand.held c.claim_first.new.held e.lane; cpu = refl; blimit = refl; kept = kept_as _ _ e.records },
      held_untaken c.args.seen c.in-Err.stop (resting s r) _ t refl e.records c.requires.seen,
    );
    counts = t.counts.0;
    keyed = tt;
    sound = hand_sound_kept g.J.Job.key_of g.J.Job.gives (drawn_by s.hand.held) (drawn_by c.claim_first.new.held) s.hand.ran.all.items c.claim_first.new.ran.all.items (ap (λ f. drawn_calls f) e.lane) (all_as _ _ e.records);
  };
}

pub returns-in-Ok : goal.returns-in-Ok
returns-in-Ok g c = let s = c.args.self.now.state in let e = c.claim_first.ensures in let t = c.in-Ok.ensures.takes in let x = c.in-Ok.callback in
    let drawn : drawn_by c.claim_first.new.held ≡ drawn_by s.hand.held = ap (λ f. drawn_calls f) e.lane in record {
      claims = record {
        runs = λ r. (
          c.of.result,
          refl,
          record { part = record { board = refl; seat = e.same }; lane = same_lane s.hand.held c.claim_first.new.held e.lane; cpu = refl; blimit = refl; kept = kept_as _ _ e.records },
          record {
            first = x;
            job_is = refl;
            held = t.held;
            drawn = drawn;
            records = e.records;
            claimed = c.of.ensures;
            over = t.over;
            won = t.won;
            steps = t.steps;
          },
        );
        stops = tt;
        counts = tt;
        keyed = λ k f. keyed_that_runs g.J.Job.key_of c.args.seen (drawn_by s.hand.held) (drawn_by c.claim_first.new.held) (taken_by s.hand.held) (held_by c.claim_first.new.held) x k (sym (some_is c.of.result k f) ∙ c.of.ensures) (s.hand.held.order ∙ ap (λ l. taken_by s.hand.held ++ l) t.held) drawn;
        sound = hand_sound_kept g.J.Job.key_of g.J.Job.gives (drawn_by s.hand.held) (drawn_by c.claim_first.new.held) s.hand.ran.all.items c.claim_first.new.ran.all.items drawn (all_as _ _ e.records);
      };
    }
