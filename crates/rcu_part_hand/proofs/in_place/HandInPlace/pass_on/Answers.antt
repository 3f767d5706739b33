use Rattle.std.proofs.Common.{None, Some, ◌≡◌, ℕ, ◌+◌, ◌≤◌, ◌++◌, ◌∙◌, ap, sym, subst, refl, arith}
use Rattle.std.specs.Arc.{arc_value}
use Rattle.std.specs.Mem.{FitsInMemory}
use denote.Param.{param}
use Rattle.rcu_board.specs.Roles.{MayClaim, cpu_of_role}
use Rattle.rcu_board.specs.Seats.{view}
use Rattle.rcu_jobs.specs.declared.callback.Callback.{Callback}
use Rattle.rcu_numbers.specs.Numbers.{snap_of}
use Rattle.rcu_part_lists.proofs.Sizes.{in_struct}
use Rattle.rcu_part_lists.specs.Helds.{drawn_by, held_by, taken_by}
use Rattle.rcu_part_lists.specs.Lanes.{drawn_calls}
use Rattle.rcu_part_order.specs.Recorded.{ran_of}
use Rattle.rcu_part_steps.specs.Begins.{claim_that_runs, claimed_as}
use Rattle.rcu_part_steps.specs.Changes.{Claims}
use Rattle.rcu_part_steps.specs.declared.begins.ClaimedCallback.{ClaimedCallback}
use Rattle.rcu_part_hand.proofs.HandBegins.{hand_begun, hand_sound_finished, keyed_that_runs, same_begun_after}
use Rattle.rcu_part_hand.proofs.HandRuns.{hand_sound_kept, not_none, same_first}
use Rattle.rcu_part_hand.proofs.InPlace.{some_is}
use Rattle.rcu_part_hand.proofs.PassingOn.{Passes, all, between, finishes, loads, looking, looks, same_claimed, same_looking, won, won_only}
use Rattle.rcu_part_hand.proofs.Standing.{same_lane, stands}
use Rattle.rcu_part_hand.specs.InPlace.{resting}
use Rattle.rcu_part_hand.specs.InPlaceLaw.{RunsAs}
use Rattle.rcu_part_hand.specs.contracts.in_place.HandInPlace as row
use Rattle.rcu_part_hand.proofs.in_place.HandInPlace.pass_on.Goals as goal

pub look_at_number-seen-requires : goal.look_at_number-seen-requires
look_at_number-seen-requires g c = let s = c.args.self.now.state in record { board = stands (arc_value s.hand.board) c.deref.result.now s.hand.seat c.deref.ensures s.hand.here }

pub end_and_claim-requires-clause-board : goal.end_and_claim-requires-clause-board
end_and_claim-requires-clause-board g c = let s = c.args.self.now.state in
    stands (arc_value s.hand.board) c.deref-2.result.now c.look_at_number-seen.new.seat c.deref-2.ensures (c.look_at_number-seen.ensures.same.table ∙ s.hand.here)

pub end_and_claim-requires-clause-who : goal.end_and_claim-requires-clause-who
end_and_claim-requires-clause-who g c = subst MayClaim (sym (c.look_at_number-seen.ensures.same.role ∙ c.args.self.now.state.hand.role)) tt

pub end_and_claim-requires-clause-runs : goal.end_and_claim-requires-clause-runs
end_and_claim-requires-clause-runs g c = let s = c.args.self.now.state in let l = s.runs c.in-Some.ended c.in-Some.is in let e = c.look_at_number-seen.ensures in record {
  claim = claim_that_runs s.hand.cpu c.in-Some.ended;
  alone = e.claims.1 ∙ l.lawful.runs;
  cpu = sym (ap cpu_of_role (e.same.role ∙ s.hand.role));
  small = l.small;
}

pub add-requires : goal.add-requires
add-requires g c = record { room = (c.args.self.now.state.runs c.in-Some.ended c.in-Some.is).room }

pub take-requires : goal.take-requires
take-requires g c = let h : FitsInMemory (row.the_row (param 0 g.row.J) (param 1 g.row.J-Receipt)) = assumption in in_struct _ _ _ (in_struct _ _ _ (in_struct _ _ _ h))

pub unreachable-requires-in_default-take : goal.unreachable-requires-in_default-take
unreachable-requires-in_default-take g c = let n = c.requires.followed c.in-Some.ended c.in-Some.is in not_none n.first n.rest (held_by c.args.self.now.state.hand.held) n.held c.in_default-take.ensures.first.0

pub invariant_of-hand : goal.invariant_of-hand
invariant_of-hand g c = let s = c.args.self.now.state.hand in let a = c.look_at_number-seen.ensures in let e = c.end_and_claim.ensures in record { here = e.same.table ∙ a.same.table ∙ s.here; role = e.same.role ∙ a.same.role ∙ s.role }

pub invariant_of-state : goal.invariant_of-state
invariant_of-state g c = let s = c.args.self.now.state in let k = c.in-Some.ended in let a = c.look_at_number-seen.ensures in let e = c.end_and_claim.ensures in let n = c.requires.followed k c.in-Some.is in let x = c.in-Some-take.callback in
    let h : Passes s k c.args.receipt c.look_at_number-seen.new.seat c.end_and_claim.new.seat c.look_at_number-seen.result c.add.new.self =
    record { runs = c.in-Some.is; same = a.same; step = a.view; claims = a.claims.0; running = a.claims.1; sight = a.sight.0; same_then = e.same; goes = e.goes_on; added = rw c.record.ensures at c.add.ensures.added } in
    let first = same_first n.first x n.rest (held_by c.take.new.self) (sym n.held ∙ c.in-Some-take.ensures.first) in
    let number : x.number ≡ k.number + 1 = ap (λ (y : Callback g.row.J.Denot). y.number) (sym first) ∙ n.next in
    let claims : Claims s.hand.cpu x.number (view (looking h).hand.seat) (view c.end_and_claim.new.seat) = subst (λ (m : ℕ). Claims s.hand.cpu m (view (looking h).hand.seat) (view c.end_and_claim.new.seat)) (sym number) (won h) in
    let seen = (looks h refl).sight in let later = (a.same.later (arc_value s.hand.board) s.hand.here).board in let old = (s.runs k c.in-Some.is).seen in
    let over : snap_of x.stamp ≤ c.look_at_number-seen.result = subst (λ (y : Callback g.row.J.Denot). snap_of y.stamp ≤ c.look_at_number-seen.result) first (omega (arith, n.over, old, later, a.sight.0)) in record {
      rests = λ r. (let y : Some c.of.result ≡ None = r in cc);
      runs = λ m f. subst (λ (y : ClaimedCallback). RunsAs s.hand.cpu y (view c.end_and_claim.new.seat) c.add.new.self (taken_by c.take.new.self)) (sym c.of.ensures ∙ some_is c.of.result m f) record {
        small = c.in-Some-take.ensures.safe.1;
        room = c.add.ensures.room n.room;
        lawful = hand_begun s.hand.cpu c.look_at_number-seen.result (view (looking h).hand.seat) (view c.end_and_claim.new.seat) (ran_of c.add.new.self) (taken_by s.hand.held) (taken_by c.take.new.self) x (claimed_as c.look_at_number-seen.result x) refl claims seen
            c.in-Some-take.ensures.taken over (looking h).lawful;
        seen = (let z = claims.sights in omega (arith, z, seen));
      };
    }

pub returns-clause-goes_on : goal.returns-clause-goes_on
returns-clause-goes_on g c = let s = c.args.self.now.state in let k = c.in-Some.ended in let a = c.look_at_number-seen.ensures in let e = c.end_and_claim.ensures in let n = c.requires.followed k c.in-Some.is in let x = c.in-Some-take.callback in
    let h : Passes s k c.args.receipt c.look_at_number-seen.new.seat c.end_and_claim.new.seat c.look_at_number-seen.result c.add.new.self =
    record { runs = c.in-Some.is; same = a.same; step = a.view; claims = a.claims.0; running = a.claims.1; sight = a.sight.0; same_then = e.same; goes = e.goes_on; added = rw c.record.ensures at c.add.ensures.added } in
    let first = same_first n.first x n.rest (held_by c.take.new.self) (sym n.held ∙ c.in-Some-take.ensures.first) in
    let number : x.number ≡ k.number + 1 = ap (λ (y : Callback g.row.J.Denot). y.number) (sym first) ∙ n.next in
    let later = (a.same.later (arc_value s.hand.board) s.hand.here).board in let old = (s.runs k c.in-Some.is).seen in
    let over : snap_of x.stamp ≤ c.look_at_number-seen.result = subst (λ (y : Callback g.row.J.Denot). snap_of y.stamp ≤ c.look_at_number-seen.result) first (omega (arith, n.over, old, later, a.sight.0)) in record {
      between = between h;
      rests = refl;
      finishes = finishes h;
      begins = λ r. (
        c.of.result,
        refl,
        same_begun_after (resting (between h) r) (looking h) _ (same_looking h r)
            record { part = record { board = refl; seat = same_claimed h }; lane = same_lane s.hand.held c.take.new.self c.in-Some-take.ensures.front; cpu = refl; blimit = refl; kept = refl },
        record {
          seen = c.look_at_number-seen.result;
          first = looking h;
          second = looking h;
          same = (same_looking h r, same_looking h r);
          looks = looks h r;
          loads = loads h;
          claims = record {
            first = x;
            job_is = refl;
            held = c.in-Some-take.ensures.first;
            drawn = ap (λ f. drawn_calls f) c.in-Some-take.ensures.front;
            records = refl;
            claimed = c.of.ensures;
            over = over;
            won = subst (λ (m : ℕ). Claims s.hand.cpu m (view (looking h).hand.seat) (view c.end_and_claim.new.seat)) (sym number) (won h);
            steps = won_only h;
          };
        },
      );
      stops = tt;
      finishes_sound = λ given sound. hand_sound_finished g.J.Job.key_of g.J.Job.gives (drawn_by s.hand.held) k c.args.receipt s.hand.ran.all.items c.add.new.self.all.items (all h) sound (given k c.in-Some.is);
      begins_sound = hand_sound_kept g.J.Job.key_of g.J.Job.gives (drawn_by s.hand.held) (drawn_by c.take.new.self) c.add.new.self.all.items c.add.new.self.all.items (ap (λ f. drawn_calls f) c.in-Some-take.ensures.front) refl;
    }

pub returns-clause-keyed : goal.returns-clause-keyed
returns-clause-keyed g c = λ m f.
    let s = c.args.self.now.state in let x = c.in-Some-take.callback in
    let is : m ≡ claimed_as c.look_at_number-seen.result x = sym (some_is c.of.result m f) ∙ c.of.ensures in
    let drawn : drawn_by c.take.new.self ≡ drawn_by s.hand.held = ap (λ f. drawn_calls f) c.in-Some-take.ensures.front in
    keyed_that_runs g.J.Job.key_of c.look_at_number-seen.result (drawn_by s.hand.held) (drawn_by c.take.new.self) (taken_by s.hand.held) (held_by c.take.new.self) x m is (s.hand.held.order ∙ ap (λ l. taken_by s.hand.held ++ l) c.in-Some-take.ensures.first) drawn
