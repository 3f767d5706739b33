use Rattle.rcu_part_order.specs.Recorded.{and_ran, recorded}
use Rattle.rcu_part_hand.proofs.HandRuns.{all_as, kept_as}
use Rattle.std.proofs.Common.{◌≡◌, None, Some, ℕ, ◌∷◌, [], ◌∙◌, ap, sym, subst, refl}
use Rattle.rcu_board.specs.Roles.{MayClaim, cpu_of_role}
use Rattle.rcu_board.specs.Seats.{AtBoard, view}
use Rattle.rcu_board.specs.Words.{turns_word}
use Rattle.rcu_board.specs.declared.board.Board.{Board}
use Rattle.rcu_part_lists.specs.Helds.{drawn_by, taken_by}
use Rattle.rcu_part_hand.proofs.HandBegins.{hand_finished, hand_sound_finished}
use Rattle.rcu_part_hand.proofs.InPlace.{some_is}
use Rattle.rcu_part_steps.specs.Begins.{claim_that_runs, record_with}
use Rattle.rcu_part_steps.specs.Changes.{StepsOnly}
use Rattle.rcu_part_steps.specs.declared.begins.ClaimedCallback.{ClaimedCallback}
use Rattle.rcu_part_hand.proofs.in_place.HandInPlace.finish.Goals as goal

pub end_claim-requires : goal.end_claim-requires
end_claim-requires g c = let s = c.args.self.now.state in let l = s.runs c.in-Some.claimed c.in-Some.is in record {
  board = subst (λ (b : Board). AtBoard b s.hand.seat) (sym c.deref.ensures) s.hand.here;
  who = subst MayClaim (sym s.hand.role) tt;
  runs = record { claim = claim_that_runs s.hand.cpu c.in-Some.claimed; alone = l.lawful.runs; cpu = sym (ap cpu_of_role s.hand.role); small = l.small };
}

pub add-requires : goal.add-requires
add-requires g c = record { room = (c.args.self.now.state.runs c.in-Some.claimed c.in-Some.is).room }

pub invariant_of-hand : goal.invariant_of-hand
invariant_of-hand g c = let s = c.args.self.now.state.hand in let e = c.end_claim.ensures in record { here = e.same.table ∙ s.here; role = e.same.role ∙ s.role }

pub invariant_of-state : goal.invariant_of-state
invariant_of-state g c = let added = rw c.record.ensures at c.add.ensures.added in let s = c.args.self.now.state in let e = c.end_claim.ensures in record {
  rests = λ r. hand_finished s.hand.cpu c.in-Some.claimed c.args.receipt (view s.hand.seat) (view c.end_claim.new.seat) s.hand.ran.all.items c.add.new.self.all.items (taken_by s.hand.held) e.ends (all_as _ _ added)
      (s.runs c.in-Some.claimed c.in-Some.is).lawful;
  runs = λ k f. (let x : None ≡ Some k = f in cc);
}

pub returns-clause-finishes : goal.returns-clause-finishes
returns-clause-finishes g c = let added = rw c.record.ensures at c.add.ensures.added in λ k e. let s = c.args.self.now.state in (
  refl,
  record { part = record { board = refl; seat = c.end_claim.ensures.same }; lane = refl; cpu = refl; blimit = refl; kept = kept_as _ _ added },
  record {
    records = added ∙ ap (λ (x : ClaimedCallback). and_ran (record_with c.args.receipt x ∷ []) (recorded s.hand.ran)) (some_is c.in-Some.claimed k (sym c.in-Some.is ∙ e));
    held = refl;
    ends = c.end_claim.ensures.ends;
    steps = subst (λ (p : ℕ). StepsOnly (turns_word p) 1 (view s.hand.seat) (view c.end_claim.new.seat)) (ap cpu_of_role s.hand.role) c.end_claim.ensures.only;
  },
)

pub returns-clause-sound : goal.returns-clause-sound
returns-clause-sound g c = let added = rw c.record.ensures at c.add.ensures.added in λ given sound. let s = c.args.self.now.state in
    hand_sound_finished g.J.Job.key_of g.J.Job.gives (drawn_by s.hand.held) c.in-Some.claimed c.args.receipt s.hand.ran.all.items c.add.new.self.all.items (all_as _ _ added) sound (given c.in-Some.claimed c.in-Some.is)
