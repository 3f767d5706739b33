use Rattle.rcu_part_hand.proofs.HandRuns.{all_as, kept_as}
use Rattle.std.proofs.Common.{◌∙◌, ℕ, ap, sym, refl, subst}
use Rattle.rcu_board.specs.Roles.{MayClaim, cpu_of_role}
use Rattle.rcu_board.specs.Seats.{AtBoard, view}
use Rattle.rcu_part_lists.specs.Helds.{drawn_by, taken_by}
use Rattle.rcu_board.specs.declared.board.Board.{Board}
use Rattle.rcu_board.specs.Words.{turns_word}
use Rattle.rcu_part_steps.specs.Begins.{claim_that_runs}
use Rattle.rcu_part_steps.specs.Changes.{StepsOnly}
use Rattle.rcu_part_hand.proofs.HandBegins.{hand_finished, hand_sound_finished}
use Rattle.rcu_part_hand.proofs.running_hand.RunningHand.finish.Goals as goal

pub invariant_of-seated : goal.invariant_of-seated
invariant_of-seated g c = let s = c.args.self.state.hand in let e = c.end_claim.ensures in record { here = e.same.table ∙ s.here; role = e.same.role ∙ s.role }

pub invariant_of-result : goal.invariant_of-result
invariant_of-result g c = let added = rw c.record.ensures at c.add.ensures.added in let s = c.args.self.state in let e = c.end_claim.ensures in record {
  lawful = hand_finished s.hand.cpu s.claimed c.args.receipt (view s.hand.seat) (view c.end_claim.new.seat) s.hand.ran.all.items c.add.new.self.all.items (taken_by s.hand.held) e.ends (all_as _ _ added) s.lawful;
}

pub end_claim-requires : goal.end_claim-requires
end_claim-requires g c = let s = c.args.self.state in record {
  board = subst (λ (b : Board). AtBoard b s.hand.seat) (sym c.deref.ensures) s.hand.here;
  who = subst MayClaim (sym s.hand.role) tt;
  runs = record { claim = claim_that_runs s.hand.cpu s.claimed; alone = s.lawful.runs; cpu = sym (ap cpu_of_role s.hand.role); small = s.small };
}

pub add-requires : goal.add-requires
add-requires g c = record { room = c.args.self.state.room }

pub returns-clause-same : goal.returns-clause-same
returns-clause-same g c = let added = rw c.record.ensures at c.add.ensures.added in record { part = record { board = refl; seat = c.end_claim.ensures.same }; lane = refl; cpu = refl; blimit = refl; kept = kept_as _ _ added }

pub returns-clause-finishes : goal.returns-clause-finishes
returns-clause-finishes g c = let added = rw c.record.ensures at c.add.ensures.added in let s = c.args.self.state in record {
  records = added;
  held = refl;
  ends = c.end_claim.ensures.ends;
  steps = subst (λ (p : ℕ). StepsOnly (turns_word p) 1 (view s.hand.seat) (view c.end_claim.new.seat)) (ap cpu_of_role s.hand.role) c.end_claim.ensures.only;
}

pub returns-clause-sound : goal.returns-clause-sound
returns-clause-sound g c = let added = rw c.record.ensures at c.add.ensures.added in λ sound given. let s = c.args.self.state in
    hand_sound_finished g.J.Job.key_of g.J.Job.gives (drawn_by s.hand.held) s.claimed c.args.receipt s.hand.ran.all.items c.add.new.self.all.items (all_as _ _ added) sound given
