use Rattle.std.proofs.Common.{◌≡◌, None, Some, List, ◌∙◌, sym, refl, subst}
use Rattle.rcu_board.proofs.Facts.{same_seat}
use Rattle.rcu_board.specs.Seats.{view}
use Rattle.rcu_jobs.specs.declared.callback.Record.{Record}
use Rattle.rcu_part_lists.specs.Helds.{drawn_by, taken_by}
use Rattle.rcu_part_hand.specs.HandLaw.{IsLawfulHand}
use Rattle.rcu_part_hand.proofs.HandRuns.{all_as, hand_sound_kept, kept_as}
use Rattle.rcu_part_hand.proofs.in_place.HandInPlace.take_records.Goals as goal

pub invariant_of-hand : goal.invariant_of-hand
invariant_of-hand g c = let s = c.args.self.now.state.hand in record { here = s.here; role = s.role }

pub invariant_of-self : goal.invariant_of-self
invariant_of-self g c = let s = c.args.self.now.state in record {
  rests = λ r. subst (λ (rs : List (Record g.row.J-Receipt.Denot)). IsLawfulHand s.hand.cpu (view s.hand.seat) rs (taken_by s.hand.held)) (sym (all_as _ _ c.take.ensures.rest)) (s.rests r);
  runs = λ k f. (let x : None ≡ Some k = sym c.requires.rests ∙ f in cc);
}

pub returns-clause-others : goal.returns-clause-others
returns-clause-others g c = λ r. (
  r,
  record { part = record { board = refl; seat = same_seat _ }; lane = refl; cpu = refl; blimit = refl; kept = kept_as _ _ c.take.ensures.rest },
  record { view = refl; held = refl },
)

pub returns-clause-sound : goal.returns-clause-sound
returns-clause-sound g c = let s = c.args.self.now.state in
    hand_sound_kept g.J.Job.key_of g.J.Job.gives (drawn_by s.hand.held) (drawn_by s.hand.held) s.hand.ran.all.items c.take.new.self.all.items refl (all_as _ _ c.take.ensures.rest)

pub returns-clause-taken : goal.returns-clause-taken
returns-clause-taken g c = c.take.ensures.taken

pub returns-clause-records : goal.returns-clause-records
returns-clause-records g c = c.take.ensures.rest
