use Rattle.std.proofs.Common.{refl}
use Rattle.rcu_board.proofs.Facts.{same_seat}
use Rattle.rcu_part_lists.specs.Helds.{drawn_by}
use Rattle.rcu_part_hand.proofs.HandRuns.{all_as, hand_sound_kept, kept_as}
use Rattle.rcu_part_hand.proofs.hand.Hand.take_records.Goals as goal

pub returns-clause-same : goal.returns-clause-same
returns-clause-same g c = record { part = record { board = refl; seat = same_seat _ }; lane = refl; cpu = refl; blimit = refl; kept = kept_as _ _ c.take.ensures.rest }

pub returns-clause-sound : goal.returns-clause-sound
returns-clause-sound g c = let s = c.args.self.now.state in
    hand_sound_kept g.J.Job.key_of g.J.Job.gives (drawn_by s.hand.held) (drawn_by s.hand.held) s.hand.ran.all.items c.take.new.self.all.items refl (all_as _ _ c.take.ensures.rest)

pub returns-clause-taken : goal.returns-clause-taken
returns-clause-taken g c = c.take.ensures.taken

pub returns-clause-records : goal.returns-clause-records
returns-clause-records g c = c.take.ensures.rest

pub returns-clause-others : goal.returns-clause-others
returns-clause-others g c = record { view = refl; held = refl }
