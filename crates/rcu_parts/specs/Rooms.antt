-- Room that `close` finds before anything moves: docs/specification/surface.md, "After want of memory".
use Rattle.std.specs.Prelude.{◌≡◌, ℕ, ◌+◌, ◌≤◌, List, [], length, map, vec_capacity}
use Rattle.std.specs.List.{AllZip}
use Rattle.rcu_board.specs.Seats.{reports_of}
use Rattle.rcu_part_close.specs.Ends.{HasRoom}
use Rattle.rcu_part_close.specs.declared.ended.ProcessorEnd.{ProcessorEnd}
use Rattle.rcu_part_close.specs.Parts.{CpuPart, hand_kept, hand_taken}
use Rattle.rcu_part_lists.specs.ProcessorLists.{held_in, put_by}
use Rattle.rcu_parts.specs.AtClose.{cpu_parts}
use Rattle.rcu_part_hand.specs.declared.hand.Hand.{Hand}
use Rattle.rcu_part_processor.specs.Processors.{view_of}
use Rattle.rcu_part_processor.specs.declared.processor.Processor.{Processor}
use Rattle.rcu_parts.specs.declared.room.Reserved.{Reserved}

module _ {J R : Type 0} where
  -- nothing is there yet, and there is room for a processor's records that are left, its hand's, and the jobs that are handed back
  pub record FitsCpu (c : CpuPart J R) (room : ProcessorEnd J R) : Type 0 where
    pub jobs : ℕ
    pub empty : HasRoom (length c.kept + length (hand_kept c.hand)) jobs room
    pub enough : length (put_by c.lists) + length (held_in c.lists) ≤ length (hand_taken c.hand) + jobs

  -- the same for all processors, the members of all groups, and the lists that are answered
  pub record FitsAll (ps : List (Processor J R)) (hs : List (Hand J R)) (room : Reserved J R) : Type 0 where
    pub ends : AllZip FitsCpu (cpu_parts ps hs) room.ends.items
    pub no_member : room.members.items ≡ []
    pub members : length hs ≤ vec_capacity room.members
    pub no_ran : room.ran.items ≡ []
    pub ran : length ps ≤ vec_capacity room.ran
    pub no_back : room.back.items ≡ []
    pub back : length ps ≤ vec_capacity room.back
    -- how many grace periods each passed
    pub reports : room.reports.items ≡ map (λ p. reports_of (view_of p.state)) ps
