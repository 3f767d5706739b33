use Rattle.std.proofs.Common.{◌≡◌}
use Rattle.rcu_lanes.specs.Ends.{SameFront}
use Rattle.rcu_part_lists.specs.MemberLists.{relay, front_of, rear_of, TakesIn}
use Rattle.rcu_part_lists.proofs.member_lists.MemberLists.take_in.Given as goal

abbrev pub invariant-loop-drawing : goal.invariant-loop-drawing
invariant-loop-drawing g l = record {
  front : SameFront (front_of l.fn.self) (front_of l.self);
  rear : rear_of l.self ≡ rear_of l.fn.self;
  advanced : (relay l.self).advanced ≡ (relay l.fn.self).advanced;
  takes : TakesIn l.drawing l.took (relay l.fn.self) (relay l.self);
}
