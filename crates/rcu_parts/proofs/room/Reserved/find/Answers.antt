use Rattle.rcu_lists.proofs.Outcomes.{if_ok_never}
use Rattle.rcu_parts.proofs.Passing.{room_of}
use Rattle.rcu_parts.proofs.room.Reserved.find.Goals as goal

pub returns-in_err-find_ends : goal.returns-in_err-find_ends
returns-in_err-find_ends g c = if_ok_never _ _ c.from_residual.ensures

pub returns-in_err-with_capacity : goal.returns-in_err-with_capacity
returns-in_err-with_capacity g c = if_ok_never _ _ c.from_residual-in_err-with_capacity.ensures

pub returns-in_err-with_capacity-2 : goal.returns-in_err-with_capacity-2
returns-in_err-with_capacity-2 g c = if_ok_never _ _ c.from_residual-in_err-with_capacity-2.ensures

pub returns-in_err-count_reports : goal.returns-in_err-count_reports
returns-in_err-count_reports g c = if_ok_never _ _ c.from_residual-in_err-count_reports.ensures

pub returns-in_err-with_capacity-3 : goal.returns-in_err-with_capacity-3
returns-in_err-with_capacity-3 g c = if_ok_never _ _ c.from_residual-in_err-with_capacity-3.ensures

pub find_ends-requires : goal.find_ends-requires
find_ends-requires g c = assumption

pub returns : goal.returns
returns g c = let n = c.args.processors.now.ok.0 in record {
  ends = c.in_ok-find_ends.ensures;
  no_member = c.in_ok-with_capacity-3.ensures.items;
  members = room_of _ _ _ _ c.len.ensures c.args.hands.now.ok.0 c.in_ok-with_capacity-3.ensures.capacity;
  no_ran = c.in_ok-with_capacity.ensures.items;
  ran = room_of _ _ _ _ c.len-n.ensures n c.in_ok-with_capacity.ensures.capacity;
  no_back = c.in_ok-with_capacity-2.ensures.items;
  back = room_of _ _ _ _ c.len-n.ensures n c.in_ok-with_capacity-2.ensures.capacity;
  reports = c.in_ok-count_reports.ensures;
}

pub count_reports-requires : goal.count_reports-requires
count_reports-requires g c = assumption
