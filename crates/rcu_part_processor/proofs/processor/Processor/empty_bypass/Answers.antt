use Rattle.std.proofs.lemmas.Bool.{false≢true}
use Rattle.std.proofs.Common.{ap, refl}
use Rattle.std.specs.Mem.{FitsInMemory}
use denote.Param.{param}
use Rattle.rcu_board.specs.Seats.{view}
use Rattle.rcu_board.proofs.Facts.{never_falls_same, same_seat}
use Rattle.rcu_part_lists.specs.ProcessorLists.{holding}
use Rattle.rcu_part_lists.proofs.Sizes.{in_struct}
use Rattle.rcu_part_steps.proofs.Telling.{tells_none}
use Rattle.rcu_part_order.specs.Recorded.{ran_of}
use Rattle.rcu_part_processor.specs.contracts.processor.Processor as row
use Rattle.rcu_part_processor.proofs.Heeding.{shifts_law, shifts_put}
use Rattle.rcu_part_processor.proofs.Leaving.{none_shown, put_local, shown, is_cpu}
use Rattle.rcu_part_processor.proofs.Taking.{sound_moved}
use Rattle.rcu_part_processor.proofs.processor.Processor.empty_bypass.Goals as goal

pub put_bypass-requires : goal.put_bypass-requires
put_bypass-requires g c = let h : FitsInMemory (row.the_row (param 0 g.row.J) (param 1 g.row.J-Receipt)) = assumption in in_struct _ _ _ (in_struct _ _ _ h)

pub lists-requires : goal.lists-requires
lists-requires g c = let h : FitsInMemory (row.the_row (param 0 g.row.J) (param 1 g.row.J-Receipt)) = assumption in in_struct _ _ _ (in_struct _ _ _ h)

pub invariant_of-state : goal.invariant_of-state
invariant_of-state g c = let s = c.args.self.now.state in let r = c.put_bypass.ensures in let h = holding s.lists in let n = holding c.put_bypass.new.self in record {
  here = s.here;
  role = s.role;
  there = s.there;
  bit = s.bit;
  local = put_local h n r.puts s.offloadable s.lists.alone s.local;
  small = s.small;
  since = s.since;
  lawful = shifts_law s.cpu s.accepted 0 (view s.seat) (view s.seat) (ran_of s.ran) h n (tells_none _ _ refl) (never_falls_same 0 (view s.seat)) (shifts_put h n r.puts) r.places s.lawful;
}

pub invariant_of-state-2 : goal.invariant_of-state-2
invariant_of-state-2 g c = let s = c.args.self.now.state in let r = c.put_bypass.ensures in let h = holding s.lists in let n = holding c.put_bypass.new.self in record {
  here = s.here;
  role = s.role;
  there = s.there;
  bit = s.bit;
  local = put_local h n r.puts s.offloadable s.lists.alone s.local;
  small = s.small;
  since = s.since;
  lawful = shifts_law s.cpu s.accepted 0 (view s.seat) (view s.seat) (ran_of s.ran) h n (tells_none _ _ refl) (never_falls_same 0 (view s.seat)) (shifts_put h n r.puts) r.places s.lawful;
}

pub returns-clause-view : goal.returns-clause-view
returns-clause-view g c = refl

pub returns-clause-records : goal.returns-clause-records
returns-clause-records g c = refl

pub returns-clause-empty : goal.returns-clause-empty
returns-clause-empty g c = none_shown c.in-Cpu.bypass (holding c.put_bypass.new.self).outgoing.bypass (ap shown c.in-Cpu.ensures)

pub unreachable-requires : goal.unreachable-requires
unreachable-requires g c = absurd (false≢true (ap is_cpu c.in_default.ensures))

pub unreachable-unreachable : goal.unreachable-unreachable
unreachable-unreachable g c = c.unreachable.result

pub returns-clause-passed : goal.returns-clause-passed
returns-clause-passed g c = refl

pub returns-clause-puts : goal.returns-clause-puts
returns-clause-puts g c = record {
  does = c.put_bypass.ensures.puts;
  same = record { part = record { board = refl; seat = same_seat _ }; lane = c.put_bypass.ensures.lane; cpu = refl; offloadable = refl; limit = refl; blimit = refl; kept = refl };
  count = refl;
  sound = sound_moved g.J.Job.key_of g.J.Job.gives c.args.self.now.state _ c.put_bypass.ensures.places refl;
}
