use Rattle.std.proofs.Common.{◌≡◌, ◌+◌, count_by, take}
use Rattle.std.specs.VecDeque.{deque_len}
use Rattle.rcuo_replay.specs.ScriptParts.{KeepsParts}
use Rattle.rcuo_script.specs.Calls.{is_call}
use Rattle.rcuo_replay.specs.Printed.{IsOfParts, Prints}
use Rattle.rcuo_script.proofs.Scripts.{HasPrinted}
use Rattle.rcuo_replay.proofs.script.perform_all.Given as goal

abbrev pub invariant-loop-command : goal.invariant-loop-command
invariant-loop-command g l = record {
  kept : KeepsParts g.J.Job.key_of g.J.Job.gives l.fn.parts l.parts;
  its : IsOfParts l.parts l.opened;
  printed : HasPrinted (Prints g.J.Job.key_of) l.fn.parts l.setup.script.items l.fn.jobs.items (g.W.Write.contents l.fn.writer) l.left.items (g.W.Write.contents l.writer) l.command-index l.parts l.opened;
  jobs : deque_len l.left + count_by is_call (take l.command-index l.setup.script.items) ≡ count_by is_call l.setup.script.items;
}
