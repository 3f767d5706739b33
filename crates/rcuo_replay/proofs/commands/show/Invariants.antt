use Rattle.std.proofs.Common.{ℕ, List, take}
use Rattle.std.specs.Io.KnownBytes.{Appends}
use Rattle.rcuo_replay.specs.Outcomes.{ShowsFrom}
use Rattle.rcuo_replay.proofs.commands.show.Given as goal

abbrev pub invariant-loop-cpu : goal.invariant-loop-cpu
invariant-loop-cpu g l = (text : List ℕ) × ShowsFrom 0 (take l.cpu l.processors.items) l.groups.items text × Appends (g.W.Write.contents l.fn.writer) (g.W.Write.contents l.writer) text
