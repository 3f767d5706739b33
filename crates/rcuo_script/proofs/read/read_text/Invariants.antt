use Rattle.std.proofs.Common.{◌-◌, ◌≡◌, ◌≤◌, vec_len}
use Rattle.std.specs.Io.KnownBytes.{Consumes}
use Rattle.rcuo_script.proofs.read.read_text.Given as goal

abbrev pub invariant-loop-text : goal.invariant-loop-text
invariant-loop-text g l = record {
  room : vec_len l.buffer ≡ l.piece;
  within : vec_len l.text ≤ l.most;
  taken : Consumes (g.R.Read.remaining l.fn.reader) (g.R.Read.remaining l.reader) l.text.items;
}

abbrev pub decreases-loop-text : goal.decreases-loop-text
decreases-loop-text g l = l.most - vec_len l.text
