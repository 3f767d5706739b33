use Rattle.std.proofs.Common.{◌≡◌, ◌+◌, ◌≤◌, ◌++◌, length, vec_len, vec_capacity}
use Rattle.std.specs.List.{AllZip}
use Rattle.rcuo_replay.specs.Presences.{IsBack, KeepEachBack}
use Rattle.rcuo_replay.proofs.parts.each_back.Given as goal

abbrev pub invariant-loop-processor : goal.invariant-loop-processor
invariant-loop-processor g l = record {
  order : l.yielded ++ l.processor-iterator.rest.items ≡ l.fn.processors.items;
  room : vec_len l.all + length l.processor-iterator.rest.items ≤ vec_capacity l.all;
  back : AllZip IsBack l.yielded l.all.items;
  kept : KeepEachBack g.J.Job.key_of g.J.Job.gives l.yielded l.all.items;
}
