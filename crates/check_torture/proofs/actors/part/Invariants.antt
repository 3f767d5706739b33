use Rattle.std.proofs.Common.{◌≡◌, ◌+◌, ◌≤◌, ◌++◌, length, vec_len, vec_capacity}
use Rattle.std.specs.List.{AllZip}
use Rattle.check_torture.proofs.actors.part.Given as goal

abbrev pub invariant-loop-driven : goal.invariant-loop-driven
invariant-loop-driven l = record {
  order : l.yielded ++ l.driven-iterator.rest.items ≡ l.fn.all.items;
  room : vec_len l.processors + length l.driven-iterator.rest.items ≤ vec_capacity l.processors;
  room_for_logs : vec_len l.logs + length l.driven-iterator.rest.items ≤ vec_capacity l.logs;
  parted : AllZip (λ d p. d.processor ≡ p) l.yielded l.processors.items;
}
