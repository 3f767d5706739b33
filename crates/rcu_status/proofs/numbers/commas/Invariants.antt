use Rattle.std.proofs.Common.{◌≡◌, ◌++◌, drop, string_bytes}
use Rattle.rcu_status.specs.Commas.{after_commas, with_commas}
use Rattle.rcu_status.proofs.numbers.commas.Given as goal

abbrev pub invariant-loop-number : goal.invariant-loop-number
invariant-loop-number l = string_bytes l.text ++ after_commas (drop l.number-index l.others) ≡ with_commas l.fn.numbers
