-- What the law says of grace-period numbers beyond rcu_numbers, which has their formulas
-- (`docs/specification/rules.md`, "Grace-period numbers").
use Rattle.std.specs.Prelude.{ℕ, ◌+◌, ◌/◌}

-- how many grace periods have begun at a number
abbrev pub begun : ℕ → ℕ
begun s = (s + 3) / 4
