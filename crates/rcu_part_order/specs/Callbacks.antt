-- Callbacks by their numbers: docs/specification/definitions.md, "Places".
use Rattle.std.specs.Prelude.{◌≡◌, ℕ, List, map, All}
use Rattle.rcu_jobs.specs.declared.callback.Callback.{Callback}
use Rattle.rcu_part_order.specs.Places.{Numbered}

-- a callback without its job
abbrev pub numbered_callback : {J : Type 0} → Callback J → Numbered
numbered_callback c = record { number = c.number; key = c.key; stamp = c.stamp }

abbrev pub numbered_callbacks : {J : Type 0} → List (Callback J) → List Numbered
numbered_callbacks cs = map numbered_callback cs

-- each callback has its job's key
abbrev pub AreKeyed : {J : Type 0} → (J → ℕ) → List (Callback J) → Type 0
AreKeyed key_of cs = All (λ c. key_of c.job ≡ c.key) cs
