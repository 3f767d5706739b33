-- The members of a group, as its loops see them. docs/specification/rules.md, "Groups"
use Rattle.std.specs.Prelude.{ℕ, ◌+◌, Bool, true, false, List, [], ◌∷◌, length, ◌||◌, ◌&&◌, ◌==◌, ◌/◌, ◌<◌, ◌≤◌, slice_index_or, if◌then◌else◌}
use Rattle.rcu_world_law.specs.States.{Cpu, empty_cpu}
use Rattle.rcu_world_law.specs.Steps.{group_looks}
use Rattle.rcu_world_law.specs.Lists.{needed_with}
use Rattle.rcu_world_law.specs.LabelledLists.{Labelled, MayAccelerate, advance, newest}
use Rattle.rcu_numbers.specs.Numbers.{snap_of}
use Rattle.rcu_numbers.specs.declared.sequence.TheConstants.{GREATEST_NUMBER}
use Rattle.rcu_world_processor.specs.Members.{forgets}

-- whether processor p is a member of group g
abbrev pub is_in_group : List Bool → ℕ → ℕ → ℕ → Bool
is_in_group offloadable stride g p = slice_index_or offloadable p false && (p / stride == g)

abbrev pub is_any : Cpu → Bool
is_any c = true

-- some member, of the processors from p on, meets the test
abbrev pub any_in_group : List Bool → ℕ → ℕ → (Cpu → Bool) → ℕ → List Cpu → Bool
any_in_group offloadable stride g test p [] = false
any_in_group offloadable stride g test p (c ∷ cs) = (is_in_group offloadable stride g p && test c) || any_in_group offloadable stride g test (p + 1) cs

-- the greatest of d and what is wanted for the members
abbrev pub most_in_group : List Bool → ℕ → ℕ → ℕ → ℕ → List Cpu → ℕ
most_in_group offloadable stride g d p [] = d
most_in_group offloadable stride g d p (c ∷ cs) = most_in_group offloadable stride g (if is_in_group offloadable stride g p then needed_with d c.group_wanted else d) (p + 1) cs

-- the part of LookGroup at one processor
abbrev pub group_step : List Bool → ℕ → ℕ → ℕ → ℕ → Cpu → Cpu
group_step offloadable stride g number p c = if is_in_group offloadable stride g p then group_looks number c else c

-- what is wanted for the members is asked for
abbrev pub forget_step : List Bool → ℕ → ℕ → ℕ → Cpu → Cpu
forget_step offloadable stride g p c = if is_in_group offloadable stride g p then forgets c else c

-- a barrier urges each
abbrev pub urge_step : ℕ → Cpu → Cpu
urge_step p c = record c { urged = true }

-- what a look at a list asks (docs/specification/rules.md, "Callback lists"): no number is too great, and `accelerate` may be called
pub record IsLookable (number : ℕ) (ws : List Labelled) : Type 0 where
  pub small : newest number (advance number ws) ≤ GREATEST_NUMBER
  pub may : MayAccelerate (snap_of (newest number (advance number ws))) (advance number ws)

-- the group's list for each processor may be looked at
abbrev pub AreLookable : ℕ → List Cpu → Type 0
AreLookable number cs = (p : ℕ) → p < length cs → IsLookable number (slice_index_or cs p empty_cpu).joined
