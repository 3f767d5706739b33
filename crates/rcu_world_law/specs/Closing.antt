-- What `close` adds to the history: a `Shut(p)` where none was, then `Back(p, key)` for each callback left, by processor
-- and by number (`docs/specification/tables.md`, "Events of the core").
use Rattle.std.specs.Prelude.{ℕ, ◌+◌, if◌then◌else◌, List, [], ◌∷◌, ◌++◌, map}
use Rattle.rcu_world_law.specs.declared.marks.Mark.{Mark}
use Rattle.rcu_world_law.specs.declared.marks.Mark.TheVariants.{Shut, Back}
use Rattle.rcu_world_law.specs.States.{State, Cpu}
use Rattle.rcu_world_law.specs.Places.{remaining_callbacks}

abbrev pub shut_mark : ℕ → Cpu → List Mark
shut_mark p c = if c.shut then [] else Shut p ∷ []

-- of the processors from p on
abbrev pub shut_marks : ℕ → List Cpu → List Mark
shut_marks p [] = []
shut_marks p (c ∷ cs) = shut_mark p c ++ shut_marks (p + 1) cs

abbrev pub back_marks : ℕ → List Cpu → List Mark
back_marks p [] = []
back_marks p (c ∷ cs) = map (λ x. Back p x.key) (remaining_callbacks c) ++ back_marks (p + 1) cs

-- the whole history of a closed core
abbrev pub closing : State → List Mark
closing w = (w.history ++ shut_marks 0 w.cpus) ++ back_marks 0 w.cpus
