-- A list of callbacks that is cut into segments, as a labelled list: docs/specification/rules.md, "Callback lists".
use Rattle.std.specs.Prelude.{ℕ, List, ◌++◌, take, drop}
use Rattle.rcu_jobs.specs.declared.callback.Callback.{Callback}
use Rattle.rcu_lists.specs.Labels.{Done, Numbered, Bare, Labelled, marked}

-- so many are done, so many more wait for the number n, so many more for m, and the rest are bare
abbrev pub cut : {J : Type 0} → ℕ → ℕ → ℕ → ℕ → ℕ → List (Callback J) → List (Labelled J)
cut done wait ready n m cs =
    marked Done (take done cs)
    ++ (marked (Numbered n) (take wait (drop done cs))
    ++ (marked (Numbered m) (take ready (drop wait (drop done cs)))
    ++ marked Bare (drop ready (drop wait (drop done cs)))))
