-- When a runtime is drained: docs/specification/promises.md, "Headline on the running parts", shut, barrier and close.
use Rattle.std.specs.Prelude.{◌≡◌, ℕ, ◌/◌, ◌<◌, ◌≤◌, List, [], ◌∷◌, map, All}
use Rattle.std.specs.List.{Any}
use Rattle.rcu_board.specs.Seats.{SawShut}
use Rattle.rcu_board.specs.Views.{seen_at}
use Rattle.rcu_board.specs.Words.{accepts_word}
use Rattle.rcu_board.specs.declared.view.View.{View}
use Rattle.rcu_part_control.specs.Barriers.{IsOver, count_at}
use Rattle.rcu_part_control.specs.Parts.{control_view}
use Rattle.rcu_jobs.specs.declared.Counts.{Counts}
use Rattle.rcu_jobs.specs.declared.answers.Closed.{Closed}
use Rattle.rcu_parts.specs.OneOpen.{Parts, parts_board, processors_in}
use Rattle.rcu_part_processor.specs.Processors.{view_of}

-- the view saw processor p shut, with no more accepted than a barrier of these counts waits for
abbrev pub IsCountedFor : ℕ → Counts → View → Type 0
IsCountedFor p counts v = SawShut p v × (seen_at v (accepts_word p) / 2 ≤ count_at counts p)

module _ {J R : Type 0} where
  -- what those parts know that open barriers and poll them: control and the processors
  abbrev pub polling_views : Parts J R → List View
  polling_views parts = control_view parts.control ∷ map (λ p. view_of p.state) (processors_in parts)

  -- Every processor was shut, and a barrier passed that counts all that they had accepted then: each is what some part saw.
  pub record IsDrained (counts : Counts) (parts : Parts J R) : Type 0 where
    pub many : counts.n ≡ (parts_board parts).processors
    pub counted : (p : ℕ) → p < counts.n → Any (IsCountedFor p counts) (polling_views parts)
    pub passed : Any (IsOver counts) (polling_views parts)

  -- no job is handed back
  abbrev pub HasNoneBack : Closed J R → Type 0
  HasNoneBack closed = All (λ jobs. jobs.items ≡ []) closed.back.items
