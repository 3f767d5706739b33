-- What is said of a whole runtime, in the words of its parts: docs/embedding.md.
use Rattle.std.specs.Prelude.{◌≡◌, ℕ, ◌<◌, ◌≤◌, sum_by, All}
use Rattle.rcu_board.specs.Seats.{SawShut}
use Rattle.rcu_part_control.specs.Parts.{control_view}
use Rattle.rcu_jobs.specs.declared.Counts.{Counts}
use Rattle.rcu_parts.specs.AtClose.{KeepWhole}
use Rattle.rcu_parts.specs.Drained as at_close
use Rattle.rcu_parts.specs.Drained.{IsCountedFor}
use Rattle.rcu_parts.specs.OneOpen.{AreOfOneOpen, AreSoundParts, Parts, parts_board, processors_in}
use Rattle.rcu_parts.specs.SameParts.{AreSameParts}

module _ {J R : Type 0} where
  -- how many callbacks its processors have accepted
  abbrev pub accepted_in : Parts J R → ℕ
  accepted_in parts = sum_by (λ p. p.state.accepted) (processors_in parts)

  -- It accepts nothing more, and all that it accepted has run: every processor was shut, and then a barrier passed that counts
  -- all that they had accepted.
  abbrev pub IsDrained : Parts J R → Type 0
  IsDrained parts = (counts : Counts) × at_close.IsDrained counts parts

  -- Control saw every processor shut, with no more accepted than a barrier of these counts waits for.
  pub record IsShutFor (counts : Counts) (parts : Parts J R) : Type 0 where
    pub many : counts.n ≡ (parts_board parts).processors
    pub counted : (p : ℕ) → p < counts.n → IsCountedFor p counts (control_view parts.control)

  -- Control saw every processor shut, so no call is accepted any more.
  abbrev pub IsShut : Parts J R → Type 0
  IsShut parts = (p : ℕ) → p < (parts_board parts).processors → SawShut p (control_view parts.control)

  -- The same runtime, later: each part is the same part of the same open, nothing that was accepted is forgotten, and once it is
  -- drained it stays so.
  pub record Continues (old new : Parts J R) : Type 0 where
    pub same : AreSameParts old new
    pub accepted : accepted_in old ≤ accepted_in new
    pub drained : IsDrained old → IsDrained new

  -- What a runtime's `close` rests on: the parts are those of one open, know of their jobs what they should, and keep every record.
  pub record CanClose (key_of : J → ℕ) (gives : ℕ → R → Type 0) (parts : Parts J R) : Type 0 where
    pub one : AreOfOneOpen parts
    pub sound : AreSoundParts key_of gives parts
    pub keep : KeepWhole parts

  -- What a runtime keeps at any time: it can be closed, and each of its processors accepts so many callbacks at most.
  pub record IsWhole (key_of : J → ℕ) (gives : ℕ → R → Type 0) (limit : ℕ) (parts : Parts J R) : Type 0 where
    pub close : CanClose key_of gives parts
    pub limits : All (λ p. p.state.limit ≡ limit) (processors_in parts)
