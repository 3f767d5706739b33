-- What room is found for a run before anything is started.
use Rattle.std.specs.Prelude.{◌≡◌, ℕ, ◌≤◌, [], vec_capacity}
use Rattle.std.specs.declared.vec.Vec.{Vec}
use Rattle.std.specs.declared.alloc.Global.{Global}
use Rattle.rcu_runtime_threads.specs.declared.pairs.Halves.{Halves}

-- an empty list with room for so many
abbrev pub IsRoomFor : {A : Type 0} → ℕ → Vec A Global → Type 0
IsRoomFor many list = (list.items ≡ []) × (many ≤ vec_capacity list)

-- the same of the lists of processors, workers and ends
pub record AreHalvesFor {P W : Type 0} (many : ℕ) (room : Halves P W) : Type 0 where
  pub processors : IsRoomFor many room.processors
  pub workers : IsRoomFor many room.workers
  pub ends : IsRoomFor many room.ends
