-- Grace-period numbers: docs/specification/definitions.md, "The law", "Numbers".
use Rattle.std.specs.Prelude.{◌≡◌, ℕ, ◌+◌, ◌*◌, ◌/◌, ◌%◌, ◌<◌, ◌≤◌}

-- 4k: no grace period is in progress
abbrev pub IsIdle : ℕ → Type 0
IsIdle s = s % 4 ≡ 0

-- 4k + 1: a grace period is in progress
abbrev pub IsInProgress : ℕ → Type 0
IsInProgress s = s % 4 ≡ 1

-- Some grace period j begins after s, and has ended at w: s < 4j + 1 < w.
abbrev pub HasGracePeriod : ℕ → ℕ → Type 0
HasGracePeriod s w = (j : ℕ) × (s < 4 * j + 1) × (4 * j + 1 < w)

-- w is the least idle number at which a grace period that begins after s has ended
pub record IsSnap (s w : ℕ) : Type 0 where
  pub idle : IsIdle w
  pub graced : HasGracePeriod s w
  pub least : (m : ℕ) → HasGracePeriod s (4 * m) → w ≤ 4 * m

-- that number, computed: 4k gives 4k + 4, and 4k + 1 gives 4k + 8
abbrev pub snap_of : ℕ → ℕ
snap_of s = (s + 7) / 4 * 4
