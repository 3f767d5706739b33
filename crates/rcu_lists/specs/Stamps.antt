-- Stamps along a list.
use Rattle.std.specs.Prelude.{ℕ, max, Bool, true, false, nat_le, if◌then◌else◌, List, [], ◌∷◌, Option, Some, None}
use Rattle.rcu_jobs.specs.declared.callback.Callback.{Callback}

abbrev pub greater : ℕ → Option ℕ → ℕ
greater n None = n
greater n (Some m) = max n m

-- the greater of two, if there are two
abbrev pub newer_of : Option ℕ → Option ℕ → Option ℕ
newer_of None o = o
newer_of (Some n) o = Some (greater n o)

module _ {J : Type 0} where
  -- the stamps do not fall, and none is below this one
  abbrev pub stamps_from : ℕ → List (Callback J) → Bool
  stamps_from least [] = true
  stamps_from least (c ∷ cs) = if nat_le least c.stamp then stamps_from c.stamp cs else false

  -- the greatest stamp
  abbrev pub newest_of : List (Callback J) → Option ℕ
  newest_of [] = None
  newest_of (c ∷ cs) = Some (greater c.stamp (newest_of cs))

  -- the last stamp, or this one where there is none
  abbrev pub last_stamp : ℕ → List (Callback J) → ℕ
  last_stamp before [] = before
  last_stamp before (c ∷ cs) = last_stamp c.stamp cs
