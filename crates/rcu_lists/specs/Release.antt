-- When a bypass list is released: docs/specification/rules.md, "Bypass lists". The pace is what a list remembers
-- beside its callbacks.
use Rattle.std.specs.Prelude.{ℕ, ◌+◌, Bool, true, false, not, ◌&&◌, ◌||◌, ◌==◌, nat_lt, nat_le, if◌then◌else◌, Option, Some, None, is_some, List, [], ◌∷◌}
use Rattle.rcu_lists.specs.declared.pace.Kind.{Kind}
use Rattle.rcu_lists.specs.declared.pace.Kind.TheVariants.{Plain, Lazy}
use Rattle.rcu_lists.specs.declared.pace.Pace.{Pace}

-- so many plain callbacks of one moment are released one by one
abbrev pub most_direct : ℕ
most_direct = 16

-- so many moments a list of lazy callbacks alone waits
abbrev pub lazy_moments : ℕ
lazy_moments = 10

-- the last moment is this one
abbrev pub is_at : ℕ → Option ℕ → Bool
is_at moment None = false
is_at moment (Some last) = last == moment

-- the first lazy callback, if there is one, has waited long enough, or its moment is yet to come
abbrev pub is_ripe : ℕ → Option ℕ → Bool
is_ripe moment None = false
is_ripe moment (Some first) = nat_le (first + lazy_moments) moment || nat_lt moment first

-- the pace of a list that was never used
abbrev pub beginning : Pace
beginning = record { last = None; direct = 0; plain = false; lazy = None }

-- the pace of a list that is empty again
abbrev pub emptied : Pace → Pace
emptied pace = record pace { plain = false; lazy = None }

-- the kept moment once there is a lazy callback of this moment
abbrev pub kept_moment : ℕ → Option ℕ → Option ℕ
kept_moment moment None = Some moment
kept_moment moment (Some first) = Some first

-- a plain callback is released alone: the list, with it, has this length
abbrev pub is_alone : Pace → ℕ → Bool
is_alone pace len = (len == 1) && nat_lt pace.direct most_direct

-- Whether a list is due to be released that has this length with the new callback. For a plain one: "new moment", "after
-- a lazy one", "alone", "high mark". For a lazy one: "high mark".
abbrev pub is_due : ℕ → Kind → Pace → ℕ → ℕ → Bool
is_due moment Plain pace len qhimark = not (is_at moment pace.last) || (is_some pace.lazy || (is_alone pace len || nat_le qhimark len))
is_due moment Lazy pace len qhimark = nat_le qhimark len

-- the pace once a callback is in the list, whether or not that is due to be released
abbrev pub held : ℕ → Kind → Pace → ℕ → Pace
held moment Plain pace len =
    if not (is_at moment pace.last) then record pace { last = Some moment; direct = 1; plain = true }
    else if is_some pace.lazy then record pace { plain = true }
    else if is_alone pace len then record pace { direct = pace.direct + 1; plain = true }
    else record pace { plain = true }
held moment Lazy pace len = record pace { lazy = kept_moment moment pace.lazy }

-- whether a list is released at once as it takes a callback on, and the pace afterwards
abbrev pub placed : ℕ → Kind → Pace → ℕ → ℕ → Bool × Pace
placed moment kind pace len qhimark =
    if is_due moment kind pace len qhimark then (true, emptied (held moment kind pace len)) else (false, held moment kind pace len)

-- whether a tick releases a list because of its moment
abbrev pub is_late : ℕ → Pace → Bool
is_late moment pace = if pace.plain then not (is_at moment pace.last) else is_ripe moment pace.lazy

-- the pace once a tick's moment is the last one
abbrev pub restarted : ℕ → Pace → Pace
restarted moment pace = record pace { last = Some moment; direct = 0 }

-- the pace after a tick's test by its moment
abbrev pub ticked : ℕ → Pace → Pace
ticked moment pace = if is_late moment pace then restarted moment pace else pace

abbrev pub is_any : {X : Type 0} → List X → Bool
is_any [] = false
is_any (x ∷ xs) = true

-- the pace of an empty list once these are put into it, as plain ones
abbrev pub refilled : {X : Type 0} → List X → Pace → Pace
refilled xs pace = record pace { plain = is_any xs; lazy = None }

-- the pace of a list once these are added to it, as plain ones
abbrev pub joined_plain : {X : Type 0} → List X → Pace → Pace
joined_plain xs pace = record pace { plain = is_any xs || pace.plain }
