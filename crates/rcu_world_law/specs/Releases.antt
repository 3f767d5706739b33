-- When a bypass list is released, and what it remembers (`docs/specification/rules.md`, "Bypass lists";
-- `docs/specification/definitions.md`, "Release").
use Rattle.std.specs.Prelude.{ℕ, ◌+◌, Bool, true, false, ◌&&◌, ◌||◌, ◌==◌, not, nat_le, nat_lt, if◌then◌else◌, length, Option, Some, None}
use Rattle.rcu_world_law.specs.Lists.{is_none, is_nil}
use Rattle.rcu_jobs.specs.Modes.{is_offloaded}
use Rattle.rcu_world_law.specs.States.{Cpu}

-- the moment handed in differs from the last one, or there is none
abbrev pub differs : Option ℕ → ℕ → Bool
differs None m = true
differs (Some n) m = not (n == m)

-- the moment is at least ten above the kept one, or below it
abbrev pub is_ripe : ℕ → Option ℕ → Bool
is_ripe m None = false
is_ripe m (Some kept) = nat_le (kept + 10) m || nat_lt m kept

-- A placed callback releases the list. `length` is that of the list with the callback in it, `held_lazy` says whether
-- the list held a lazy callback before.
-- A plain one: new moment; after a lazy one; alone; high mark. A lazy one: high mark
abbrev pub call_releases : (is_lazy : Bool) (moment : ℕ) (last : Option ℕ) (direct length : ℕ) (held_lazy : Bool) (qhimark : ℕ) → Bool
call_releases true moment last direct length held_lazy qhimark = nat_le qhimark length
call_releases false moment last direct length held_lazy qhimark =
    differs last moment || (held_lazy || (((length == 1) && nat_lt direct 16) || nat_le qhimark length))

-- A tick's test by its moment. An empty list: no. One that holds a plain callback: where the moment is new. One of lazy
-- callbacks alone: where the kept moment is ripe
abbrev pub is_late : (moment : ℕ) (last : Option ℕ) (is_empty holds_plain : Bool) (kept : Option ℕ) → Bool
is_late moment last true holds_plain kept = false
is_late moment last false true kept = differs last moment
is_late moment last false false kept = is_ripe moment kept

-- The causes of a flush by a tick of a list that isn't empty: the test by the moment, being asked to leave offloading,
-- being urged
abbrev pub tick_releases : (is_empty late asked urged : Bool) → Bool
tick_releases is_empty late asked urged = not is_empty && (late || (not asked || urged))

-- The same of a processor.

-- whether a callback that is placed in its bypass list releases it
abbrev pub releases : ℕ → Bool → ℕ → Cpu → Bool
releases qhimark lazy m c = call_releases lazy m c.moment c.direct (length c.bypass + 1) (not (is_none c.kept_moment)) qhimark

abbrev pub late : ℕ → Cpu → Bool
late m c = is_late m c.moment (is_nil c.bypass) c.plain c.kept_moment

-- whether a tick releases it; `urged` says whether the tick found its urge bit set
abbrev pub releases_in_tick : Bool → ℕ → Cpu → Bool
releases_in_tick urged m c = is_offloaded c.mode && tick_releases (is_nil c.bypass) (late m c) c.asked urged

-- the moment that such a tick puts the list with: given where the test by the moment says yes
abbrev pub moment_of_tick : ℕ → Cpu → Option ℕ
moment_of_tick m c = if late m c then Some m else None

-- What a bypass list remembers beside its callbacks: the last moment, the direct count, the kept moment, and whether it
-- holds a plain callback.

pub record Pace : Type 0 where
  pub moment : Option ℕ
  pub direct : ℕ
  pub kept_moment : Option ℕ
  pub plain : Bool

-- after a plain callback was placed, by the first rule that holds: a new moment becomes the last one and the count 1;
-- after a lazy one the count stays; alone the count rises; else it stays
abbrev pub pace_after_plain : ℕ → Cpu → Pace
pace_after_plain m c =
    if differs c.moment m then record { moment = Some m; direct = 1; kept_moment = c.kept_moment; plain = true }
    else if not (is_none c.kept_moment) then record { moment = c.moment; direct = c.direct; kept_moment = c.kept_moment; plain = true }
    else if is_nil c.bypass && nat_lt c.direct 16 then record { moment = c.moment; direct = c.direct + 1; kept_moment = c.kept_moment; plain = true }
    else record { moment = c.moment; direct = c.direct; kept_moment = c.kept_moment; plain = true }

-- after a lazy callback was placed: neither last moment nor count change; the first lazy one's moment is kept
abbrev pub pace_after_lazy : ℕ → Cpu → Pace
pace_after_lazy m c = record { moment = c.moment; direct = c.direct; kept_moment = if is_none c.kept_moment then Some m else c.kept_moment; plain = c.plain }

abbrev pub pace_after_stamp : Bool → ℕ → Cpu → Pace
pace_after_stamp lazy m c = if lazy then pace_after_lazy m c else pace_after_plain m c

-- after the list was put: it holds no lazy callback and has no kept moment; where a tick's moment put it, that is the
-- last moment and the count is 0
abbrev pub pace_after_put : Option ℕ → Cpu → Pace
pace_after_put None c = record { moment = c.moment; direct = c.direct; kept_moment = None; plain = false }
pace_after_put (Some m) c = record { moment = Some m; direct = 0; kept_moment = None; plain = false }
