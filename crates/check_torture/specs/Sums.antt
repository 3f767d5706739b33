-- Counters that are added up.
use Rattle.std.specs.Prelude.{◌≡◌, ℕ, ◌+◌, ◌-◌, ◌^◌, min}
use Rattle.check_torture.specs.declared.counters.Counters.{Counters}

-- a sum, which stays at the greatest number of 64 bits
abbrev pub sum_up : ℕ → ℕ → ℕ
sum_up a b = min (a + b) (2 ^ 64 - 1)

pub record AddsCalls (old more new : Counters) : Type 0 where
  pub callbacks : new.callbacks ≡ sum_up old.callbacks more.callbacks
  pub lazy : new.lazy ≡ sum_up old.lazy more.lazy
  pub ran : new.ran ≡ sum_up old.ran more.ran
  pub back : new.back ≡ sum_up old.back more.back
  pub refused : new.refused ≡ sum_up old.refused more.refused

pub record AddsSections (old more new : Counters) : Type 0 where
  pub current : new.current ≡ sum_up old.current more.current
  pub removed : new.removed ≡ sum_up old.removed more.removed
  pub freed : new.freed ≡ sum_up old.freed more.freed

pub record AddsOthers (old more new : Counters) : Type 0 where
  pub barriers : new.barriers ≡ sum_up old.barriers more.barriers
  pub tickets : new.tickets ≡ sum_up old.tickets more.tickets
  pub passed : new.passed ≡ sum_up old.passed more.passed
  pub drained : new.drained ≡ sum_up old.drained more.drained
  pub switches : new.switches ≡ sum_up old.switches more.switches
  pub reports : new.reports ≡ sum_up old.reports more.reports
  pub leaves : new.leaves ≡ sum_up old.leaves more.leaves
  pub histories : new.histories ≡ sum_up old.histories more.histories

-- one read section more whose version was in the table at its end, was removed, or was freed
abbrev pub one_current : Counters → Counters
one_current c = record c { current = sum_up c.current 1 }

abbrev pub one_removed : Counters → Counters
one_removed c = record c { removed = sum_up c.removed 1 }

abbrev pub one_freed : Counters → Counters
one_freed c = record c { freed = sum_up c.freed 1 }
