use Rattle.std.proofs.Common.{◌≡◌}
use Rattle.rcu_c_slots.specs.Gathers.{AreUnread, held_in, sections_in}
use Rattle.rcu_c_slots.proofs.Helds.{IsCheckedTo}
use Rattle.rcu_c_slots.proofs.Unread.{IsUnreadTo}
use Rattle.rcu_c_slots.proofs.checks.check_each.Given as goal

abbrev pub invariant-loop-place : goal.invariant-loop-place
invariant-loop-place l = IsCheckedTo l.fn.opening l.fn.kind l.place l.found (held_in l.fn.slots) (held_in l.slots) × (AreUnread l.fn.slots → AreUnread l.slots) × IsUnreadTo l.place l.fn.slots l.slots
    × (sections_in l.slots ≡ sections_in l.fn.slots)
