-- That slots keep their counts of open read sections.
use Rattle.std.proofs.Common.{◌≡◌, ℕ, List, get_or, set, ◌∙◌}
use Rattle.std.proofs.Math.Seq.{map-set_same}
use Rattle.rcu_c_slots.specs.Gathers.{sections_in}
use Rattle.rcu_c_slots.specs.declared.slot.Slot.{Slot}

-- One slot was exchanged for one with as many; `d` is what reads beyond the end.
pub sections_after : (i : ℕ) (old slots : List Slot) (d after : Slot) → after.reading ≡ (get_or slots i d).reading
    → sections_in slots ≡ sections_in old → sections_in (set slots i after) ≡ sections_in old
sections_after i old slots d after stays same = map-set_same (λ (s : Slot). s.reading) slots i after d stays ∙ same
