-- What a call on a slot does: it reaches the part there, or the slot is empty.
use Rattle.std.specs.Prelude.{◌≡◌, Result, Some, None}
use Rattle.std.specs.declared.result.Result.TheVariants.{Err}
use Rattle.std.proofs.Common.{◌⊎◌}
use Rattle.rcu_c_slots.specs.declared.fault.Fault.{Fault}
use Rattle.rcu_c_slots.specs.declared.fault.Fault.TheVariants.{Empty}
use Rattle.rcu_c_slots.specs.declared.part.Lent.{Lent}
use Rattle.rcu_c_slots.specs.declared.part.Part.{Part}
use Rattle.rcu_c_slots.specs.declared.slot.Slot.{Slot}

-- The slot had a part, of which a call made the one that it has, of the same open and at the same place. As many read sections
-- are open as were.
pub record Reaches (Does : Part → Part → Type 0) (old new : Slot) : Type 0 where
  pub before : Lent
  pub after : Lent
  pub old_is : old.held.part.value ≡ Some before
  pub new_is : new.held.part.value ≡ Some after
  pub opening : after.opening ≡ before.opening
  pub place : after.at ≡ before.at
  pub does : Does before.part after.part
  pub reading : new.reading ≡ old.reading

module _ {A : Type 0} where
  -- The slot was empty and is.
  pub record FindsNone (result : Result A Fault) (old new : Slot) : Type 0 where
    pub none : old.held.part.value ≡ None
    pub stays : new.held.part.value ≡ None
    pub named : result ≡ Err Empty
    pub reading : new.reading ≡ old.reading

  abbrev pub OnSlot : (Result A Fault → Part → Part → Type 0) → Result A Fault → Slot → Slot → Type 0
  OnSlot By result old new = Reaches (By result) old new ⊎ FindsNone result old new
