-- A boxed part may go to another thread, and so may its pointer.
use mir.Raw.{raw}
use base.Shift.{Keyless}
use denote.Memory.{lone}
use denote.RawPtr.{Ptr}
use denote.Param.Send.{IsSend, owning_send, sendable}
use Rattle.std.specs.declared.alloc.Global.{Global}
use Rattle.std.specs.declared.option.Option.{Option}
use Rattle.std.specs.declared.option.Option.TheVariants.{None, Some}
use Rattle.std.proofs.Crossing.{frees}
use Rattle.std.proofs.alloc.Global.TheSendSync as heap
use Rattle.std_alloc.proofs.SendSync.{lies}
use Rattle.rcu_c_slots.specs.Holding.{holds}
use Rattle.rcu_c_slots.specs.contracts.part.Lent as part
use Rattle.rcu_c_slots.specs.contracts.slot.LoosePart.{the_row, the_type}
use Rattle.rcu_c_slots.specs.declared.part.Lent.{Lent}
use Rattle.rcu_c_slots.proofs.part.Lent.TheSendSync.{the_send as part_send}

holds_keyless : (a : Global) (p : Ptr) (w : Option Lent) → Keyless (holds a p w)
holds_keyless a p None = tt
holds_keyless a p (Some x) = (lies part.the_row part_send p x, frees.frees a (raw (lone part.the_row.mir)) p)

pub send : IsSend the_row
send = owning_send the_type (search sendable, (heap.the_field_send, tt)) (λ d. holds_keyless d.alloc d.at d.value) (λ k x w. tt)
