-- What a pointer to a boxed part owns, or nothing.
use base.Fml.{Fml, ftrue}
use denote.RawPtr.{Ptr}
use Rattle.std.specs.declared.option.Option.{Option}
use Rattle.std.specs.declared.option.Option.TheVariants.{None, Some}
use Rattle.std.specs.declared.alloc.Global.{Global}
use Rattle.std.specs.contracts.impls.GlobalAllocator.TheImpl.{ghosts}
use Rattle.std.specs.Box.Ownership.{box_owns}
use Rattle.rcu_c_slots.specs.declared.part.Lent.{Lent}
use Rattle.rcu_c_slots.specs.contracts.part.Lent.{the_row}

abbrev pub holds : Global → Ptr → Option Lent → Fml
holds a p None = ftrue
holds a p (Some x) = box_owns (ghosts.dealloc_token a) the_row p x
