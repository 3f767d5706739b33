-- What a runtime shows of its lists, and what is read of that.
use Rattle.std.specs.Prelude.{ℕ, ◌+◌, ◌%◌, ◌^◌, List, slice_index}
use Rattle.rcu_jobs.specs.declared.modes.Mode.{Mode}
use Rattle.rcu_jobs.specs.declared.modes.Mode.TheVariants.{Offloaded}
use Rattle.rcu_jobs.specs.declared.turns.Lists.{Lists}
use Rattle.rcu_jobs.specs.declared.turns.Lists.TheVariants as lists
use Rattle.check_memory.specs.declared.machine.Cpu.{Cpu}
use Rattle.check_memory.specs.declared.machine.Cpu.TheVariants.{Local, Offloadable}
use Rattle.check_memory.specs.declared.machine.Shown.{Shown}

-- the number of a processor, which is its place too
abbrev pub number_of : Cpu → ℕ
number_of Local = 0
number_of Offloadable = 1

-- the lists of a processor
abbrev pub lists_of : Shown → Cpu → Lists
lists_of shown Local = shown.local
lists_of shown Offloadable = shown.offloadable

-- the mode of a processor
abbrev pub mode_in : Lists → Mode
mode_in (lists.Cpu mode accepted bypass lengths numbers) = mode
mode_in (lists.Folk lengths numbers) = Offloaded

-- how many callbacks stand in a bypass list
abbrev pub bypass_in : Lists → ℕ
bypass_in (lists.Cpu mode accepted bypass lengths numbers) = bypass
bypass_in (lists.Folk lengths numbers) = 0

-- the lengths of done, wait, next-ready and next
abbrev pub lengths_in : Lists → List ℕ
lengths_in (lists.Cpu mode accepted bypass lengths numbers) = lengths
lengths_in (lists.Folk lengths numbers) = lengths

-- how many callbacks are done
abbrev pub done_in : Lists → ℕ
done_in shown = slice_index (lengths_in shown) 0

-- how many callbacks stand in the segments, each sum as a number of 64 bits
abbrev pub length_in : Lists → ℕ
length_in shown =
    (((done_in shown + slice_index (lengths_in shown) 1) % 2 ^ 64 + slice_index (lengths_in shown) 2) % 2 ^ 64
    + slice_index (lengths_in shown) 3) % 2 ^ 64
