use Rattle.std.proofs.Common.{ℕ, ap, slice_index_or, arith}
use Rattle.std.proofs.lemmas.Bool.{leb-true}
use Rattle.rcu_runtime.proofs.Outcomes.{untrue}
use Rattle.rcu_runtime.proofs.until_passed.counts_own.Goals as goal

pub returns : goal.returns
returns g c = λ yes.
    let counts = c.args.counts.now.counts in
    let few = leb-true c.accepted.result (slice_index_or counts c.cpu-cpu.result 0) yes in
    let at = ap (λ (k : ℕ). slice_index_or counts k 0) c.cpu-cpu.ensures in
    omega (arith, few, at, c.accepted.ensures)

pub cpu-cpu-requires-send-J : goal.cpu-cpu-requires-send-J
cpu-cpu-requires-send-J g c κs within = c.type_bounds.send-J

pub cpu-cpu-requires-send-J-Receipt : goal.cpu-cpu-requires-send-J-Receipt
cpu-cpu-requires-send-J-Receipt g c κs within = c.type_bounds.send-J-Receipt

pub cpu-cpu-requires-after_bounds : goal.cpu-cpu-requires-after_bounds
cpu-cpu-requires-after_bounds g c κs within = assumption

pub returns-then-cpu-counts : goal.returns-then-cpu-counts
returns-then-cpu-counts g c = untrue

pub bounds-counts-cpu : goal.bounds-counts-cpu
bounds-counts-cpu g c = omega (arith, c.args.counts.now.fits, c.if-cpu-counts.false)

pub accepted-requires-send-J : goal.accepted-requires-send-J
accepted-requires-send-J g c κs within = c.type_bounds.send-J

pub accepted-requires-send-J-Receipt : goal.accepted-requires-send-J-Receipt
accepted-requires-send-J-Receipt g c κs within = c.type_bounds.send-J-Receipt

pub accepted-requires-after_bounds : goal.accepted-requires-after_bounds
accepted-requires-after_bounds g c κs within = assumption

pub offset_bounds-counts-cpu : goal.offset_bounds-counts-cpu
offset_bounds-counts-cpu g c = record { fits = omega (arith, c.args.counts.now.fits, c.if-cpu-counts.false) }
