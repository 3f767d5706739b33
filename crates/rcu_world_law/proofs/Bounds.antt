-- Room: the bounds that the numbers of the core have, and the condition of `accelerate`.
use Rattle.std.proofs.Common.{◌≡◌, ℕ, ◌<◌, ◌≤◌, length, map, ap, sym, subst, ◌∙◌, arith, get_or, length-append}
use Rattle.std.proofs.lemmas.List.{get_or_default}
use Rattle.rcu_numbers.specs.declared.sequence.TheConstants.{GREATEST_NUMBER}
use Rattle.rcu_world_law.specs.LabelledLists.{advance, newest}
use Rattle.rcu_world_law.specs.Law.{accepted, ran}
use Rattle.rcu_world_law.specs.States.{State, Cpu, empty_cpu, cpu_at}
use Rattle.rcu_world_law.specs.Places.{key_of, remaining_callbacks}
use Rattle.rcu_world_law.specs.Invariant.{IsCore, HasLabelledLists}
use Rattle.rcu_world_law.proofs.Looks.{newest_stamp, own_stamps, joined_stamps, may_accelerate}

-- the room that a turn word has
pub turn_fits : (w : State) (p : ℕ) (c : Cpu) → IsCore w → w.shape.limit ≤ 1000000 → p < length w.cpus → c ≡ get_or w.cpus p c → (c.turn ≤ 2000000) × (c.count ≤ 1000000)
turn_fits w p c k most l e =
    let s : cpu_at w p ≡ c = sym (e ∙ get_or_default w.cpus p c empty_cpu l) in
    let i = k.cpu p l in
    let r : length (ran p w.history) ≤ length (accepted p w.history) = omega (arith, ap length i.placed.keys, length-append (ran p w.history) (map key_of (remaining_callbacks (cpu_at w p)))) in
    let t : (cpu_at w p).turn ≤ 2000000 = omega (arith, i.placed.turn, i.placed.count, i.bounded, most) in
    let u : (cpu_at w p).count ≤ 1000000 = omega (arith, i.bounded, most) in
    (subst (λ x. x.turn ≤ 2000000) s t, subst (λ x. x.count ≤ 1000000) s u)

-- The room of a look.

pub look_fits : (w : State) (p : ℕ) → IsCore w → p < length w.cpus → newest w.number (advance w.number (cpu_at w p).own) ≤ GREATEST_NUMBER
look_fits w p k l =
    let a = newest_stamp w.number (cpu_at w p).own (own_stamps (length w.cpus) w.history p w.number (cpu_at w p) (k.cpu p l).timely.stamped) in
    omega (arith, a, k.board.small)

pub look_group_fits : (w : State) (p : ℕ) → IsCore w → p < length w.cpus → newest w.number (advance w.number (cpu_at w p).joined) ≤ GREATEST_NUMBER
look_group_fits w p k l =
    let a = newest_stamp w.number (cpu_at w p).joined (joined_stamps (length w.cpus) w.history p w.number (cpu_at w p) (k.cpu p l).timely.stamped) in
    omega (arith, a, k.board.small)

-- What a look finds: labelled lists, and after the advance the condition of `accelerate`.

pub labelled_lists : (w : State) (p : ℕ) → IsCore w → p < length w.cpus → HasLabelledLists w p
labelled_lists w p k l = record {
  own = (k.cpu p l).lists.0.list;
  joined = (k.cpu p l).lists.1.list;
  own_accelerates = may_accelerate (cpu_at w p).sight w.number w.number (cpu_at w p).own (omega arith) (k.cpu p l).lists.0;
  joined_accelerates = may_accelerate w.number w.number w.number (cpu_at w p).joined (omega arith) (k.cpu p l).lists.1;
}
