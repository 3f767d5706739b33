-- what is asked of a callback that comes in, and of a processor that is not there
use Rattle.std.proofs.Common.{◌≡◌, ℕ, ◌<◌, ◌≤◌, ◌&&◌, ◌∷◌, [], nat_lt, not, cond, Bool, true, false, Option, None, Some, refl, length, get_or, set, ap, ◌∙◌, subst, sym, arith}
use Rattle.std.proofs.lemmas.Bool.{le-ltb, lt-ltb}
use Rattle.std.proofs.lemmas.List.{length-map, length-set, get_or-set_same}
use Rattle.rcu_world_law.specs.Calls.{Call}
use Rattle.rcu_world_law.specs.Events.{after, is_enabled}
use Rattle.rcu_world_law.specs.Events.CoreEvent.{Accept, Stamp}
use Rattle.rcu_world_law.specs.States.{State, Cpu, cpu_at, empty_cpu, has}
use Rattle.rcu_world_law.specs.Lists.{is_none}
use Rattle.rcu_world_law.specs.Steps.{accepts, can_accept}
use Rattle.rcu_world_processor.specs.declared.processor.WorldProcessor.{WorldProcessor}
use Rattle.rcu_world_processor.specs.Views.{seen}
use Rattle.rcu_world.specs.declared.cores.Core.{Core}
use Rattle.rcu_world.specs.Turns.{Leads}
use Rattle.rcu_world.specs.Views.{all_seen, state}
use Rattle.rcu_world.specs.Worlds.{IsFit}
use Rattle.rcu_world.proofs.Seen.{fits_at}
use Rattle.rcu_world.proofs.Sizes.{second_holds}

no_fresh : (f : Option Call) → is_none f ≡ true → f ≡ None
no_fresh None e = refl
no_fresh (Some c) e = absurd cc

small : {n : ℕ} → n ≤ 1000000 → n < 9223372036854775808
small h = omega arith

pub accepted_fits : {J R : Type 0} (key_of : J → ℕ) (w : Core J R) (i : ℕ) (p q : WorldProcessor J R) → IsFit (state key_of w) → i < length w.processors.items → p ≡ get_or w.processors.items i p
    → can_accept w.limit (seen key_of p) ≡ true → seen key_of q ≡ seen key_of p → ((seen key_of q).fresh ≡ None) × ((seen key_of q).count < 9223372036854775808)
accepted_fits key_of w i p q k l e t s =
    let unshut = second_holds (not p.away) (not p.shut && (nat_lt p.count w.limit && is_none (seen key_of p).fresh)) t in
    let n = second_holds (nat_lt p.count w.limit) (is_none (seen key_of p).fresh) (second_holds (not p.shut) (nat_lt p.count w.limit && is_none (seen key_of p).fresh) unshut) in
    let f = fits_at key_of w i p k l e in
    (ap (λ x. x.fresh) s ∙ no_fresh (seen key_of p).fresh n, subst (λ x. x.count < 9223372036854775808) (sym s) (small f.1))

-- an event of a processor that isn't there
pub not_there : {J R : Type 0} (key_of : J → ℕ) (w : Core J R) (i : ℕ) → length w.processors.items ≤ i → has (state key_of w) i ≡ false
not_there key_of w i l = le-ltb i (length (all_seen key_of w.processors.items)) (omega (arith, length-map w.processors.items (seen key_of)))

-- what was just accepted is fresh
pub fresh_after : (w new : State) (p key moment : ℕ) (lazy : Bool) → p < length w.cpus → Leads w (Accept p key ∷ []) new → is_enabled new (Stamp p moment lazy) ≡ true
fresh_after w new p key moment lazy l e =
    let c = accepts key (cpu_at w p) in
    let n : new ≡ after w (Accept p key) = e.state ∙ ap (λ b. cond b (after w (Accept p key)) w) e.enabled.0 in
    let h : nat_lt p (length (set w.cpus p c)) ≡ true = lt-ltb p (length (set w.cpus p c)) (subst (λ k. p < k) (sym (length-set w.cpus p c)) l) in
    ap (λ x. is_enabled x (Stamp p moment lazy)) n
    ∙ ap (λ b. b && not (is_none (get_or (set w.cpus p c) p empty_cpu).fresh)) h
    ∙ ap {A = Cpu} (λ x. not (is_none x.fresh)) (get_or-set_same w.cpus p c empty_cpu l)
