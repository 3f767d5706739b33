-- A processor that goes away, and one that comes back
use Rattle.std.proofs.Common.{◌≡◌, ℕ, ◌<◌, ◌&&◌, not, Bool, true, false, cond, None, length, get_or, set, refl, ap, sym, ◌∙◌, subst}
use Rattle.std.proofs.lemmas.Bool.{lt-ltb}
use Rattle.std.proofs.lemmas.List.{get_or-set_same, length-set}
use Rattle.rcu_world_law.specs.Events.{is_enabled, after}
use Rattle.rcu_world_law.specs.Events.CoreEvent.{Leave, Put, Report, Return}
use Rattle.rcu_world_law.specs.Lists.{is_nil}
use Rattle.rcu_world_law.specs.Releases.{pace_after_put}
use Rattle.rcu_world_law.specs.States.{State, Cpu, cpu_at, empty_cpu, has}
use Rattle.rcu_world_law.specs.Steps.{puts, with_pace}
use Rattle.rcu_world.specs.Turns.{Leads, where_enabled}
use Rattle.rcu_world.proofs.Passing.{leads_after, leads_same}

negated : (b : Bool) → not b ≡ false → b ≡ true
negated true e = refl
negated false e = absurd (let z : true ≡ false = e in cc)

may_leave : (w : State) (p : ℕ) → p < length w.cpus → (cpu_at w p).away ≡ false → is_nil (cpu_at w p).bypass ≡ true → is_enabled w (Leave p) ≡ true
may_leave w p l a b = ap (λ x. x && (not (cpu_at w p).away && is_nil (cpu_at w p).bypass)) (lt-ltb p (length w.cpus) l)
    ∙ ap (λ x. not x && is_nil (cpu_at w p).bypass) a ∙ b

may_leave_by : (w m : State) (p : ℕ) (b : Bool) → p < length w.cpus → (cpu_at w p).away ≡ false → is_enabled w (Put p None) ≡ b → Leads w (where_enabled (Put p None) w) m
    → is_enabled m (Leave p) ≡ true
may_leave_by w m p true l a h e =
    let c : Cpu = with_pace (pace_after_put None (cpu_at w p)) (puts (cpu_at w p)) in
    let s = get_or-set_same w.cpus p (with_pace (pace_after_put None (cpu_at w p)) (puts (cpu_at w p))) empty_cpu l in
    subst (λ x. is_enabled x (Leave p) ≡ true) (sym (leads_after w m (Put p None) h e))
    (may_leave (after w (Put p None)) p (subst (λ n. p < n) (sym (length-set w.cpus p (with_pace (pace_after_put None (cpu_at w p)) (puts (cpu_at w p))))) l)
    (ap (λ x. x.away) s ∙ a) (ap (λ x. is_nil x.bypass) s))
may_leave_by w m p false l a h e =
    let n : not (is_nil (cpu_at w p).bypass) ≡ false = sym (ap (λ x. x && not (is_nil (cpu_at w p).bypass)) (lt-ltb p (length w.cpus) l)) ∙ h in
    subst (λ x. is_enabled x (Leave p) ≡ true) (sym (leads_same w m (Put p None) h e)) (may_leave w p l a (negated (is_nil (cpu_at w p).bypass) n))

-- once its bypass list is put, a processor that is here may leave
pub leaves_after : (w m : State) (p : ℕ) → p < length w.cpus → (cpu_at w p).away ≡ false → Leads w (where_enabled (Put p None) w) m → is_enabled m (Leave p) ≡ true
leaves_after w m p l a e = may_leave_by w m p (is_enabled w (Put p None)) l a refl e

pub may_return : (w : State) (p : ℕ) → p < length w.cpus → (cpu_at w p).away ≡ true → is_enabled w (Return p) ≡ true
may_return w p l a = ap (λ x. x && (cpu_at w p).away) (lt-ltb p (length w.cpus) l) ∙ a

pub may_report : (w : State) (p : ℕ) → p < length w.cpus → (cpu_at w p).away ≡ false → is_enabled w (Report p) ≡ true
may_report w p l a = ap (λ x. x && not (cpu_at w p).away) (lt-ltb p (length w.cpus) l) ∙ ap not a
