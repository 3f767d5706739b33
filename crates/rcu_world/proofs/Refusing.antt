-- Why a call is refused
use Rattle.std.proofs.Common.{◌≡◌, ℕ, ◌<◌, Bool, true, false, not, ◌&&◌, nat_lt, None, length, refl, ap, sym, ◌∙◌}
use Rattle.std.proofs.lemmas.Bool.{lt-ltb}
use Rattle.rcu_world_law.specs.Events.{is_enabled}
use Rattle.rcu_world_law.specs.Events.CoreEvent.{Accept}
use Rattle.rcu_world_law.specs.Lists.{is_none}
use Rattle.rcu_world_law.specs.States.{State, Cpu, cpu_at}
use Rattle.rcu_world_law.specs.Steps.{can_accept}

closes : (b : Bool) → (not b && true) ≡ false → b ≡ true
closes true e = refl
closes false e = absurd (let z : false ≡ true = sym e in cc)

shut_below : (limit : ℕ) (c : Cpu) → c.away ≡ false → c.count < limit → c.fresh ≡ None → can_accept limit c ≡ false → c.shut ≡ true
shut_below limit c h l f e = closes c.shut (sym (ap (λ b. not b && (not c.shut && (nat_lt c.count limit && is_none c.fresh))) h
    ∙ ap (λ b. not c.shut && b) (ap (λ b. b && is_none c.fresh) (lt-ltb c.count limit l) ∙ ap is_none f)) ∙ e)

-- here, below the limit, and with nothing fresh, a processor refuses only where it is shut
pub refused_shut : (w : State) (p key : ℕ) → p < length w.cpus → (cpu_at w p).away ≡ false → (cpu_at w p).count < w.shape.limit → (cpu_at w p).fresh ≡ None → is_enabled w (Accept p key) ≡ false → (cpu_at w p).shut ≡ true
refused_shut w p key t h l f e = shut_below w.shape.limit (cpu_at w p) h l f (sym (ap (λ x. x && can_accept w.shape.limit (cpu_at w p)) (lt-ltb p (length w.cpus) t)) ∙ e)
