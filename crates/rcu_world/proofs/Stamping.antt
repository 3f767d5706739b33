-- The events of a stamp, and of the release that may follow it
use Rattle.std.proofs.Common.{◌≡◌, ℕ, ◌&&◌, Bool, true, false, cond, None, [], ◌∷◌, ap, sym, ◌∙◌, subst}
use Rattle.rcu_world_law.specs.States.{State}
use Rattle.rcu_world_law.specs.Events.{is_enabled, after}
use Rattle.rcu_world_law.specs.Events.CoreEvent.{Put, Stamp}
use Rattle.rcu_world.specs.Turns.{Leads, is_released, stamp_events, where_enabled}
use Rattle.rcu_world.proofs.Leading.{leads_append}

stamped : (old mid : State) (p m : ℕ) (lazy : Bool) → is_enabled old (Stamp p m lazy) ≡ true → mid ≡ after old (Stamp p m lazy) → Leads old (Stamp p m lazy ∷ []) mid
stamped old mid p m lazy h e = record { enabled = (h, tt); state = e ∙ sym (ap (λ b. cond b (after old (Stamp p m lazy)) old) h) }

-- what is put where there is room and the list isn't empty
put_or_not : (room enabled : Bool) (mid new : State) (p : ℕ) → Leads mid (cond room (cond enabled (Put p None ∷ []) []) []) new → (r : Bool) × Leads mid (cond (true && r) (Put p None ∷ []) []) new
put_or_not true true mid new p l = (true, l)
put_or_not true false mid new p l = (false, l)
put_or_not false enabled mid new p l = (false, l)

pub stamp_due : (old mid new : State) (p m : ℕ) (lazy room : Bool) → is_enabled old (Stamp p m lazy) ≡ true → mid ≡ after old (Stamp p m lazy) → is_released p m lazy old ≡ true
    → Leads mid (cond room (where_enabled (Put p None) mid) []) new → (r : Bool) × Leads old (stamp_events p m lazy r old) new
stamp_due old mid new p m lazy room h e d l =
    let r = put_or_not room (is_enabled mid (Put p None)) mid new p l in
    (r.0, subst (λ b. Leads old (Stamp p m lazy ∷ cond (b && r.0) (Put p None ∷ []) []) new) (sym d) (leads_append old mid new (Stamp p m lazy ∷ []) (cond (true && r.0) (Put p None ∷ []) []) (stamped old mid p m lazy h e) r.1))

pub stamp_done : (old new : State) (p m : ℕ) (lazy : Bool) → is_enabled old (Stamp p m lazy) ≡ true → new ≡ after old (Stamp p m lazy) → is_released p m lazy old ≡ false
    → (r : Bool) × Leads old (stamp_events p m lazy r old) new
stamp_done old new p m lazy h e d = (true, subst (λ b. Leads old (Stamp p m lazy ∷ cond (b && true) (Put p None ∷ []) []) new) (sym d) (stamped old new p m lazy h e))
