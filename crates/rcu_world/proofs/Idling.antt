-- A processor of which nothing is fresh, and on which no claim runs
use Rattle.std.proofs.Common.{◌≡◌, Bool, true, false, not, Option, Some, None, refl, ap, sym, ◌∙◌}
use Rattle.rcu_world_law.specs.Calls.{Call}
use Rattle.rcu_world_law.specs.Lists.{is_none}
use Rattle.rcu_world_law.specs.States.{Cpu}
use Rattle.rcu_world_law.specs.Steps.{can_finish, is_side}
use Rattle.rcu_world_law.specs.declared.who.Side.{Side}
use Rattle.rcu_world_law.specs.declared.who.Side.TheVariants.{Local, Hand}
use Rattle.rcu_world.specs.Turns.{IsIdle}

none_fresh : (f : Option Call) → not (is_none f) ≡ false → f ≡ None
none_fresh None e = refl
none_fresh (Some c) e = absurd (let x : true ≡ false = e in cc)

none_running : (r : Option Side) → is_side Local r ≡ false → is_side Hand r ≡ false → r ≡ None
none_running None a b = refl
none_running (Some Local) a b = absurd (let x : true ≡ false = a in cc)
none_running (Some Hand) a b = absurd (let x : true ≡ false = b in cc)

pub idle_by : (c : Cpu) (fresh own hand : Bool) → fresh ≡ not (is_none c.fresh) → own ≡ can_finish Local c → hand ≡ can_finish Hand c → fresh ≡ false → own ≡ false → hand ≡ false → IsIdle c
idle_by c fresh own hand f o h a b d = record { fresh = none_fresh c.fresh (sym f ∙ a); running = none_running c.running (sym o ∙ b) (sym h ∙ d) }

pub not_fresh : (c : Cpu) (fresh : Bool) → fresh ≡ not (is_none c.fresh) → IsIdle c → fresh ≡ false
not_fresh c fresh f i = f ∙ ap (λ x. not (is_none x)) i.fresh

pub not_own : (c : Cpu) (own : Bool) → own ≡ can_finish Local c → IsIdle c → own ≡ false
not_own c own o i = o ∙ ap (is_side Local) i.running

pub not_hand : (c : Cpu) (hand : Bool) → hand ≡ can_finish Hand c → IsIdle c → hand ≡ false
not_hand c hand h i = h ∙ ap (is_side Hand) i.running

pub both_ways : {A : Type 0} (b : Bool) → b ≡ true → (A → b ≡ false) → A → false ≡ true
both_ways b t f a = sym (f a) ∙ t

pub negated : (b : Bool) → not b ≡ true → b ≡ false
negated true e = absurd (let x : false ≡ true = e in cc)
negated false e = refl
