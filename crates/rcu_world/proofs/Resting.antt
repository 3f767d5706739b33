-- What keeps the world at rest
use Rattle.std.proofs.Common.{◌≡◌, ℕ, zero, suc, ◌+◌, Bool, true, false, cond, None, List, [], ◌∷◌, get_or, set, refl, subst, sym, ap, ◌∙◌, ◌<◌, length, inl, inr}
use Rattle.std.proofs.lemmas.List.{get_or-set_same, get_or-set_other}
use Rattle.std.proofs.lemmas.Bool.{cases_eq, ltb-true, and_parts}
use Rattle.rcu_jobs.specs.declared.modes.Mode.{Mode}
use Rattle.rcu_jobs.specs.declared.modes.Mode.TheVariants.{Local, Offloading, Offloaded, Deoffloading}
use Rattle.rcu_world_law.specs.declared.who.Who.TheVariants as who
use Rattle.rcu_world_law.specs.Lists.{is_nil, needed_with}
use Rattle.rcu_jobs.specs.Modes.{is_offloaded}
use Rattle.rcu_world_law.specs.States.{State, Cpu, empty_cpu, cpu_at, has, with_cpu, is_member}
use Rattle.rcu_world_law.specs.Releases.{Pace, pace_after_stamp, pace_after_put}
use Rattle.rcu_world_law.specs.Steps.{accepts, stamps, stamps_into, with_pace, puts, looks, group_looks, hand_looks, draws, joins, gives, fetches, finishes, leaves, heeds, heeds_mode, settles}
use Rattle.rcu_world_law.specs.Events.{CoreEvent, is_enabled, after, each_cpu, most_wanted}
use Rattle.rcu_world_law.specs.Events.CoreEvent.{Accept, Stamp, Put, Report, Start, End, Look, LookGroup, LookHand, Need, Draw, Join, Give, Fetch, Claim, Finish, Ask, Heed, Settle, Open, Count, Turn, Pass, Shut, Urge, Hear, Leave, Return, Meet}
use Rattle.rcu_world.specs.Turns.{IsIdle, IsAtRest, IsAtRestBut, keeps_rest}

at_set : (P : Cpu → Type 0) (cs : List Cpu) (p q : ℕ) (c : Cpu) → P c → P (get_or cs q empty_cpu) → P (get_or (set cs p c) q empty_cpu)
at_set P [] zero q c a b = b
at_set P [] (suc p) q c a b = b
at_set P (x ∷ cs) zero zero c a b = a
at_set P (x ∷ cs) zero (suc q) c a b = b
at_set P (x ∷ cs) (suc p) zero c a b = b
at_set P (x ∷ cs) (suc p) (suc q) c a b = at_set P cs p q c a b

at_each : (P : Cpu → Type 0) (f : ℕ → Cpu → Cpu) → ((p : ℕ) (c : Cpu) → P c → P (f p c)) → (i : ℕ) (cs : List Cpu) (q : ℕ) → P (get_or cs q empty_cpu) → P (get_or (each_cpu f i cs) q empty_cpu)
at_each P f h i [] q b = b
at_each P f h i (c ∷ cs) zero b = h i c b
at_each P f h i (c ∷ cs) (suc q) b = at_each P f h (i + 1) cs q b

pub rest_cpu : (w : State) (p : ℕ) (c : Cpu) → IsIdle c → IsAtRest w → IsAtRest (with_cpu w p c)
rest_cpu w p c k i = record { each = λ q. at_set IsIdle w.cpus p q c k (i.each q) }

rest_each : (w : State) (f : ℕ → Cpu → Cpu) → ((p : ℕ) (c : Cpu) → IsIdle c → IsIdle (f p c)) → IsAtRest w → IsAtRest (record w { cpus = each_cpu f 0 w.cpus })
rest_each w f h i = record { each = λ q. at_each IsIdle f h 0 w.cpus q (i.each q) }

idle_chosen : (b : Bool) (d c : Cpu) → IsIdle d → IsIdle c → IsIdle (cond b d c)
idle_chosen true d c i j = i
idle_chosen false d c i j = j

idle_stamped : (b : Bool) (s : ℕ) (t : Pace) (c : Cpu) → IsIdle c → IsIdle (cond b (with_pace t (stamps_into true s c)) (stamps_into false s c))
idle_stamped true s t c i = record { fresh = refl; running = i.running }
idle_stamped false s t c i = record { fresh = refl; running = i.running }

idle_heeded : (asked poured : Bool) (m : Mode) (c : Cpu) → IsIdle c → IsIdle (heeds_mode asked poured m c)
idle_heeded true true Local c i = record { fresh = i.fresh; running = i.running }
idle_heeded true true Offloading c i = record { fresh = i.fresh; running = i.running }
idle_heeded true true Deoffloading c i = record { fresh = i.fresh; running = i.running }
idle_heeded true false Local c i = record { fresh = i.fresh; running = i.running }
idle_heeded true false Offloading c i = i
idle_heeded true false Deoffloading c i = record { fresh = i.fresh; running = i.running }
idle_heeded true true Offloaded c i = i
idle_heeded true false Offloaded c i = i
idle_heeded false true Local c i = i
idle_heeded false false Local c i = i
idle_heeded false true Offloading c i = record { fresh = i.fresh; running = i.running }
idle_heeded false false Offloading c i = record { fresh = i.fresh; running = i.running }
idle_heeded false true Offloaded c i = idle_chosen (is_nil c.bypass) (leaves c) c (record { fresh = i.fresh; running = i.running }) i
idle_heeded false false Offloaded c i = idle_chosen (is_nil c.bypass) (leaves c) c (record { fresh = i.fresh; running = i.running }) i
idle_heeded false true Deoffloading c i = i
idle_heeded false false Deoffloading c i = i

pub rest_after : (w : State) (e : CoreEvent) → keeps_rest e ≡ true → IsAtRest w → IsAtRest (after w e)
rest_after w (Accept p key) k i = absurd (let z : false ≡ true = k in cc)
rest_after w (Claim p by) k i = absurd (let z : false ≡ true = k in cc)
rest_after w (Stamp p m lazy) k i = rest_cpu w p (stamps w.number m lazy (cpu_at w p)) (idle_stamped (is_offloaded (cpu_at w p).mode) w.number (pace_after_stamp lazy m (cpu_at w p)) (cpu_at w p) (i.each p)) i
rest_after w (Put p m) k i = rest_cpu w p (with_pace (pace_after_put m (cpu_at w p)) (puts (cpu_at w p))) (record { fresh = (i.each p).fresh; running = (i.each p).running }) i
rest_after w (Report p) k i = record { each = i.each }
rest_after w Start k i = record { each = i.each }
rest_after w End k i = record { each = i.each }
rest_after w (Look p) k i = rest_cpu w p (looks w.number (cpu_at w p)) (record { fresh = (i.each p).fresh; running = (i.each p).running }) i
rest_after w (LookGroup g) k i = rest_each w (λ p c. cond (is_member w g p) (group_looks w.number c) c) (λ p c k. idle_chosen (is_member w g p) (group_looks w.number c) c (record { fresh = k.fresh; running = k.running }) k) i
rest_after w (LookHand p) k i = rest_cpu w p (hand_looks w.number (cpu_at w p)) (record { fresh = (i.each p).fresh; running = (i.each p).running }) i
rest_after w (Need (who.Cpu p)) k i = rest_cpu (record w { needed = needed_with w.needed (cpu_at w p).wanted }) p (record (cpu_at w p) { wanted = None }) (record { fresh = (i.each p).fresh; running = (i.each p).running }) (record { each = i.each })
rest_after w (Need (who.Group g)) k i = rest_each (record w { needed = most_wanted w g w.needed 0 w.cpus }) (λ p c. cond (is_member w g p) (record c { group_wanted = None }) c) (λ p c k. idle_chosen (is_member w g p) (record c { group_wanted = None }) c (record { fresh = k.fresh; running = k.running }) k) (record { each = i.each })
rest_after w (Draw p) k i = rest_cpu w p (draws (cpu_at w p)) (record { fresh = (i.each p).fresh; running = (i.each p).running }) i
rest_after w (Join p) k i = rest_cpu w p (joins (cpu_at w p)) (record { fresh = (i.each p).fresh; running = (i.each p).running }) i
rest_after w (Give p) k i = rest_cpu w p (gives w.shape.blimit (cpu_at w p)) (record { fresh = (i.each p).fresh; running = (i.each p).running }) i
rest_after w (Fetch p) k i = rest_cpu w p (fetches (cpu_at w p)) (record { fresh = (i.each p).fresh; running = (i.each p).running }) i
rest_after w (Finish p by) k i = rest_cpu w p (finishes (cpu_at w p)) (record { fresh = (i.each p).fresh; running = refl }) i
rest_after w (Ask p on) k i = rest_cpu w p (record (cpu_at w p) { asked = on }) (record { fresh = (i.each p).fresh; running = (i.each p).running }) i
rest_after w (Heed p poured) k i = rest_cpu w p (heeds poured (cpu_at w p)) (idle_heeded (cpu_at w p).asked poured (cpu_at w p).mode (cpu_at w p) (i.each p)) i
rest_after w (Settle p) k i = rest_cpu w p (settles (cpu_at w p)) (record { fresh = (i.each p).fresh; running = (i.each p).running }) i
rest_after w (Open b) k i = record { each = i.each }
rest_after w (Count b p) k i = record { each = i.each }
rest_after w (Turn b p) k i = record { each = i.each }
rest_after w (Pass b) k i = record { each = i.each }
rest_after w (Shut p) k i = let r = rest_cpu w p (record (cpu_at w p) { shut = true }) (record { fresh = (i.each p).fresh; running = (i.each p).running }) i in record { each = r.each }
rest_after w Urge k i = rest_each w (λ p c. record c { urged = true }) (λ p c k. record { fresh = k.fresh; running = k.running }) i
rest_after w (Hear p) k i = rest_cpu w p (record (cpu_at w p) { urged = false }) (record { fresh = (i.each p).fresh; running = (i.each p).running }) i
rest_after w (Leave p) k i = rest_cpu w p (record (cpu_at w p) { away = true }) (record { fresh = (i.each p).fresh; running = (i.each p).running }) i
rest_after w (Return p) k i = rest_cpu w p (record (cpu_at w p) { away = false }) (record { fresh = (i.each p).fresh; running = (i.each p).running }) i
rest_after w (Meet p) k i = record { each = i.each }

-- between Accept and Stamp
pub rest_accepted : (w : State) (p key : ℕ) → IsAtRest w → IsAtRestBut p (after w (Accept p key))
rest_accepted w p key i = record {
  fresh = λ q d. ap (λ c. c.fresh) (get_or-set_other w.cpus p q (accepts key (cpu_at w p)) empty_cpu d) ∙ (i.each q).fresh;
  running = λ q. at_set (λ c. c.running ≡ None) w.cpus p q (accepts key (cpu_at w p)) (i.each p).running (i.each q).running;
}

stamped_at : (cs : List Cpu) (p q : ℕ) (c : Cpu) → p < length cs → IsIdle c → ((q ≡ p → ⊥) → IsIdle (get_or cs q empty_cpu)) → IsIdle (get_or (set cs p c) q empty_cpu)
stamped_at cs p q c l i f = elim (cases_eq q p) [
  | inl e ↦ subst (λ x. IsIdle (get_or (set cs p c) x empty_cpu)) (sym e) (subst IsIdle (sym (get_or-set_same cs p c empty_cpu l)) i)
  | inr d ↦ subst IsIdle (sym (get_or-set_other cs p q c empty_cpu d)) (f d)
]

stamps_idle : (b : Bool) (s : ℕ) (t : Pace) (c : Cpu) → c.running ≡ None → IsIdle (cond b (with_pace t (stamps_into true s c)) (stamps_into false s c))
stamps_idle true s t c r = record { fresh = refl; running = r }
stamps_idle false s t c r = record { fresh = refl; running = r }

pub rest_stamped : (w new : State) (p m : ℕ) (lazy : Bool) → is_enabled w (Stamp p m lazy) ≡ true → new ≡ after w (Stamp p m lazy) → IsAtRestBut p w → IsAtRest new
rest_stamped w new p m lazy e n i =
    let l = ltb-true p (length w.cpus) (and_parts (has w p) _ e).0 in
    subst IsAtRest (sym n) (record {
      each = λ q. stamped_at w.cpus p q (stamps w.number m lazy (cpu_at w p)) l
          (stamps_idle (is_offloaded (cpu_at w p).mode) w.number (pace_after_stamp lazy m (cpu_at w p)) (cpu_at w p) (i.running p)) (λ d. record { fresh = i.fresh q d; running = i.running q });
    })
