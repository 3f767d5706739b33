-- Lists of events that lead from one state to another
use Rattle.std.proofs.Common.{◌≡◌, ℕ, suc, ◌+◌, Bool, true, false, cond, ◌&&◌, length, ◌<◌, get_or, List, [], ◌∷◌, ◌++◌, refl, ap, sym, ◌∙◌, subst, arith}
use Rattle.rcu_world_law.specs.States.{State, cpu_at}
use Rattle.rcu_world_law.specs.Events.{CoreEvent, is_enabled, after, happens, run}
use Rattle.rcu_world.specs.declared.events.Event.{Event}
use Rattle.rcu_world.specs.declared.events.Event.TheVariants as events
use Rattle.rcu_world.specs.Events.{Becomes, core_event}
use Rattle.rcu_world.specs.Turns.{AreEnabled, Leads, IsAtRest, keeps_rest, where_enabled, and_then, upto}
use Rattle.rcu_world.proofs.Keeping.{becomes_with, enabled_with, shape_after}
use Rattle.rcu_world_law.proofs.Keeping.{length_after}
use Rattle.rcu_world.proofs.Resting.{rest_after}
use Rattle.rcu_world.proofs.Seen.{seen_at}
use Rattle.rcu_world.specs.declared.cores.Core.{Core}
use Rattle.rcu_world_processor.specs.declared.processor.WorldProcessor.{WorldProcessor}
use Rattle.rcu_world_processor.specs.Views.{seen}
use Rattle.rcu_world.specs.Views.{state}

pub leads_nothing : (w new : State) → new ≡ w → Leads w [] new
leads_nothing w new e = record { enabled = tt; state = e }

pub leads_done : (w new : State) (e : CoreEvent) → is_enabled w e ≡ true → new ≡ after w e → Leads w (where_enabled e w) new
leads_done w new e h n = subst (λ b. Leads w (cond b (e ∷ []) []) new) (sym h)
    (record { enabled = (h, tt); state = n ∙ sym (ap (λ b. cond b (after w e) w) h) })

-- one event, which is enabled
pub leads_event : (w new : State) (e : CoreEvent) → is_enabled w e ≡ true → new ≡ after w e → Leads w (e ∷ []) new
leads_event w new e h n = record { enabled = (h, tt); state = n ∙ sym (ap (λ b. cond b (after w e) w) h) }

pub leads_skipped : (w new : State) (e : CoreEvent) → is_enabled w e ≡ false → new ≡ w → Leads w (where_enabled e w) new
leads_skipped w new e h n = subst (λ b. Leads w (cond b (e ∷ []) []) new) (sym h) (leads_nothing w new n)

-- an event that is enabled
pub leads_one : (w new : State) (e : CoreEvent) → is_enabled w e ≡ true → Leads w (where_enabled e w) new → Leads w (e ∷ []) new
leads_one w new e h l = subst (λ b. Leads w (cond b (e ∷ []) []) new) h l

pub run_append : (es fs : List CoreEvent) (w : State) → run (es ++ fs) w ≡ run fs (run es w)
run_append [] fs w = refl
run_append (e ∷ es) fs w = run_append es fs (happens w e)

enabled_append : (es fs : List CoreEvent) (w : State) → AreEnabled es w → AreEnabled fs (run es w) → AreEnabled (es ++ fs) w
enabled_append [] fs w a b = b
enabled_append (e ∷ es) fs w a b = (a.0, enabled_append es fs (happens w e) a.1 b)

pub leads_append : (a b c : State) (es fs : List CoreEvent) → Leads a es b → Leads b fs c → Leads a (es ++ fs) c
leads_append a b c es fs l m = record {
  enabled = enabled_append es fs a l.enabled (subst (AreEnabled fs) l.state m.enabled);
  state = m.state ∙ ap (run fs) l.state ∙ sym (run_append es fs a);
}

pub leads_then : (f g : State → List CoreEvent) (a b c : State) → Leads a (f a) b → Leads b (g b) c → Leads a (and_then f g a) c
unfolding and_then
leads_then f g a b c l m = subst (λ x. Leads a (f a ++ g x) c) l.state (leads_append a b c (f a) (g b) l m)

-- what an answer says
pub took : {J : Type 0} (key_of : J → ℕ) (old : State) (e : Event J) (new : State) → is_enabled old (core_event key_of true e) ≡ true → Becomes key_of old e new
    → (poured : Bool) × Leads old (where_enabled (core_event key_of poured e) old) new
took key_of old e new h s = let b = becomes_with key_of old e new s in (b.0, leads_done old new (core_event key_of b.0 e) (enabled_with key_of old b.0 e h) b.1)

pub passed : {J : Type 0} (key_of : J → ℕ) (old : State) (e : Event J) (new : State) → is_enabled old (core_event key_of true e) ≡ false → new ≡ old
    → (poured : Bool) × Leads old (where_enabled (core_event key_of poured e) old) new
passed key_of old e new h s = (true, leads_skipped old new (core_event key_of true e) h s)

keeps_with : {J : Type 0} (key_of : J → ℕ) (poured : Bool) (e : Event J) → keeps_rest (core_event key_of true e) ≡ true → keeps_rest (core_event key_of poured e) ≡ true
keeps_with key_of poured (events.Accept p job) k = k
keeps_with key_of poured (events.Stamp p m lazy) k = k
keeps_with key_of poured (events.Put p m) k = k
keeps_with key_of poured (events.Report p) k = k
keeps_with key_of poured events.Start k = k
keeps_with key_of poured events.End k = k
keeps_with key_of poured (events.Look p) k = k
keeps_with key_of poured (events.LookGroup g) k = k
keeps_with key_of poured (events.LookHand p) k = k
keeps_with key_of poured (events.Need who) k = k
keeps_with key_of poured (events.Draw p) k = k
keeps_with key_of poured (events.Join p) k = k
keeps_with key_of poured (events.Give p) k = k
keeps_with key_of poured (events.Fetch p) k = k
keeps_with key_of poured (events.Claim p by) k = k
keeps_with key_of poured (events.Finish p by) k = k
keeps_with key_of poured (events.Ask p on) k = k
keeps_with key_of poured (events.Heed p) k = k
keeps_with key_of poured (events.Settle p) k = k
keeps_with key_of poured (events.Open b) k = k
keeps_with key_of poured (events.Count b p) k = k
keeps_with key_of poured (events.Turn b p) k = k
keeps_with key_of poured (events.Pass b) k = k
keeps_with key_of poured (events.Shut p) k = k
keeps_with key_of poured events.Urge k = k
keeps_with key_of poured (events.Hear p) k = k
keeps_with key_of poured (events.Leave p) k = k
keeps_with key_of poured (events.Return p) k = k
keeps_with key_of poured (events.Meet p) k = k

pub rest_took : {J : Type 0} (key_of : J → ℕ) (old : State) (e : Event J) (new : State) → Becomes key_of old e new → keeps_rest (core_event key_of true e) ≡ true → IsAtRest old → IsAtRest new
rest_took key_of old e new s k i = let b = becomes_with key_of old e new s in subst IsAtRest (sym b.1) (rest_after old (core_event key_of b.0 e) (keeps_with key_of b.0 e k) i)

pub length_took : {J : Type 0} (key_of : J → ℕ) (old : State) (e : Event J) (new : State) → Becomes key_of old e new → length new.cpus ≡ length old.cpus
length_took key_of old e new s = let b = becomes_with key_of old e new s in ap (λ w. length w.cpus) b.1 ∙ length_after old (core_event key_of b.0 e)

-- events that stand in a list where a test says so, and where there was room
pub chosen : (b room : Bool) (es : List CoreEvent) (w new : State) → b ≡ true → Leads w (cond room es []) new → Leads w (cond (b && room) es []) new
chosen b room es w new h l = subst (λ x. Leads w (cond (x && room) es []) new) (sym h) l

pub not_chosen : (b : Bool) (es : List CoreEvent) (w new : State) → b ≡ false → new ≡ w → Leads w (cond (b && true) es []) new
not_chosen b es w new h e = subst (λ x. Leads w (cond (x && true) es []) new) (sym h) (leads_nothing w new e)

pub where_true : (b : Bool) (es : List CoreEvent) (w new : State) → b ≡ true → Leads w es new → Leads w (cond b es []) new
where_true b es w new h l = subst (λ x. Leads w (cond x es []) new) (sym h) l

pub where_false : (b : Bool) (es : List CoreEvent) (w new : State) → b ≡ false → new ≡ w → Leads w (cond b es []) new
where_false b es w new h e = subst (λ x. Leads w (cond x es []) new) (sym h) (leads_nothing w new e)

pub shape_took : {J : Type 0} (key_of : J → ℕ) (old : State) (e : Event J) (new : State) → Becomes key_of old e new → new.shape ≡ old.shape
shape_took key_of old e new s = let b = becomes_with key_of old e new s in ap (λ w. w.shape) b.1 ∙ shape_after old (core_event key_of b.0 e)

-- a processor that is there
pub seen_there : {J R : Type 0} (key_of : J → ℕ) (w : Core J R) (p : ℕ) (q : WorldProcessor J R) → p < length w.processors.items → q ≡ get_or w.processors.items p q → seen key_of q ≡ cpu_at (state key_of w) p
seen_there key_of w p q l e = seen_at key_of w.processors.items p q l e

-- the events of one more processor
pub leads_upto : (f : ℕ → State → List CoreEvent) (i : ℕ) (a b c : State) → Leads a (upto f i a) b → Leads b (f i b) c → Leads a (upto f (i + 1) a) c
leads_upto f i a b c l m = subst (λ n. Leads a (upto f n a) c) (let z : suc i ≡ i + 1 = omega arith in z) (leads_then (upto f i) (f i) a b c l m)

pub leads_none : (f : ℕ → State → List CoreEvent) (a : State) → Leads a (upto f 0 a) a
leads_none f a = leads_nothing a a refl
