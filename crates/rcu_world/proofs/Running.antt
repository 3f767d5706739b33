-- Claim and Finish, one callback after another
use Rattle.std.proofs.Common.{◌≡◌, ℕ, zero, suc, ◌+◌, ◌<◌, ◌≤◌, Bool, true, false, cond, ◌&&◌, ◌==◌, nat_lt, length, None, List, [], ◌∷◌, ◌++◌, get_or, set, refl, ap, sym, ◌∙◌, subst, arith}
use Rattle.std.proofs.lemmas.List.{get_or-set_same, length-set}
use Rattle.std.proofs.lemmas.Bool.{lt-ltb, and_parts, eq-eqb, ne_eqb}
use Rattle.rcu_jobs.specs.declared.Stop.{Stop}
use Rattle.rcu_jobs.specs.declared.Stop.TheVariants as stops
use Rattle.rcu_world_law.specs.declared.who.Side.{Side}
use Rattle.rcu_world_law.specs.declared.who.Side.TheVariants.{Local, Hand}
use Rattle.rcu_world_law.specs.Calls.{Call}
use Rattle.rcu_world_law.specs.LabelledLists.{Labelled, done_count, is_done}
use Rattle.rcu_world_law.specs.States.{State, Cpu, empty_cpu, cpu_at}
use Rattle.rcu_world_law.specs.Steps.{can_claim, can_claim_own, can_claim_held, claims, can_finish, finishes}
use Rattle.rcu_world_law.specs.Events.{CoreEvent, is_enabled, after}
use Rattle.rcu_world_law.specs.Events.CoreEvent.{Claim, Finish}
use Rattle.rcu_world_processor.specs.Turns.{has_none}
use Rattle.rcu_world.specs.Turns.{IsIdle, IsAtRest, Leads, where_enabled, run_events, stop_of}
use Rattle.rcu_world.proofs.Leading.{leads_append, leads_one}

run_events_suc : (p : ℕ) (by : Side) (n : ℕ) → run_events p by (suc n) ≡ run_events p by n ++ (Claim p by ∷ (Finish p by ∷ []))
run_events_suc p by zero = refl
run_events_suc p by (suc n) = ap (λ es. Claim p by ∷ (Finish p by ∷ es)) (run_events_suc p by n)

side_finishes : (by : Side) (c : Cpu) → can_finish by (claims by c) ≡ true
side_finishes Local c = refl
side_finishes Hand c = refl

-- a claim that was made can be finished
pub finish_enabled : (w : State) (p : ℕ) (by : Side) → p < length w.cpus → is_enabled (after w (Claim p by)) (Finish p by) ≡ true
finish_enabled w p by l =
    let h : nat_lt p (length (set w.cpus p (claims by (cpu_at w p)))) ≡ true = lt-ltb p (length (set w.cpus p (claims by (cpu_at w p)))) (omega (arith, length-set w.cpus p (claims by (cpu_at w p)))) in
    ap (λ b. b && can_finish by (cpu_at (after w (Claim p by)) p)) h ∙ ap (can_finish by) (get_or-set_same w.cpus p (claims by (cpu_at w p)) empty_cpu l) ∙ side_finishes by (cpu_at w p)

claimed_state : (w new : State) (e : CoreEvent) → is_enabled w e ≡ true → Leads w (e ∷ []) new → new ≡ after w e
claimed_state w new e h l = l.state ∙ ap (λ b. cond b (after w e) w) h

-- one callback more
pub ran_one : (p : ℕ) (by : Side) (n : ℕ) (a b c d : State) → p < length b.cpus → Leads a (run_events p by n) b → is_enabled b (Claim p by) ≡ true
    → Leads b (where_enabled (Claim p by) b) c → Leads c (where_enabled (Finish p by) c) d → Leads a (run_events p by (n + 1)) d
ran_one p by n a b c d l r h k f =
    let k1 = leads_one b c (Claim p by) h k in
    let e : c ≡ after b (Claim p by) = claimed_state b c (Claim p by) h k1 in
    let f1 = leads_one c d (Finish p by) (ap (λ w. is_enabled w (Finish p by)) e ∙ finish_enabled b p by l) f in
    let z : suc n ≡ n + 1 = omega arith in
    subst (λ es. Leads a es d) (sym (run_events_suc p by n) ∙ ap (run_events p by) z)
    (leads_append a b d (run_events p by n) (Claim p by ∷ (Finish p by ∷ [])) r (leads_append b c d (Claim p by ∷ []) (Finish p by ∷ []) k1 f1))

set_again : (cs : List Cpu) (p q : ℕ) (a b : Cpu) → IsIdle b → IsIdle (get_or cs q empty_cpu) → IsIdle (get_or (set (set cs p a) p b) q empty_cpu)
set_again [] zero q a b i j = j
set_again [] (suc p) q a b i j = j
set_again (x ∷ cs) zero zero a b i j = i
set_again (x ∷ cs) zero (suc q) a b i j = j
set_again (x ∷ cs) (suc p) zero a b i j = j
set_again (x ∷ cs) (suc p) (suc q) a b i j = set_again cs p q a b i j

claims_fresh : (by : Side) (c : Cpu) → c.fresh ≡ None → (claims by c).fresh ≡ None
claims_fresh Local c e = e
claims_fresh Hand c e = e

rest_after_both : (w : State) (p : ℕ) (by : Side) → p < length w.cpus → IsAtRest w → IsAtRest (after (after w (Claim p by)) (Finish p by))
rest_after_both w p by l i = record {
  each = λ q. set_again w.cpus p q (claims by (cpu_at w p)) (finishes (cpu_at (after w (Claim p by)) p))
      (record { fresh = ap (λ c. c.fresh) (get_or-set_same w.cpus p (claims by (cpu_at w p)) empty_cpu l) ∙ claims_fresh by (cpu_at w p) (i.each p).fresh; running = refl }) (i.each q);
}

pub rest_ran : (p : ℕ) (by : Side) (b c d : State) → p < length b.cpus → IsAtRest b → is_enabled b (Claim p by) ≡ true
    → Leads b (where_enabled (Claim p by) b) c → Leads c (where_enabled (Finish p by) c) d → IsAtRest d
rest_ran p by b c d l i h k f =
    let e : c ≡ after b (Claim p by) = claimed_state b c (Claim p by) h (leads_one b c (Claim p by) h k) in
    let g = ap (λ w. is_enabled w (Finish p by)) e ∙ finish_enabled b p by l in
    let m : d ≡ after c (Finish p by) = claimed_state c d (Finish p by) g (leads_one c d (Finish p by) g f) in
    subst IsAtRest (sym (m ∙ ap (λ w. after w (Finish p by)) e)) (rest_after_both b p by l i)

-- why a turn stops
more_than_none : (n : ℕ) → (1 + n == 0) ≡ false
more_than_none n = ne_eqb (1 + n) 0 (λ e. absurd (omega arith))

some_done : (ws : List Labelled) (turn : ℕ) → can_claim_own ws turn ≡ true → (done_count ws == 0) ≡ false
some_done [] turn e = absurd (let z : false ≡ true = e in cc)
some_done (w ∷ ws) turn e = subst (λ b. (cond b (1 + done_count ws) 0 == 0) ≡ false) (sym (and_parts (is_done w.label) _ e).0) (more_than_none (done_count ws))

some_held : (sight : ℕ) (cs : List Call) (turn : ℕ) → can_claim_held sight cs turn ≡ true → has_none Hand (record empty_cpu { held = cs }) ≡ false
some_held sight [] turn e = absurd (let z : false ≡ true = e in cc)
some_held sight (c ∷ cs) turn e = refl

some_claimed : (by : Side) (c : Cpu) → can_claim by c ≡ true → has_none by c ≡ false
some_claimed Local c e = some_done c.own c.turn e
some_claimed Hand c e = some_held c.hand_sight c.held c.turn e

below_limit : (ran blimit : ℕ) → ran < blimit → (ran == blimit) ≡ false
below_limit ran blimit l = ne_eqb ran blimit (λ e. absurd (omega arith))

-- no room for a claim
pub stops_memory : (by : Side) (blimit ran : ℕ) (c : Cpu) → ran < blimit → can_claim by c ≡ true → stops.Memory ≡ stop_of by blimit ran c
stops_memory by blimit ran c l e =
    sym (ap (λ b. cond b stops.Limit (cond (has_none by c) stops.Empty (cond (can_claim by c) stops.Memory stops.Turn))) (below_limit ran blimit l)
    ∙ ap (λ b. cond b stops.Empty (cond (can_claim by c) stops.Memory stops.Turn)) (some_claimed by c e) ∙ ap (λ b. cond b stops.Memory stops.Turn) e)

-- no claim
pub stops_early : (by : Side) (blimit ran : ℕ) (c : Cpu) (stop : Stop) → ran < blimit → can_claim by c ≡ false → stop ≡ cond (has_none by c) stops.Empty stops.Turn → stop ≡ stop_of by blimit ran c
stops_early by blimit ran c stop l e s = s
    ∙ sym (ap (λ b. cond b stops.Limit (cond (has_none by c) stops.Empty (cond (can_claim by c) stops.Memory stops.Turn))) (below_limit ran blimit l) ∙ ap (λ b. cond (has_none by c) stops.Empty (cond b stops.Memory stops.Turn)) e)

-- the limit
pub stops_at_limit : (by : Side) (blimit ran : ℕ) (c : Cpu) → ran ≤ blimit → blimit ≤ ran → stops.Limit ≡ stop_of by blimit ran c
stops_at_limit by blimit ran c l m =
    let e : (ran == blimit) ≡ true = eq-eqb ran blimit (omega arith) in
    sym (ap (λ b. cond b stops.Limit (cond (has_none by c) stops.Empty (cond (can_claim by c) stops.Memory stops.Turn))) e)

pub claim_test : (w : State) (p : ℕ) (by : Side) (b : Bool) → p < length w.cpus → is_enabled w (Claim p by) ≡ b → can_claim by (cpu_at w p) ≡ b
claim_test w p by b l e = sym (ap (λ x. x && can_claim by (cpu_at w p)) (lt-ltb p (length w.cpus) l)) ∙ e
