-- The first fault of a barrier's tickets
use Rattle.std.proofs.Common.{◌≡◌, ℕ, ◌<◌, ◌≤◌, ◌+◌, Bool, true, false, not, cond, nat_le, List, length, get_or, drop, Option, Some, ap, ◌∙◌}
use Rattle.std.proofs.lemmas.Bool.{le-leb, lt-leb}
use Rattle.std.proofs.lemmas.List.{at_drop_more}
use Rattle.rcu_jobs.specs.declared.Ticket.{Ticket}
use Rattle.rcu_jobs.specs.declared.BarrierFault.{BarrierFault}
use Rattle.rcu_jobs.specs.declared.BarrierFault.TheVariants.{NoProcessor, Ahead}
use Rattle.rcu_world_law.specs.States.{State, cpu_at, has}
use Rattle.rcu_world.specs.Turns.{barrier_fault, ticket_fault}

-- the fault of one ticket, or else of those after it
abbrev fault_of : State → Ticket → Bool → Bool → Option BarrierFault → Option BarrierFault
fault_of w t there ahead rest = cond (not there) (Some (NoProcessor t.cpu)) (cond ahead (Some (Ahead t.cpu (cpu_at w t.cpu).count)) rest)

first_fault : (w : State) (ts : List Ticket) (i : ℕ) (d : Ticket) → i < length ts
    → ticket_fault w (drop i ts) ≡ fault_of w (get_or ts i d) (has w (get_or ts i d).cpu) (nat_le (cpu_at w (get_or ts i d).cpu).count (get_or ts i d).number) (ticket_fault w (drop (i + 1) ts))
first_fault w ts i d l = at_drop_more (ticket_fault w) ts i d l

pub fault_absent : (w : State) (ts : List Ticket) (i : ℕ) (d : Ticket) → i < length ts → has w (get_or ts i d).cpu ≡ false
    → ticket_fault w (drop i ts) ≡ Some (NoProcessor (get_or ts i d).cpu)
fault_absent w ts i d l h = first_fault w ts i d l
    ∙ ap (λ b. fault_of w (get_or ts i d) b (nat_le (cpu_at w (get_or ts i d).cpu).count (get_or ts i d).number) (ticket_fault w (drop (i + 1) ts))) h

pub fault_ahead : (w : State) (ts : List Ticket) (i : ℕ) (d : Ticket) → i < length ts → has w (get_or ts i d).cpu ≡ true → (cpu_at w (get_or ts i d).cpu).count ≤ (get_or ts i d).number
    → ticket_fault w (drop i ts) ≡ Some (Ahead (get_or ts i d).cpu (cpu_at w (get_or ts i d).cpu).count)
fault_ahead w ts i d l h m = first_fault w ts i d l
    ∙ ap (λ b. fault_of w (get_or ts i d) b (nat_le (cpu_at w (get_or ts i d).cpu).count (get_or ts i d).number) (ticket_fault w (drop (i + 1) ts))) h
    ∙ ap (λ b. fault_of w (get_or ts i d) true b (ticket_fault w (drop (i + 1) ts))) (le-leb (cpu_at w (get_or ts i d).cpu).count (get_or ts i d).number m)

pub fault_later : (w : State) (ts : List Ticket) (i : ℕ) (d : Ticket) → i < length ts → has w (get_or ts i d).cpu ≡ true → (get_or ts i d).number < (cpu_at w (get_or ts i d).cpu).count
    → ticket_fault w (drop i ts) ≡ ticket_fault w (drop (i + 1) ts)
fault_later w ts i d l h m = first_fault w ts i d l
    ∙ ap (λ b. fault_of w (get_or ts i d) b (nat_le (cpu_at w (get_or ts i d).cpu).count (get_or ts i d).number) (ticket_fault w (drop (i + 1) ts))) h
    ∙ ap (λ b. fault_of w (get_or ts i d) true b (ticket_fault w (drop (i + 1) ts))) (lt-leb (cpu_at w (get_or ts i d).cpu).count (get_or ts i d).number m)

-- the caller is tested first
pub caller_absent : (w : State) (by : Option ℕ) (ts : List Ticket) (p : ℕ) → by ≡ Some p → has w p ≡ false → barrier_fault w by ts ≡ Some (NoProcessor p)
caller_absent w by ts p e h = ap (λ b. barrier_fault w b ts) e ∙ ap (λ b. cond b (ticket_fault w ts) (Some (NoProcessor p))) h

pub caller_there : (w : State) (by : Option ℕ) (ts : List Ticket) (p : ℕ) → by ≡ Some p → has w p ≡ true → barrier_fault w by ts ≡ ticket_fault w ts
caller_there w by ts p e h = ap (λ b. barrier_fault w b ts) e ∙ ap (λ b. cond b (ticket_fault w ts) (Some (NoProcessor p))) h
