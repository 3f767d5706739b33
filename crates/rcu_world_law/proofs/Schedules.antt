-- The headline: whatever events come, the history is lawful, and what `close` makes of it is closed.
use Rattle.std.proofs.Common.{◌≡◌, ℕ, ◌<◌, List, [], length, refl, ap, sym, subst, ◌∙◌, arith, Bool, inl, inr, true, false, ◌&&◌}
use Rattle.std.proofs.lemmas.Bool.{cases_lt}
use Rattle.std.proofs.lemmas.List.{get_or_past}
use Rattle.rcu_world_law.specs.LabelledLists.{Labelled}
use Rattle.rcu_world_law.specs.Law.{IsLawful, IsClosed}
use Rattle.rcu_jobs.specs.Modes.{is_offloaded}
use Rattle.rcu_world_law.specs.States.{State, empty_cpu, cpu_at, has, Shape, opening}
use Rattle.rcu_world_law.specs.Steps.{can_claim, can_claim_own}
use Rattle.rcu_world_law.specs.declared.who.Side.TheVariants as sides
use Rattle.rcu_world_law.specs.Events.{CoreEvent, is_enabled, run}
use Rattle.rcu_world_law.specs.Events.CoreEvent.{Claim}
use Rattle.rcu_world_law.specs.Invariant.{AreRecords, HasLabelledLists, IsCore, MayHaveOffloaded}
use Rattle.rcu_jobs.specs.declared.modes.Mode.TheVariants.{Local}
use Rattle.rcu_world_law.specs.Places.{offloaded_callbacks}
use Rattle.rcu_world_law.specs.Closing.{closing}
use Rattle.rcu_world_law.proofs.Closing.{closed}
use Rattle.rcu_world_law.proofs.Keeping.{run_kept, length_run}
use Rattle.rcu_world_law.proofs.Opening.{opening_kept, length_opening}
use Rattle.rcu_world_law.proofs.NoBack.{no_back_run}
use Rattle.rcu_world_law.proofs.Bounds.{labelled_lists}

pub every_schedule : (n : ℕ) (shape : Shape) (ms : List CoreEvent) → IsLawful n (run ms (opening n shape)).history
every_schedule n shape ms = subst (λ x. IsLawful x (run ms (opening n shape)).history) (length_run ms (opening n shape) ∙ length_opening n shape.offloadable)
    (run_kept ms (opening n shape) (opening_kept n shape)).lawful

pub every_close : (n : ℕ) (shape : Shape) (ms : List CoreEvent) → IsClosed n (closing (run ms (opening n shape)))
every_close n shape ms = subst (λ x. IsClosed x (closing (run ms (opening n shape)))) (length_run ms (opening n shape) ∙ length_opening n shape.offloadable)
    (closed (run ms (opening n shape)) (run_kept ms (opening n shape) (opening_kept n shape)) (no_back_run ms (opening n shape) (record { none = λ p i key e. absurd cc })))

-- what is recorded of each processor
records_of : (w : State) (p : ℕ) → IsCore w → p < length w.cpus → AreRecords w.history p (cpu_at w p).runs
records_of w p k l = record { numbers = (k.cpu p l).placed.numbered; keys = (k.cpu p l).placed.runs; ready = (k.cpu p l).ready }

pub every_record : (n : ℕ) (shape : Shape) (ms : List CoreEvent) → (p : ℕ) → p < n → AreRecords (run ms (opening n shape)).history p (cpu_at (run ms (opening n shape)) p).runs
every_record n shape ms p m = records_of (run ms (opening n shape)) p (run_kept ms (opening n shape) (opening_kept n shape))
    (omega (arith, length_run ms (opening n shape), length_opening n shape.offloadable))

-- while a processor is Offloaded, its own list is empty
nothing_to_claim : (ws : List Labelled) (turn : ℕ) → ws ≡ [] → can_claim_own ws turn ≡ false
nothing_to_claim ws turn e = ap (λ x. can_claim_own x turn) e

both_off : (a b : Bool) → b ≡ false → (a && b) ≡ false
both_off true b e = e
both_off false b e = refl

pub offloaded_claims_nothing : (w : State) (p : ℕ) → IsCore w → is_offloaded (cpu_at w p).mode ≡ true → is_enabled w (Claim p sides.Local) ≡ false
offloaded_claims_nothing w p k o = elim (cases_lt p (length w.cpus)) [
  | inl l ↦ both_off (has w p) (can_claim sides.Local (cpu_at w p)) (nothing_to_claim (cpu_at w p).own (cpu_at w p).turn ((k.cpu p l).one_list.own o))
  | inr l ↦ absurd (let x : false ≡ true = ap (λ c. is_offloaded c.mode) (sym (get_or_past w.cpus p empty_cpu l)) ∙ o in cc)
]

pub every_offloaded : (n : ℕ) (shape : Shape) (ms : List CoreEvent) → (p : ℕ)
    → is_offloaded (cpu_at (run ms (opening n shape)) p).mode ≡ true → is_enabled (run ms (opening n shape)) (Claim p sides.Local) ≡ false
every_offloaded n shape ms p o = offloaded_claims_nothing (run ms (opening n shape)) p (run_kept ms (opening n shape) (opening_kept n shape)) o

pub every_list : (n : ℕ) (shape : Shape) (ms : List CoreEvent) → (p : ℕ) → p < n → HasLabelledLists (run ms (opening n shape)) p
every_list n shape ms p m = labelled_lists (run ms (opening n shape)) p (run_kept ms (opening n shape) (opening_kept n shape))
    (omega (arith, length_run ms (opening n shape), length_opening n shape.offloadable))

-- in Local neither group nor hand has a callback left
pub nothing_offloaded : (w : State) (p : ℕ) → IsCore w → p < length w.cpus → (cpu_at w p).mode ≡ Local → offloaded_callbacks (cpu_at w p) ≡ []
nothing_offloaded w p k l m = subst (λ x. MayHaveOffloaded x (cpu_at w p).left (offloaded_callbacks (cpu_at w p))) m (k.cpu p l).offloaded

pub every_local : (n : ℕ) (shape : Shape) (ms : List CoreEvent) → (p : ℕ) → p < n
    → (cpu_at (run ms (opening n shape)) p).mode ≡ Local → offloaded_callbacks (cpu_at (run ms (opening n shape)) p) ≡ []
every_local n shape ms p m = nothing_offloaded (run ms (opening n shape)) p (run_kept ms (opening n shape) (opening_kept n shape))
    (omega (arith, length_run ms (opening n shape), length_opening n shape.offloadable))
