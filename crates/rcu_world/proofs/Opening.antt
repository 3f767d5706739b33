-- The state at the beginning
use Rattle.std.proofs.Common.{◌≡◌, ℕ, zero, suc, ◌+◌, ◌-◌, ◌<◌, ◌≤◌, ◌%◌, ◌/◌, ◌==◌, List, [], ◌∷◌, ◌++◌, length, map, replicate, refl, ap, sym, ◌∙◌, arith, append_assoc, get_or, Bool, false}
use Rattle.std.proofs.lemmas.List.{append-nil}
use Rattle.std.specs.List.{AllByRecursion}
use Rattle.rcu_world_law.specs.declared.marks.Mark.{Mark}
use Rattle.rcu_world_law.specs.States.{Shape, Barrier, Cpu, opening, empty_cpu, opening_cpu, opening_cpus}
use Rattle.rcu_numbers.specs.declared.Shape.{Shape as Limits}
use Rattle.rcu_numbers.specs.Limits.{IsWithinLimits}
use Rattle.rcu_world_law.proofs.Opening.{opening_kept, length_opening}
use Rattle.rcu_world.specs.Turns.{IsIdle, IsAtRest}
use Rattle.rcu_world.specs.Boards.{GracePeriod, bits}
use Rattle.rcu_world.specs.Worlds.{IsFit, plan}
use Rattle.rcu_world.proofs.Masks.{length_bits}

pub all_more : {X : Type 0} (P : X → Type 0) (xs : List X) (x : X) → AllByRecursion P xs → P x → AllByRecursion P (xs ++ x ∷ [])
all_more P [] x a h = (h, tt)
all_more P (y ∷ xs) x a h = (a.0, all_more P xs x a.1 h)

-- all bits of a mask are left
pub bits_start : (n mask : ℕ) (bs : List Bool) → bs ≡ [] → bits n mask ≡ bs ++ bits (n - 0) mask
bits_start n mask bs e = ap (λ k. bits k mask) (let z : n ≡ n - 0 = omega arith in z) ∙ ap (λ x. x ++ bits (n - 0) mask) (sym e)

-- the next bit of a mask
pub bits_next : (n i mask : ℕ) (bs : List Bool) → i < n → bs ++ bits (n - i) mask ≡ (bs ++ (mask % 2 == 1) ∷ []) ++ bits (n - (i + 1)) (mask / 2)
bits_next n i mask bs l =
    let e : n - i ≡ suc (n - (i + 1)) = omega arith in
    ap (λ k. bs ++ bits k mask) e ∙ sym (append_assoc bs ((mask % 2 == 1) ∷ []) (bits (n - (i + 1)) (mask / 2)))

pub bits_end : (n i mask all : ℕ) (bs : List Bool) → n ≤ i → bits n all ≡ bs ++ bits (n - i) mask → bs ≡ bits n all
bits_end n i mask all bs l h =
    let e : n - i ≡ 0 = omega arith in
    sym (h ∙ ap (λ k. bs ++ bits k mask) e ∙ append-nil bs)

-- the processors at the beginning
opening_each : (bs : List Bool) → opening_cpus (length bs) bs ≡ map opening_cpu bs
opening_each [] = refl
opening_each (b ∷ bs) = ap (λ cs. opening_cpu b ∷ cs) (opening_each bs)

pub opening_bits : (n mask : ℕ) (bs : List Bool) → bs ≡ bits n mask → map opening_cpu bs ≡ opening_cpus n (bits n mask)
opening_bits n mask bs e = ap (map opening_cpu) e ∙ sym (opening_each (bits n mask)) ∙ ap (λ k. opening_cpus k (bits n mask)) (length_bits n mask)

pub at_rest : (plan : Shape) (n : ℕ) (offloadable : List Bool) (board : GracePeriod) (cs : List Cpu) (bs : List Barrier) (h : List Mark) → offloadable ≡ plan.offloadable → board ≡ record { number = 0; owing = replicate n false } → cs ≡ opening_cpus n plan.offloadable → bs ≡ [] → h ≡ []
    → record { shape = record plan { offloadable = offloadable }; number = board.number; owing = board.owing; needed = 0; cpus = cs; barriers = bs; history = h } ≡ opening n plan
at_rest plan n offloadable board cs bs h s o c b e = rw (s, o, c, b, e) refl

pub fit_opening : (s : Limits) → IsWithinLimits s.processors s.offloadable s.stride s.blimit s.qhimark s.limit → IsFit (opening s.processors (plan s))
fit_opening s w = record {
  core = opening_kept s.processors (plan s);
  stride = w.group.0;
  blimit = w.batch.0;
  limit = w.accepted.1;
  few = omega (arith, length_opening s.processors (bits s.processors s.offloadable), w.some_processors.1);
  no_back = record { none = λ p i key x. absurd cc };
}

idle_replicated : (n p : ℕ) → IsIdle (get_or (replicate n empty_cpu) p empty_cpu)
idle_replicated zero p = record { fresh = refl; running = refl }
idle_replicated (suc n) zero = record { fresh = refl; running = refl }
idle_replicated (suc n) (suc p) = idle_replicated n p

idle_opened : (n p : ℕ) (bs : List Bool) → IsIdle (get_or (opening_cpus n bs) p empty_cpu)
idle_opened n p [] = idle_replicated n p
idle_opened zero p (b ∷ bs) = record { fresh = refl; running = refl }
idle_opened (suc n) zero (b ∷ bs) = record { fresh = refl; running = refl }
idle_opened (suc n) (suc p) (b ∷ bs) = idle_opened n p bs

pub rest_opening : (n : ℕ) (plan : Shape) → IsAtRest (opening n plan)
rest_opening n plan = record { each = λ p. idle_opened n p plan.offloadable }
