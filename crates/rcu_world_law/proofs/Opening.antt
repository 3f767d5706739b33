-- The invariant holds at the beginning.
use Rattle.std.proofs.Common.{cond, true, false, ◌≡◌, ℕ, zero, suc, List, [], ◌∷◌, length, refl, ap, sym, subst, arith, Bool, Some, None, inl, inr, get_or, replicate}
use Rattle.std.proofs.lemmas.Bool.{cases_lt}
use Rattle.std.proofs.lemmas.List.{take_all, get_or-replicate, length-replicate, get_or_past}
use Rattle.rcu_world_law.specs.declared.marks.Mark.TheVariants.{Accepted, Ran}
use Rattle.rcu_world_law.specs.Law.{IsSound}
use Rattle.rcu_world_law.specs.States.{empty_cpu, Shape, opening, opening_cpu, opening_cpus}
use Rattle.rcu_world_law.specs.Invariant.{IsCpu, IsCore, MayHaveOffloaded}
use Rattle.rcu_jobs.specs.declared.modes.Mode.TheVariants.{Local, Offloaded}
use Rattle.rcu_world_law.proofs.Frames.{core_from}
use Rattle.rcu_world_law.proofs.LabelledLists.{labelled_nothing}

-- the state at the beginning
sound_nothing : (n : ℕ) → IsSound n []
sound_nothing n = record {
  ordered = λ p. ([], refl);
  graced = λ p k t u a r. let x : None ≡ Some (Ran p r.key) = r.stands in absurd cc;
  barred = λ b o e p k t x. absurd cc;
  opened = record { before = λ b e x. absurd cc; once = λ b i j x. absurd cc };
  shut = λ p i j key x. absurd cc;
}

pub length_opening : (n : ℕ) (bs : List Bool) → length (opening_cpus n bs) ≡ n
length_opening n [] = length-replicate n empty_cpu
length_opening zero (b ∷ bs) = refl
length_opening (suc n) (b ∷ bs) = ap suc (length_opening n bs)

opening_offloaded : (b : Bool) → MayHaveOffloaded (cond b Offloaded Local) 0 []
opening_offloaded true = tt
opening_offloaded false = refl

cpu_opening : (n limit p : ℕ) (b : Bool) → IsCpu n [] 0 limit p (opening_cpu b)
cpu_opening n limit p b = record {
  placed = record { keys = refl; numbers = tt; count = refl; turn = refl; runs = refl; numbered = tt };
  timely = record { stamped = tt; fresh = tt; sight = omega arith; hand_sight = omega arith };
  lists = (labelled_nothing 0 0, labelled_nothing 0 0);
  running = refl;
  ready = tt;
  kinds = refl;
  offloaded = opening_offloaded b;
  shut = record { never = λ e i x. absurd cc; marked = λ e. absurd cc };
  one_list = record { own = λ e. refl; bypass = λ e. refl };
  bounded = omega arith;
}

idle_opening : (n limit p : ℕ) → IsCpu n [] 0 limit p empty_cpu
idle_opening n limit p = record {
  placed = record { keys = refl; numbers = tt; count = refl; turn = refl; runs = refl; numbered = tt };
  timely = record { stamped = tt; fresh = tt; sight = omega arith; hand_sight = omega arith };
  lists = (labelled_nothing 0 0, labelled_nothing 0 0);
  running = refl;
  ready = tt;
  kinds = refl;
  offloaded = refl;
  shut = record { never = λ e i x. absurd cc; marked = λ e. absurd cc };
  one_list = record { own = λ e. refl; bypass = λ e. refl };
  bounded = omega arith;
}

cpus_opening : (m limit p n q : ℕ) (bs : List Bool) → IsCpu m [] 0 limit p (get_or (opening_cpus n bs) q empty_cpu)
cpus_opening m limit p n q [] = elim (cases_lt q n) [
  | inl l ↦ subst (IsCpu m [] 0 limit p) (sym (get_or-replicate n q empty_cpu empty_cpu l)) (idle_opening m limit p)
  | inr l ↦ subst (IsCpu m [] 0 limit p) (sym (get_or_past (replicate n empty_cpu) q empty_cpu (omega (arith, length-replicate n empty_cpu)))) (idle_opening m limit p)
]
cpus_opening m limit p zero q (b ∷ bs) = idle_opening m limit p
cpus_opening m limit p (suc n) zero (b ∷ bs) = cpu_opening m limit p b
cpus_opening m limit p (suc n) (suc q) (b ∷ bs) = cpus_opening m limit p n q bs

pub opening_kept : (n : ℕ) (shape : Shape) → IsCore (opening n shape)
opening_kept n shape = core_from (opening n shape) n (sym (length_opening n shape.offloadable)) (record {
  board = record {
    size = length-replicate n false;
    phase = omega arith;
    small = omega arith;
    reported = λ q m. rw (get_or-replicate n q false false m) refl;
    idle = λ e q m. get_or-replicate n q false false m;
  };
  cpu = λ p m. cpus_opening n shape.limit p n p shape.offloadable;
  barrier = λ b x. absurd (omega arith);
  opened = λ b o x. absurd cc;
  passed = λ b o x. absurd cc;
  there = λ p k t a. let x : None ≡ Some (Accepted p a.key) = a.stands in absurd cc;
  lawful = record { each = λ m. subst (IsSound n) (sym (take_all m [] (omega arith))) (sound_nothing n) };
})
