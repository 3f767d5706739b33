-- What a close hands back is what its marks say
use Rattle.std.proofs.Common.{◌≡◌, ℕ, ◌+◌, ◌<◌, zero, suc, length-append, List, [], ◌∷◌, ◌++◌, length, map, get_or, Bool, true, false, cond, refl, ap, sym, ◌∙◌, subst, arith}
use Rattle.std.proofs.lemmas.List.{append-nil, append_cancel_left, get_or-map, length-map}
use Rattle.std.proofs.lemmas.Grind.{flat_map-append}
use Rattle.std.specs.Global.{Vec}
use Rattle.std.specs.List.{flat_map, All, AllByRecursion}
use Rattle.rcu_jobs.specs.declared.Record.{Record}
use Rattle.rcu_world_law.specs.declared.marks.Mark.{Mark}
use Rattle.rcu_world_law.specs.declared.marks.Mark.TheVariants.{Shut, Back}
use Rattle.rcu_world_law.specs.Law.{accepted, ran, back, key_accepted, key_ran, HasNoBack}
use Rattle.rcu_world_law.specs.Calls.{Call}
use Rattle.rcu_world_law.specs.States.{State, Cpu, cpu_at, empty_cpu}
use Rattle.rcu_world_law.specs.Places.{key_of, remaining_callbacks}
use Rattle.rcu_world_law.specs.Invariant.{AreRecords, IsCore}
use Rattle.rcu_world_law.specs.Closing.{closing, shut_mark, shut_marks, back_marks}
use Rattle.rcu_world_law.proofs.Closing.{closed}
use Rattle.rcu_world_processor.specs.declared.processor.WorldProcessor.{WorldProcessor}
use Rattle.rcu_world.specs.declared.cores.Core.{Core}
use Rattle.rcu_world_processor.specs.Leaving.{IsCounted, left_keys}
use Rattle.rcu_world.specs.Leaving.{AreCounted, AreHandedBack, AreRecorded, AreRunsOf, runs_in}
use Rattle.rcu_world_processor.specs.Views.{records_of, run, seen, AreGiven}
use Rattle.rcu_world.specs.Worlds.{IsFit}
use Rattle.rcu_world.specs.Views.{all_seen, state}

-- what reads nothing of the marks that close adds
module _ (f : Mark → List ℕ) (shut : (p : ℕ) → f (Shut p) ≡ []) (handed : (p key : ℕ) → f (Back p key) ≡ []) where
  none_of_shut : (p : ℕ) (b : Bool) → flat_map f (cond b [] (Shut p ∷ [])) ≡ []
  none_of_shut p true = refl
  none_of_shut p false = ap (λ x. x ++ []) (shut p)

  none_of_shuts : (p : ℕ) (cs : List Cpu) → flat_map f (shut_marks p cs) ≡ []
  none_of_shuts p [] = refl
  none_of_shuts p (c ∷ cs) = flat_map-append f (shut_mark p c) (shut_marks (p + 1) cs) ∙ ap (λ x. x ++ flat_map f (shut_marks (p + 1) cs)) (none_of_shut p c.shut) ∙ none_of_shuts (p + 1) cs

  none_of_back : (p : ℕ) (xs : List Call) → flat_map f (map (λ x. Back p x.key) xs) ≡ []
  none_of_back p [] = refl
  none_of_back p (x ∷ xs) = ap (λ y. y ++ flat_map f (map (λ x. Back p x.key) xs)) (handed p x.key) ∙ none_of_back p xs

  none_of_backs : (p : ℕ) (cs : List Cpu) → flat_map f (back_marks p cs) ≡ []
  none_of_backs p [] = refl
  none_of_backs p (c ∷ cs) = flat_map-append f (map (λ x. Back p x.key) (remaining_callbacks c)) (back_marks (p + 1) cs)
      ∙ ap (λ x. x ++ flat_map f (back_marks (p + 1) cs)) (none_of_back p (remaining_callbacks c)) ∙ none_of_backs (p + 1) cs

  same_closing : (w : State) → flat_map f (closing w) ≡ flat_map f w.history
  same_closing w = flat_map-append f (w.history ++ shut_marks 0 w.cpus) (back_marks 0 w.cpus) ∙ ap (λ x. flat_map f (w.history ++ shut_marks 0 w.cpus) ++ x) (none_of_backs 0 w.cpus)
      ∙ append-nil (flat_map f (w.history ++ shut_marks 0 w.cpus)) ∙ flat_map-append f w.history (shut_marks 0 w.cpus) ∙ ap (λ x. flat_map f w.history ++ x) (none_of_shuts 0 w.cpus) ∙ append-nil (flat_map f w.history)

ran_closing : (p : ℕ) (w : State) → ran p (closing w) ≡ ran p w.history
ran_closing p w = same_closing (key_ran p) (λ q. refl) (λ q key. refl) w

accepted_closing : (p : ℕ) (w : State) → accepted p (closing w) ≡ accepted p w.history
accepted_closing p w = same_closing (key_accepted p) (λ q. refl) (λ q key. refl) w

-- the keys that are handed back are those of what is left
left_back : (w : State) (p : ℕ) → IsCore w → HasNoBack w.history → p < length w.cpus → map key_of (remaining_callbacks (cpu_at w p)) ≡ back p (closing w)
left_back w p k u l = sym (append_cancel_left (ran p w.history) (back p (closing w)) (map key_of (remaining_callbacks (cpu_at w p)))
    (ap (λ x. x ++ back p (closing w)) (sym (ran_closing p w)) ∙ sym ((closed w k u).settled.accounted p) ∙ accepted_closing p w ∙ (k.cpu p l).placed.keys))

all_from : {X : Type 0} (P : X → Type 0) (d : X) (xs : List X) → ((i : ℕ) → i < length xs → P (get_or xs i d)) → AllByRecursion P xs
all_from P d [] f = tt
all_from P d (x ∷ xs) f = (f 0 (omega arith), all_from P d xs (λ i l. f (suc i) (omega arith)))

all_unmapped : {X Y : Type 0} (P : Y → Type 0) (f : X → Y) (xs : List X) → AllByRecursion P (map f xs) → AllByRecursion (λ x. P (f x)) xs
all_unmapped P f [] a = tt
all_unmapped P f (x ∷ xs) a = (a.0, all_unmapped P f xs a.1)

-- what was accepted ran or is left
pub is_counted : (w : State) (p : ℕ) → IsFit w → p < length w.cpus → IsCounted (cpu_at w p)
is_counted w p k l =
    let i = (k.core.cpu p l).placed in
    record {
      count = omega (arith, i.count, i.turn, ap length i.keys, length-append (ran p w.history) (map key_of (remaining_callbacks (cpu_at w p))), length-map (remaining_callbacks (cpu_at w p)) key_of);
      few = omega (arith, (k.core.cpu p l).bounded, k.limit);
    }

all_given : {J R : Type 0} (gives : ℕ → R → Type 0) (mark : ℕ) (ps : List (WorldProcessor J R)) → AllByRecursion (AreGiven gives mark) ps → AllByRecursion (λ (v : Vec (Record R)). All (λ r. gives r.key r.receipt) v.items) (map records_of ps)
all_given gives mark [] a = tt
all_given gives mark (p ∷ ps) a = (a.0.0, all_given gives mark ps a.1)

pub are_counted : {J R : Type 0} (job_key : J → ℕ) (w : Core J R) → IsFit (state job_key w) → AreCounted job_key w.processors.items
are_counted job_key w k = all_unmapped IsCounted (seen job_key) w.processors.items (all_from IsCounted empty_cpu (all_seen job_key w.processors.items) (λ p l. is_counted (state job_key w) p k l))

module _ {J R : Type 0} (job_key : J → ℕ) (w : Core J R) (k : IsCore (state job_key w)) where
  pub handed_back : HasNoBack w.history.items → (lists : List (Vec J)) → map (λ (v : Vec J). map job_key v.items) lists ≡ map left_keys (all_seen job_key w.processors.items)
      → AreHandedBack job_key (length (all_seen job_key w.processors.items)) (closing (state job_key w)) lists
  handed_back u lists e = record {
    each = λ p l. ap (λ x. get_or x p []) e ∙ get_or-map left_keys (all_seen job_key w.processors.items) p empty_cpu [] l ∙ left_back (state job_key w) p k u l;
    len = sym (length-map lists (λ (v : Vec J). map job_key v.items)) ∙ ap length e ∙ length-map (all_seen job_key w.processors.items) left_keys;
  }

  run_lists : (ps : List (WorldProcessor J R)) (p : ℕ) → p < length ps → get_or (map (λ (v : Vec (Record R)). map run v.items) (map records_of ps)) p [] ≡ (get_or (all_seen job_key ps) p empty_cpu).runs
  run_lists (q ∷ ps) zero l = refl
  run_lists (q ∷ ps) (suc p) l = run_lists ps p (omega arith)
  run_lists [] p l = absurd (omega arith)

  runs_each : (lists : List (Vec (Record R))) → lists ≡ map records_of w.processors.items → (p : ℕ) → p < length (all_seen job_key w.processors.items)
      → runs_in lists p ≡ (cpu_at (state job_key w) p).runs
  runs_each lists e p l = ap (λ x. get_or (map (λ (v : Vec (Record R)). map run v.items) x) p []) e ∙ run_lists w.processors.items p (omega (arith, length-map w.processors.items (seen job_key)))

  pub runs_of : (lists : List (Vec (Record R))) → lists ≡ map records_of w.processors.items → AreRunsOf (state job_key w) lists
  runs_of lists e = record { each = runs_each lists e }

  pub recorded : (gives : ℕ → R → Type 0) → AllByRecursion (AreGiven gives w.qhimark) w.processors.items → (lists : List (Vec (Record R))) → lists ≡ map records_of w.processors.items
      → AreRecorded gives (length (all_seen job_key w.processors.items)) (closing (state job_key w)) lists
  recorded gives a lists e = record {
    each = λ p l. subst (AreRecords (closing (state job_key w)) p) (sym (runs_each lists e p l))
        (record { numbers = (k.cpu p l).placed.numbered; keys = (k.cpu p l).placed.runs ∙ sym (ran_closing p (state job_key w)); ready = (k.cpu p l).ready });
    given = subst (AllByRecursion (λ (v : Vec (Record R)). All (λ r. gives r.key r.receipt) v.items)) (sym e) (all_given gives w.qhimark w.processors.items a);
    len = ap length e ∙ length-map w.processors.items records_of ∙ sym (length-map w.processors.items (seen job_key));
  }
