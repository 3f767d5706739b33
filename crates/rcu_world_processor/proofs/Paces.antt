-- The rules of a bypass list are those of the law
use Rattle.std.proofs.Common.{◌≡◌, ℕ, ◌+◌, Bool, true, false, not, ◌||◌, List, [], ◌∷◌, ◌++◌, length, Option, Some, None, refl, ◌∙◌, arith}
use Rattle.std.specs.Prelude.{◌==◌, is_some, if◌then◌else◌, IsTrue, ◌↔◌}
use Rattle.std.proofs.lemmas.Bool.{ne_eqb}
use Rattle.rcu_jobs.specs.declared.Callback.{Callback}
use Rattle.rcu_world_law.specs.Calls.{Call}
use Rattle.rcu_world_law.specs.Lists.{is_nil, is_none}
use Rattle.rcu_world_law.specs.Releases as law
use Rattle.rcu_world_law.specs.States.{Cpu}
use Rattle.rcu_world_law.specs.Steps.{puts, with_pace}
use Rattle.rcu_lists.specs.Release.{is_at, is_alone, is_due, held, kept_moment, is_late, is_ripe, is_any, joined_plain}
use Rattle.rcu_lists.specs.declared.pace.Kind.TheVariants.{Plain, Lazy}
use Rattle.rcu_lists.specs.declared.pace.Pace.{Pace}
use Rattle.rcu_world_processor.specs.Batches.{law_pace}
use Rattle.rcu_lists.specs.Labels.{Labelled, callbacks_of}
use Rattle.rcu_world_processor.specs.Waits.{calls, waits}

differs_as : (o : Option ℕ) (m : ℕ) → not (is_at m o) ≡ law.differs o m
differs_as None m = refl
differs_as (Some n) m = refl

some_as : (o : Option ℕ) → is_some o ≡ not (is_none o)
some_as None = refl
some_as (Some n) = refl

pub due_plain : (m : ℕ) (p : Pace) (n q : ℕ) → is_due m Plain p n q ≡ law.call_releases false m p.last p.direct n (not (is_none p.lazy)) q
due_plain m p n q = rw (differs_as p.last m, some_as p.lazy) refl

pub due_lazy : (m : ℕ) (p : Pace) (n q : ℕ) → is_due m Lazy p n q ≡ law.call_releases true m p.last p.direct n (not (is_none p.lazy)) q
due_lazy m p n q = refl

held_step : (a b d : Bool) (m : ℕ) (p : Pace)
    → law_pace (if a then record p { last = Some m; direct = 1; plain = true } else if b then record p { plain = true } else if d then record p { direct = p.direct + 1; plain = true } else record p { plain = true })
    ≡ (if a then record { moment = Some m; direct = 1; kept_moment = p.lazy; plain = true } else if b then record { moment = p.last; direct = p.direct; kept_moment = p.lazy; plain = true }
    else if d then record { moment = p.last; direct = p.direct + 1; kept_moment = p.lazy; plain = true } else record { moment = p.last; direct = p.direct; kept_moment = p.lazy; plain = true })
held_step true b d m p = refl
held_step false true d m p = refl
held_step false false true m p = refl
held_step false false false m p = refl

kept_as : (o : Option ℕ) (m : ℕ) → kept_moment m o ≡ (if is_none o then Some m else o)
kept_as None m = refl
kept_as (Some n) m = refl

late_step : (plain : Bool) (m : ℕ) (last kept : Option ℕ) → (if plain then not (is_at m last) else is_ripe m kept) ≡ law.is_late m last false plain kept
late_step true m last kept = differs_as last m
late_step false m last None = refl
late_step false m last (Some n) = refl

module _ {J : Type 0} (key_of : J → ℕ) where
  alone_as : (xs : List (Callback J)) → (length xs + 1 == 1) ≡ is_nil (calls key_of xs)
  alone_as [] = refl
  alone_as (x ∷ xs) = ne_eqb (length (x ∷ xs) + 1) 1 (λ e. omega arith)

  -- a processor with these callbacks and this pace in its bypass list
  abbrev at : Pace → List (Callback J) → Cpu → Cpu
  at p xs c = with_pace (law_pace p) (record c { bypass = calls key_of xs })

  pub held_plain : (m : ℕ) (p : Pace) (xs : List (Callback J)) (c : Cpu) → law_pace (held m Plain p (length xs + 1)) ≡ law.pace_after_stamp false m (at p xs c)
  held_plain m p xs c = held_step (not (is_at m p.last)) (is_some p.lazy) (is_alone p (length xs + 1)) m p ∙ rw (differs_as p.last m, some_as p.lazy, alone_as xs) refl

  pub held_lazy : (m : ℕ) (p : Pace) (xs : List (Callback J)) (c : Cpu) → law_pace (held m Lazy p (length xs + 1)) ≡ law.pace_after_stamp true m (at p xs c)
  held_lazy m p xs c = rw (kept_as p.lazy m) refl

  pub late_as : (m : ℕ) (p : Pace) (xs : List (Callback J)) (b : Bool) → b ≡ is_late m p → (xs ≡ [] → b ≡ false) → b ≡ law.is_late m p.last (is_nil (calls key_of xs)) p.plain p.lazy
  late_as m p [] b e h = h refl
  late_as m p (x ∷ xs) b e h = e ∙ late_step p.plain m p.last p.lazy

  pub nil_as : (xs : List (Callback J)) (b : Bool) → (IsTrue b ↔ (xs ≡ [])) → b ≡ is_nil (calls key_of xs)
  nil_as [] b h = h.1 refl
  nil_as (x ∷ xs) true h = absurd (let e = h.0 refl in cc)
  nil_as (x ∷ xs) false h = refl

  poured_any : (xs : List (Labelled J)) → is_any (callbacks_of xs) ≡ not (is_nil (waits key_of xs))
  poured_any [] = refl
  poured_any (x ∷ xs) = refl

  pub poured : (xs : List (Labelled J)) (p : Pace) → law_pace (joined_plain (callbacks_of xs) p) ≡ record (law_pace p) { plain = not (is_nil (waits key_of xs)) || p.plain }
  poured xs p = rw (poured_any xs) refl

-- a processor whose bypass list was put, and one whose own list was poured
pub put_as : (c : Cpu) (ls : List (List Call)) (xs : List Call) (p q : law.Pace) → ls ≡ c.lane ++ c.bypass ∷ [] → xs ≡ [] → p ≡ q → with_pace p (record c { lane = ls; bypass = xs }) ≡ with_pace q (puts c)
put_as c ls xs p q e f h = rw (e, f, h) refl
