-- Room for a Stamp, and what a Stamp does to a processor
use Rattle.std.proofs.Common.{◌≡◌, ℕ, Bool, true, false, List, [], ◌∷◌, ◌++◌, refl, None, not}
use Rattle.std.specs.Prelude.{OnOk, Result, Ok, Err}
use Rattle.rcu_world_law.specs.Calls.{Call}
use Rattle.rcu_world_law.specs.LabelledLists.{Labelled, bare}
use Rattle.rcu_world_law.specs.Releases.{Pace, pace_after_stamp}
use Rattle.rcu_world_law.specs.States.{Cpu}
use Rattle.rcu_world_law.specs.Steps.{fresh_calls, stamps_into, with_pace}

pub on_ok : {T E : Type 0} (r : Result T E) (P Q : Type 0) → (P → Q) → OnOk r P → OnOk r Q
on_ok (Ok x) P Q f h = f h
on_ok (Err x) P Q f h = tt

pub other : (b : Bool) → b ≡ true → b ≡ false → ⊥
other true e f = cc
other false e f = cc

pub not_so : (b : Bool) → not b ≡ true → b ≡ false
not_so true e = absurd cc
not_so false e = refl

pub stamped : (o m : Cpu) (lazy : Bool) (moment number : ℕ) (x : Call) (xs : List Call) (p : Pace) → m ≡ record o { fresh = None } → fresh_calls number o.fresh ≡ x ∷ [] → xs ≡ m.bypass ++ x ∷ []
    → p ≡ pace_after_stamp lazy moment m → with_pace p (record m { bypass = xs }) ≡ with_pace (pace_after_stamp lazy moment o) (stamps_into true number o)
stamped o m lazy moment number x xs p n f e h = rw (h, e, n, f) refl

pub stamped_own : (o m : Cpu) (us ws : List Labelled) (number : ℕ) (x : Call)
    → m ≡ record o { own = us; fresh = None } → us ≡ o.own → fresh_calls number o.fresh ≡ x ∷ [] → ws ≡ us ++ bare x ∷ []
    → record m { own = ws } ≡ stamps_into false number o
stamped_own o m us ws number x n same f e = rw (e, n, same, f) refl

pub same_bypass : (o : Cpu) (xs : List Call) (p : Pace) → xs ≡ o.bypass → p ≡ record { moment = o.moment; direct = o.direct; kept_moment = o.kept_moment; plain = o.plain } → with_pace p (record o { bypass = xs }) ≡ o
same_bypass o xs p e h = rw (e, h) refl
