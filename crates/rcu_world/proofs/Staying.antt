-- What stays over some calls of a world, one after another
use Rattle.std.proofs.Common.{◌≡◌, ℕ, length, refl, ap, sym, subst, ◌∙◌}
use Rattle.rcu_world.specs.declared.cores.Core.{Core}
use Rattle.rcu_world.specs.Stays.{KeepsWorld, StaysWorld}
use Rattle.rcu_world.specs.Turns.{IsAtRest, KeepsRest}
use Rattle.rcu_world.specs.Views.{state, SameState}
use Rattle.rcu_world.specs.Worlds.{IsWorld}

pub stays_by : {J R : Type 0} {key_of : J → ℕ} {gives : ℕ → R → Type 0} {old new : Core J R} → KeepsWorld key_of gives old new → KeepsRest key_of old new → StaysWorld key_of gives old new
stays_by k r = record { kept = k.kept; shape = k.shape; len = k.len; rest = r }

pub stays_same : {J R : Type 0} {key_of : J → ℕ} {gives : ℕ → R → Type 0} {w : Core J R} → IsWorld key_of gives w → StaysWorld key_of gives w w
stays_same k = record { kept = k; shape = refl; len = refl; rest = λ r. r }

-- the state is as it was
pub stays_still : {J R : Type 0} {key_of : J → ℕ} {gives : ℕ → R → Type 0} {old new : Core J R} → KeepsWorld key_of gives old new → SameState key_of old new → StaysWorld key_of gives old new
stays_still k e = stays_by k (λ r. subst IsAtRest (sym e) r)

pub keeps_then : {J R : Type 0} {key_of : J → ℕ} {gives : ℕ → R → Type 0} {a b c : Core J R} → KeepsWorld key_of gives a b → KeepsWorld key_of gives b c → KeepsWorld key_of gives a c
keeps_then k l = record { kept = l.kept; shape = l.shape ∙ k.shape; len = l.len ∙ k.len }

pub stays_then : {J R : Type 0} {key_of : J → ℕ} {gives : ℕ → R → Type 0} {a b c : Core J R} → StaysWorld key_of gives a b → StaysWorld key_of gives b c → StaysWorld key_of gives a c
stays_then s t = record { kept = t.kept; shape = t.shape ∙ s.shape; len = t.len ∙ s.len; rest = λ r. t.rest (s.rest r) }
