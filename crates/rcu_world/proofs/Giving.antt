-- Give, by its two cases
use Rattle.std.proofs.Common.{◌≡◌, ℕ, List, [], ◌∷◌, refl}
use Rattle.std.proofs.lemmas.List.{append-nil}
use Rattle.rcu_world_law.specs.Calls.{Call}
use Rattle.rcu_world_law.specs.States.{Cpu}
use Rattle.rcu_world_law.specs.Steps.{gives}
use Rattle.rcu_world_processor.specs.Giving.{gives_by_case}

gives_with : (blimit : ℕ) (c : Cpu) (out : List Call) → gives blimit (record c { out = out }) ≡ gives_by_case blimit (record c { out = out })
gives_with blimit c [] = refl
gives_with blimit c (x ∷ xs) = rw (append-nil xs) refl

pub gives_cases : (blimit : ℕ) (c : Cpu) → gives blimit c ≡ gives_by_case blimit c
gives_cases blimit c = gives_with blimit c c.out
