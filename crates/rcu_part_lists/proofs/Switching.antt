-- Which modes follow which.
use Rattle.std.proofs.Common.{◌≡◌, ℕ, ◌*◌, ◌≤◌, Bool, true, false, cond, List, [], refl, inl, inr}
use Rattle.std.specs.Prelude.{nat_le, IsTrue, ◌↔◌, ◌&&◌, ◌||◌}
use Rattle.std.proofs.lemmas.Bool.{cases_Bool, leb-true}
use Rattle.rcu_jobs.specs.declared.modes.Mode.{Mode}
use Rattle.rcu_jobs.specs.declared.modes.Mode.TheVariants.{Local, Offloading, Offloaded, Deoffloading}
use Rattle.rcu_jobs.specs.Modes.{first_mode, is_offloaded, is_offloading, is_deoffloading, is_local}
use Rattle.rcu_part_lists.specs.Modes.{settled}

pub settled-offloaded : (left turn : ℕ) (mode : Mode) → is_offloaded (settled left turn mode) ≡ is_offloaded mode
settled-offloaded left turn Local = refl
settled-offloaded left turn Offloading = refl
settled-offloaded left turn Offloaded = refl
settled-offloaded left turn Deoffloading = elim (cases_Bool (nat_le (2 * left) turn)) [ inl e ↦ rw e refl | inr e ↦ rw e refl ]

pub settled-leaving : (left turn : ℕ) (mode : Mode) → is_deoffloading (settled left turn mode) ≡ true → is_deoffloading mode ≡ true
settled-leaving left turn Local h = h
settled-leaving left turn Offloading h = h
settled-leaving left turn Offloaded h = h
settled-leaving left turn Deoffloading h = refl

deoffloaded : (left turn : ℕ) (b : Bool) → nat_le (2 * left) turn ≡ b → is_local (cond b Local Deoffloading) ≡ true → 2 * left ≤ turn
deoffloaded left turn true e h = leb-true (2 * left) turn e
deoffloaded left turn false e h = absurd cc

pub settled-local : (left turn : ℕ) (mode : Mode) → is_local mode ≡ false → is_local (settled left turn mode) ≡ true → (is_deoffloading mode ≡ true) × (2 * left ≤ turn)
settled-local left turn Local o h = absurd cc
settled-local left turn Offloading o h = absurd cc
settled-local left turn Offloaded o h = absurd cc
settled-local left turn Deoffloading o h = (refl, deoffloaded left turn (nat_le (2 * left) turn) refl h)

pub leaving-bypasses : (mode : Mode) → is_deoffloading mode ≡ true → is_offloaded mode ≡ false
leaving-bypasses Local h = refl
leaving-bypasses Offloading h = refl
leaving-bypasses Offloaded h = absurd cc
leaving-bypasses Deoffloading h = refl

pub left-clear : {X : Type 0} → (mode : Mode) (clear : Bool) (xs : List X) → (is_offloaded mode ≡ false → xs ≡ []) → IsTrue clear ↔ (xs ≡ []) → (is_offloading mode || (is_offloaded mode && clear)) ≡ true → xs ≡ []
left-clear Local clear xs alone i h = alone refl
left-clear Offloading clear xs alone i h = alone refl
left-clear Offloaded clear xs alone i h = i.0 h
left-clear Deoffloading clear xs alone i h = alone refl

pub first-stays : (b : Bool) → is_deoffloading (first_mode b) ≡ true → ⊥
first-stays true e = cc
first-stays false e = cc
