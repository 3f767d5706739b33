-- What the change of one item does to a whole list.
use Rattle.std.proofs.Common.{◌≡◌, ℕ, zero, suc, ◌<◌, ◌∙◌, List, [], ◌∷◌, length, get_or, set, All, arith, refl, subst, sym}
use Rattle.std.proofs.lemmas.List.{get_or_read_under}
use Rattle.std.proofs.lemmas.List.Elements.{All-get_or, All-set}
use Rattle.std.specs.List.{AllZip}
use Rattle.rcu_lemmas.proofs.Zips.{zip_same}

module _ {X : Type 0} where
  -- a relation that holds of each item and itself holds place by place, where it holds of the item that changes
  pub zip_changed : (S : X → X → Type 0) → ((x : X) → S x x) → (xs : List X) (k : ℕ) (x y : X) → k < length xs → x ≡ get_or xs k x → S x y → AllZip S xs (set xs k y)
  zip_changed S same [] k x y there is s = absurd (let z : ⊥ = omega (arith, there) in z)
  zip_changed S same (a ∷ xs) zero x y there is s = (subst (λ z. S z y) is s, zip_same S same xs)
  zip_changed S same (a ∷ xs) (suc k) x y there is s = (same a, zip_changed S same xs k x y (omega (arith, there)) is s)

  -- what holds of each item still does, where it is kept by the item that changes
  pub all_changed : (P : X → Type 0) (xs : List X) (k : ℕ) (x y : X) → k < length xs → x ≡ get_or xs k x → (P x → P y) → All P xs → All P (set xs k y)
  all_changed P xs k x y there is keeps all = All-set P xs k y (keeps (subst P (sym is) (All-get_or P xs k x there all))) all

  -- one place holds one item
  pub same_item : (xs : List X) (k : ℕ) (x y : X) → k < length xs → x ≡ get_or xs k x → y ≡ get_or xs k y → x ≡ y
  same_item xs k x y there is also = get_or_read_under xs k (length xs) x y is there refl ∙ sym also
