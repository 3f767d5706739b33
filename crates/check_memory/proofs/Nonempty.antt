-- A `Vec` that isn't empty.
use Rattle.std.proofs.Common.{◌≡◌, ◌<◌, length, arith}
use Rattle.std.proofs.lemmas.Bool.{eqb-false}
use Rattle.std.specs.Global.{Vec}
use Rattle.std.specs.Prelude.{vec_len, ◌==◌, false}

module _ {X : Type 0} where
  -- it has a first item
  pub not_none : (xs : Vec X) → (vec_len xs == 0) ≡ false → 0 < length xs.items
  not_none xs is_so = let e = eqb-false (vec_len xs) 0 is_so in let k : vec_len xs ≡ length xs.items = xs.ok.0 in omega (arith, e, k)
