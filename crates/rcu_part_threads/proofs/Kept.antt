-- What threads that are joined in order gave back, place by place.
use Rattle.std.proofs.Common.{◌≡◌, ℕ, suc, List, [], ◌∷◌, length, ◌∙◌, subst, refl, arith}
use Rattle.std.specs.List.{AllZip}
use Rattle.std.specs.PromisedHandle.{KeepsAt, KeepsEach}
use Rattle.std.specs.declared.thread.PromisedHandle.{PromisedHandle}
use Rattle.std.specs.declared.thread.Promise as Promise

module _ {T P : Type 0} (g : Promise.Ghosts P T) where
  keeps_each : (hs : List (PromisedHandle T P)) (rs : List T) → length rs ≡ length hs → KeepsEach g (length hs) hs rs → AllZip (λ h r. g.kept_by h.promise r) hs rs
  keeps_each [] [] long keeps = tt
  keeps_each [] (r ∷ rs) long keeps = absurd (omega (arith, long))
  keeps_each (h ∷ hs) [] long keeps = absurd (omega (arith, long))
  keeps_each (h ∷ hs) (r ∷ rs) long keeps =
      let first : KeepsAt g (h ∷ hs) 0 r = (keeps 0 r (omega arith)).1 in (
        subst (λ (x : PromisedHandle T P). g.kept_by x.promise r) first.handle_is first.kept,
        keeps_each hs rs (omega (arith, long)) (λ i d below. let k = (keeps (suc i) d (omega (arith, below))).1 in (refl, record { handle = k.handle; handle_is = k.handle_is; kept = k.kept })),
      )

  pub keeps_all : (n : ℕ) (hs : List (PromisedHandle T P)) (rs : List T) → n ≡ length hs → length rs ≡ n → KeepsEach g n hs rs → AllZip (λ h r. g.kept_by h.promise r) hs rs
  keeps_all n hs rs many long keeps = keeps_each hs rs (long ∙ many) (subst (λ k. KeepsEach g k hs rs) many keeps)
