-- What is left of the records of what ran
use Rattle.std.proofs.Common.{◌≡◌, ◌⊎◌, inl, inr, ℕ, ◌+◌, List, [], ◌++◌, length, length-append, append_assoc, append-nil, drop, sym, ap, ◌∙◌, arith}
use Rattle.std.proofs.lemmas.List.{length-drop}
use Rattle.rcu_jobs.specs.declared.callback.Record.{Record}
use Rattle.rcu_part_order.specs.Kept.{IsLeft}
use Rattle.rcu_part_order.specs.declared.recorded.Records.{Records}
use Rattle.rcu_part_order.specs.Recorded.{left_in, ran_of, Recorded, and_ran, gone_as, lost, takeable_as}
use Rattle.rcu_part_order.specs.declared.recorded.Kept.{Kept}
use Rattle.rcu_part_order.specs.declared.recorded.Kept.TheVariants.{Whole, Rest, Nothing}

module _ {R : Type 0} where
  -- those that are gone and those that are left are all
  pub left_length : (gone : ℕ) (all left : List (Record R)) → IsLeft gone all left → gone + length left ≡ length all
  left_length gone all left i = ap (λ (l : List (Record R)). gone + length l) i.left_is ∙ omega (arith, length-drop gone all, i.within)

  -- where all are kept all are left
  pub whole_left : (r : Records R) → r.kept ≡ Whole → left_in r ≡ ran_of r
  whole_left r whole = r.rest.left_is ∙ ap (λ (n : ℕ). drop n r.all.items) (r.choice.whole whole)

  pub none_takeable : (k : Kept) (left : List (Record R)) → (k ≡ Whole) ⊎ (k ≡ Nothing) → takeable_as k left ≡ []
  none_takeable k left (inl e) = ap (λ (x : Kept). takeable_as x left) e
  none_takeable k left (inr e) = ap (λ (x : Kept). takeable_as x left) e

  -- nothing more ran
  pub ran_none : (r : Recorded R) → and_ran [] r ≡ r
  ran_none r = ap (λ (l : List (Record R)). record { kept = r.kept; all = l; gone = r.gone + lost r.kept 0 }) (append-nil r.all)
      ∙ ap (λ (n : ℕ). record { kept = r.kept; all = r.all; gone = n }) (none_lost r.kept) where
        none_lost : (k : Kept) → r.gone + lost k 0 ≡ r.gone
        none_lost Whole = omega arith
        none_lost Rest = omega arith
        none_lost Nothing = omega arith

  -- what ran in two runs ran in one
  pub ran_again : (r : Recorded R) (xs ys : List (Record R)) → and_ran ys (and_ran xs r) ≡ and_ran (xs ++ ys) r
  ran_again r xs ys =
      ap (λ (l : List (Record R)). record { kept = r.kept; all = l; gone = (r.gone + lost r.kept (length xs)) + lost r.kept (length ys) }) (append_assoc r.all xs ys)
      ∙ ap (λ (n : ℕ). record { kept = r.kept; all = r.all ++ (xs ++ ys); gone = n }) (lost_again r.kept ∙ ap (λ (n : ℕ). r.gone + lost r.kept n) (sym (length-append xs ys))) where
        lost_again : (k : Kept) → (r.gone + lost k (length xs)) + lost k (length ys) ≡ r.gone + lost k (length xs + length ys)
        lost_again Whole = omega arith
        lost_again Rest = omega arith
        lost_again Nothing = omega arith

pub none_gone : (k : Kept) (gone many : ℕ) → (k ≡ Whole) ⊎ (k ≡ Nothing) → gone_as k gone many ≡ gone
none_gone k gone many (inl e) = ap (λ (x : Kept). gone_as x gone many) e
none_gone k gone many (inr e) = ap (λ (x : Kept). gone_as x gone many) e
