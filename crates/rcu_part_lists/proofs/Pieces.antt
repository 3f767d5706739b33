-- A list and its end.
use Rattle.std.proofs.Common.{◌≡◌, ◌-◌, List, [], ◌∷◌, ◌++◌, length, take, Option, Some, None, sym, ap, ◌∙◌, arith}
use Rattle.std.specs.Prelude.{MatchOption, option_to_list}
use Rattle.std.proofs.lemmas.List.{append-nil, append_assoc, length-append}
use Rattle.std.proofs.Math.Seq.{take-append_seam}
use Rattle.rcu_part_lists.specs.Ends.{before_end, EndsWith}

pub before-of : {X : Type 0} → (as' xs ys : List X) → xs ≡ as' ++ ys → before_end xs ys ≡ as'
before-of as' xs ys e = let n = ap length e ∙ length-append as' ys in
    let k : length xs - length ys ≡ length as' = omega arith in
    ap (λ i. take i xs) k ∙ (ap (take (length as')) e ∙ take-append_seam as' ys)

pub ends-of : {X : Type 0} → (as' xs ys : List X) → xs ≡ as' ++ ys → EndsWith xs ys
ends-of as' xs ys e = e ∙ ap (λ l. l ++ ys) (sym (before-of as' xs ys e))

-- nothing was held, and a batch came
pub before-drawn : {X : Type 0} → (xs old zs ys : List X) → old ≡ [] → zs ≡ xs ++ ys → before_end zs ys ≡ before_end xs old
before-drawn xs old zs ys e f = before-of xs zs ys f ∙ sym (ap (before_end xs) e ∙ before-of xs xs [] (sym (append-nil xs)))

-- the first was taken
pub all-taken : {X : Type 0} → (r : Option X) (xs old new : List X) → EndsWith xs old → MatchOption r ((old ≡ []) × (new ≡ [])) (λ c. old ≡ c ∷ new) → xs ≡ (before_end xs old ++ option_to_list r) ++ new
all-taken None xs old new e h = e ∙ (ap (λ l. before_end xs old ++ l) (h.0 ∙ sym h.1) ∙ ap (λ l. l ++ new) (sym (append-nil (before_end xs old))))
all-taken (Some c) xs old new e h = e ∙ (ap (λ l. before_end xs old ++ l) h ∙ sym (append_assoc (before_end xs old) (c ∷ []) new))
