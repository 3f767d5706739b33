-- Parts go into boxes, one after another.
use Rattle.std.proofs.Common.{◌≡◌, ◌≢◌, ℕ, ◌≤◌, Option, Some, None, IsSome, List, [], ◌∷◌, ◌++◌, append-nil, append_assoc, length, slice_index_or, option_to_list, sym, ap, ◌∙◌, arith}
use Rattle.std.proofs.lemmas.List.{map-append, nil_from_length}
use Rattle.std.specs.Global.{Box}
use Rattle.rcu_c_slots.specs.Gathers.{lent_of}
use Rattle.rcu_c_slots.specs.Opens.{BeginsElsewhere, TakesAt, boxed, lent_each}
use Rattle.rcu_c_slots.specs.declared.part.Lent.{Lent}
use Rattle.rcu_c_slots.specs.declared.part.Opening.{Opening}
use Rattle.rcu_c_slots.specs.declared.part.Part.{Part}

module _ {X : Type 0} (o : Opening) (number : X → ℕ) (wrap : X → Part) where
  pub boxed_none : (boxes : List (Box Lent)) (rest all : List X) → boxes ≡ [] → rest ≡ all → boxed boxes ++ lent_each o number wrap rest ≡ lent_each o number wrap all
  boxed_none boxes rest all none is = ap (λ bs. boxed bs ++ lent_each o number wrap rest) none ∙ ap (lent_each o number wrap) is

  pub boxed_more : (boxes more : List (Box Lent)) (b : Box Lent) (x : X) (rest next : List X) (all : List Lent) → more ≡ boxes ++ b ∷ [] → b.value ≡ lent_of o (number x) (wrap x) → rest ≡ x ∷ next
      → boxed boxes ++ lent_each o number wrap rest ≡ all → boxed more ++ lent_each o number wrap next ≡ all
  boxed_more boxes more b x rest next all pushed is left before = let ls = lent_each o number wrap next in
      ap (λ bs. boxed bs ++ ls) pushed ∙ (ap (λ xs. xs ++ ls) (map-append (λ (y : Box Lent). y.value) boxes (b ∷ [])) ∙ (append_assoc (boxed boxes) (b.value ∷ []) ls
      ∙ (ap (λ l. boxed boxes ++ l ∷ ls) is ∙ (ap (λ xs. boxed boxes ++ lent_each o number wrap xs) (sym left) ∙ before))))

  pub boxed_all : (boxes : List (Box Lent)) (rest : List X) (all : List Lent) → length rest ≡ 0 → boxed boxes ++ lent_each o number wrap rest ≡ all → boxed boxes ≡ all
  boxed_all boxes rest all over before = sym (append-nil (boxed boxes)) ∙ (ap (λ xs. boxed boxes ++ lent_each o number wrap xs) (sym (nil_from_length rest over)) ∙ before)

-- ---- which box comes first

pub none_elsewhere : (place : ℕ) (boxes : List (Box Lent)) → length boxes ≤ 0 → BeginsElsewhere place (boxed boxes)
none_elsewhere place [] few = tt
none_elsewhere place (b ∷ bs) few = absurd (omega (arith, few))

pub first_elsewhere : (place : ℕ) (boxes : List (Box Lent)) (b : Box Lent) → b ≡ slice_index_or boxes 0 b → b.value.at ≢ place → BeginsElsewhere place (boxed boxes)
first_elsewhere place [] b is other = tt
first_elsewhere place (x ∷ xs) b is other = λ e. other (ap (λ (y : Box Lent). y.value.at) is ∙ e)

pub takes_first : (place : ℕ) (old new : List (Box Lent)) (r : Option (Box Lent)) (b : Box Lent) → b ≡ slice_index_or old 0 b → b.value.at ≡ place → IsSome r → old ≡ option_to_list r ++ new → TakesAt place r (boxed old) (boxed new)
takes_first place old new None b is at there cut = absurd (cc)
takes_first place old new (Some x) b is at there cut = (ap (λ (y : Box Lent). y.value.at) (sym (is ∙ ap (λ l. slice_index_or l 0 b) cut)) ∙ at, ap boxed cut)
