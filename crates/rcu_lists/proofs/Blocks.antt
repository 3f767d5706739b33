-- How the callbacks of blocks move.
use Rattle.std.proofs.Common.{◌≡◌, ℕ, zero, suc, ◌+◌, ◌-◌, ◌<◌, ◌≤◌, List, [], ◌∷◌, ◌++◌, map, Option, length, take, drop, set, get_or, refl, ap, sym, ◌∙◌, arith, append_assoc, length-drop}
use Rattle.std.proofs.lemmas.Grind.{flat_map-append}
use Rattle.std.proofs.lemmas.List.{append-nil, map-append, drop-append-le, drop-drop, take-append-le}
use Rattle.std.proofs.Math.Seq.{take-add}
use Rattle.rcu_jobs.specs.declared.callback.Callback.{Callback}
use Rattle.rcu_lists.specs.Blocks.{blocks_items}
use Rattle.rcu_lists.specs.Parcels.{places_items}
use Rattle.rcu_lists.specs.Stamps.{newest_of, newer_of}
use Rattle.rcu_lists.proofs.Stamps.{newest-append}
use Rattle.rcu_lists.specs.declared.parcel.Places.{Places}

pub nothing-left : {A : Type 0} {left : List A} (new : List A) → length new ≡ 0 → new ≡ left → left ≡ []
nothing-left [] h e = sym e
nothing-left (x ∷ xs) h e = absurd (omega arith)

module _ {J : Type 0} where
  -- a block more
  pub blocks-more : (bs : List (Places J)) (b : Places J) → blocks_items (bs ++ b ∷ []) ≡ blocks_items bs ++ places_items b
  blocks-more bs b = flat_map-append places_items bs (b ∷ []) ∙ ap (λ l. blocks_items bs ++ l) (append-nil (places_items b))

  -- the greatest stamp once one block more is seen
  pub newest-blocks : {A : Type 0} (f : A → Places J) (xs : List A) (x : A) (o new : Option ℕ) → o ≡ newest_of (blocks_items (map f xs)) → new ≡ newer_of o (newest_of (places_items (f x))) → new ≡ newest_of (blocks_items (map f (xs ++ x ∷ [])))
  newest-blocks f xs x o new h e = e ∙ ap (λ n. newer_of n (newest_of (places_items (f x)))) h ∙ sym (ap (λ (bs : List (Places J)). newest_of (blocks_items bs)) (map-append f xs (x ∷ [])) ∙ ap newest_of (blocks-more (map f xs) (f x)) ∙ newest-append (blocks_items (map f xs)) (places_items (f x)))

  -- callbacks more in the last block
  pub blocks-longer : (i : ℕ) (bs : List (Places J)) (old new : Places J) (cs : List (Callback J)) → i + 1 ≡ length bs → old ≡ get_or bs i old → places_items new ≡ places_items old ++ cs → blocks_items (set bs i new) ≡ blocks_items bs ++ cs
  blocks-longer i [] old new cs h at e = absurd (omega arith)
  blocks-longer zero (b ∷ []) old new cs h at e = ap (λ l. l ++ []) (e ∙ ap (λ (o : Places J). places_items o ++ cs) at) ∙ append-nil (places_items b ++ cs) ∙ ap (λ l. l ++ cs) (sym (append-nil (places_items b)))
  blocks-longer zero (b ∷ a ∷ bs) old new cs h at e = absurd (omega arith)
  blocks-longer (suc i) (b ∷ bs) old new cs h at e = ap (λ l. places_items b ++ l) (blocks-longer i bs old new cs (omega arith) at e) ∙ sym (append_assoc (places_items b) (blocks_items bs) cs)

  -- the first block, and those behind it
  pub first-block : (bs : List (Places J)) (b : Places J) → 0 < length bs → b ≡ get_or bs 0 b → blocks_items bs ≡ places_items b ++ blocks_items (drop 1 bs)
  first-block [] b h at = absurd (omega arith)
  first-block (a ∷ bs) b h at = ap (λ (o : Places J). places_items o ++ blocks_items bs) (sym at)

  pub first-changed : (bs : List (Places J)) (b : Places J) → 0 < length bs → blocks_items (set bs 0 b) ≡ places_items b ++ blocks_items (drop 1 bs)
  first-changed [] b h = absurd (omega arith)
  first-changed (a ∷ bs) b h = refl

  pub first-gone : (bs : List (Places J)) (b : Places J) → drop 1 (set bs 0 b) ≡ drop 1 bs
  first-gone [] b = refl
  first-gone (a ∷ bs) b = refl

  pub some-block : (bs : List (Places J)) → 0 < length (blocks_items bs) → 0 < length bs
  some-block [] h = absurd (omega arith)
  some-block (b ∷ bs) h = omega arith

  -- Of so many callbacks these are left to move: those before them are behind what a batch had.
  pub record Moving (before all : List (Callback J)) (number more : ℕ) (batch left : List (Callback J)) : Type 0 where
    pub moved : batch ≡ before ++ take (number - more) all
    pub rest : left ≡ drop (number - more) all
    pub enough : more ≤ number

  pub moving-part : (before all : List (Callback J)) (number more part : ℕ) (batch left batch' left' first rest : List (Callback J)) → Moving before all number more batch left
      → left ≡ first ++ rest → part ≤ length first → part ≤ more → batch' ≡ batch ++ take part first → left' ≡ drop part first ++ rest → Moving before all number (more - part) batch' left'
  moving-part before all number more part batch left batch' left' first rest h split few le b l =
      let n : number - (more - part) ≡ (number - more) + part = omega (arith, h.enough, le) in
      let behind = sym h.rest ∙ split in record {
        moved = rw n (b ∙ ap (λ x. x ++ take part first) h.moved ∙ append_assoc before (take (number - more) all) (take part first)
            ∙ ap (λ x. before ++ (take (number - more) all ++ x)) (sym (ap (take part) behind ∙ take-append-le part first rest few)) ∙ ap (λ x. before ++ x) (sym (take-add (number - more) part all)));
        rest = rw n (l ∙ sym (sym (drop-drop part (number - more) all) ∙ ap (drop part) behind ∙ drop-append-le part first rest few));
        enough = omega (arith, h.enough);
      }

  pub more-blocks : (before all : List (Callback J)) (number more : ℕ) (batch : List (Callback J)) (bs : List (Places J)) → Moving before all number more batch (blocks_items bs) → number ≤ length all → 0 < more → 0 < length bs
  more-blocks before all number more batch bs h few some = some-block bs (let left = ap length h.rest ∙ length-drop (number - more) all in let e = h.enough in omega arith)
