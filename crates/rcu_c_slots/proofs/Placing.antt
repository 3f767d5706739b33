-- Parts go into the slots of their places, one slot at a time.
use Rattle.std.proofs.Common.{◌≡◌, Bool, true, false, cond, ℕ, zero, suc, ◌+◌, ◌<◌, ◌≤◌, Option, Some, None, IfSome, List, [], ◌∷◌, ◌++◌, append-nil, append_assoc, length, map, get_or, set, take, refl, sym, ap, ◌∙◌, subst, arith}
use Rattle.std.proofs.Math.Seq.{take-suc-set}
use Rattle.std.proofs.lemmas.List.{length-map, length-set, length-take-le, map-set, get_or-map, get_or-set_other, take_all}
use Rattle.std.proofs.lemmas.List.Elements.{All-cons, All-head, All-nil, All-tail}
use Rattle.std.specs.List.{All, AllZip, range_with_len}
use Rattle.rcu_board.specs.Opened.{numbers_where}
use Rattle.rcu_c_slots.specs.Gathers.{AreInPlace, held_in, lent_of, lents, parts_of}
use Rattle.rcu_c_slots.specs.Opens.{AreAt, AreRising, BeginsElsewhere, lent_each, places_of}
use Rattle.rcu_c_slots.specs.declared.part.Lent.{Lent}
use Rattle.rcu_c_slots.specs.declared.part.Opening.{Opening}
use Rattle.rcu_c_slots.specs.declared.part.Part.{Part}
use Rattle.rcu_c_slots.specs.declared.slot.Slot.{Slot}
use Rattle.rcu_c_slots.proofs.Helds.{lents_none, lents_some, next_is, take-next}

abbrev Helds : Type 0
Helds = List (Option Lent)

-- ---- numbers that rise

rising_lower : (j k end : ℕ) (ns : List ℕ) → j ≤ k → AreRising k end ns → AreRising j end ns
rising_lower j k end [] low r = tt
rising_lower j k end (n ∷ ns) low r = (let a = r.0 in omega (arith, a, low), r.1, r.2)

rising_if : (b : Bool) (p end : ℕ) (ns : List ℕ) → p < end → AreRising (suc p) end ns → AreRising p end (cond b (p ∷ ns) ns)
rising_if true p end ns low r = (omega arith, low, r)
rising_if false p end ns low r = rising_lower p (suc p) end ns (omega arith) r

pub rising_where : (test : ℕ → Bool) (p k end : ℕ) → p + k ≤ end → AreRising p end (numbers_where test p k)
unfolding numbers_where
rising_where test p zero end few = tt
rising_where test p (suc k) end few = rising_if (test p) p end (numbers_where test (suc p) k) (omega (arith, few)) (rising_where test (suc p) k end (omega (arith, few)))

pub rising_range : (p k end : ℕ) → p + k ≤ end → AreRising p end (range_with_len p k)
rising_range p zero end few = tt
rising_range p (suc k) end few = (omega arith, omega (arith, few), subst (λ n. AreRising n end (range_with_len (p + 1) k)) (next_is p) (rising_range (p + 1) k end (omega (arith, few))))

-- the numbers of items, each of which has its own
pub zip_numbers : {X : Type 0} (P : ℕ → X → Type 0) (number : X → ℕ) → ((k : ℕ) (x : X) → P k x → number x ≡ k) → (ks : List ℕ) (xs : List X) → AllZip P ks xs → map number xs ≡ ks
zip_numbers P number is [] [] z = refl
zip_numbers P number is [] (x ∷ xs) z = absurd z
zip_numbers P number is (k ∷ ks) [] z = absurd z
zip_numbers P number is (k ∷ ks) (x ∷ xs) z = ap (λ n. n ∷ map number xs) (is k x z.0) ∙ ap (λ ns. k ∷ ns) (zip_numbers P number is ks xs z.1)

-- ---- parts for their places

module _ {X : Type 0} (o : Opening) (number : X → ℕ) (wrap : X → Part) where
  pub each_parts : (xs : List X) → map (λ (l : Lent). l.part) (lent_each o number wrap xs) ≡ map wrap xs
  each_parts [] = refl
  each_parts (x ∷ xs) = ap (λ ps. wrap x ∷ ps) (each_parts xs)

  pub each_places : (xs : List X) → places_of (lent_each o number wrap xs) ≡ map number xs
  each_places [] = refl
  each_places (x ∷ xs) = ap (λ ns. number x ∷ ns) (each_places xs)

  pub each_opened : (xs : List X) → All (λ (l : Lent). l.opening ≡ o) (lent_each o number wrap xs)
  each_opened [] = All-nil (λ (l : Lent). l.opening ≡ o)
  each_opened (x ∷ xs) = All-cons (λ (l : Lent). l.opening ≡ o) (lent_of o (number x) (wrap x)) (lent_each o number wrap xs) refl (each_opened xs)

in_place_from : (o : Opening) (k : ℕ) (held : Helds) → AreAt k held → All (λ (l : Lent). l.opening ≡ o) (lents held) → AreInPlace o k held
in_place_from o k [] at all = tt
in_place_from o k (None ∷ hs) at all = (tt, in_place_from o (suc k) hs at.1 all)
in_place_from o k (Some l ∷ hs) at all = ((All-head (λ (m : Lent). m.opening ≡ o) l (lents hs) all, at.0), in_place_from o (suc k) hs at.1 (All-tail (λ (m : Lent). m.opening ≡ o) l (lents hs) all))

-- they rise as their numbers do
pub for_places : {X : Type 0} (o : Opening) (number : X → ℕ) (wrap : X → Part) (xs : List X) (ls : List Lent) (end : ℕ) → ls ≡ lent_each o number wrap xs → AreRising 0 end (map number xs) → AreRising 0 end (places_of ls)
for_places o number wrap xs ls end is r = subst (λ ms. AreRising 0 end (places_of ms)) (sym is) (subst (AreRising 0 end) (sym (each_places o number wrap xs)) r)

-- slots that have each of these at the place of its number
module _ {X : Type 0} (o : Opening) (number : X → ℕ) (wrap : X → Part) (xs : List X) (held : Helds) (ls : List Lent) where
  pub put_parts : lents held ≡ ls → ls ≡ lent_each o number wrap xs → parts_of held ≡ map wrap xs
  put_parts put is = ap (map (λ (l : Lent). l.part)) (put ∙ is) ∙ each_parts o number wrap xs

  pub put_places : lents held ≡ ls → ls ≡ lent_each o number wrap xs → AreAt 0 held → AreInPlace o 0 held
  put_places put is at = in_place_from o 0 held at (subst (λ ms. All (λ (l : Lent). l.opening ≡ o) ms) (sym (put ∙ is)) (each_opened o number wrap xs))

-- ---- the loop

none_at : (held : Helds) → lents held ≡ [] → (k : ℕ) → get_or held k None ≡ None
none_at [] e k = refl
none_at (None ∷ hs) e zero = refl
none_at (None ∷ hs) e (suc k) = none_at hs e k
none_at (Some l ∷ hs) e k = absurd (omega (arith, ap length e))

-- so none is in any of them
pub none_in : (slots : List Slot) (k : ℕ) (d : Slot) → k < length slots → lents (held_in slots) ≡ [] → (get_or slots k d).held.part.value ≡ None
none_in slots k d low none = sym (get_or-map (λ (s : Slot). s.held.part.value) slots k d None low) ∙ none_at (held_in slots) none k

at_more : (k : ℕ) (xs : Helds) (x : Option Lent) → AreAt k xs → IfSome x (λ l. l.at ≡ k + length xs) → AreAt k (xs ++ x ∷ [])
at_more k [] x a is = (subst (λ n. IfSome x (λ l. l.at ≡ n)) (omega arith) is, tt)
at_more k (y ∷ ys) x a is = (a.0, at_more (suc k) ys x a.1 (subst (λ n. IfSome x (λ l. l.at ≡ n)) (omega arith) is))

-- The first i slots have those that are for these places, and the others are empty.
pub record IsPutTo (i end : ℕ) (all rest : List Lent) (now : Helds) : Type 0 where
  pub order : lents (take i now) ++ rest ≡ all
  pub places : AreAt 0 (take i now)
  pub rising : AreRising i end (places_of rest)
  pub empty : (k : ℕ) → i ≤ k → get_or now k None ≡ None
  pub long : length now ≡ end

pub put_none : (all : List Lent) (slots : List Slot) → lents (held_in slots) ≡ [] → AreRising 0 (length slots) (places_of all) → IsPutTo 0 (length slots) all all (held_in slots)
put_none all slots none rising = record { order = refl; places = tt; rising = rising; empty = λ k low. none_at (held_in slots) none k; long = length-map slots (λ s. s.held.part.value) }

rising_past : (i end : ℕ) (rest : List Lent) → AreRising i end (places_of rest) → BeginsElsewhere i rest → AreRising (i + 1) end (places_of rest)
rising_past i end [] r other = tt
rising_past i end (l ∷ ls) r other = (let a = r.0 in omega (arith, a, other), r.1, r.2)

rising_next : (i end : ℕ) (l : Lent) (ls : List Lent) → l.at ≡ i → AreRising i end (places_of (l ∷ ls)) → AreRising (i + 1) end (places_of ls)
rising_next i end l ls at r = subst (λ n. AreRising n end (places_of ls)) (omega (arith, at)) r.2

-- one that stays empty
pub put_skip : (i end : ℕ) (all old rest : List Lent) (slots : List Slot) → i < length slots → rest ≡ old → BeginsElsewhere i old → IsPutTo i end all old (held_in slots) → IsPutTo (i + 1) end all rest (held_in slots)
put_skip i end all old rest slots low same other p =
    let now = held_in slots in let low' : i < length now = subst (λ n. i < n) (sym (length-map slots (λ s. s.held.part.value))) low in
    let next : take (i + 1) now ≡ take i now ++ None ∷ [] = take-next now i None low' ∙ ap (λ h. take i now ++ h ∷ []) (p.empty i (omega arith)) in record {
      order = ap (λ ls. ls ++ rest) (ap lents next ∙ lents_none (take i now)) ∙ (ap (λ ls. lents (take i now) ++ ls) same ∙ p.order);
      places = subst (λ hs. AreAt 0 hs) (sym next) (at_more 0 (take i now) None p.places tt);
      rising = subst (λ ls. AreRising (i + 1) end (places_of ls)) (sym same) (rising_past i end old p.rising other);
      empty = λ k high. p.empty k (omega (arith, high));
      long = p.long;
    }

-- one whose part came in
pub put_more : (i end : ℕ) (all old rest : List Lent) (l : Lent) (slots : List Slot) (after : Slot) → i < length slots → after.held.part.value ≡ Some l → l.at ≡ i → old ≡ l ∷ rest
    → IsPutTo i end all old (held_in slots) → IsPutTo (i + 1) end all rest (held_in (set slots i after))
put_more i end all old rest l slots after low has at is p =
    let now = held_in slots in let then = held_in (set slots i after) in let low' : i < length now = subst (λ n. i < n) (sym (length-map slots (λ s. s.held.part.value))) low in
    let changed : then ≡ set now i (Some l) = map-set (λ (s : Slot). s.held.part.value) slots i after ∙ ap (λ h. set now i h) has in
    let next : take (i + 1) then ≡ take i now ++ Some l ∷ [] = ap (λ n. take n then) (next_is i) ∙ (ap (take (suc i)) changed ∙ take-suc-set now i (Some l) low') in record {
      order = ap (λ ls. ls ++ rest) (ap lents next ∙ lents_some (take i now) l) ∙ (append_assoc (lents (take i now)) (l ∷ []) rest ∙ (ap (λ ls. lents (take i now) ++ ls) (sym is) ∙ p.order));
      places = subst (λ hs. AreAt 0 hs) (sym next) (at_more 0 (take i now) (Some l) p.places (let long = length-take-le i now (omega (arith, low')) in omega (arith, at, long)));
      rising = rising_next i end l rest at (subst (λ ls. AreRising i end (places_of ls)) is p.rising);
      empty = λ k high. ap (λ hs. get_or hs k None) changed ∙ (get_or-set_other now i k (Some l) None (λ e. omega (arith, high, e)) ∙ p.empty k (omega (arith, high)));
      long = ap length changed ∙ (length-set now i (Some l) ∙ p.long);
    }

over : (i end : ℕ) (rest : List Lent) → end ≤ i → AreRising i end (places_of rest) → rest ≡ []
over i end [] past r = refl
over i end (l ∷ ls) past r = let a = r.0 in let b = r.1 in absurd (omega (arith, a, b, past))

module _ (i end : ℕ) (all rest : List Lent) (now : Helds) (past : length now ≤ i) (p : IsPutTo i end all rest now) where
  pub put_all : lents now ≡ all
  put_all = ap lents (sym (take_all i now past)) ∙ (sym (append-nil (lents (take i now))) ∙ (ap (λ ls. lents (take i now) ++ ls) (sym (over i end rest (let e = p.long in omega (arith, e, past)) p.rising)) ∙ p.order))

  pub put_at : AreAt 0 now
  put_at = subst (λ hs. AreAt 0 hs) (take_all i now past) p.places

-- ---- whether all are empty

pub empty_more : (i : ℕ) (slots : List Slot) (d : Slot) → i < length slots → (get_or slots i d).held.part.value ≡ None → lents (take i (held_in slots)) ≡ [] → lents (take (i + 1) (held_in slots)) ≡ []
empty_more i slots d low none before =
    let now = held_in slots in let low' : i < length now = subst (λ n. i < n) (sym (length-map slots (λ s. s.held.part.value))) low in
    ap lents (take-next now i None low' ∙ ap (λ h. take i now ++ h ∷ []) (get_or-map (λ (s : Slot). s.held.part.value) slots i d None low ∙ none)) ∙ (lents_none (take i now) ∙ before)
