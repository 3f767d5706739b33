-- Lists of what slots have, one more slot at a time.
use Rattle.std.proofs.Common.{◌≡◌, Bool, is_some, ℕ, zero, suc, ◌+◌, ◌<◌, ◌≤◌, Option, Some, None, IfSome, List, [], ◌∷◌, ◌++◌, length, map, get_or, set, take, refl, sym, ap, ◌∙◌, subst, arith}
use Rattle.std.proofs.Math.Seq.{map-set_same, take-suc, take-suc-set}
use Rattle.std.proofs.lemmas.List.{get_or-map, get_or-set_other, length-map, length-set, length-take-le, map-append, map-set, take_all}
use Rattle.std.proofs.lemmas.List.Elements.{All-append, All-head, All-tail}
use Rattle.std.proofs.lemmas.Option.{none-some}
use Rattle.std.specs.Int.{from_bool}
use Rattle.std.specs.List.{All}
use Rattle.rcu_c_slots.specs.Gathers.{AreChecked, AreInPlace, BelongsAt, IsInPlace, TakesOut, held_in, lents, parts_of}
use Rattle.rcu_c_slots.specs.Parts.{kind_of}
use Rattle.rcu_c_slots.specs.declared.part.Lent.{Lent}
use Rattle.rcu_c_slots.specs.declared.part.Opening.{Opening}
use Rattle.rcu_c_slots.specs.declared.part.Part.{Part}
use Rattle.rcu_c_slots.specs.declared.part.PartKind.{PartKind}
use Rattle.rcu_c_slots.specs.declared.slot.Slot.{Slot}

abbrev Helds : Type 0
Helds = List (Option Lent)

all_one : {X : Type 0} (P : X → Type 0) (x : X) → P x → All P (x ∷ [])
all_one P x p zero d low = p
all_one P x p (suc k) d low = absurd (omega (arith, low))

pub lents_none : (xs : Helds) → lents (xs ++ None ∷ []) ≡ lents xs
lents_none [] = refl
lents_none (None ∷ xs) = lents_none xs
lents_none (Some l ∷ xs) = ap (λ ys. l ∷ ys) (lents_none xs)

pub lents_some : (xs : Helds) (l : Lent) → lents (xs ++ Some l ∷ []) ≡ lents xs ++ l ∷ []
lents_some [] l = refl
lents_some (None ∷ xs) l = lents_some xs l
lents_some (Some m ∷ xs) l = ap (λ ys. m ∷ ys) (lents_some xs l)

in_place_more : (o : Opening) (k : ℕ) (xs : Helds) (x : Option Lent) → AreInPlace o k xs → IsInPlace o (k + length xs) x → AreInPlace o k (xs ++ x ∷ [])
in_place_more o k [] x a p = (subst (λ n. IsInPlace o n x) (omega arith) p, tt)
in_place_more o k (y ∷ ys) x a p = (a.0, in_place_more o (suc k) ys x a.1 (subst (λ n. IsInPlace o n x) (omega arith) p))

-- how many parts one slot has
abbrev pub count_one : Option Lent → ℕ
count_one None = 0
count_one (Some l) = 1

length_more : {X : Type 0} (xs : List X) (x : X) → length (xs ++ x ∷ []) ≡ length xs + 1
length_more [] x = refl
length_more (y ∷ ys) x = let more = length_more ys x in omega (arith, more)

in_all : (xs : Helds) {i : ℕ} → length xs ≡ i → i ≡ 0 + length xs
in_all xs e = omega (arith, e)

checked_by : (o : Opening) (kind : PartKind) (found i : ℕ) (xs : Helds) (x : Option Lent) → length xs ≡ i → AreChecked o kind found xs → IsInPlace o i x → IfSome x (λ l. kind_of l.part ≡ kind) → AreChecked o kind (found + count_one x) (xs ++ x ∷ [])
checked_by o kind found i xs None long a place is = record {
  places = in_place_more o 0 xs None a.places (subst (λ n. IsInPlace o n None) (in_all xs long) place);
  kinds = subst (λ ls. All (λ (l : Lent). kind_of l.part ≡ kind) ls) (sym (lents_none xs)) a.kinds;
  count = ap length (lents_none xs) ∙ (a.count ∙ omega arith);
}
checked_by o kind found i xs (Some l) long a place is = record {
  places = in_place_more o 0 xs (Some l) a.places (subst (λ n. IsInPlace o n (Some l)) (in_all xs long) place);
  kinds = subst (λ ls. All (λ (l : Lent). kind_of l.part ≡ kind) ls) (sym (lents_some xs l)) (All-append (λ (l : Lent). kind_of l.part ≡ kind) (lents xs) (l ∷ []) a.kinds (all_one (λ (l : Lent). kind_of l.part ≡ kind) l is));
  count = ap length (lents_some xs l) ∙ (length_more (lents xs) l ∙ ap (λ n. n + 1) a.count);
}

pub counted : (x : Option Lent) {full : Bool} → full ≡ is_some x → from_bool full ≡ count_one x
counted None e = ap from_bool e
counted (Some l) e = ap from_bool e

-- ---- the loops

-- the first i slots were looked at, and have so many parts
pub record IsCheckedTo (o : Opening) (kind : PartKind) (i found : ℕ) (held now : Helds) : Type 0 where
  pub same : now ≡ held
  pub checked : AreChecked o kind found (take i held)
  pub few : found ≤ i

pub checked_none : (o : Opening) (kind : PartKind) (held : Helds) → IsCheckedTo o kind 0 0 held held
checked_none o kind held = record { same = refl; checked = record { places = tt; kinds = λ k d low. absurd (omega (arith, low)); count = refl }; few = omega arith }

pub next_is : (i : ℕ) → i + 1 ≡ suc i
next_is i = omega arith

pub take-next : {X : Type 0} (xs : List X) (i : ℕ) (d : X) → i < length xs → take (i + 1) xs ≡ take i xs ++ get_or xs i d ∷ []
take-next xs i d low = ap (λ n. take n xs) (next_is i) ∙ take-suc xs i d low

few_more : (found i : ℕ) (x : Option Lent) → found ≤ i → found + count_one x ≤ i + 1
few_more found i None few = omega (arith, few)
few_more found i (Some l) few = omega (arith, few)

-- a slot, whose value stays
pub checked_more : (o : Opening) (kind : PartKind) (i found : ℕ) (held : Helds) (slots : List Slot) (d after : Slot) → i < length slots → after.held.part.value ≡ (get_or slots i d).held.part.value
    → IsCheckedTo o kind i found held (held_in slots) → IsInPlace o i (get_or slots i d).held.part.value → IfSome (get_or slots i d).held.part.value (λ l. kind_of l.part ≡ kind)
    → IsCheckedTo o kind (i + 1) (found + count_one (get_or slots i d).held.part.value) held (held_in (set slots i after))
checked_more o kind i found held slots d after low stays c place is =
    let x = (get_or slots i d).held.part.value in let low' : i < length held = subst (λ n. i < n) (sym (length-map slots (λ s. s.held.part.value)) ∙ ap length c.same) low in
    let here : get_or held i x ≡ x = sym (ap (λ hs. get_or hs i x) c.same) ∙ get_or-map (λ (s : Slot). s.held.part.value) slots i d x low in record {
      same = map-set_same (λ (s : Slot). s.held.part.value) slots i after d stays ∙ c.same;
      checked = subst (λ hs. AreChecked o kind (found + count_one x) hs) (sym (take-next held i x low' ∙ ap (λ y. take i held ++ y ∷ []) here)) (checked_by o kind found i (take i held) x (length-take-le i held (omega (arith, low'))) c.checked place is);
      few = few_more found i x c.few;
    }

pub checked_all : (o : Opening) (kind : PartKind) (i found : ℕ) (held now : Helds) → length held ≤ i → IsCheckedTo o kind i found held now → AreChecked o kind found held
checked_all o kind i found held now end c = subst (λ hs. AreChecked o kind found hs) (take_all i held end) c.checked

-- ---- what a check that fails shows

-- what is kept of each part is known of one
pub kind_at : (P : Lent → Type 0) (held : Helds) (i : ℕ) → All P (lents held) → IfSome (get_or held i None) P
kind_at P [] i all = tt
kind_at P (None ∷ hs) zero all = tt
kind_at P (Some l ∷ hs) zero all = All-head P l (lents hs) all
kind_at P (None ∷ hs) (suc i) all = kind_at P hs i all
kind_at P (Some l ∷ hs) (suc i) all = kind_at P hs i (All-tail P l (lents hs) all)

in_place_at : (o : Opening) (j k : ℕ) (held : Helds) → AreInPlace o j held → IsInPlace o (j + k) (get_or held k None)
in_place_at o j k [] a = tt
in_place_at o j zero (x ∷ xs) a = subst (λ n. IsInPlace o n x) (omega arith) a.0
in_place_at o j (suc k) (x ∷ xs) a = subst (λ n. IsInPlace o n (get_or xs k None)) (omega arith) (in_place_at o (suc j) k xs a.1)

belongs_by : (o : Opening) (k : ℕ) (kind : PartKind) (x : Option Lent) → IsInPlace o k x → IfSome x (λ l. kind_of l.part ≡ kind) → IfSome x (BelongsAt o k kind)
belongs_by o k kind None place is = tt
belongs_by o k kind (Some l) place is = (is, place.0, place.1)

-- each part of those that are checked belongs where it is
pub belongs_at : (o : Opening) (kind : PartKind) (many k : ℕ) (held : Helds) → AreChecked o kind many held → IfSome (get_or held k None) (BelongsAt o k kind)
belongs_at o kind many k held a = belongs_by o k kind (get_or held k None) (subst (λ n. IsInPlace o n (get_or held k None)) (omega arith) (in_place_at o 0 k held a.places)) (kind_at (λ (l : Lent). kind_of l.part ≡ kind) held k a.kinds)

pub belongs_here : (o : Opening) (kind : PartKind) (many i found : ℕ) (held : Helds) (slots : List Slot) (d : Slot) → i < length slots → IsCheckedTo o kind i found held (held_in slots) → AreChecked o kind many held
    → IfSome (get_or slots i d).held.part.value (BelongsAt o i kind)
belongs_here o kind many i found held slots d low c a =
    subst (λ (x : Option Lent). IfSome x (BelongsAt o i kind)) (ap (λ hs. get_or hs i None) (sym c.same) ∙ get_or-map (λ (s : Slot). s.held.part.value) slots i d None low) (belongs_at o kind many i held a)

-- so many were found as are wanted
pub found_all : (o : Opening) (kind : PartKind) (many i found : ℕ) (held now : Helds) → length held ≤ i → IsCheckedTo o kind i found held now → AreChecked o kind many held → found ≡ many
found_all o kind many i found held now end c a = sym (checked_all o kind i found held now end c).count ∙ a.count

-- ---- taking out

-- the parts of the first i slots are out, and the others are as they were
pub record IsTakenTo {X : Type 0} (wrap : X → Part) (i : ℕ) (held now : Helds) (out : List X) : Type 0 where
  pub took : map wrap out ≡ parts_of (take i held)
  pub rest : (k : ℕ) → i ≤ k → get_or now k None ≡ get_or held k None
  pub emptied : lents (take i now) ≡ []
  pub long : length now ≡ length held

-- there is one more than those before it
pub one_more : (held : Helds) (i : ℕ) (l : Lent) → get_or held i None ≡ Some l → length (lents (take i held)) < length (lents held)
one_more [] i l e = absurd (none-some l e)
one_more (None ∷ hs) zero l e = absurd (none-some l e)
one_more (Some m ∷ hs) zero l e = omega arith
one_more (None ∷ hs) (suc i) l e = one_more hs i l e
one_more (Some m ∷ hs) (suc i) l e = let more = one_more hs i l e in omega (arith, more)

parts_none : (xs : Helds) → parts_of (xs ++ None ∷ []) ≡ parts_of xs
parts_none xs = ap (map (λ (l : Lent). l.part)) (lents_none xs)

parts_some : (xs : Helds) (l : Lent) → parts_of (xs ++ Some l ∷ []) ≡ parts_of xs ++ l.part ∷ []
parts_some xs l = ap (map (λ (l : Lent). l.part)) (lents_some xs l) ∙ map-append (λ (l : Lent). l.part) (lents xs) (l ∷ [])

module _ {X : Type 0} (wrap : X → Part) where
  pub taken_none : (held : Helds) → IsTakenTo wrap 0 held held []
  taken_none held = record { took = refl; rest = λ k low. refl; emptied = refl; long = refl }

  -- what a slot had
  here : (i : ℕ) (held : Helds) (slots : List Slot) (d : Slot) (out : List X) → i < length slots → IsTakenTo wrap i held (held_in slots) out → get_or held i None ≡ (get_or slots i d).held.part.value
  here i held slots d out low t = sym (t.rest i (omega arith)) ∙ get_or-map (λ (s : Slot). s.held.part.value) slots i d None low

  pub here_is : (P : Lent → Type 0) (i : ℕ) (held : Helds) (slots : List Slot) (d : Slot) (out : List X) → i < length slots → IsTakenTo wrap i held (held_in slots) out
      → All P (lents held) → IfSome (get_or slots i d).held.part.value P
  here_is P i held slots d out low t all = subst (λ h. IfSome h P) (here i held slots d out low t) (kind_at P held i all)

  -- there is room for it
  pub room_here : (i most : ℕ) (held : Helds) (slots : List Slot) (d : Slot) (out : List X) (x : X) → i < length slots → IsTakenTo wrap i held (held_in slots) out
      → TakesOut wrap (Some x) (get_or slots i d).held.part.value → length (lents held) ≤ most → length out < most
  room_here i cap held slots d out x low t takes room =
      let more = one_more held i takes.0 (here i held slots d out low t ∙ takes.1) in
      let many : length out ≡ length (lents (take i held)) = sym (length-map out wrap) ∙ (ap length t.took ∙ length-map (lents (take i held)) (λ (l : Lent). l.part)) in omega (arith, more, many, room)

  step_rest : (i : ℕ) (held : Helds) (slots : List Slot) (after : Slot) (out : List X) → IsTakenTo wrap i held (held_in slots) out → (k : ℕ) → i + 1 ≤ k → get_or (held_in (set slots i after)) k None ≡ get_or held k None
  step_rest i held slots after out t k low = ap (λ hs. get_or hs k None) (map-set (λ (s : Slot). s.held.part.value) slots i after) ∙ (get_or-set_other (held_in slots) i k after.held.part.value None (λ e. omega (arith, low, e)) ∙ t.rest k (omega (arith, low)))

  step_emptied : (i : ℕ) (held : Helds) (slots : List Slot) (after : Slot) (out : List X) → i < length slots → after.held.part.value ≡ None → IsTakenTo wrap i held (held_in slots) out → lents (take (i + 1) (held_in (set slots i after))) ≡ []
  step_emptied i held slots after out low empty t =
      ap (λ n. lents (take n (held_in (set slots i after)))) (next_is i) ∙ (ap (λ hs. lents (take (suc i) hs)) (map-set (λ (s : Slot). s.held.part.value) slots i after ∙ ap (λ h. set (held_in slots) i h) empty)
      ∙ (ap lents (take-suc-set (held_in slots) i None (subst (λ n. i < n) (sym (length-map slots (λ s. s.held.part.value))) low)) ∙ (lents_none (take i (held_in slots)) ∙ t.emptied)))

  step_long : (i : ℕ) (held : Helds) (slots : List Slot) (after : Slot) (out : List X) → IsTakenTo wrap i held (held_in slots) out → length (held_in (set slots i after)) ≡ length held
  step_long i held slots after out t = length-map (set slots i after) (λ s. s.held.part.value) ∙ (length-set slots i after ∙ (sym (length-map slots (λ s. s.held.part.value)) ∙ t.long))

  take_here : (i : ℕ) (held : Helds) (slots : List Slot) (d : Slot) (out : List X) → i < length slots → IsTakenTo wrap i held (held_in slots) out → take (i + 1) held ≡ take i held ++ (get_or slots i d).held.part.value ∷ []
  take_here i held slots d out low t = take-next held i None (subst (λ n. i < n) (sym (length-map slots (λ s. s.held.part.value)) ∙ t.long) low) ∙ ap (λ h. take i held ++ h ∷ []) (here i held slots d out low t)

  -- a slot that was empty
  pub taken_nothing : (i : ℕ) (held : Helds) (slots : List Slot) (d after : Slot) (out : List X) → i < length slots → after.held.part.value ≡ None → (get_or slots i d).held.part.value ≡ None
      → IsTakenTo wrap i held (held_in slots) out → IsTakenTo wrap (i + 1) held (held_in (set slots i after)) out
  taken_nothing i held slots d after out low empty none t = record {
    took = t.took ∙ sym (ap parts_of (take_here i held slots d out low t ∙ ap (λ h. take i held ++ h ∷ []) none) ∙ parts_none (take i held));
    rest = step_rest i held slots after out t;
    emptied = step_emptied i held slots after out low empty t;
    long = step_long i held slots after out t;
  }

  -- one whose part came out
  pub taken_more : (i : ℕ) (held : Helds) (slots : List Slot) (d after : Slot) (out more : List X) (x : X) → i < length slots → after.held.part.value ≡ None → TakesOut wrap (Some x) (get_or slots i d).held.part.value
      → more ≡ out ++ x ∷ [] → IsTakenTo wrap i held (held_in slots) out → IsTakenTo wrap (i + 1) held (held_in (set slots i after)) more
  taken_more i held slots d after out more x low empty takes is t = record {
    took = ap (map wrap) is ∙ (map-append wrap out (x ∷ []) ∙ (ap (λ ps. ps ++ wrap x ∷ []) t.took ∙ (ap (λ p. parts_of (take i held) ++ p ∷ []) (sym takes.2)
        ∙ sym (ap parts_of (take_here i held slots d out low t ∙ ap (λ h. take i held ++ h ∷ []) takes.1) ∙ parts_some (take i held) takes.0))));
    rest = step_rest i held slots after out t;
    emptied = step_emptied i held slots after out low empty t;
    long = step_long i held slots after out t;
  }

  pub taken_all : (i : ℕ) (held now : Helds) (out : List X) → length now ≤ i → IsTakenTo wrap i held now out → map wrap out ≡ parts_of held
  taken_all i held now out end t = t.took ∙ ap parts_of (take_all i held (subst (λ n. n ≤ i) t.long end))

  pub empty_all : (i : ℕ) (held now : Helds) (out : List X) → length now ≤ i → IsTakenTo wrap i held now out → lents now ≡ []
  empty_all i held now out end t = ap lents (sym (take_all i now end)) ∙ t.emptied
