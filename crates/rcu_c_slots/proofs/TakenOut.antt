-- What comes out of slots that were looked at is what they had.
use Rattle.std.proofs.Common.{◌≡◌, ◌≤◌, ℕ, Option, Some, List, length, map, sym, ap, ◌∙◌, arith}
use Rattle.std.proofs.lemmas.List.{length-map}
use Rattle.std.proofs.lemmas.Option.{same_Some}
use Rattle.rcu_c_slots.specs.Gathers.{AreChecked, HasKind, HasPart, IsThere, lent_of, lents, parts_of}
use Rattle.rcu_c_slots.specs.declared.part.Lent.{Lent}
use Rattle.rcu_c_slots.specs.declared.part.Opening.{Opening}
use Rattle.rcu_c_slots.specs.declared.part.Part.{Part}
use Rattle.rcu_c_slots.specs.declared.part.PartKind.{PartKind}

-- ---- a slot of its own

pub there_kind : {o : Opening} {kind : PartKind} {held : Option Lent} → IsThere o kind held → HasKind kind held
there_kind t = (t.lent, t.is, t.of_kind)

lent_by : (o p : Opening) (k n : ℕ) (part q : Part) → p ≡ o → n ≡ k → q ≡ part → lent_of p n q ≡ lent_of o k part
lent_by o p k n part q is at has = ap (λ x. lent_of x n q) is ∙ (ap (λ x. lent_of o x q) at ∙ ap (λ x. lent_of o k x) has)

-- the part that is there, and where it belongs
pub there_whole : (o : Opening) (kind : PartKind) (part : Part) (held : Option Lent) → IsThere o kind held → HasPart part held → held ≡ Some (lent_of o 0 part)
there_whole o kind part held t p = t.is ∙ ap Some (lent_by o t.lent.opening 0 t.lent.at part t.lent.part t.place.0 t.place.1 (ap (λ (l : Lent). l.part) (same_Some t.lent p.0 (sym t.is ∙ p.1)) ∙ p.2))

-- ---- slots of one kind

module _ {o : Opening} {kind : PartKind} {many : ℕ} {held : List (Option Lent)} (a : AreChecked o kind many held) where
  pub room_for_all : {room : ℕ} → room ≡ many → length (lents held) ≤ room
  room_for_all e = let count = a.count in omega (arith, e, count)

  pub took_many : {X : Type 0} (wrap : X → Part) (xs : List X) → map wrap xs ≡ parts_of held → length xs ≡ many
  took_many wrap xs took = sym (length-map xs wrap) ∙ (ap length took ∙ (length-map (lents held) (λ (l : Lent). l.part) ∙ a.count))
