-- What a check of slots sees of read sections, one more slot at a time, and which slot it refuses.
use Rattle.std.proofs.Common.{◌≡◌, ℕ, ◌+◌, ◌<◌, ◌≤◌, List, length, get_or, set, take, refl, sym, ◌∙◌, subst, arith}
use Rattle.std.proofs.lemmas.List.{get_or-set_other, length-set, take_all}
use Rattle.std.proofs.lemmas.List.Elements.{All-more}
use Rattle.std.proofs.lemmas.Option.{slice_get-get_or}
use Rattle.std.specs.List.{All}
use Rattle.rcu_c_slots.specs.Gathers.{AreUnread}
use Rattle.rcu_c_slots.specs.Refusals.{RefusesOne, RefusesSlot}
use Rattle.rcu_c_slots.specs.declared.fault.Fault.{Fault}
use Rattle.rcu_c_slots.specs.declared.part.Opening.{Opening}
use Rattle.rcu_c_slots.specs.declared.part.PartKind.{PartKind}
use Rattle.rcu_c_slots.specs.declared.slot.Slot.{Slot}

-- no read section is open in the first i slots, and the others are as they were
pub record IsUnreadTo (i : ℕ) (old now : List Slot) : Type 0 where
  pub unread : All (λ (s : Slot). s.reading ≡ 0) (take i old)
  pub rest : (k : ℕ) (d : Slot) → i ≤ k → get_or now k d ≡ get_or old k d
  pub long : length now ≡ length old

pub unread_none : (slots : List Slot) → IsUnreadTo 0 slots slots
unread_none slots = record { unread = λ k d low. absurd (omega (arith, low)); rest = λ k d low. refl; long = refl }

-- one more, which was looked at
pub unread_more : (i : ℕ) (old now : List Slot) (d after : Slot) → i < length now → (get_or now i d).reading ≡ 0 → IsUnreadTo i old now → IsUnreadTo (i + 1) old (set now i after)
unread_more i old now d after low zero_here t = record {
  unread = All-more (λ (s : Slot). s.reading ≡ 0) old i d (subst (λ n. i < n) t.long low) t.unread (subst (λ (s : Slot). s.reading ≡ 0) (t.rest i d (omega arith)) zero_here);
  rest = λ k e past. get_or-set_other now i k after e (λ same. omega (arith, past, same)) ∙ t.rest k e (omega (arith, past));
  long = length-set now i after ∙ t.long;
}

pub unread_all : (i : ℕ) (old now : List Slot) → length now ≤ i → IsUnreadTo i old now → AreUnread old
unread_all i old now end t = subst (λ slots. All (λ (s : Slot). s.reading ≡ 0) slots) (take_all i old (subst (λ n. n ≤ i) t.long end)) t.unread

-- the slot that is looked at is refused, and so is one of those that there were
pub refused_here : (o : Opening) (kind : PartKind) (fault : Fault) (i : ℕ) (old now : List Slot) (d : Slot) → i < length now → IsUnreadTo i old now → RefusesSlot o i kind fault (get_or now i d) → RefusesOne o kind fault old
refused_here o kind fault i old now d low t refuses = record {
  place = i;
  slot = get_or old i d;
  is = slice_get-get_or old i d (subst (λ n. i < n) t.long low);
  refused = subst (λ s. RefusesSlot o i kind fault s) (t.rest i d (omega arith)) refuses;
}
