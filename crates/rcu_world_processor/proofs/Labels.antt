-- A label of a list of segments is a label of the law
use Rattle.std.proofs.Common.{◌≡◌, ℕ, List, [], ◌∷◌, inl, inr, refl}
use Rattle.std.specs.Prelude.{nat_le}
use Rattle.std.proofs.lemmas.Bool.{cases_Bool}
use Rattle.rcu_world_law.specs.LabelledLists as law
use Rattle.rcu_lists.specs.Labels.{Label, Done, Numbered, Bare, advanced, given, is_done, is_bare, is_numbered, with_number, IsUpTo}
use Rattle.rcu_world_processor.specs.Waits.{label}

pub label_advanced : (s : ℕ) (l : Label) → label (advanced s l) ≡ law.advanced_label s (label l)
label_advanced s Done = refl
label_advanced s (Numbered n) = elim (cases_Bool (nat_le n s)) [ inl e ↦ rw e refl | inr e ↦ rw e refl ]
label_advanced s Bare = refl

pub label_given : (s : ℕ) (l : Label) → label (given s l) ≡ law.accelerated_label s (label l)
label_given s Done = refl
label_given s (Numbered n) = refl
label_given s Bare = refl

pub label_with_number : (l : Label) (ns : List ℕ) → law.with_number (label l) ns ≡ with_number l ns
label_with_number Done ns = refl
label_with_number (Numbered n) [] = refl
label_with_number (Numbered n) (m ∷ ns) = refl
label_with_number Bare ns = refl

pub label_done : (l : Label) → law.is_done (label l) ≡ is_done l
label_done Done = refl
label_done (Numbered n) = refl
label_done Bare = refl

pub label_at : (s : ℕ) (l : Label) → law.is_at s (label l) ≡ is_numbered s l
label_at s Done = refl
label_at s (Numbered n) = refl
label_at s Bare = refl

pub label_bare : (l : Label) → law.is_bare (label l) ≡ is_bare l
label_bare Done = refl
label_bare (Numbered n) = refl
label_bare Bare = refl

pub up_to : (s : ℕ) (l : Label) → law.IsUpTo s (label l) → IsUpTo s l
up_to s Done h = tt
up_to s (Numbered n) h = h
up_to s Bare h = tt
