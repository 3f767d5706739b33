-- Parts of one open are those parts still, once each processor that was away is back.
use Rattle.std.proofs.Common.{ℕ, List, [], ◌∷◌, subst, sym}
use Rattle.std.specs.List.{All, AllZip}
use Rattle.std.proofs.lemmas.List.Elements.{All-cons, All-head, All-nil, All-tail}
use Rattle.rcu_lemmas.proofs.Zips.{zip_chain}
use Rattle.rcu_part_control.specs.Parts.{SameControl, SameDriver}
use Rattle.rcu_part_group.specs.Groups.{SameGroup}
use Rattle.rcu_part_hand.specs.Hands.{IsSoundHand, SameHand}
use Rattle.rcu_part_processor.specs.Processors.{IsSound, SameProcessor}
use Rattle.rcu_part_processor.specs.Running.{IsSamePart, identity}
use Rattle.rcu_part_processor.specs.declared.processor.Processor.{Processor}
use Rattle.rcu_parts.specs.OneOpen.{AreSoundParts, Parts}
use Rattle.rcu_parts.specs.SameParts.{AreSameParts}
use Rattle.rcuo_replay.proofs.Presences.{same_presence_again}
use Rattle.rcuo_replay.specs.Presences.{IsHere, IsSoundPresence, KeepEachBack, KeepsPresence, SamePresence, ScriptProcessor}
use Rattle.rcuo_replay.specs.ScriptParts.{AllComeBack, AreAllHere, AreSoundScriptParts, KeepsParts, ScriptParts}
use Rattle.rcuo_replay.specs.declared.presence.Presence.TheVariants.{Here}

module _ {A B : Type 0} where
  -- what is said of each of one list is said of each of the other
  all_over : (P : A → Type 0) (S : B → Type 0) (Q : A → B → Type 0) → ((x : A) (y : B) → Q x y → P x → S y) → (xs : List A) (ys : List B) → AllZip Q xs ys → All P xs → All S ys
  all_over P S Q f [] [] z h = All-nil S
  all_over P S Q f [] (y ∷ ys) z h = absurd z
  all_over P S Q f (x ∷ xs) [] z h = absurd z
  all_over P S Q f (x ∷ xs) (y ∷ ys) z h = All-cons S y ys (f x y z.0 (All-head P x xs h)) (all_over P S Q f xs ys z.1 (All-tail P x xs h))

module _ {J R : Type 0} where
  the_same : (p q : Processor J R) → IsSamePart (identity p.state) (identity q.state) → SameProcessor p.state q.state
  the_same p q s = record { part = s.part; lane = s.lane; cpu = s.cpu; offloadable = s.offloadable; limit = s.limit; blimit = s.blimit; kept = s.kept }

  module _ (key_of : J → ℕ) (gives : ℕ → R → Type 0) (start : Parts J R) (first end : ScriptParts J R) (back : Parts J R) (here : AreAllHere start first) (kept : KeepsParts key_of gives first end) (came : AllComeBack end back) (each : KeepEachBack key_of gives end.processors.items back.processors.items) where
    abbrev FromStart : Processor J R → ScriptProcessor J R → Type 0
    FromStart p y = SamePresence (Here p) y

    to_end : AllZip FromStart start.processors.items end.processors.items
    to_end = zip_chain IsHere SamePresence FromStart (λ p x y is same. subst (λ z. SamePresence z y) is same) start.processors.items first.processors.items end.processors.items here.processors kept.same.processors

    to_back : AllZip (λ p q. SameProcessor p.state q.state) start.processors.items back.processors.items
    to_back = zip_chain FromStart (λ y q. KeepsPresence key_of gives y (Here q)) (λ p q. SameProcessor p.state q.state)
        (λ p y q same k. the_same p q (same_presence_again (Here p) y (Here q) same k.same)) start.processors.items end.processors.items back.processors.items to_end each

    pub back_same : AreSameParts start back
    back_same = record {
      control = subst (λ x. SameControl x back.control) here.others.control (subst (λ x. SameControl first.control x) (sym came.others.control) kept.same.control);
      driver = subst (λ x. SameDriver x back.driver) here.others.driver (subst (λ x. SameDriver first.driver x) (sym came.others.driver) kept.same.driver);
      processors = to_back;
      groups = subst (λ x. AllZip (λ g h. SameGroup g.state h.state) x.items back.groups.items) here.others.groups (subst (λ x. AllZip (λ g h. SameGroup g.state h.state) first.groups.items x.items) (sym came.others.groups) kept.same.groups);
      hands = subst (λ x. AllZip (λ h i. SameHand h.state i.state) x.items back.hands.items) here.others.hands (subst (λ x. AllZip (λ h i. SameHand h.state i.state) first.hands.items x.items) (sym came.others.hands) kept.same.hands);
    }

    sound_first : AreSoundParts key_of gives start → AreSoundScriptParts key_of gives first
    sound_first s = record {
      processors = all_over (λ p. IsSound key_of gives p.state) (IsSoundPresence key_of gives) IsHere (λ p x is sound. subst (IsSoundPresence key_of gives) (sym is) sound) start.processors.items first.processors.items here.processors s.processors;
      hands = subst (λ x. All (λ h. IsSoundHand key_of gives h.state) x.items) (sym here.others.hands) s.hands;
    }

    pub back_sound : AreSoundParts key_of gives start → AreSoundParts key_of gives back
    back_sound s =
        let e = kept.sound (sound_first s) in
        record {
          processors = all_over (IsSoundPresence key_of gives) (λ p. IsSound key_of gives p.state) (λ x p. KeepsPresence key_of gives x (Here p)) (λ x p k sound. k.sound sound) end.processors.items back.processors.items each e.processors;
          hands = subst (λ x. All (λ h. IsSoundHand key_of gives h.state) x.items) (sym came.others.hands) e.hands;
        }
