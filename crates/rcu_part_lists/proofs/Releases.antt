-- How a release changes what goes out.
use Rattle.std.proofs.Common.{◌≡◌, inl, inr, ℕ, ◌-◌, ◌<◌, ◌≤◌, Bool, true, false, List, [], ◌∷◌, ◌++◌, length, take, refl, sym, ap, ◌∙◌, ◌+◌, subst, arith}
use Rattle.std.proofs.lemmas.List.{append-nil, append_assoc, length-append}
use Rattle.std.specs.List.{flat_map}
use Rattle.std.specs.Prelude.{nat_lt, IsTrue, ◌↔◌, ◌||◌, Result, Ok, Err, IsOk, MatchResult}
use Rattle.std.proofs.lemmas.Bool.{cases_Bool, ltb-true, ltb-false}
use Rattle.rcu_jobs.specs.declared.callback.Callback.{Callback}
use Rattle.rcu_lanes.specs.declared.ends.TheConstants.{FIRST_SLOTS}
use Rattle.rcu_lists.specs.Parcels.{parcel_items}
use Rattle.rcu_lists.specs.Release.{emptied, is_any, is_late, refilled, ticked}
use Rattle.rcu_lists.specs.declared.pace.Pace.{Pace}
use Rattle.rcu_lists.specs.declared.parcel.Parcel.{Parcel}
use Rattle.rcu_part_lists.specs.Outgoing.{Outgoing, IsReleased, IsReleasedIfAny, IsSentOrBack, is_due_in_tick}

-- how much the lane holds for certain
pub full : (n : ℕ) → (n < FIRST_SLOTS → false ≡ true) → FIRST_SLOTS ≤ n
full n h = elim (cases_Bool (nat_lt n FIRST_SLOTS)) [ inl e ↦ absurd (let z = h (ltb-true n FIRST_SLOTS e) in cc) | inr e ↦ ltb-false n FIRST_SLOTS e ]

-- the rooms of an outlet suffice for its first slots, once one of them may have been used
pub rooms-enough : {X U : Type 0} → (r : Result U X) (old new : List X) (item : X) (rooms left : ℕ) → rooms ≤ left + 1 → FIRST_SLOTS ≤ rooms + length old
    → MatchResult r (λ _. new ≡ old ++ item ∷ []) (λ back. (back ≡ item) × (new ≡ old)) → (length old < FIRST_SLOTS → IsOk r) → FIRST_SLOTS ≤ left + length new
rooms-enough (Ok u) old new item rooms left less enough put room = let n = ap length put ∙ length-append old (item ∷ []) in omega (arith, less, enough)
rooms-enough (Err back) old new item rooms left less enough put room = let n = ap length put.1 in let f = full (length old) room in omega (arith, f)

-- nothing came off the end of a list
pub none-popped : {X : Type 0} → (old new : List X) (n : ℕ) → n ≡ 0 → old ≡ new ++ [] → new ≡ take (n - 1) old → old ≡ []
none-popped old new n e h k = h ∙ (append-nil new ∙ (k ∙ ap (λ m. take (m - 1) old) e))

-- whether a list holds something
pub some-in : {X : Type 0} → (b : Bool) (xs : List X) → IsTrue b ↔ (xs ≡ []) → b ≡ false → is_any xs ≡ true
some-in b [] i e = absurd (let t = i.1 refl in cc)
some-in b (x ∷ xs) i e = refl

pub none-in : {X : Type 0} → (b : Bool) (xs : List X) → IsTrue b ↔ (xs ≡ []) → b ≡ true → is_any xs ≡ false
none-in b [] i e = refl
none-in b (x ∷ xs) i e = absurd (let n = ap length (i.0 e) in omega arith)

pub none-any : {X : Type 0} → (xs : List X) → is_any xs ≡ false → xs ≡ []
none-any [] e = refl
none-any (x ∷ xs) e = absurd cc

pub other : (b : Bool) → b ≡ true → b ≡ false → ⊥
other true e f = cc
other false e f = cc

-- the causes of a tick's release
tick-same : (moment : ℕ) (late leaving urged : Bool) (p : Pace) → late ≡ is_late moment p → false ≡ (late || (leaving || urged)) → ticked moment p ≡ p
tick-same moment true leaving urged p l e = absurd cc
tick-same moment false leaving urged p l e = rw (sym l) refl

module _ {J : Type 0} where
  outgoing_of : List (Callback J) → ℕ → List (Callback J) → Pace → ℕ → Outgoing J
  outgoing_of put batches bypass pace qhimark = record { put = put; batches = batches; bypass = bypass; pace = pace; qhimark = qhimark }

  pub same_outgoing : (o n : Outgoing J) → n.put ≡ o.put → n.batches ≡ o.batches → n.bypass ≡ o.bypass → n.pace ≡ o.pace → n.qhimark ≡ o.qhimark → n ≡ o
  unfolding outgoing_of
  same_outgoing o n put batches bypass pace qhimark =
      ap (λ x. outgoing_of x n.batches n.bypass n.pace n.qhimark) put ∙ (ap (λ x. outgoing_of o.put x n.bypass n.pace n.qhimark) batches
      ∙ (ap (λ x. outgoing_of o.put o.batches x n.pace n.qhimark) bypass ∙ (ap (λ x. outgoing_of o.put o.batches o.bypass x n.qhimark) pace ∙ ap (λ x. outgoing_of o.put o.batches o.bypass o.pace x) qhimark)))

  -- one more parcel on a lane
  pub flat-snoc : (ps : List (Parcel J)) (p : Parcel J) → flat_map parcel_items (ps ++ p ∷ []) ≡ flat_map parcel_items ps ++ parcel_items p
  flat-snoc [] p = append-nil (parcel_items p)
  flat-snoc (x ∷ ps) p = ap (λ l. parcel_items x ++ l) (flat-snoc ps p) ∙ sym (append_assoc (parcel_items x) (flat_map parcel_items ps) (parcel_items p))

  pub parcel-put : (old new : List (Parcel J)) (p : Parcel J) → {cs : List (Callback J)} → new ≡ old ++ p ∷ [] → parcel_items p ≡ cs → (flat_map parcel_items new ≡ flat_map parcel_items old ++ cs) × (length new ≡ length old + 1)
  parcel-put old new p e f = (ap (flat_map parcel_items) e ∙ (flat-snoc old p ∙ ap (λ l. flat_map parcel_items old ++ l) f), ap length e ∙ length-append old (p ∷ []))

  -- nothing is lost, and nothing gets ahead
  pub released-passes : (o n : Outgoing J) → IsReleased o n → n.put ++ n.bypass ≡ o.put ++ o.bypass
  released-passes o n h = elim h [
    | inl e ↦ ap (λ (x : Outgoing J). x.put ++ x.bypass) e ∙ append-nil (o.put ++ o.bypass)
    | inr e ↦ ap (λ (x : Outgoing J). x.put ++ x.bypass) e.1
  ]

  -- what was alone in the list was sent, or is the list again
  pub released-single : (o m n : Outgoing J) (c : Callback J) → o.bypass ≡ c ∷ [] → m ≡ record o { bypass = []; pace = emptied o.pace } → IsSentOrBack (c ∷ []) m n → IsReleased o n
  released-single o m n c e f h = elim h [
    | inl s ↦ inl (s ∙ (ap (λ (x : Outgoing J). record x { put = x.put ++ c ∷ []; batches = x.batches + 1 }) f
        ∙ ap (λ l. record o { put = o.put ++ l; batches = o.batches + 1; bypass = []; pace = emptied o.pace }) (sym e)))
    | inr p ↦ inr (
      subst (λ (x : Outgoing J). FIRST_SLOTS ≤ x.batches) f p.0,
      p.1 ∙ (ap (λ (x : Outgoing J). record x { bypass = c ∷ []; pace = refilled (c ∷ []) x.pace }) f
          ∙ ap (λ l. record o { bypass = l; pace = refilled l o.pace }) (sym e)),
    )
  ]

  pub released-any-passes : (o n : Outgoing J) → IsReleasedIfAny o n → n.put ++ n.bypass ≡ o.put ++ o.bypass
  released-any-passes o n h = elim (cases_Bool (is_any o.bypass)) [
    | inl e ↦ released-passes o n (h.some e)
    | inr e ↦ ap (λ (x : Outgoing J). x.put ++ x.bypass) (h.none e)
  ]

  pub called-due : (moment : ℕ) (late leaving urged called : Bool) (o : Outgoing J) → is_any o.bypass ≡ true → late ≡ is_late moment o.pace → called ≡ (late || (leaving || urged)) → is_due_in_tick moment leaving urged o ≡ called
  called-due moment late leaving urged called o some l c = rw some (ap (λ b. b || (leaving || urged)) (sym l) ∙ sym c)

  pub not-called : (moment : ℕ) (late leaving urged called : Bool) (o n : Outgoing J) → late ≡ is_late moment o.pace → called ≡ (late || (leaving || urged)) → called ≡ false
      → n.put ≡ o.put → n.batches ≡ o.batches → n.bypass ≡ o.bypass → n.pace ≡ ticked moment o.pace → n.qhimark ≡ o.qhimark → n ≡ o
  not-called moment late leaving urged called o n l c f put batches bypass pace qhimark =
      same_outgoing o n put batches bypass (pace ∙ tick-same moment late leaving urged o.pace l (sym f ∙ c)) qhimark
