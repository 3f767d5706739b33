-- How the lists of a processor change.
use Rattle.std.proofs.Common.{◌≡◌, inl, inr, ℕ, ◌<◌, ◌≤◌, Bool, true, false, not, List, [], ◌∷◌, ◌++◌, length, Option, Some, None, refl, sym, ap, ◌∙◌, subst, arith}
use Rattle.std.specs.Prelude.{IsTrue, ◌↔◌, ◌&&◌, ◌||◌, MatchOption, IfSome, OnOk, Result, Ok, Err}
use Rattle.std.proofs.lemmas.Bool.{cases_Bool}
use Rattle.std.proofs.lemmas.List.{append-nil, append_assoc, length-append}
use Rattle.std.proofs.lemmas.List.Elements.{All-head, All-tail, All-nil, All-push}
use Rattle.rcu_jobs.specs.declared.callback.Callback.{Callback}
use Rattle.rcu_jobs.specs.declared.modes.Mode.{Mode}
use Rattle.rcu_jobs.specs.declared.modes.Mode.TheVariants.{Deoffloading}
use Rattle.rcu_numbers.specs.Numbers.{snap_of}
use Rattle.rcu_numbers.specs.declared.shape.TheConstants.{MOST_CALLS}
use Rattle.rcu_lists.specs.Labels.{Done, Bare, Labelled, marked, count, is_done, callbacks_of}
use Rattle.rcu_lists.specs.Release.{beginning, is_any}
use Rattle.rcu_lists.specs.declared.pace.Kind.{Kind}
use Rattle.rcu_lists.specs.declared.pace.Pace.{Pace}
use Rattle.rcu_part_lists.specs.Aims.{AreAimed}
use Rattle.rcu_part_lists.specs.ProcessorLists.{Holding, first_holding, passed_on, asked_off}
use Rattle.rcu_jobs.specs.Modes.{first_mode, is_offloaded, is_offloading}
use Rattle.rcu_part_lists.specs.Outgoing.{Outgoing, IsReleased, IsReleasedIfAny, poured, kept, is_due_with, is_due_in_tick, in_tick}
use Rattle.rcu_part_lists.specs.Limits.{IsSafe, AreFew, AreSafe}
use Rattle.rcu_part_lists.proofs.Aims.{callbacks-append, aimed-left}
use Rattle.rcu_part_lists.proofs.Releases.{released-passes, released-any-passes}

pub clear-as : {X : Type 0} → (b : Bool) (xs : List X) → IsTrue b ↔ (xs ≡ []) → not (is_any xs) ≡ b
clear-as b [] i = sym (i.1 refl)
clear-as true (x ∷ xs) i = absurd (let n = ap length (i.0 refl) in omega arith)
clear-as false (x ∷ xs) i = refl

pub on-ok : {T E : Type 0} → (r : Result T E) (P Q : Type 0) → (P → Q) → OnOk r P → OnOk r Q
on-ok (Ok x) P Q f h = f h
on-ok (Err x) P Q f h = tt

module _ {J : Type 0} where
  -- a tick that has nothing to release
  pub not-due : (moment : ℕ) (leaving urged : Bool) (o : Outgoing J) → o.bypass ≡ [] → is_due_in_tick moment leaving urged o ≡ false
  not-due moment leaving urged o e = rw e refl

  pub tick-passes : (moment : ℕ) (leaving urged : Bool) (o n : Outgoing J) → (is_due_in_tick moment leaving urged o ≡ false → n ≡ o) → (is_due_in_tick moment leaving urged o ≡ true → IsReleased (in_tick moment o) n)
      → n.put ++ n.bypass ≡ o.put ++ o.bypass
  tick-passes moment leaving urged o n stays releases = elim (cases_Bool (is_due_in_tick moment leaving urged o)) [
    | inl e ↦ released-passes (in_tick moment o) n (releases e)
    | inr e ↦ ap (λ (x : Outgoing J). x.put ++ x.bypass) (stays e)
  ]

  -- what goes out passes on, before the own list
  pub passes-before : (o n : Outgoing J) (cs : List (Callback J)) → n.put ++ n.bypass ≡ o.put ++ o.bypass → n.put ++ (n.bypass ++ cs) ≡ o.put ++ (o.bypass ++ cs)
  passes-before o n cs e = sym (append_assoc n.put n.bypass cs) ∙ (ap (λ l. l ++ cs) e ∙ append_assoc o.put o.bypass cs)

  -- a new callback in Offloaded
  pub hold-passes : (moment : ℕ) (kind : Kind) (c : Callback J) (o n : Outgoing J) → (is_due_with moment kind o ≡ false → n ≡ kept moment kind c o) → (is_due_with moment kind o ≡ true → IsReleased (kept moment kind c o) n)
      → n.put ++ n.bypass ≡ (o.put ++ o.bypass) ++ c ∷ []
  hold-passes moment kind c o n waits releases = elim (cases_Bool (is_due_with moment kind o)) [
    | inl e ↦ released-passes (kept moment kind c o) n (releases e) ∙ sym (append_assoc o.put o.bypass (c ∷ []))
    | inr e ↦ ap (λ (x : Outgoing J). x.put ++ x.bypass) (waits e) ∙ sym (append_assoc o.put o.bypass (c ∷ []))
  ]

  pub placed-out : (o n : Outgoing J) (c : Callback J) (ws : List (Labelled J)) → ws ≡ [] → n.put ++ n.bypass ≡ (o.put ++ o.bypass) ++ c ∷ [] → n.put ++ (n.bypass ++ callbacks_of ws) ≡ (o.put ++ (o.bypass ++ callbacks_of ws)) ++ c ∷ []
  placed-out o n c ws e h = rw e (ap (λ l. n.put ++ l) (append-nil n.bypass) ∙ (h ∙ ap (λ l. (o.put ++ l) ++ c ∷ []) (sym (append-nil o.bypass))))

  -- a new callback elsewhere
  pub callbacks-pushed : (xs ys : List (Labelled J)) (c : Callback J) → ys ≡ xs ++ record { label = Bare; callback = c } ∷ [] → callbacks_of ys ≡ callbacks_of xs ++ c ∷ []
  callbacks-pushed xs ys c e = ap callbacks_of e ∙ callbacks-append xs (record { label = Bare; callback = c } ∷ [])

  pub placed-own : (put bypass cs ds : List (Callback J)) (c : Callback J) → ds ≡ cs ++ c ∷ [] → put ++ (bypass ++ ds) ≡ (put ++ (bypass ++ cs)) ++ c ∷ []
  placed-own put bypass cs ds c e = ap (λ l. put ++ (bypass ++ l)) e ∙ (ap (λ l. put ++ l) (sym (append_assoc bypass cs (c ∷ []))) ∙ sym (append_assoc put (bypass ++ cs) (c ∷ [])))

  -- asked off
  pub off-leaves : (accepted : ℕ) (h : Holding J) → (is_offloading h.mode || (is_offloaded h.mode && not (is_any h.outgoing.bypass))) ≡ true → record h { mode = Deoffloading; left = accepted } ≡ asked_off accepted h
  off-leaves accepted h e = rw e refl

  pub off-stays : (accepted : ℕ) (h : Holding J) → (is_offloading h.mode || (is_offloaded h.mode && not (is_any h.outgoing.bypass))) ≡ false → h ≡ asked_off accepted h
  off-stays accepted h e = rw e refl

  pub off-passes : (accepted : ℕ) (h n : Holding J) → n ≡ asked_off accepted h → passed_on n ≡ passed_on h
  off-passes accepted h n e = elim (cases_Bool (is_offloading h.mode || (is_offloaded h.mode && not (is_any h.outgoing.bypass)))) [
    | inl t ↦ ap passed_on (e ∙ sym (off-leaves accepted h t))
    | inr f ↦ ap passed_on (e ∙ sym (off-stays accepted h f))
  ]

  -- lists without callbacks
  pub no-callbacks : (xs : List (Labelled J)) → callbacks_of xs ≡ [] → xs ≡ []
  no-callbacks [] e = refl
  no-callbacks (x ∷ xs) e = absurd (let n = ap length e in omega arith)

  -- the first callback, which is done
  abbrev pub Left : Option (Callback J) → List (Labelled J) → List (Labelled J) → Type 0
  Left r xs ys = MatchOption r ((count is_done xs ≡ 0) × (ys ≡ xs)) (λ c. xs ≡ marked Done (c ∷ []) ++ ys)

  pub left-none : (r : Option (Callback J)) (xs ys : List (Labelled J)) → Left r xs ys → xs ≡ [] → ys ≡ []
  left-none None xs ys h e = h.1 ∙ e
  left-none (Some c) xs ys h e = absurd (let n = ap length (sym h ∙ e) in omega arith)

  pub left-safe : (r : Option (Callback J)) (xs ys : List (Labelled J)) → Left r xs ys → AreSafe (callbacks_of xs) → AreSafe (callbacks_of ys)
  left-safe None xs ys h s = subst (λ (zs : List (Labelled J)). AreSafe (callbacks_of zs)) (sym h.1) s
  left-safe (Some c) xs ys h s = All-tail IsSafe c (callbacks_of ys) (subst (λ (zs : List (Labelled J)). AreSafe (callbacks_of zs)) h s)

  pub left-aimed : (a : ℕ) (r : Option (Callback J)) (xs ys : List (Labelled J)) → Left r xs ys → IfSome r (λ c. snap_of c.stamp ≤ a) → AreAimed a xs → AreAimed a ys
  left-aimed a None xs ys h g s = subst (AreAimed a) (sym h.1) s
  left-aimed a (Some c) xs ys h g s = aimed-left a (c ∷ []) ys (All-push (λ (x : Callback J). snap_of x.stamp ≤ a) [] c (All-nil (λ (x : Callback J). snap_of x.stamp ≤ a)) g) (subst (AreAimed a) h s)

  pub first-safe : {R : Type 0} → (A : Type 0) (f : R → Callback J) (r : Option R) (xs : List (Labelled J)) → MatchOption r A (λ c. (rest : List (Labelled J)) × (xs ≡ marked Done (f c ∷ []) ++ rest)) → AreSafe (callbacks_of xs) → IfSome r (λ c. IsSafe (f c))
  first-safe A f None xs h s = tt
  first-safe A f (Some c) xs h s = All-head IsSafe (f c) (callbacks_of h.0) (subst (λ (zs : List (Labelled J)). AreSafe (callbacks_of zs)) h.1 s)

  pub taken-safe : (r : Option (Callback J)) (xs ys : List (Labelled J)) → Left r xs ys → AreSafe (callbacks_of xs) → IfSome r IsSafe
  taken-safe None xs ys h s = tt
  taken-safe (Some c) xs ys h s = All-head IsSafe c (callbacks_of ys) (subst (λ (zs : List (Labelled J)). AreSafe (callbacks_of zs)) h s)

  pub taken-holding : (r : Option (Callback J)) (o n : Holding J) → Left r o.own n.own → n ≡ record o { own = n.own } → MatchOption r ((count is_done o.own ≡ 0) × (n ≡ o)) (λ c. (o.own ≡ marked Done (c ∷ []) ++ n.own) × (n ≡ record o { own = n.own }))
  taken-holding None o n h e = (h.0, e ∙ ap (λ (ws : List (Labelled J)). record o { own = ws }) h.1)
  taken-holding (Some c) o n h e = (h, e)

  pub taken-places : (offloaded : Bool) (r : Option (Callback J)) (bypass : List (Callback J)) (xs ys : List (Labelled J)) → (offloaded ≡ true → xs ≡ []) → (offloaded ≡ false → bypass ≡ []) → Left r xs ys
      → IfSome r (λ c. bypass ++ callbacks_of xs ≡ c ∷ (bypass ++ callbacks_of ys))
  taken-places offloaded None bypass xs ys b a h = tt
  taken-places true (Some c) bypass xs ys b a h = absurd (let n = ap length (sym h ∙ b refl) in omega arith)
  taken-places false (Some c) bypass xs ys b a h = rw (a refl, h) refl

  pub all-of-none : (xs : List (Labelled J)) → xs ≡ [] → AreSafe (callbacks_of xs)
  all-of-none xs e = rw e (All-nil IsSafe)

  pub aimed-none : (a : ℕ) (xs : List (Labelled J)) → xs ≡ [] → AreAimed a xs
  aimed-none a xs e = rw e (λ k d lt. absurd (omega (arith, lt)))

  pub nothing-held : {mode : Mode} {own : List (Labelled J)} {put bypass : List (Callback J)} {advanced batches qhimark : ℕ} {pace : Pace} (offloadable : Bool) (q : ℕ) → mode ≡ first_mode offloadable → own ≡ [] → advanced ≡ 0 → put ≡ [] → batches ≡ 0
      → bypass ≡ [] → pace ≡ beginning → qhimark ≡ q → record (first_holding {J = J} offloadable q) { mode = mode; own = own; advanced = advanced; outgoing = record { put = put; batches = batches; bypass = bypass; pace = pace; qhimark = qhimark } } ≡ first_holding {J = J} offloadable q
  nothing-held offloadable q a b c d e f g h = rw (a, b, c, d, e, f, g, h) refl

  -- asked on
  pub poured-passes : (o n : Outgoing J) (xs ys : List (Labelled J)) → ys ≡ [] → IsReleasedIfAny (poured (callbacks_of xs) o) n → n.put ++ (n.bypass ++ callbacks_of ys) ≡ o.put ++ (o.bypass ++ callbacks_of xs)
  poured-passes o n xs ys e r = rw e (ap (λ l. n.put ++ l) (append-nil n.bypass) ∙ released-any-passes (poured (callbacks_of xs) o) n r)

  pub same-held : (o n : Outgoing J) (xs ys : List (Labelled J)) → ys ≡ xs → n ≡ o → n.put ++ (n.bypass ++ callbacks_of ys) ≡ o.put ++ (o.bypass ++ callbacks_of xs)
  same-held o n xs ys e f = ap (λ (x : Outgoing J). x.put ++ (x.bypass ++ callbacks_of ys)) f ∙ ap (λ (ws : List (Labelled J)). o.put ++ (o.bypass ++ callbacks_of ws)) e

  -- no more than a processor accepts
  pub one-more : (xs : List (Callback J)) (c : Callback J) → length xs < MOST_CALLS → AreFew (xs ++ c ∷ [])
  one-more xs c h = let n = length-append xs (c ∷ []) in omega arith

  pub few-less : (xs ys zs : List (Callback J)) → AreFew (xs ++ (ys ++ zs)) → AreFew (xs ++ ys)
  few-less xs ys zs h = let a = length-append xs (ys ++ zs) in let b = length-append ys zs in let d = length-append xs ys in omega (arith, h)

  pub hold-few : (put bypass cs : List (Callback J)) (c : Callback J) → length (put ++ (bypass ++ cs)) < MOST_CALLS → AreFew (put ++ (bypass ++ c ∷ []))
  hold-few put bypass cs c h = let n1 = length-append put (bypass ++ cs) in let n2 = length-append bypass cs in let n3 = length-append put (bypass ++ c ∷ []) in let n4 = length-append bypass (c ∷ []) in omega arith

  pub none-few : (put bypass cs : List (Callback J)) → put ≡ [] → bypass ≡ [] → cs ≡ [] → AreFew (put ++ (bypass ++ cs))
  none-few put bypass cs p b e = rw (p, b, e) (omega arith)

  pub left-few : (offloaded : Bool) (r : Option (Callback J)) (put bypass : List (Callback J)) (xs ys : List (Labelled J)) → (offloaded ≡ true → xs ≡ []) → (offloaded ≡ false → bypass ≡ []) → Left r xs ys
      → AreFew (put ++ (bypass ++ callbacks_of xs)) → AreFew (put ++ (bypass ++ callbacks_of ys))
  left-few offloaded None put bypass xs ys b a h few = subst (λ (ws : List (Labelled J)). AreFew (put ++ (bypass ++ callbacks_of ws))) (sym h.1) few
  left-few offloaded (Some c) put bypass xs ys b a h few =
      let e = ap length (taken-places offloaded (Some c) bypass xs ys b a h) in
      let n1 = length-append put (bypass ++ callbacks_of xs) in let n2 = length-append put (bypass ++ callbacks_of ys) in omega (arith, few)

  -- the first of a batch
  pub rest-safe : (r : Option (Callback J)) (xs ys : List (Callback J)) → MatchOption r ((xs ≡ []) × (ys ≡ [])) (λ c. xs ≡ c ∷ ys) → AreSafe xs → AreSafe ys
  rest-safe None xs ys h s = subst AreSafe (sym h.1) (All-nil IsSafe)
  rest-safe (Some c) xs ys h s = All-tail IsSafe c ys (subst AreSafe h s)

  pub head-safe : (r : Option (Callback J)) (xs ys : List (Callback J)) → MatchOption r ((xs ≡ []) × (ys ≡ [])) (λ c. xs ≡ c ∷ ys) → AreSafe xs → IfSome r IsSafe
  head-safe None xs ys h s = tt
  head-safe (Some c) xs ys h s = All-head IsSafe c ys (subst AreSafe h s)

  pub look-safe : {R : Type 0} → (A : Type 0) (f : R → Callback J) (r : Option R) (xs : List (Callback J)) → MatchOption r A (λ c. (rest : List (Callback J)) × (xs ≡ f c ∷ rest)) → AreSafe xs → IfSome r (λ c. IsSafe (f c))
  look-safe A f None xs h s = tt
  look-safe A f (Some c) xs h s = All-head IsSafe (f c) h.0 (subst AreSafe h.1 s)
