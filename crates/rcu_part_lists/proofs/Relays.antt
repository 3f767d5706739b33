-- How what a group holds of a member changes.
use Rattle.std.proofs.Common.{◌≡◌, inl, inr, ⊎_elim, ℕ, ◌+◌, ◌≤◌, ◌<◌, min, Bool, true, false, List, [], ◌∷◌, ◌++◌, length, refl, sym, ap, ◌∙◌, subst, arith}
use Rattle.std.proofs.lemmas.List.{map-append, append-nil, append_assoc, length-append}
use Rattle.std.proofs.lemmas.List.Elements.{All-append, All-nil, All-cons, All-head, All-tail}
use Rattle.rcu_jobs.specs.declared.callback.Callback.{Callback}
use Rattle.rcu_lanes.specs.declared.ends.TheConstants.{FIRST_SLOTS}
use Rattle.rcu_lists.specs.Labels.{Done, Bare, Labelled, marked, callbacks_of, count, is_done}
use Rattle.rcu_lists.specs.declared.batch.TheConstants.{INLINE_PLACES}
use Rattle.rcu_part_lists.specs.Aims.{AreAimed}
use Rattle.rcu_part_lists.specs.MemberLists.{Relay, nothing_relayed, joined, Draws, TakesIn, Loads, Hands, GivesSome}
use Rattle.rcu_part_lists.specs.Limits.{IsSafe, AreFew, AreSafe}
use Rattle.rcu_part_lists.proofs.Aims.{callbacks-append, callbacks-marked, aimed-push}
use Rattle.rcu_part_lists.proofs.Holdings.{few-less}

module _ {J : Type 0} where
  -- what a list holds once callbacks have joined it, or left it
  pub callbacks-joined : (xs : List (Labelled J)) (cs : List (Callback J)) → callbacks_of (xs ++ marked Bare cs) ≡ callbacks_of xs ++ cs
  callbacks-joined xs cs = callbacks-append xs (marked Bare cs) ∙ ap (λ l. callbacks_of xs ++ l) (callbacks-marked Bare cs)

  pub callbacks-left : (cs : List (Callback J)) (ys : List (Labelled J)) → callbacks_of (marked Done cs ++ ys) ≡ cs ++ callbacks_of ys
  callbacks-left cs ys = callbacks-append (marked Done cs) ys ∙ ap (λ l. l ++ callbacks_of ys) (callbacks-marked Done cs)

  pub joined-more : (xs : List (Labelled J)) (c : Callback J) (cs : List (Callback J)) → (xs ++ record { label = Bare; callback = c } ∷ []) ++ marked Bare cs ≡ xs ++ marked Bare (c ∷ cs)
  joined-more xs c cs = append_assoc xs (record { label = Bare; callback = c } ∷ []) (marked Bare cs)

  pub aimed-joined : (a : ℕ) (xs : List (Labelled J)) (cs : List (Callback J)) → AreAimed a xs → AreAimed a (xs ++ marked Bare cs)
  aimed-joined a xs [] h = subst (AreAimed a) (sym (append-nil xs)) h
  aimed-joined a xs (c ∷ cs) h = subst (AreAimed a) (joined-more xs c cs) (aimed-joined a (xs ++ record { label = Bare; callback = c } ∷ []) cs (aimed-push a xs c h))

  -- a batch that joined, or waits still
  abbrev pub IfJoined : Bool → List (Labelled J) → List (Labelled J) → List (Callback J) → List (Callback J) → Type 0
  IfJoined b xs ys ds es = (b ≡ true → (ys ≡ xs ++ marked Bare ds) × (es ≡ [])) × (b ≡ false → (ys ≡ xs) × (es ≡ ds))

  pub join-together : (b : Bool) (xs ys : List (Labelled J)) (ds es : List (Callback J)) → IfJoined b xs ys ds es → callbacks_of ys ++ es ≡ callbacks_of xs ++ ds
  join-together true xs ys ds es h = let p = h.0 refl in ap (λ l. callbacks_of ys ++ l) p.1 ∙ (append-nil (callbacks_of ys) ∙ (ap callbacks_of p.0 ∙ callbacks-joined xs ds))
  join-together false xs ys ds es h = let p = h.1 refl in ap (λ l. callbacks_of ys ++ l) p.1 ∙ ap (λ (ws : List (Labelled J)). callbacks_of ws ++ ds) p.0

  pub join-aimed : (a : ℕ) (b : Bool) (xs ys : List (Labelled J)) (ds es : List (Callback J)) → IfJoined b xs ys ds es → AreAimed a xs → AreAimed a ys
  join-aimed a true xs ys ds es h s = subst (AreAimed a) (sym (h.0 refl).0) (aimed-joined a xs ds s)
  join-aimed a false xs ys ds es h s = subst (AreAimed a) (sym (h.1 refl).0) s

  pub join-safe : (b : Bool) (xs ys : List (Labelled J)) (ds es : List (Callback J)) → IfJoined b xs ys ds es → AreSafe (callbacks_of xs) → AreSafe ds → AreSafe (callbacks_of ys)
  join-safe true xs ys ds es h s t = subst AreSafe (sym (ap callbacks_of (h.0 refl).0 ∙ callbacks-joined xs ds)) (All-append IsSafe (callbacks_of xs) ds s t)
  join-safe false xs ys ds es h s t = subst (λ (ws : List (Labelled J)). AreSafe (callbacks_of ws)) (sym (h.1 refl).0) s

  pub join-rest : (b : Bool) (xs ys : List (Labelled J)) (ds es : List (Callback J)) → IfJoined b xs ys ds es → AreSafe ds → AreSafe es
  join-rest true xs ys ds es h t = subst AreSafe (sym (h.0 refl).1) (All-nil IsSafe)
  join-rest false xs ys ds es h t = subst AreSafe (sym (h.1 refl).1) t

  pub join-relay : (b : Bool) (r n : Relay J) → IfJoined b r.list n.list r.drawn n.drawn → n ≡ record r { list = n.list; drawn = n.drawn } → (b ≡ true → n ≡ joined r) × (b ≡ false → n ≡ r)
  join-relay b r n h e = (
    λ t. let p = h.0 t in e ∙ (ap (λ ws. record r { list = ws; drawn = n.drawn }) p.0 ∙ ap (λ ds. record r { list = r.list ++ marked Bare r.drawn; drawn = ds }) p.1),
    λ f. let p = h.1 f in e ∙ (ap (λ ws. record r { list = ws; drawn = n.drawn }) p.0 ∙ ap (λ ds. record r { drawn = ds }) p.1),
  )

  -- the places of a group's part
  pub drawn-waits : (received put out cs batch drawn : List (Callback J)) → drawn ≡ [] → received ≡ put ++ (out ++ (cs ++ drawn)) → received ++ batch ≡ put ++ (out ++ (cs ++ batch))
  drawn-waits received put out cs batch drawn e h = ap (λ l. l ++ batch) (h ∙ (ap (λ l. put ++ (out ++ (cs ++ l))) e ∙ ap (λ l. put ++ (out ++ l)) (append-nil cs)))
      ∙ (append_assoc put (out ++ cs) batch ∙ ap (λ l. put ++ l) (append_assoc out cs batch))

  pub made-out : (received put out batch cs ds drawn : List (Callback J)) → out ≡ [] → cs ≡ batch ++ ds → received ≡ put ++ (out ++ (cs ++ drawn)) → received ≡ put ++ (batch ++ (ds ++ drawn))
  made-out received put out batch cs ds drawn e f h = h ∙ (ap (λ l. put ++ (l ++ (cs ++ drawn))) e ∙ (ap (λ l. put ++ (l ++ drawn)) f ∙ ap (λ l. put ++ l) (append_assoc batch ds drawn)))

  pub put-out : (received put out rest : List (Callback J)) → received ≡ put ++ (out ++ rest) → received ≡ (put ++ out) ++ rest
  put-out received put out rest h = h ∙ sym (append_assoc put out rest)

  pub out-few : (received put out rest : List (Callback J)) → received ≡ put ++ (out ++ rest) → AreFew received → AreFew (put ++ out)
  out-few received put out rest h few = few-less put out rest (subst AreFew h few)

  -- of which nothing has come
  pub nothing-here : {received drawn out put : List (Callback J)} {list : List (Labelled J)} {draws advanced batches : ℕ} → received ≡ [] → draws ≡ 0 → drawn ≡ [] → list ≡ [] → advanced ≡ 0 → out ≡ [] → put ≡ [] → batches ≡ 0
      → record (nothing_relayed {J = J}) { received = received; draws = draws; drawn = drawn; list = list; advanced = advanced; out = out; put = put; batches = batches } ≡ nothing_relayed {J = J}
  nothing-here a b c d e f g h = rw (a, b, c, d, e, f, g, h) refl

  pub nothing-lost : (received put out drawn : List (Callback J)) (list : List (Labelled J)) → received ≡ [] → put ≡ [] → out ≡ [] → drawn ≡ [] → list ≡ [] → received ≡ put ++ (out ++ (callbacks_of list ++ drawn))
  nothing-lost received put out drawn list a b c d e = rw (a, b, c, d, e) refl

  pub nothing-few : (received : List (Callback J)) → received ≡ [] → AreFew received
  nothing-few received e = rw e (omega arith)

  -- a turn's draws
  pub taken-none : (r : Relay J) → TakesIn 0 0 r r
  taken-none r = record {
    got = [];
    joining = [];
    number = refl;
    few = omega arith;
    received = sym (append-nil r.received);
    list = sym (append-nil r.list);
    order = append-nil r.drawn;
    others = refl;
  }

  pub taken-more : (m k t : ℕ) (o n : Relay J) → m ≤ k → TakesIn m t o n → TakesIn k t o n
  taken-more m k t o n le h = record {
    got = h.got;
    joining = h.joining;
    number = h.number;
    few = let f = h.few in omega arith;
    received = h.received;
    list = h.list;
    order = h.order;
    others = h.others;
  }

  marked-append : (xs ys : List (Callback J)) → marked Bare (xs ++ ys) ≡ marked Bare xs ++ marked Bare ys
  marked-append xs ys = map-append (λ (c : Callback J). record { label = Bare; callback = c }) xs ys

  taken-joined : (m t : ℕ) (o n : Relay J) → TakesIn m t o n → TakesIn m t o (joined n)
  taken-joined m t o n h = record {
    got = h.got;
    joining = h.joining ++ n.drawn;
    number = h.number;
    few = h.few;
    received = h.received;
    list = ap (λ l. l ++ marked Bare n.drawn) h.list ∙ (append_assoc o.list (marked Bare h.joining) (marked Bare n.drawn) ∙ ap (λ l. o.list ++ l) (sym (marked-append h.joining n.drawn)));
    order = h.order ∙ sym (append-nil (h.joining ++ n.drawn));
    others = ap (λ (x : Relay J). record x { list = n.list ++ marked Bare n.drawn; drawn = [] }) h.others;
  }

  pub taken-join : (m t : ℕ) (b : Bool) (o n k : Relay J) → TakesIn m t o n → (b ≡ true → k ≡ joined n) → (b ≡ false → k ≡ n) → TakesIn m t o k
  taken-join m t true o n k h p q = subst (TakesIn m t o) (sym (p refl)) (taken-joined m t o n h)
  taken-join m t false o n k h p q = subst (TakesIn m t o) (sym (q refl)) h

  pub taken-draw : (m t : ℕ) (o n k : Relay J) → TakesIn m t o n → n.drawn ≡ [] → Draws n k → TakesIn (m + 1) (t + length k.drawn) o k
  taken-draw m t o n k h e d = record {
    got = h.got ++ k.drawn;
    joining = h.joining;
    number = length-append h.got k.drawn ∙ ap (λ z. z + length k.drawn) h.number;
    few = let f = h.few in let g = d.one in omega arith;
    received = d.received ∙ (ap (λ l. l ++ k.drawn) h.received ∙ append_assoc o.received h.got k.drawn);
    list = ap (λ (x : Relay J). x.list) d.others ∙ h.list;
    order = sym (append_assoc o.drawn h.got k.drawn) ∙ ap (λ l. l ++ k.drawn) (h.order ∙ (ap (λ l. h.joining ++ l) e ∙ append-nil h.joining));
    others = d.others ∙ (ap (λ (x : Relay J). record x { received = k.received; draws = k.draws; drawn = k.drawn }) h.others ∙ ap (λ ws. record o { received = k.received; draws = k.draws; drawn = k.drawn; list = ws }) (sym (ap (λ (x : Relay J). x.list) d.others)));
  }

  pub taken-within : (m t : ℕ) (o n : Relay J) → TakesIn m t o n → AreFew n.received → t ≤ 9007199254740992
  taken-within m t o n h few = let a = ap length h.received ∙ length-append o.received h.got in let b = h.number in omega (arith, few)

  -- what was loaded is given, while the lane has room
  hands-some : (gave : ℕ) (o n : Relay J) → Hands gave o n → 0 < length o.out → o.batches < FIRST_SLOTS → 0 < gave
  hands-some gave o n (inl p) some low = omega (arith, p.0, some)
  hands-some gave o n (inr p) some low = ⊎_elim (λ e. absurd (omega (arith, some, ap length e))) (λ full. absurd (omega (arith, full, low))) p.2

  pub gives-some : (most gave : ℕ) (o b n : Relay J) → (o.out ≡ [] → min most (count is_done o.list) ≤ INLINE_PLACES → Loads most o b) → Hands gave b n → GivesSome most gave o
  gives-some most gave o b n loads hands none low few limit done = let l = loads none few in
      hands-some gave b n hands (omega (arith, l.number, limit, done)) (omega (arith, low, ap (λ (r : Relay J). r.batches) l.others))

  -- the two parts of a list
  pub safe-front : (xs ys : List (Callback J)) → AreSafe (xs ++ ys) → AreSafe xs
  safe-front [] ys h = All-nil IsSafe
  safe-front (x ∷ xs) ys h = All-cons IsSafe x xs (All-head IsSafe x (xs ++ ys) h) (safe-front xs ys (All-tail IsSafe x (xs ++ ys) h))

  pub safe-back : (xs ys : List (Callback J)) → AreSafe (xs ++ ys) → AreSafe ys
  safe-back [] ys h = h
  safe-back (x ∷ xs) ys h = safe-back xs ys (All-tail IsSafe x (xs ++ ys) h)
