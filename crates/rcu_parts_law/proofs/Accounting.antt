-- What `close` promises of each processor is what its account needs.
use Rattle.std.proofs.Common.{◌≡◌, ℕ, zero, suc, ◌+◌, ◌/◌, ◌%◌, ◌<◌, ◌≤◌, true, List, [], ◌∷◌, ◌++◌, map, length, take, drop, refl, ap, sym, subst, ◌∙◌, arith}
use Rattle.std.specs.Prelude.{slice_index}
use Rattle.std.specs.List.{All, filter}
use Rattle.std.proofs.lemmas.Bool.{eqb-true}
use Rattle.std.proofs.lemmas.List.{drop-map, length-map, map-append, take-map, take-append-drop, get_or-take}
use Rattle.std.proofs.lemmas.List.Elements.{All-filter, All-head, All-map, All-tail, All-weaker, filter_passes}
use Rattle.std.proofs.lemmas.Simd.{map-map}
use Rattle.rcu_agreement.specs.Accounts.{Account, AreAccounts, IsAccount, LiesBetween}
use Rattle.rcu_board.specs.Seats.{reports_of}
use Rattle.rcu_board.specs.Views.{seen_at}
use Rattle.rcu_board.specs.Words.{accepts_word, turns_word}
use Rattle.rcu_board.specs.declared.view.View.{View}
use Rattle.rcu_jobs.specs.declared.callback.Callback.{Callback}
use Rattle.rcu_jobs.specs.declared.callback.Record.{Record}
use Rattle.rcu_lemmas.proofs.All.{All-both, All-unmap}
use Rattle.rcu_part_close.specs.Closing.{CpuEnd, EndsAs, IsGraced, IsGracedBy, calls_left, processors_of}
use Rattle.rcu_part_order.specs.Callbacks.{numbered_callback}
use Rattle.rcu_part_order.specs.Places.{Accepted, Numbered, keys_of, numbered}
use Rattle.rcu_part_order.specs.Records.{numbered_record}
use Rattle.rcu_part_steps.specs.Places.{accepted_list}
use Rattle.rcu_parts_law.specs.Accounts.{account_of, saw_shut}

-- ---- lists of numbered callbacks and of records

keys_of_numbered : (k : ℕ) (xs : List Accepted) → map (λ (n : Numbered). n.key) (numbered k xs) ≡ keys_of xs
keys_of_numbered k [] = refl
keys_of_numbered k (x ∷ xs) = ap (λ l. x.key ∷ l) (keys_of_numbered (k + 1) xs)

stamps_of_numbered : (k : ℕ) (xs : List Accepted) → map (λ (n : Numbered). n.stamp) (numbered k xs) ≡ map (λ (a : Accepted). a.stamp) xs
stamps_of_numbered k [] = refl
stamps_of_numbered k (x ∷ xs) = ap (λ l. x.stamp ∷ l) (stamps_of_numbered (k + 1) xs)

module _ {R : Type 0} where
  -- what is said of the stamp and the sight of each record
  of_record : (P : ℕ → ℕ → Type 0) (rs : List (Record R)) → All (λ (r : Record R). P r.stamp r.ready) rs → (k : ℕ) → k < length rs
      → P (slice_index (map (λ (r : Record R). r.stamp) rs) k) (slice_index (map (λ (r : Record R). r.ready) rs) k)
  of_record P [] h k l = absurd (omega arith)
  of_record P (r ∷ rs) h zero l = All-head (λ (x : Record R). P x.stamp x.ready) r rs h
  of_record P (r ∷ rs) h (suc k) l = of_record P rs (All-tail (λ (x : Record R). P x.stamp x.ready) r rs h) k (omega arith)

-- ---- one processor

module _ {J R : Type 0} (views processors : List View) (e : CpuEnd J R) (h : EndsAs views processors e) where
  abbrev accepted : List Accepted
  accepted = accepted_list e.part.view

  abbrev key : Numbered → ℕ
  key n = n.key

  abbrev stamp : Numbered → ℕ
  stamp n = n.stamp

  ran_keys : map key (take (length e.ran) (numbered 0 accepted)) ≡ map (λ (r : Record R). r.key) e.ran
  ran_keys = ap (map key) (sym h.end.ran_is) ∙ map-map key numbered_record e.ran

  left_keys : map key (drop (length e.ran) (numbered 0 accepted)) ≡ map (λ (c : Callback J). c.key) (calls_left e)
  left_keys = ap (map key) (sym h.left) ∙ map-map key numbered_callback (calls_left e)

  -- the keys of the callbacks that are left are those that were accepted after the last that ran
  pub keys_left : drop (length e.ran) (keys_of accepted) ≡ map (λ (c : Callback J). c.key) (calls_left e)
  keys_left = ap (drop (length e.ran)) (sym (keys_of_numbered 0 accepted)) ∙ drop-map key (length e.ran) (numbered 0 accepted) ∙ left_keys

  settled : keys_of accepted ≡ map (λ (r : Record R). r.key) e.ran ++ map (λ (c : Callback J). c.key) (calls_left e)
  settled = sym (keys_of_numbered 0 accepted) ∙ ap (map key) (sym (take-append-drop (length e.ran) (numbered 0 accepted)))
      ∙ map-append key (take (length e.ran) (numbered 0 accepted)) (drop (length e.ran) (numbered 0 accepted))
      ∙ ap (λ l. l ++ map key (drop (length e.ran) (numbered 0 accepted))) ran_keys
      ∙ ap (λ l. map (λ (r : Record R). r.key) e.ran ++ l) left_keys

  -- the stamp of the k-th that ran is that of the k-th accepted
  ran_stamps : take (length e.ran) (map (λ (a : Accepted). a.stamp) accepted) ≡ map (λ (r : Record R). r.stamp) e.ran
  ran_stamps = ap (take (length e.ran)) (sym (stamps_of_numbered 0 accepted)) ∙ take-map stamp (length e.ran) (numbered 0 accepted) ∙ ap (map stamp) (sym h.end.ran_is) ∙ map-map stamp numbered_record e.ran

  same_stamp : (k : ℕ) → k < length e.ran → slice_index (map (λ (r : Record R). r.stamp) e.ran) k ≡ slice_index (map (λ (a : Accepted). a.stamp) accepted) k
  same_stamp k l = ap (λ x. slice_index x k) (sym ran_stamps) ∙ get_or-take (length e.ran) (map (λ (a : Accepted). a.stamp) accepted) k 0 l

  graced : (k : ℕ) → k < length e.ran
      → All (λ (v : View). LiesBetween (slice_index (map (λ (a : Accepted). a.stamp) accepted) k) (slice_index (map (λ (r : Record R). r.ready) e.ran) k) (reports_of v)) processors
  graced k l =
      let Waits = λ (s x : ℕ). All (λ (v : View). LiesBetween s x (reports_of v)) processors in
      let each : All (λ (r : Record R). Waits r.stamp r.ready) e.ran =
      All-weaker (IsGraced processors) (λ (r : Record R). Waits r.stamp r.ready)
      (λ r. All-weaker (IsGracedBy r) (λ (v : View). LiesBetween r.stamp r.ready (reports_of v)) (λ v g. record { period = g.0; within = g.1; after = g.2; before = g.3 }) processors) e.ran h.graced in
      subst (λ s. Waits s (slice_index (map (λ (r : Record R). r.ready) e.ran) k)) (same_stamp k l) (of_record Waits e.ran each k l)

  turns : All (λ turn. turn ≤ length (map (λ (r : Record R). r.key) e.ran)) (map (λ (v : View). seen_at v (turns_word e.part.cpu) / 2) views)
  turns = All-map (λ turn. turn ≤ length (map (λ (r : Record R). r.key) e.ran)) (λ (v : View). seen_at v (turns_word e.part.cpu) / 2) views
      (All-weaker (λ (v : View). seen_at v (turns_word e.part.cpu) / 2 ≤ length e.ran) (λ (v : View). seen_at v (turns_word e.part.cpu) / 2 ≤ length (map (λ (r : Record R). r.key) e.ran))
      (λ v w. omega (arith, w, length-map e.ran (λ (r : Record R). r.key))) views h.turns)

  shuts : All (λ count. count ≡ length (keys_of accepted)) (map (λ (v : View). seen_at v (accepts_word e.part.cpu) / 2) (filter (saw_shut e.part.cpu) views))
  shuts =
      let p = e.part.cpu in
      let Whole = λ (v : View). seen_at v (accepts_word p) / 2 ≡ length (keys_of accepted) in
      let Odd = λ (v : View). seen_at v (accepts_word p) % 2 ≡ 1 → seen_at v (accepts_word p) / 2 ≡ length accepted in
      All-map (λ count. count ≡ length (keys_of accepted)) (λ (v : View). seen_at v (accepts_word p) / 2) (filter (saw_shut p) views)
      (All-both Odd (λ (v : View). saw_shut p v ≡ true) Whole (filter (saw_shut p) views)
      (λ v f s. f (eqb-true (seen_at v (accepts_word p) % 2) 1 s) ∙ sym (length-map accepted (λ (a : Accepted). a.key)))
      (All-filter (saw_shut p) Odd views h.shut) (filter_passes (saw_shut p) views))

module _ {J R : Type 0} (views : List View) (es : List (CpuEnd J R)) where
  is_account : (e : CpuEnd J R) → EndsAs views (processors_of es) e → IsAccount (map (account_of views) es) (account_of views e)
  is_account e h = record {
    settled = settled views (processors_of es) e h;
    graced = λ k l.
        let s = slice_index (map (λ (a : Accepted). a.stamp) (accepted_list e.part.view)) k in
        let x = slice_index (map (λ (r : Record R). r.ready) e.ran) k in
        let near : k < length e.ran = omega (arith, l, length-map e.ran (λ (r : Record R). r.key)) in
        All-map (λ (q : Account). LiesBetween s x q.reports) (account_of views) es
        (All-unmap (λ (v : View). LiesBetween s x (reports_of v)) (λ (d : CpuEnd J R). d.part.view) es (graced views (processors_of es) e h k near));
    turns = turns views (processors_of es) e h;
    shuts = shuts views (processors_of es) e h;
  }

  pub are_accounts : All (EndsAs views (processors_of es)) es → AreAccounts (map (account_of views) es)
  are_accounts h = All-map (IsAccount (map (account_of views) es)) (account_of views) es
      (All-weaker (EndsAs views (processors_of es)) (λ (e : CpuEnd J R). IsAccount (map (account_of views) es) (account_of views e)) is_account es h)
