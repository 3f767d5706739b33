-- What a tick's release and a switch come to: what is put is put behind what was put, the own list stays or is poured whole,
-- and no processor becomes Local.
use Rattle.std.proofs.Common.{◌≡◌, ℕ, Bool, true, false, not, inl, inr, ◌⊎◌, arith, List, [], ◌++◌, append-nil, append_assoc, ap, sym, ◌∙◌, refl, subst, ⊎_elim}
use Rattle.std.specs.Prelude.{IsTrue, ◌&&◌, ◌||◌, if◌then◌else◌}
use Rattle.std.proofs.lemmas.Bool.{cases_Bool}
use Rattle.std.proofs.lemmas.List.Elements.{All-nil}
use Rattle.rcu_part_lists.specs.Aims.{AreUpTo, is_up_to}
use Rattle.rcu_part_lists.specs.ProcessorLists.{Holding, put_by, PutsBypass, Releases, AskedOn, Pours, asked_off}
use Rattle.rcu_jobs.specs.Modes.{is_local, is_offloaded, is_offloading}
use Rattle.rcu_part_lists.specs.Outgoing.{Outgoing, IsReleased, is_due_in_tick, in_tick, poured}
use Rattle.rcu_jobs.specs.declared.callback.Callback.{Callback}
use Rattle.rcu_jobs.specs.declared.modes.Mode.TheVariants.{Deoffloading, Offloading}
use Rattle.rcu_lists.specs.Labels.{Labelled, callbacks_of}
use Rattle.rcu_lists.specs.Release.{is_any}
use Rattle.rcu_board.specs.Seats.{NeverFalls}
use Rattle.rcu_board.specs.Views.{seen_at}
use Rattle.rcu_board.specs.Words.{needed_word}
use Rattle.rcu_board.specs.declared.view.View.{View}
use Rattle.rcu_part_lists.specs.ProcessorLists.{passed_on}
use Rattle.rcu_part_lists.specs.Limits.{AreBelow}
use Rattle.rcu_part_lists.proofs.Aims.{up-raised}
use Rattle.rcu_jobs.specs.declared.callback.Record.{Record}
use Rattle.rcu_jobs.specs.declared.modes.Mode.{Mode}
use Rattle.rcu_part_steps.specs.Changes.{Tells}
use Rattle.rcu_part_processor.specs.Lawful.{IsLawful}
use Rattle.rcu_part_processor.proofs.Moving.{kept_by_moves, lawful_below}
use Rattle.rcu_part_processor.proofs.Taking.{PutsMore}
use Rattle.rcu_part_steps.proofs.Telling.{tells_none}

module _ {J : Type 0} where
  pub record Shifts (h n : Holding J) : Type 0 where
    pub puts : PutsMore h n
    pub own : (n.own ≡ h.own) ⊎ (n.own ≡ [])
    pub mode : is_local h.mode ≡ false → is_local n.mode ≡ false

  puts_none : (h n : Holding J) → n.outgoing.put ≡ h.outgoing.put → n.advanced ≡ h.advanced → PutsMore h n
  puts_none h n e a = ([], e ∙ sym (append-nil (put_by h)), a)

  puts_again : (h n o : Holding J) → PutsMore h n → PutsMore n o → PutsMore h o
  puts_again h n o a b = (a.0 ++ b.0, b.1 ∙ (ap (λ (l : List (Callback J)). l ++ b.0) a.1 ∙ append_assoc (put_by h) a.0 b.0), b.2 ∙ a.2)

  pub shifts_again : (h n o : Holding J) → Shifts h n → Shifts n o → Shifts h o
  shifts_again h n o a b = record {
    puts = puts_again h n o a.puts b.puts;
    own = ⊎_elim (λ e. ⊎_elim (λ f. inl (e ∙ f)) (λ f. inr (e ∙ f)) a.own) (λ e. inr e) b.own;
    mode = λ l. b.mode (a.mode l);
  }

  -- a released list was put, or nothing was
  put_released : (o n : Outgoing J) → IsReleased o n → (batch : List (Callback J)) × (n.put ≡ o.put ++ batch)
  put_released o n r = ⊎_elim (λ s. (o.bypass, ap (λ (x : Outgoing J). x.put) s)) (λ s. ([], ap (λ (x : Outgoing J). x.put) s.1 ∙ sym (append-nil o.put))) r

  pub shifts_release : (moment : ℕ) (leaving urges : Bool) (h n : Holding J) → Releases moment leaving urges h n → Shifts h n
  shifts_release moment leaving urges h n r = record {
    puts = elim (cases_Bool (is_due_in_tick moment leaving urges h.outgoing)) [
      | inl e ↦ let p = put_released (in_tick moment h.outgoing) n.outgoing (r.releases e) in (p.0, p.1, ap (λ (x : Holding J). x.advanced) r.others)
      | inr e ↦ puts_none h n (ap (λ (x : Holding J). x.outgoing.put) (r.stays e)) (ap (λ (x : Holding J). x.advanced) r.others)
    ];
    own = inl (ap (λ (x : Holding J). x.own) r.others);
    mode = λ l. ap (λ (x : Holding J). is_local x.mode) r.others ∙ l;
  }

  pub shifts_put : (h n : Holding J) → PutsBypass h n → Shifts h n
  shifts_put h n r = record {
    puts = elim (cases_Bool (is_any h.outgoing.bypass)) [
      | inl any ↦ let p = put_released h.outgoing n.outgoing (r.outgoing.some any) in (p.0, p.1, ap (λ (x : Holding J). x.advanced) r.others)
      | inr none ↦ puts_none h n (ap (λ (x : Outgoing J). x.put) (r.outgoing.none none)) (ap (λ (x : Holding J). x.advanced) r.others)
    ];
    own = inl (ap (λ (x : Holding J). x.own) r.others);
    mode = λ l. ap (λ (x : Holding J). is_local x.mode) r.others ∙ l;
  }

  off_by : (b : Bool) (accepted : ℕ) (h : Holding J) → Shifts h (if b then record h { mode = Deoffloading; left = accepted } else h)
  off_by true accepted h = record { puts = puts_none h (record h { mode = Deoffloading; left = accepted }) refl refl; own = inl refl; mode = λ l. refl }
  off_by false accepted h = record { puts = puts_none h h refl refl; own = inl refl; mode = λ l. l }

  pub shifts_off : (accepted : ℕ) (h n : Holding J) → n ≡ asked_off accepted h → Shifts h n
  shifts_off accepted h n e = subst (λ (x : Holding J). Shifts h x) (sym e) (off_by (is_offloading h.mode || (is_offloaded h.mode && not (is_any h.outgoing.bypass))) accepted h)

  put_poured : (h n : Holding J) → Pours h n → (batch : List (Callback J)) × (put_by n ≡ put_by h ++ batch)
  put_poured h n p = let o = poured (callbacks_of h.own) h.outgoing in elim (cases_Bool (is_any o.bypass)) [
    | inl e ↦ put_released o n.outgoing (p.outgoing.some e)
    | inr e ↦ ([], ap (λ (x : Outgoing J). x.put) (p.outgoing.none e) ∙ sym (append-nil (put_by h)))
  ]

  pub shifts_on : (h n : Holding J) → AskedOn h n → Shifts h n
  shifts_on h n a = elim (cases_Bool (is_offloaded h.mode)) [
    | inl on ↦ let e = a.stays on in record { puts = puts_none h n (ap put_by e) (ap (λ (x : Holding J). x.advanced) e); own = inl (ap (λ (x : Holding J). x.own) e); mode = λ l. ap (λ (x : Holding J). is_local x.mode) e ∙ l }
    | inr off ↦ ⊎_elim
        (λ (p : Pours h n). let b = put_poured h n p in record {
          puts = (b.0, b.1, ap (λ (x : Holding J). x.advanced) p.others);
          own = inr (ap (λ (x : Holding J). x.own) p.others);
          mode = λ l. ap (λ (x : Holding J). is_local x.mode) p.others;
        })
        (λ (e : n ≡ record h { mode = Offloading }). record { puts = puts_none h n (ap put_by e) (ap (λ (x : Holding J). x.advanced) e); own = inl (ap (λ (x : Holding J). x.own) e); mode = λ l. ap (λ (x : Holding J). is_local x.mode) e })
        (a.leads off)
  ]

  -- what the own list waits for is still at most s
  pub shifts_up : (s : ℕ) (h n : Holding J) → Shifts h n → AreUpTo s h.own → AreUpTo s n.own
  shifts_up s h n k up = ⊎_elim (λ e. subst (AreUpTo s) (sym e) up) (λ e. subst (AreUpTo s) (sym e) (All-nil (λ (x : Labelled J). IsTrue (is_up_to s x.label)))) k.own

  -- an empty own list stays empty
  pub shifts_empty : (h n : Holding J) → Shifts h n → h.own ≡ [] → n.own ≡ []
  shifts_empty h n k none = ⊎_elim (λ e. e ∙ none) (λ e. e) k.own

  -- a release, and then what is asked
  pub heeding : (moment : ℕ) (on urges : Bool) (accepted : ℕ) (h i j : Holding J) → Releases moment (not on) urges h i → (on ≡ false → j ≡ asked_off accepted i) → (on ≡ true → AskedOn i j) → Shifts h j
  heeding moment on urges accepted h i j r off asked = shifts_again h i j (shifts_release moment (not on) urges h i r) (elim (cases_Bool on) [
    | inl e ↦ shifts_on i j (asked e)
    | inr e ↦ shifts_off accepted i j (off e)
  ])

module _ {J R : Type 0} where
  -- the law is kept as the lists shift
  pub shifts_law : (cpu n m : ℕ) (v w : View) (ran : List (Record R)) (h h' : Holding J) → Tells v w → NeverFalls m v w → Shifts h h' → passed_on h' ≡ passed_on h → IsLawful cpu n v ran h → IsLawful cpu n w ran h'
  shifts_law cpu n m v w ran h h' tells later k passed l = kept_by_moves cpu n v w ran h h' k.puts.0 tells k.puts.1 passed (let a = k.puts.2 in let b = later.board in let z = l.looked in omega arith)
      (shifts_up (seen_at w needed_word) h h' k (up-raised (seen_at v needed_word) (seen_at w needed_word) h.own later.needed l.needed)) l

  -- what was put is below the count, once the bypass list was released
  pub shifts_below : (cpu n : ℕ) (v : View) (ran : List (Record R)) (h h' : Holding J) → Shifts h h' → passed_on h' ≡ passed_on h → IsLawful cpu n v ran h → AreBelow n (put_by h')
  shifts_below cpu n v ran h h' k passed l = lawful_below cpu n v ran h' (kept_by_moves cpu n v v ran h h' k.puts.0 (tells_none v v refl) k.puts.1 passed (let a = k.puts.2 in let z = l.looked in omega arith)
      (shifts_up (seen_at v needed_word) h h' k l.needed) l)

  -- the law is kept as the mode settles
  pub settled_law : (cpu n m : ℕ) (v w : View) (ran : List (Record R)) (h h' : Holding J) (mode : Mode) → Tells v w → NeverFalls m v w → h' ≡ record h { mode = mode } → IsLawful cpu n v ran h → IsLawful cpu n w ran h'
  settled_law cpu n m v w ran h h' mode tells later e l = kept_by_moves cpu n v w ran h h' [] tells (ap put_by e ∙ sym (append-nil (put_by h))) (ap passed_on e) (let b = later.board in let z = l.looked in omega (arith, ap (λ (x : Holding J). x.advanced) e))
      (subst (AreUpTo (seen_at w needed_word)) (sym (ap (λ (x : Holding J). x.own) e)) (up-raised (seen_at v needed_word) (seen_at w needed_word) h.own later.needed l.needed)) l
