-- What leaving and coming back come to: one step on the processor's own report word, after the bypass list was put.
use Rattle.std.proofs.Common.{◌≡◌, ◌≢◌, ℕ, ◌+◌, ◌*◌, ◌≤◌, Bool, true, false, inl, inr, List, [], ◌∷◌, ◌++◌, map, length, append-nil, ap, sym, ◌∙◌, refl, arith, ⊎_elim}
use Rattle.std.specs.Prelude.{IsTrue, ◌↔◌, ◌==◌, if◌then◌else◌}
use Rattle.std.proofs.lemmas.Bool.{cases_Bool, eq-eqb, eqb-true}
use Rattle.rcu_board.specs.Plays.{leave_own, return_own, stepped_own}
use Rattle.rcu_board.specs.Seats.{IsAway, accepted_of, first_accepted, first_fresh, first_word, fresh_of, own_word, view}
use Rattle.rcu_board.specs.Views.{cpus}
use Rattle.rcu_board.specs.declared.board.Role.TheVariants.{Processor}
use Rattle.rcu_board.specs.declared.board.Seat.{Seat}
use Rattle.rcu_board.specs.declared.view.Own.{Own}
use Rattle.rcu_board.specs.declared.view.View.{View}
use Rattle.rcu_jobs.specs.Modes.{is_offloaded}
use Rattle.rcu_jobs.specs.declared.callback.Callback.{Callback}
use Rattle.rcu_jobs.specs.declared.turns.Lists.{Lists}
use Rattle.rcu_jobs.specs.declared.turns.Lists.TheVariants.{Cpu, Folk}
use Rattle.rcu_lanes.specs.declared.ends.TheConstants.{FIRST_SLOTS}
use Rattle.rcu_lists.specs.Release.{is_any}
use Rattle.rcu_numbers.specs.declared.sequence.TheConstants.{LAST_NUMBER}
use Rattle.rcu_part_lists.specs.Outgoing.{Outgoing, sent, sent_back}
use Rattle.rcu_part_lists.specs.ProcessorLists.{Holding, PutsBypass, put_by}
use Rattle.rcu_part_steps.specs.Changes.{Tells}
use Rattle.rcu_part_processor.specs.Lawful.{IsAwaySince, IsHereSince, StaysLocal}

-- ---- the step

-- a step of the processor's own changes its word
module _ (f : ℕ → Own → Own) (sets : (x : ℕ) (o : Own) → (f x o).word ≡ x) where
  word_made : (l : List Own) (p x : ℕ) → cpus l ≡ p ∷ [] → first_word (map (f x) l) ≡ x
  word_made [] p x e = absurd (omega (arith, ap length e))
  word_made (o ∷ os) p x e = sets x o

  word_stepped : (s t : Seat) (p i x : ℕ) → s.role ≡ Processor p → view t ≡ stepped_own f i x (view s) → own_word (view t) ≡ x
  word_stepped s t p i x is e = ap own_word e ∙ word_made s.seat.me.0.own p x (s.of_role.own p is)

-- and no accepted number
module _ (f : ℕ → Own → Own) (keeps : (x : ℕ) (o : Own) → (f x o).accepted ≡ o.accepted) (fresh : (x : ℕ) (o : Own) → (f x o).fresh ≡ o.fresh) where
  accepted_made : (l : List Own) (x : ℕ) → first_accepted (map (f x) l) ≡ first_accepted l
  accepted_made [] x = refl
  accepted_made (o ∷ os) x = keeps x o

  fresh_made : (l : List Own) (x : ℕ) → first_fresh (map (f x) l) ≡ first_fresh l
  fresh_made [] x = refl
  fresh_made (o ∷ os) x = fresh x o

  tells_stepped : (i x : ℕ) (v w : View) → w ≡ stepped_own f i x v → Tells v w
  tells_stepped i x v w e = record {
    accepted = ap accepted_of e ∙ accepted_made v.own x;
    fresh = ap fresh_of e ∙ fresh_made v.own x;
    claims = ap (λ (u : View). u.claims) e;
    running = ap (λ (u : View). u.running) e;
  }

pub tells_left : (i x : ℕ) (v w : View) → w ≡ stepped_own leave_own i x v → Tells v w
tells_left = tells_stepped leave_own (λ x o. refl) (λ x o. refl)

pub tells_returned : (i x : ℕ) (v w : View) → w ≡ stepped_own return_own i x v → Tells v w
tells_returned = tells_stepped return_own (λ x o. refl) (λ x o. refl)

pub since_left : (s t : Seat) (p i passed : ℕ) → s.role ≡ Processor p → view t ≡ stepped_own leave_own i (2 * passed + 1) (view s) → IsHereSince passed (view s) → IsAwaySince passed (view t)
since_left s t p i passed is e h = record { word = word_stepped leave_own (λ x o. refl) s t p i (2 * passed + 1) is e; small = h.small }

pub since_returned : (s t : Seat) (p i passed : ℕ) → s.role ≡ Processor p → view t ≡ stepped_own return_own i (2 * passed) (view s) → passed ≤ LAST_NUMBER → IsHereSince passed (view t)
since_returned s t p i passed is e small = record { word = word_stepped return_own (λ x o. refl) s t p i (2 * passed) is e; small = small }

pub is_away : (passed : ℕ) (v : View) → IsAwaySince passed v → IsAway v
is_away passed v a = omega (arith, a.word)

-- ---- what is shown of the list

abbrev pub shown : Lists → ℕ
shown (Cpu mode accepted bypass lengths numbers) = bypass
shown (Folk lengths numbers) = 0

abbrev pub is_cpu : Lists → Bool
is_cpu (Cpu mode accepted bypass lengths numbers) = true
is_cpu (Folk lengths numbers) = false

pub none_shown : {J : Type 0} (many : ℕ) (cs : List (Callback J)) → many ≡ length cs → IsTrue (many == 0) ↔ (cs ≡ [])
none_shown many [] e = (λ _. refl, λ _. eq-eqb many 0 e)
none_shown many (c ∷ cs) e = (λ t. absurd (omega (arith, eqb-true many 0 t, e)), λ none. absurd (omega (arith, ap length none)))

-- ---- the put of the bypass list

module _ {J : Type 0} where
  none_held : (cs : List (Callback J)) → is_any cs ≡ false → cs ≡ []
  none_held [] e = refl
  none_held (c ∷ cs) e = (let f : true ≡ false = e in cc)

  module _ (h n : Holding J) (r : PutsBypass h n) where
    -- nothing is held, and nothing happens
    stays : is_any h.outgoing.bypass ≡ false → n ≡ h
    stays clear = r.others ∙ ap (λ (o : Outgoing J). record h { outgoing = o }) (r.outgoing.none clear)

    -- what came back isn't empty
    not_back : is_any h.outgoing.bypass ≡ true → n.outgoing.bypass ≡ [] → n.outgoing ≡ sent_back h.outgoing → ⊥
    not_back any none back = (let f : false ≡ true = sym (ap is_any (sym (ap (λ (o : Outgoing J). o.bypass) back) ∙ none)) ∙ any in cc)

    -- where the list is empty then, it was empty, or all of it is on the lane as one batch
    pub batch_put : n.outgoing.bypass ≡ [] → n.outgoing ≡ (if is_any h.outgoing.bypass then sent h.outgoing else h.outgoing)
    batch_put none = elim (cases_Bool (is_any h.outgoing.bypass)) [
      | inl any ↦ rw any (⊎_elim (λ s. s) (λ back. absurd (not_back any none back.1)) (r.outgoing.some any))
      | inr clear ↦ rw clear (r.outgoing.none clear)
    ]

    pub all_put : n.outgoing.bypass ≡ [] → put_by n ≡ put_by h ++ h.outgoing.bypass
    all_put none = elim (cases_Bool (is_any h.outgoing.bypass)) [
      | inl any ↦ ⊎_elim (λ s. ap (λ (o : Outgoing J). o.put) s) (λ back. absurd (not_back any none back.1)) (r.outgoing.some any)
      | inr clear ↦ let held : h.outgoing.bypass ≡ [] = none_held h.outgoing.bypass clear in
          ap put_by (stays clear) ∙ (sym (append-nil (put_by h)) ∙ ap (λ (cs : List (Callback J)). put_by h ++ cs) (sym held))
    ]

    -- else the lane found no room, and the list is as it was, all of it plain
    pub put_back : n.outgoing.bypass ≢ [] → (h.outgoing.bypass ≢ []) × (FIRST_SLOTS ≤ h.outgoing.batches) × (n ≡ record h { outgoing = sent_back h.outgoing })
    put_back some = elim (cases_Bool (is_any h.outgoing.bypass)) [
      | inl any ↦ ⊎_elim (λ s. absurd (some (ap (λ (o : Outgoing J). o.bypass) s)))
          (λ back. (
            λ none. (let f : false ≡ true = sym (ap is_any none) ∙ any in cc),
            back.0,
            r.others ∙ ap (λ (o : Outgoing J). record h { outgoing = o }) back.1,
          ))
          (r.outgoing.some any)
      | inr clear ↦ absurd (some (ap (λ (x : Holding J). x.outgoing.bypass) (stays clear) ∙ none_held h.outgoing.bypass clear))
    ]

    -- a Local processor's list is empty
    pub put_local : (b : Bool) → (is_offloaded h.mode ≡ false → h.outgoing.bypass ≡ []) → StaysLocal b h → StaysLocal b n
    put_local b alone local off = let l = local off in let e = stays (ap is_any (alone (ap is_offloaded l.0))) in
        (ap (λ (x : Holding J). x.mode) e ∙ l.0, ap put_by e ∙ l.1)
