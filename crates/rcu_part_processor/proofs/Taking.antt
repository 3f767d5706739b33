-- What a processor's lists become as they take a callback on.
use Rattle.std.proofs.Common.{◌≡◌, ℕ, zero, suc, arith, Bool, true, false, List, [], ◌∷◌, ◌++◌, append-nil, ap, sym, ◌∙◌, refl, subst, ⊎_elim}
use Rattle.std.proofs.lemmas.List.Elements.{All-append, All-push}
use Rattle.std.specs.Prelude.{IsTrue}
use Rattle.rcu_part_lists.specs.Aims.{AreUpTo, is_up_to}
use Rattle.rcu_part_lists.specs.ProcessorLists.{Holding, put_by, passed_on, Takes}
use Rattle.rcu_jobs.specs.Modes.{is_offloaded}
use Rattle.rcu_part_lists.specs.Outgoing.{Outgoing, is_due_with}
use Rattle.rcu_jobs.specs.declared.callback.Callback.{Callback}
use Rattle.rcu_lists.specs.Labels.{Bare, Labelled}
use Rattle.rcu_lists.specs.declared.pace.Kind.{Kind}
use Rattle.rcu_jobs.specs.Records.{Given}
use Rattle.rcu_part_order.specs.Recorded.{Recorded}
use Rattle.rcu_part_processor.specs.Lawful.{StaysLocal}
use Rattle.rcu_part_steps.specs.Places.{AreKeyed}
use Rattle.rcu_part_processor.specs.Processors.{IsSound, lists_of, records_of}
use Rattle.rcu_part_processor.specs.declared.processor.ProcessorState.{ProcessorState}

module _ {J : Type 0} where
  -- what is put is put behind what was put before; no list was looked at
  abbrev pub PutsMore : Holding J → Holding J → Type 0
  PutsMore old new = (batch : List (Callback J)) × (put_by new ≡ put_by old ++ batch) × (new.advanced ≡ old.advanced)

  pub takes_more : (moment : ℕ) (kind : Kind) (c : Callback J) (old new : Holding J) → Takes moment kind c old new → PutsMore old new
  takes_more moment kind c old new t =
      let none : new.outgoing.put ≡ old.outgoing.put → new.advanced ≡ old.advanced → PutsMore old new = λ e a. ([], e ∙ sym (append-nil (put_by old)), a) in
      let due : is_offloaded old.mode ≡ true → (b : Bool) → is_due_with moment kind old.outgoing ≡ b → PutsMore old new = λ on b. elim b as (λ b. is_due_with moment kind old.outgoing ≡ b → PutsMore old new) [
        | true ↦ λ e. let r = t.releases on e in let a = ap (λ (h : Holding J). h.advanced) r.1 in
            ⊎_elim (λ s. (old.outgoing.bypass ++ c ∷ [], ap (λ (o : Outgoing J). o.put) s, a)) (λ s. none (ap (λ (o : Outgoing J). o.put) s.1) a) r.0
        | false ↦ λ e. let w = t.waits on e in none (ap (λ (h : Holding J). h.outgoing.put) w) (ap (λ (h : Holding J). h.advanced) w)
      ] in
      (elim (is_offloaded old.mode) as (λ b. is_offloaded old.mode ≡ b → PutsMore old new) [
        | true ↦ λ on. due on (is_due_with moment kind old.outgoing) refl
        | false ↦ λ off. let o = t.own off in none (ap (λ (h : Holding J). h.outgoing.put) o) (ap (λ (h : Holding J). h.advanced) o)
      ]) refl

  -- a new callback waits for no number yet
  pub takes_up : (moment : ℕ) (kind : Kind) (c : Callback J) (old new : Holding J) (s : ℕ) → Takes moment kind c old new → AreUpTo s old.own → AreUpTo s new.own
  takes_up moment kind c old new s t up =
      let same : new.own ≡ old.own → AreUpTo s new.own = λ e. subst (AreUpTo s) (sym e) up in
      let due : is_offloaded old.mode ≡ true → (b : Bool) → is_due_with moment kind old.outgoing ≡ b → AreUpTo s new.own = λ on b. elim b as (λ b. is_due_with moment kind old.outgoing ≡ b → AreUpTo s new.own) [
        | true ↦ λ e. same (ap (λ (h : Holding J). h.own) (t.releases on e).1)
        | false ↦ λ e. same (ap (λ (h : Holding J). h.own) (t.waits on e))
      ] in
      let bare : Labelled J = record { label = Bare; callback = c } in
      (elim (is_offloaded old.mode) as (λ b. is_offloaded old.mode ≡ b → AreUpTo s new.own) [
        | true ↦ λ on. due on (is_due_with moment kind old.outgoing) refl
        | false ↦ λ off. subst (λ (h : Holding J). AreUpTo s h.own) (sym (t.own off)) (All-push (λ (x : Labelled J). IsTrue (is_up_to s x.label)) old.own bare up refl)
      ]) refl

  -- a Local processor's goes to its own list
  pub takes_local : (moment : ℕ) (kind : Kind) (c : Callback J) (old new : Holding J) (b : Bool) → Takes moment kind c old new → StaysLocal b old → StaysLocal b new
  takes_local moment kind c old new b t local is = let l = local is in let e = t.own (ap is_offloaded l.0) in
      (ap (λ (h : Holding J). h.mode) e ∙ l.0, ap (λ (h : Holding J). put_by h) e ∙ l.1)

  -- one callback more, with its job's key
  pub keyed_taken : (key_of : J → ℕ) (passed passed' : List (Callback J)) (c : Callback J) → key_of c.job ≡ c.key → passed' ≡ passed ++ c ∷ [] → AreKeyed key_of passed → AreKeyed key_of passed'
  keyed_taken key_of passed passed' c key more keyed = subst (AreKeyed key_of) (sym more) (All-append (λ (x : Callback J). key_of x.job ≡ x.key) passed (c ∷ []) keyed (one c key))
    where
      one : (x : Callback J) → key_of x.job ≡ x.key → AreKeyed key_of (x ∷ [])
      one x e zero d low = e
      one x e (suc k) d low = absurd (omega (arith, low))

module _ {J R : Type 0} where
  -- the same lists and records
  pub sound_same : (key_of : J → ℕ) (gives : ℕ → R → Type 0) (p q : ProcessorState J R) → lists_of q ≡ lists_of p → records_of q ≡ records_of p → IsSound key_of gives p → IsSound key_of gives q
  sound_same key_of gives p q lists ran s = record {
    keyed = subst (λ (h : Holding J). AreKeyed key_of (passed_on h)) (sym lists) s.keyed;
    given = subst (λ (rs : Recorded R). Given gives rs.all) (sym ran) s.given;
  }

  -- what was passed on and is held is the same, and so are the records
  pub sound_moved : (key_of : J → ℕ) (gives : ℕ → R → Type 0) (p q : ProcessorState J R) → passed_on (lists_of q) ≡ passed_on (lists_of p) → records_of q ≡ records_of p → IsSound key_of gives p → IsSound key_of gives q
  sound_moved key_of gives p q passed ran s = record {
    keyed = subst (AreKeyed key_of) (sym passed) s.keyed;
    given = subst (λ (rs : Recorded R). Given gives rs.all) (sym ran) s.given;
  }
