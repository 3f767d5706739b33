-- A processor's part before any step keeps its law.
use Rattle.std.proofs.Common.{◌≡◌, ℕ, Bool, true, false, inl, inr, refl, List, [], ◌∷◌, ◌++◌, map, length, ap, sym, ◌∙◌, subst, arith}
use Rattle.std.proofs.lemmas.List.Elements.{All-nil}
use Rattle.std.specs.Prelude.{IsTrue, ◌↔◌}
use Rattle.std.proofs.lemmas.Bool.{cases_Bool, eq-eqb, eqb-true}
use Rattle.rcu_numbers.specs.Words.{owes_of}
use Rattle.rcu_board.specs.Opened.{is_offloadable}
use Rattle.rcu_board.specs.Seats.{accepted_of, fresh_of}
use Rattle.rcu_board.specs.Views.{new_view, new_own, seen_at}
use Rattle.rcu_board.specs.Words.{needed_word}
use Rattle.rcu_board.specs.declared.board.Board.{Board}
use Rattle.rcu_board.specs.declared.view.View.{View}
use Rattle.rcu_part_lists.specs.Aims.{AreUpTo, is_up_to}
use Rattle.rcu_part_lists.specs.ProcessorLists.{Holding, held_in, put_by}
use Rattle.rcu_lists.specs.Labels.{Labelled, callbacks_of}
use Rattle.rcu_jobs.specs.declared.callback.Callback.{Callback}
use Rattle.rcu_jobs.specs.declared.callback.Record.{Record}
use Rattle.rcu_part_order.specs.Places.{Placed}
use Rattle.rcu_part_order.proofs.Moves.{placed_none}
use Rattle.rcu_part_order.specs.Records.{numbered_records, AreRipe}
use Rattle.rcu_part_processor.specs.Lawful.{IsLawful}
use Rattle.rcu_part_steps.specs.Places.{numbered_callbacks, accepted_list, claim_of}

-- a test of a processor's bit, as its board has it
offloads_as : (r : Bool) (mask p : ℕ) → IsTrue r ↔ (owes_of mask p ≡ 1) → r ≡ is_offloadable mask p
offloads_as true mask p i = sym (eq-eqb (owes_of mask p) 1 (i.0 refl))
offloads_as false mask p i = elim (cases_Bool (is_offloadable mask p)) [
  | inl e ↦ (let f : true ≡ false = sym (i.1 (eqb-true (owes_of mask p) 1 e)) in cc)
  | inr e ↦ sym e
]

pub offloads_at : (b t : Board) → t ≡ b → (r : Bool) (p : ℕ) → IsTrue r ↔ (owes_of t.offloadable p ≡ 1) → r ≡ is_offloadable b.offloadable p
offloads_at b t e r p i = offloads_as r b.offloadable p (subst (λ (x : Board). IsTrue r ↔ (owes_of x.offloadable p ≡ 1)) e i)

none_ripe : {R : Type 0} → AreRipe {R = R} []
none_ripe k d low = absurd (omega (arith, low))

pub first_law : {J R : Type 0} → (b : Board) (cpu : ℕ) (v : View) (ran : List (Record R)) (h : Holding J) → v ≡ new_view b.processors b.offloadable 1 false false (new_own cpu ∷ []) → ran ≡ []
    → put_by h ≡ [] → h.outgoing.bypass ≡ [] → h.own ≡ [] → h.advanced ≡ 0 → IsLawful cpu 0 v ran h
first_law {J} {R} b cpu v ran h first none put bypass own advanced = let held : held_in h ≡ [] = ap (λ (cs : List (Callback J)). cs ++ callbacks_of h.own) bypass ∙ ap (λ (xs : List (Labelled J)). callbacks_of xs) own in record {
  counted = ap (λ (w : View). length (accepted_of w)) first;
  stamped = ap fresh_of first;
  rests = ap (λ (w : View). w.running) first;
  places = ∣ subst (λ (w : View). Placed (accepted_list w) (numbered_records ran) (numbered_callbacks (put_by h)) (numbered_callbacks (held_in h))) (sym first)
      (subst (λ (rs : List (Record R)). Placed [] (numbered_records rs) (numbered_callbacks (put_by h)) (numbered_callbacks (held_in h))) (sym none)
      (subst (λ (ps : List (Callback J)). Placed [] [] (numbered_callbacks ps) (numbered_callbacks (held_in h))) (sym put)
      (subst (λ (hs : List (Callback J)). Placed [] [] [] (numbered_callbacks hs)) (sym held) placed_none))) ∣₁;
  claims = ap (λ (w : View). w.claims) first ∙ sym (ap (λ (rs : List (Record R)). map (claim_of cpu) rs) none);
  ripe = subst (λ (rs : List (Record R)). AreRipe rs) (sym none) none_ripe;
  looked = omega (arith, advanced);
  needed = subst (AreUpTo (seen_at v needed_word)) (sym own) (All-nil (λ (x : Labelled J). IsTrue (is_up_to (seen_at v needed_word) x.label)));
}
