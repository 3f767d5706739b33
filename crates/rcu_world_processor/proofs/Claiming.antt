-- A claim, in the words of the law
use Rattle.std.proofs.Common.{◌≡◌, ◌∙◌, ℕ, ◌+◌, ◌*◌, ◌/◌, ◌%◌, ◌≤◌, ◌&&◌, Bool, true, false, List, [], ◌∷◌, ◌++◌, map, Some, refl, sym, ap, arith, inl, inr}
use Rattle.std.specs.Prelude.{◌==◌, nat_le}
use Rattle.std.proofs.lemmas.Bool.{and_parts, cases_eq, eq-eqb, eqb-true, ne_eqb}
use Rattle.rcu_world_law.specs.Calls.{Call}
use Rattle.rcu_world_law.specs.LabelledLists.{Labelled, call_of, done_count}
use Rattle.rcu_world_law.specs.Lists.{is_nil, tail}
use Rattle.rcu_numbers.specs.Numbers.{snap_of}
use Rattle.rcu_world_law.specs.States.{Cpu, Run}
use Rattle.rcu_world_law.specs.Steps.{can_claim, can_claim_held, claims, front}
use Rattle.rcu_world_law.specs.declared.who.Side.TheVariants as sides
use Rattle.rcu_world_processor.proofs.Waiting.{claims_done}

pub claims_own : (c : Cpu) (ws : List Labelled) (f : Call) (rs : List Run) → ws ≡ tail c.own → f ≡ front (map call_of c.own) → rs ≡ c.runs ++ record { call = f; ready = c.sight } ∷ []
    → record c { own = ws; turn = c.turn + 1; running = Some sides.Local; runs = rs } ≡ claims sides.Local c
claims_own c ws f rs e h r = rw (r, e, h) refl

pub claims_held : (c : Cpu) (xs : List Call) (f : Call) (rs : List Run) → xs ≡ tail c.held → f ≡ front c.held → rs ≡ c.runs ++ record { call = f; ready = c.hand_sight } ∷ []
    → record c { held = xs; turn = c.turn + 1; running = Some sides.Hand; runs = rs } ≡ claims sides.Hand c
claims_held c xs f rs e h r = rw (r, e, h) refl

pub ready_own : (c : Cpu) → can_claim sides.Local c ≡ true → 1 ≤ done_count c.own
ready_own c h = claims_done c.own c.turn h

held_first : (sight turn : ℕ) (xs : List Call) → can_claim_held sight xs turn ≡ true → is_nil xs ≡ false
held_first sight turn [] h = sym h
held_first sight turn (x ∷ xs) h = refl

pub ready_held : (c : Cpu) → can_claim sides.Hand c ≡ true → is_nil c.held ≡ false
ready_held c h = held_first c.hand_sight c.turn c.held h

-- an even turn is the number's where its half is the number
half_turn : (turn n : ℕ) → turn % 2 ≡ 0 → (turn / 2 == n) ≡ (turn == 2 * n)
half_turn turn n e = elim (cases_eq (turn / 2) n) [
  | inl q ↦ eq-eqb (turn / 2) n q ∙ sym (eq-eqb turn (2 * n) (omega arith))
  | inr d ↦ ne_eqb (turn / 2) n d ∙ sym (ne_eqb turn (2 * n) (λ q. d (omega arith)))
]

odd_turn : (turn n : ℕ) → (turn % 2 == 0) ≡ false → (turn == 2 * n) ≡ false
odd_turn turn n e = ne_eqb turn (2 * n) (λ q. let t : false ≡ true = sym e ∙ eq-eqb (turn % 2) 0 (omega arith) in absurd cc)

-- the hand's first callback may be claimed where its wait is over, the turn is even, and half of it is the callback's number
module _ (sight turn : ℕ) (first : Call) (rest : List Call) where
  pub held_even : (past : Bool) → past ≡ nat_le (snap_of first.stamp) sight → (past && (turn % 2 == 0)) ≡ true → (turn / 2 == first.number) ≡ can_claim_held sight (first ∷ rest) turn
  held_even past e t =
      let p = and_parts past (turn % 2 == 0) t in
      half_turn turn first.number (eqb-true (turn % 2) 0 p.1) ∙ sym (ap (λ b. b && (turn == 2 * first.number)) (sym e ∙ p.0))

  pub held_not : (past : Bool) → past ≡ nat_le (snap_of first.stamp) sight → (past && (turn % 2 == 0)) ≡ false → false ≡ can_claim_held sight (first ∷ rest) turn
  held_not true e f = sym (odd_turn turn first.number f) ∙ ap (λ b. b && (turn == 2 * first.number)) e
  held_not false e f = ap (λ b. b && (turn == 2 * first.number)) e
