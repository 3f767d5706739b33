-- Two steps of a seat on one word, made as one.
use Rattle.std.proofs.Common.{◌≡◌, ℕ, zero, suc, ◌+◌, ◌*◌, ◌/◌, ◌%◌, ◌^◌, ◌<◌, List, [], ◌∷◌, length, get_or, set, set-set, get_or-set_same, length-set, sym, refl, ap, ◌∙◌, subst, arith, eqb, eq-eqb}
use mathlib.Core.Option.{Option, some, none, some-ne-none}
use prog.Atomic.{either}
use lib.ListN.{get_elem?}
use Rattle.rcu_board.specs.Laws.{BoardRule}
use Rattle.rcu_board.specs.Plays.{SeatState, Claiming, Finishing, GoingOn, finished, claiming}
use Rattle.rcu_board.specs.Words.{words_of, turns_word, cpu_of}
use Rattle.rcu_board.specs.declared.view.Claim.{Claim}
use Rattle.rcu_board.specs.declared.view.View.{View}
use Rattle.rcu_board.proofs.WordSteps.{claim_allowed, finish_allowed}
use Rattle.atomic_table.specs.Table.{State, Me, Act, step, keeps, takes, gives, chain, Valid, carried_after, homes_after, put_back, stepped, Allows}
use Rattle.atomic_table.proofs.Lists.{set_here}

there : {A : Type 0} (l : List A) (i : ℕ) (a : A) → get_elem? l i ≡ some a → i < length l
there [] i a e = absurd (some-ne-none a (sym e))
there (x ∷ xs) zero a e = omega arith
there (x ∷ xs) (suc i) a e = let h = there xs i a e in omega arith

module _ {S : Type 0} where
  as_many_back : (hs : List (Option S)) (c : List (ℕ × S)) → length (put_back hs c) ≡ length hs
  as_many_back hs [] = refl
  as_many_back hs (x ∷ xs) = length-set hs x.0 (some x.1)

  as_many : (hs : List (Option S)) (c : List (ℕ × S)) (a : Act S) → length (homes_after hs c a) ≡ length hs
  as_many hs c keeps = refl
  as_many hs c (takes k y) = length-set hs k none
  as_many hs c gives = as_many_back hs c
  as_many hs c (chain a b) = as_many (homes_after hs c a) (carried_after c a) b ∙ as_many hs c a

module _ {S V : Type 0} (holds : State S V → Type 0) (slots id : ℕ) (me : Me S V) (i : ℕ) (f g : ℕ → ℕ) (first : ℕ → Me S V → Type 0) (second : Me S V → ℕ → Me S V → Type 0) where
  -- what the first step leads to, and the second from there
  pub both_allowed : ((s : State S V) → holds s → i < length s.words) → ((y : ℕ) → f y < 18446744073709551616)
      → Allows holds slots id me i f first → ((r : ℕ) (mid : Me S V) → first r mid → Allows holds slots id mid i g (second mid))
      → Allows holds slots id me i (λ y. g (f y)) (λ r n. (mid : Me S V) × first r mid × second mid (f r) n)
  both_allowed near fits one two s h many at fit = let x : ℕ = get_or s.words i 0 in let a = one s h many at fit in
      let mid : Me S V = (a.0, carried_after me.1 a.1) in let now : get_or (set s.words i (f x)) i 0 ≡ f x = get_or-set_same s.words i (f x) 0 (near s h) in
      let b = two x mid a.4 (stepped s i (f x) id me.1 a.0 a.1) a.3 (as_many s.homes me.1 a.1 ∙ many) (set_here s.views id a.0 (there s.views id me.0 at)) (subst (λ n. n < 18446744073709551616) (sym now) (fits x)) in (
        b.0,
        chain a.1 b.1,
        (a.2, b.2),
        subst (λ ws. holds record { words = ws; homes = homes_after (homes_after s.homes me.1 a.1) mid.1 b.1; views = set s.views id b.0 }) (set-set s.words i (f x) (g (f x)))
            (subst (λ vs. holds record { words = set (set s.words i (f x)) i (g (f x)); homes = homes_after (homes_after s.homes me.1 a.1) mid.1 b.1; views = vs }) (set-set s.views id a.0 b.0)
            (subst (λ n. holds (stepped (stepped s i (f x) id me.1 a.0 a.1) i (g n) id mid.1 b.0 b.1)) now b.3)),
        (mid, a.4, subst (λ n. second mid n (b.0, carried_after mid.1 b.1)) now b.4),
      )

module _ (n seats slots id : ℕ) (m : SeatState) (live : 0 < m.0.weight) (p : ℕ) (low : p < n) where
  -- a finish and then the claim of the next number
  pub going_on_allowed : (c : Claim) → m.0.running ≡ c ∷ [] → c.cpu ≡ p → c.number < 9007199254740992
      → Allows (BoardRule n seats) slots id m (turns_word p) (λ y. (y + 2) % 2 ^ 64) (GoingOn (step slots (turns_word p) 2 0 none) m)
  going_on_allowed c runs_it is small s h many at fit = let i : ℕ = turns_word p in let x : ℕ = get_or s.words i 0 in let q : ℕ = c.number + 1 in
      let all = both_allowed (BoardRule n seats) slots id m i (λ y. (y + 1) % 2 ^ 64) (λ y. either (eqb y (2 * q)) (2 * q + 1) y)
      (Finishing (step slots i 1 0 none) m) (λ mid. Claiming (step slots i (2 * q) (2 * q + 1) none) mid)
      (λ s k. let fit = k.words in omega arith) (λ y. omega arith) (finish_allowed n seats slots id m live p low c runs_it is small)
      (λ r mid e. claim_allowed n seats slots id mid (subst (λ (z : SeatState). 0 < z.0.weight) (sym e.view) live) p low q (ap (λ (z : SeatState). z.0.running) e.view)) s h many at fit in
      let odd : x ≡ 2 * c.number + 1 = all.4.1.runs c runs_it in let hit : (x + 1) % 18446744073709551616 ≡ 2 * q = omega arith in
      let value : either (eqb ((x + 1) % 18446744073709551616) (2 * q)) (2 * q + 1) ((x + 1) % 18446744073709551616) ≡ (x + 2) % 18446744073709551616 =
      ap (λ b. either b (2 * q + 1) ((x + 1) % 18446744073709551616)) (eq-eqb ((x + 1) % 18446744073709551616) (2 * q) hit) ∙ (let e : 2 * q + 1 ≡ (x + 2) % 18446744073709551616 = omega arith in e) in
      let later : 2 * q + 1 ≡ x + 2 = omega arith in let next : 2 * q / 2 ≡ (x + 1) / 2 = omega arith in (
        all.0,
        all.1,
        all.2,
        subst (λ (z : ℕ). BoardRule n seats (stepped s i z id m.1 all.0 all.1)) value all.3,
        record {
          view = all.4.2.won hit ∙ ap (λ (z : SeatState). (claiming i (2 * q + 1) (cpu_of i) (2 * q / 2) z.0, z.1)) all.4.1.view ∙ (λ k. (claiming i (later k) (cpu_of i) (next k) (finished i (x + 1) m.0), m.1));
          runs = all.4.1.runs;
          later = all.4.1.later;
        },
      )
