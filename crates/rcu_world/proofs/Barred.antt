-- an event of a barrier that is skipped, or finds no room
use Rattle.std.proofs.Common.{◌≡◌, ℕ, ◌<◌, ◌≤◌, ◌&&◌, ◌++◌, ◌∷◌, [], not, nat_lt, Bool, true, false, List, None, length, map, set, get_or, replicate, ap, sym, ◌∙◌, refl, arith}
use Rattle.std.proofs.lemmas.Bool.{le-ltb, eq-eqb, ne_eqb}
use Rattle.std.proofs.lemmas.List.{length-map, map-append}
use Rattle.std.proofs.Math.Seq.{map-set_same}
use Rattle.rcu_world_law.specs.declared.marks.Mark.{Mark}
use Rattle.rcu_world_law.specs.declared.marks.Mark.TheVariants.{Opened}
use Rattle.rcu_world_law.specs.Events.{after, is_enabled}
use Rattle.rcu_world_law.specs.Events.CoreEvent.{Open}
use Rattle.rcu_world_law.specs.States.{State, Barrier, barrier_at, is_open}
use Rattle.rcu_world_processor.specs.Views.{seen}
use Rattle.rcu_world.specs.declared.cores.Core.{Core}
use Rattle.rcu_world.specs.declared.barriers.Barring.{Barring}
use Rattle.rcu_world.specs.Barrings.{barrier}
use Rattle.rcu_world.specs.Views.{all_seen, state}
use Rattle.rcu_world.proofs.Seen.{barrier_seen, barrier_tested}
use Rattle.rcu_world.proofs.Sizes.{second_fails}

module _ {J R : Type 0} (key_of : J → ℕ) (w : Core J R) (j : ℕ) where
  -- a barrier that isn't there
  pub unopened : (test : Bool) → length w.barriers.items ≤ j → (is_open (state key_of w) j && test) ≡ false
  unopened test l = ap (λ b. (b && not (barrier_at (state key_of w) j).passed) && test) (le-ltb j (length (map barrier w.barriers.items)) (omega (arith, length-map w.barriers.items barrier)))

  -- a barrier that looks as before
  pub barrier_same : (v : Barring) → v ≡ get_or w.barriers.items j v → record (state key_of w) { barriers = map barrier (set w.barriers.items j v) } ≡ state key_of w
  barrier_same v e = ap {B = State} (λ x. record (state key_of w) { barriers = x }) (map-set_same barrier w.barriers.items j v v (ap barrier e))

  -- a barrier that has passed
  pub has_passed : (v : Barring) (test : Bool) → j < length w.barriers.items → v ≡ get_or w.barriers.items j v → v.passed ≡ true
      → ((is_open (state key_of w) j && test) ≡ false) × (record (state key_of w) { barriers = map barrier (set w.barriers.items j v) } ≡ state key_of w)
  has_passed v test l e t =
      let s = (barrier_seen key_of w j v v (λ x. x) l e refl).0 in
      let f : not (barrier_at (state key_of w) j).passed ≡ false = ap (λ x. not x.passed) (sym s) ∙ ap not t in
      (ap (λ b. b && test) (second_fails (nat_lt j (length (map barrier w.barriers.items))) _ f), barrier_same v e)

  -- an event that the test of the barrier skips
  pub barrier_skipped : (v : Barring) (test : Barrier → Bool) → j < length w.barriers.items → v ≡ get_or w.barriers.items j v → test (barrier v) ≡ false
      → ((is_open (state key_of w) j && test (barrier_at (state key_of w) j)) ≡ false) × (record (state key_of w) { barriers = map barrier (set w.barriers.items j v) } ≡ state key_of w)
  barrier_skipped v test l e t =
      let s = (barrier_seen key_of w j v v (λ x. x) l e refl).0 in
      (second_fails (is_open (state key_of w) j) _ (ap test (sym s) ∙ t), barrier_same v e)

  -- an event that found no room
  pub barrier_refused : (v : Barring) (test : Barrier → Bool) (h : List Mark) → j < length w.barriers.items → v ≡ get_or w.barriers.items j v → v.passed ≡ false → test (barrier v) ≡ true → h ≡ w.history.items
      → ((is_open (state key_of w) j && test (barrier_at (state key_of w) j)) ≡ true) × (record (state key_of w) { barriers = map barrier (set w.barriers.items j v); history = h } ≡ state key_of w)
  barrier_refused v test h l e p t r =
      let s = (barrier_seen key_of w j v v (λ x. x) l e refl).0 in
      (barrier_tested key_of w j v test l s p t, ap {B = State} (λ x. record x { history = h }) (barrier_same v e) ∙ ap {B = State} (λ x. record (state key_of w) { history = x }) r)

-- a barrier that opens
pub opens_next : {J R : Type 0} (key_of : J → ℕ) (w : Core J R) (b : ℕ) → b ≡ length w.barriers.items → is_enabled (state key_of w) (Open b) ≡ true
opens_next key_of w b e = eq-eqb b (length (map barrier w.barriers.items)) (e ∙ sym (length-map w.barriers.items barrier))

pub opens_other : {J R : Type 0} (key_of : J → ℕ) (w : Core J R) (b : ℕ) → (b ≡ length w.barriers.items → ⊥) → is_enabled (state key_of w) (Open b) ≡ false
opens_other key_of w b d = ne_eqb b (length (map barrier w.barriers.items)) (λ e. d (e ∙ length-map w.barriers.items barrier))

pub open_refused : {J R : Type 0} (key_of : J → ℕ) (w : Core J R) (bs : List Barring) (h : List Mark) → bs ≡ w.barriers.items → h ≡ w.history.items
    → record (state key_of w) { barriers = map barrier bs; history = h } ≡ state key_of w
open_refused key_of w bs h e f = ap {B = State} (λ x. record (state key_of w) { barriers = map barrier x; history = h }) e ∙ ap {B = State} (λ x. record (state key_of w) { history = x }) f

-- nothing is counted, of n processors
abbrev pub bare : ℕ → Barrier
bare n = record { passed = false; counts = replicate n None; seen = replicate n false }

pub barrier_opened : {J R : Type 0} (key_of : J → ℕ) (w : Core J R) (b n : ℕ) (o : Barring) (bs : List Barring) (h : List Mark) → n ≡ length w.processors.items → barrier o ≡ bare n
    → bs ≡ w.barriers.items ++ o ∷ [] → h ≡ w.history.items ++ Opened b ∷ []
    → record (state key_of w) { barriers = map barrier bs; history = h } ≡ after (state key_of w) (Open b)
barrier_opened key_of w b n o bs h l e f r =
    let m : map barrier bs ≡ map barrier w.barriers.items ++ bare (length (all_seen key_of w.processors.items)) ∷ [] =
    ap (map barrier) f ∙ map-append barrier w.barriers.items (o ∷ []) ∙ ap (λ x. map barrier w.barriers.items ++ x ∷ []) (e ∙ ap bare (l ∙ sym (length-map w.processors.items (seen key_of)))) in
    ap {B = State} (λ x. record (state key_of w) { barriers = x; history = h }) m
    ∙ ap {B = State} (λ x. record (state key_of w) { barriers = map barrier w.barriers.items ++ bare (length (all_seen key_of w.processors.items)) ∷ []; history = x }) r
