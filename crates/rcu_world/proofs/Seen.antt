-- the processors of the code, as the law sees them
use Rattle.std.proofs.Common.{◌≡◌, ℕ, zero, suc, ◌<◌, ◌≤◌, ◌&&◌, nat_lt, not, max, List, [], ◌∷◌, length, map, set, get_or, refl, ap, sym, ◌∙◌, subst, arith, Bool, true, false, Option, Some, None}
use Rattle.std.proofs.lemmas.Bool.{le-ltb, lt-ltb}
use Rattle.std.proofs.lemmas.List.{map-set, get_or-map, get_or_default, length-map}
use Rattle.std.proofs.Math.Seq.{map-set_same}
use Rattle.std.specs.List.{AllByRecursion}
use Rattle.rcu_world_law.specs.States.{State, Barrier, no_barrier, Cpu, empty_cpu, cpu_at, has}
use Rattle.rcu_world_law.specs.Lists.{is_none}
use Rattle.rcu_world_law.specs.declared.marks.Mark.{Mark}
use Rattle.rcu_numbers.specs.declared.sequence.TheConstants.{GREATEST_NUMBER}
use Rattle.rcu_world_law.specs.States.{barrier_at, is_open, with_barrier, added, with_mark, with_cpu}
use Rattle.rcu_world_law.specs.Lists.{needed_with}
use Rattle.rcu_world_law.specs.Invariant.{IsCore}
use Rattle.rcu_world_law.proofs.Bounds.{turn_fits}
use Rattle.rcu_world_law.proofs.Bounds.{look_fits, labelled_lists}
use Rattle.rcu_world_law.proofs.Looks.{all_left}
use Rattle.rcu_world_law.specs.Calls.{Call}
use Rattle.rcu_world_law.specs.Invariant.{IsStamped}
use Rattle.rcu_world_law.specs.Steps.{front}
use Rattle.rcu_world.specs.Members.{IsLookable}
use Rattle.rcu_world.proofs.Leaving.{all_at}
use Rattle.rcu_world_processor.specs.declared.processor.WorldProcessor.{WorldProcessor}
use Rattle.rcu_world.specs.declared.cores.Core.{Core}
use Rattle.rcu_world.specs.declared.barriers.Barring.{Barring}
use Rattle.rcu_world.specs.Barrings.{barrier}
use Rattle.rcu_world_processor.specs.Views.{seen, mark_of, AreGiven}
use Rattle.rcu_world.specs.Worlds.{IsFit}
use Rattle.rcu_world.specs.Views.{all_seen, state, AllGiven}

front_fits : (n : ℕ) (h : List Mark) (p number : ℕ) (cs : List Call) → AllByRecursion (IsStamped n h p number) cs → number ≤ GREATEST_NUMBER → (front cs).stamp ≤ GREATEST_NUMBER
front_fits n h p number [] a l = omega arith
front_fits n h p number (c ∷ cs) a l = omega (arith, a.0.past)

held_fits : (w : State) (p : ℕ) → IsCore w → p < length w.cpus → (front (cpu_at w p).held).stamp ≤ GREATEST_NUMBER
held_fits w p k l = front_fits (length w.cpus) w.history p w.number (cpu_at w p).held
    (all_left (IsStamped (length w.cpus) w.history p w.number) (cpu_at w p).held _ (k.cpu p l).timely.stamped) k.board.small

module _ {J R : Type 0} (key_of : J → ℕ) where
  -- a processor that is there
  pub seen_at : (ps : List (WorldProcessor J R)) (i : ℕ) (p : WorldProcessor J R) → i < length ps → p ≡ get_or ps i p → seen key_of p ≡ get_or (all_seen key_of ps) i empty_cpu
  seen_at ps i p l e = ap (seen key_of) e ∙ sym (get_or-map (seen key_of) ps i p empty_cpu l)

  -- a processor that looks as before
  pub same_at : (ps : List (WorldProcessor J R)) (i : ℕ) (p q : WorldProcessor J R) → p ≡ get_or ps i p → seen key_of q ≡ seen key_of p → all_seen key_of (set ps i q) ≡ all_seen key_of ps
  same_at ps i p q e s = map-set_same (seen key_of) ps i q p (s ∙ ap (seen key_of) e)

  -- the test of an event at processor i
  pub tested : (w : Core J R) (i : ℕ) (p : WorldProcessor J R) (test : Cpu → Bool) (b : Bool) → i < length w.processors.items → p ≡ get_or w.processors.items i p
      → test (seen key_of p) ≡ b → (has (state key_of w) i && test (cpu_at (state key_of w) i)) ≡ b
  tested w i p test b l e t =
      let h : has (state key_of w) i ≡ true = lt-ltb i (length (all_seen key_of w.processors.items)) (omega (arith, length-map w.processors.items (seen key_of))) in
      ap (λ x. x && test (cpu_at (state key_of w) i)) h ∙ ap test (sym (seen_at w.processors.items i p l e)) ∙ t

  pub test_at : (w : Core J R) (i : ℕ) (p : WorldProcessor J R) (test : Cpu → Bool) (b : Bool) → i < length w.processors.items → p ≡ get_or w.processors.items i p
      → test (seen key_of p) ≡ b → test (cpu_at (state key_of w) i) ≡ b
  test_at w i p test b l e t = ap test (sym (seen_at w.processors.items i p l e)) ∙ t

  -- an event of a processor that isn't there
  pub absent : (w : Core J R) (i : ℕ) (test : Bool) → length w.processors.items ≤ i → (has (state key_of w) i && test) ≡ false
  absent w i test l = ap (λ b. b && test) (le-ltb i (length (all_seen key_of w.processors.items)) (omega (arith, length-map w.processors.items (seen key_of))))

  -- an event that the test of processor i skips
  pub skipped : (w : Core J R) (i : ℕ) (p : WorldProcessor J R) (test : Cpu → Bool) → i < length w.processors.items → p ≡ get_or w.processors.items i p → test (seen key_of p) ≡ false
      → ((has (state key_of w) i && test (cpu_at (state key_of w) i)) ≡ false) × (record (state key_of w) { cpus = all_seen key_of (set w.processors.items i p) } ≡ state key_of w)
  skipped w i p test l e t = (tested w i p test false l e t, ap {B = State} (λ x. record (state key_of w) { cpus = x }) (same_at w.processors.items i p p e refl))

  -- an event that does f to processor i, and adds a mark
  pub stepped : (w : Core J R) (i : ℕ) (p q : WorldProcessor J R) (test : Cpu → Bool) (f : Cpu → Cpu) (mark : Cpu → Option Mark) (h : List Mark)
      → i < length w.processors.items → p ≡ get_or w.processors.items i p → test (seen key_of p) ≡ true → seen key_of q ≡ f (seen key_of p) → h ≡ added w.history.items (mark (seen key_of p))
      → ((has (state key_of w) i && test (cpu_at (state key_of w) i)) ≡ true)
      × (record (state key_of w) { cpus = all_seen key_of (set w.processors.items i q); history = h }
      ≡ with_mark (with_cpu (state key_of w) i (f (cpu_at (state key_of w) i))) (mark (cpu_at (state key_of w) i)))
      × (false ≡ false)
  stepped w i p q test f mark h l e t d r =
      let s = seen_at w.processors.items i p l e in
      let c : all_seen key_of (set w.processors.items i q) ≡ set (all_seen key_of w.processors.items) i (f (cpu_at (state key_of w) i)) =
      map-set (seen key_of) w.processors.items i q ∙ ap (set (all_seen key_of w.processors.items) i) (d ∙ ap f s) in (
        tested w i p test true l e t,
        ap (λ x. record (state key_of w) { cpus = x; history = h }) c
            ∙ ap (λ x. record (with_cpu (state key_of w) i (f (cpu_at (state key_of w) i))) { history = x }) (r ∙ ap (λ x. added w.history.items (mark x)) s),
        refl,
      )

  -- an event that found no room
  pub refused : (w : Core J R) (i : ℕ) (p q : WorldProcessor J R) (test : Cpu → Bool) (h : List Mark)
      → i < length w.processors.items → p ≡ get_or w.processors.items i p → test (seen key_of p) ≡ true → seen key_of q ≡ seen key_of p → h ≡ w.history.items
      → ((has (state key_of w) i && test (cpu_at (state key_of w) i)) ≡ true)
      × (record (state key_of w) { cpus = all_seen key_of (set w.processors.items i q); history = h } ≡ state key_of w)
  refused w i p q test h l e t s r = (
    tested w i p test true l e t,
    ap (λ x. record (state key_of w) { cpus = x; history = h }) (same_at w.processors.items i p q e s) ∙ ap (λ x. record (state key_of w) { history = x }) r,
  )

  -- the room that its numbers have
  pub fits_at : (w : Core J R) (i : ℕ) (p : WorldProcessor J R) → IsFit (state key_of w) → i < length w.processors.items → p ≡ get_or w.processors.items i p
      → (p.turn ≤ 2000000) × (p.count ≤ 1000000)
  fits_at w i p k l e = turn_fits (state key_of w) i (seen key_of p) k.core k.limit (omega (arith, length-map w.processors.items (seen key_of)))
      (seen_at w.processors.items i p l e ∙ get_or_default (all_seen key_of w.processors.items) i empty_cpu (seen key_of p) (omega (arith, length-map w.processors.items (seen key_of))))

  -- what a look asks of its own list holds
  pub lookable_at : (w : Core J R) (i : ℕ) (p : WorldProcessor J R) → IsCore (state key_of w) → i < length w.processors.items → p ≡ get_or w.processors.items i p → IsLookable w.board.number (seen key_of p).own
  lookable_at w i p k l e =
      let n : i < length (all_seen key_of w.processors.items) = omega (arith, length-map w.processors.items (seen key_of)) in
      subst (λ x. IsLookable w.board.number x.own) (sym (seen_at w.processors.items i p l e)) (record { small = look_fits (state key_of w) i k n; may = (labelled_lists (state key_of w) i k n).own_accelerates })

  -- the first stamp that a hand holds isn't too great
  pub held_fits_at : (w : Core J R) (i : ℕ) (p : WorldProcessor J R) → IsCore (state key_of w) → i < length w.processors.items → p ≡ get_or w.processors.items i p → (front (seen key_of p).held).stamp ≤ GREATEST_NUMBER
  held_fits_at w i p k l e = subst (λ x. (front x.held).stamp ≤ GREATEST_NUMBER) (sym (seen_at w.processors.items i p l e))
      (held_fits (state key_of w) i k (omega (arith, length-map w.processors.items (seen key_of))))

  -- what a processor wants is asked for
  pub needed_at : (w : Core J R) (i : ℕ) (p q : WorldProcessor J R) (s n : ℕ) → i < length w.processors.items → p ≡ get_or w.processors.items i p → p.wanted ≡ Some s
      → seen key_of q ≡ record (seen key_of p) { wanted = None } → n ≡ max w.needed s
      → ((has (state key_of w) i && not (is_none (cpu_at (state key_of w) i).wanted)) ≡ true)
      × (record (state key_of w) { needed = n; cpus = all_seen key_of (set w.processors.items i q) }
      ≡ with_cpu (record (state key_of w) { needed = needed_with w.needed (cpu_at (state key_of w) i).wanted }) i (record (cpu_at (state key_of w) i) { wanted = None }))
      × (false ≡ false)
  needed_at w i p q s n l e a d m =
      let r = stepped w i p q (λ x. not (is_none x.wanted)) (λ (x : Cpu). record x { wanted = None }) (λ x. None) w.history.items l e (ap (λ x. not (is_none x)) a) d refl in
      let f : n ≡ needed_with w.needed (cpu_at (state key_of w) i).wanted = m ∙ ap (needed_with w.needed) (sym a ∙ ap (λ x. x.wanted) (seen_at w.processors.items i p l e)) in
      (r.0, ap {A = State} (λ x. record x { needed = n }) r.1 ∙ ap (λ x. record (with_cpu (state key_of w) i (record (cpu_at (state key_of w) i) { wanted = None })) { needed = x }) f, refl)

-- what holds of each goes on to hold of each
pub kept_at : {X : Type 0} (P : X → Type 0) (xs : List X) (i : ℕ) (x y : X) → i < length xs → x ≡ get_or xs i x → (P x → P y) → AllByRecursion P xs → AllByRecursion P (set xs i y)
kept_at P (z ∷ xs) zero x y l e h a = (h (subst P (sym e) a.0), a.1)
kept_at P (z ∷ xs) (suc i) x y l e h a = (a.0, kept_at P xs i x y (omega arith) e h a.1)
kept_at P [] i x y l e h a = absurd (omega arith)

-- an event of one processor keeps what the law doesn't see
pub given_at : {J R : Type 0} (gives : ℕ → R → Type 0) (w : Core J R) (i : ℕ) (p q : WorldProcessor J R) → i < length w.processors.items → p ≡ get_or w.processors.items i p
    → ((mark : ℕ) → AreGiven gives mark p → AreGiven gives mark q) → AllGiven gives w → AllByRecursion (AreGiven gives w.qhimark) (set w.processors.items i q)
given_at gives w i p q l e h a = kept_at (AreGiven gives w.qhimark) w.processors.items i p q l e (h w.qhimark) a

-- the length at which a processor's bypass list is released
pub mark_at : {J R : Type 0} (gives : ℕ → R → Type 0) (w : Core J R) (i : ℕ) (p : WorldProcessor J R) → i < length w.processors.items → p ≡ get_or w.processors.items i p → AllGiven gives w → mark_of p ≡ w.qhimark
mark_at gives w i p l e a = (all_at (AreGiven gives w.qhimark) w.processors.items i p l e a).1

-- a barrier that is there
pub barrier_seen : {J R : Type 0} (key_of : J → ℕ) (w : Core J R) (j : ℕ) (v q : Barring) (f : Barrier → Barrier) → j < length w.barriers.items → v ≡ get_or w.barriers.items j v → barrier q ≡ f (barrier v)
    → (barrier v ≡ barrier_at (state key_of w) j) × (map barrier (set w.barriers.items j q) ≡ set (map barrier w.barriers.items) j (f (barrier_at (state key_of w) j)))
barrier_seen key_of w j v q f l e d =
    let s : barrier v ≡ barrier_at (state key_of w) j = ap barrier e ∙ sym (get_or-map barrier w.barriers.items j v no_barrier l) in
    (s, map-set barrier w.barriers.items j q ∙ ap (set (map barrier w.barriers.items) j) (d ∙ ap f s))

-- whether a barrier is open, and what is tested of it
pub barrier_tested : {J R : Type 0} (key_of : J → ℕ) (w : Core J R) (j : ℕ) (v : Barring) (test : Barrier → Bool) → j < length w.barriers.items → barrier v ≡ barrier_at (state key_of w) j
    → v.passed ≡ false → test (barrier v) ≡ true → (is_open (state key_of w) j && test (barrier_at (state key_of w) j)) ≡ true
barrier_tested key_of w j v test l s p t =
    let h : nat_lt j (length (map barrier w.barriers.items)) ≡ true = lt-ltb j (length (map barrier w.barriers.items)) (omega (arith, length-map w.barriers.items barrier)) in
    let o : is_open (state key_of w) j ≡ true = ap (λ x. x && not (barrier_at (state key_of w) j).passed) h ∙ ap (λ x. not x.passed) (sym s) ∙ ap not p in
    ap (λ x. x && test (barrier_at (state key_of w) j)) o ∙ ap test (sym s) ∙ t

-- what an event did to a barrier
pub barred : {J R : Type 0} (key_of : J → ℕ) (w : Core J R) (j : ℕ) (v q : Barring) (test : Barrier → Bool) (f : Barrier → Barrier) (h : List Mark) (mark : Option Mark)
    → j < length w.barriers.items → v ≡ get_or w.barriers.items j v → v.passed ≡ false → test (barrier v) ≡ true → barrier q ≡ f (barrier v) → h ≡ added w.history.items mark
    → ((is_open (state key_of w) j && test (barrier_at (state key_of w) j)) ≡ true)
    × (record (state key_of w) { barriers = map barrier (set w.barriers.items j q); history = h } ≡ with_mark (with_barrier (state key_of w) j (f (barrier_at (state key_of w) j))) mark)
    × (false ≡ false)
barred key_of w j v q test f h mark l e p t d r =
    let s = barrier_seen key_of w j v q f l e d in (
      barrier_tested key_of w j v test l s.0 p t,
      ap {B = State} (λ x. record (state key_of w) { barriers = x; history = h }) s.1
          ∙ ap {B = State} (λ x. record (state key_of w) { barriers = set (map barrier w.barriers.items) j (f (barrier_at (state key_of w) j)); history = x }) r,
      refl,
    )

-- a barrier has a count and a sign for each processor
pub barrier_sizes : {J R : Type 0} (key_of : J → ℕ) (w : Core J R) (j : ℕ) (v : Barring) → IsCore (state key_of w) → j < length w.barriers.items → v ≡ get_or w.barriers.items j v
    → (length v.counts.items ≡ length w.processors.items) × (length v.seen.items ≡ length w.processors.items)
barrier_sizes key_of w j v k l e =
    let s = (barrier_seen key_of w j v v (λ x. x) l e refl).0 in
    let b = k.barrier j (omega (arith, length-map w.barriers.items barrier)) in
    (ap (λ x. length x.counts) s ∙ b.counts ∙ length-map w.processors.items (seen key_of), ap (λ x. length x.seen) s ∙ b.seens ∙ length-map w.processors.items (seen key_of))

pub has_at : {J R : Type 0} (key_of : J → ℕ) (w : Core J R) (i : ℕ) → i < length w.processors.items → has (state key_of w) i ≡ true
has_at key_of w i l = lt-ltb i (length (all_seen key_of w.processors.items)) (omega (arith, length-map w.processors.items (seen key_of)))
