-- A hand in place: between its calls it is a hand, or a running hand, and what its calls do is said of those:
-- docs/specification/surface.md, "rcu_parts", `begin` and `finish`.
use Rattle.std.specs.Prelude.{◌≡◌, ◌≢◌, ℕ, ◌+◌, ◌<◌, ◌≤◌, List, ◌∷◌, IfErr, IfOk, Result}
use Rattle.std.specs.declared.option.Option.TheVariants.{None, Some}
use Rattle.std.proofs.lemmas.Option.{none-some}
use Rattle.rcu_board.specs.Plays.{touched}
use Rattle.rcu_board.specs.Words.{halt_word}
use Rattle.rcu_jobs.specs.Records.{Given}
use Rattle.rcu_jobs.specs.declared.Stop.{Stop}
use Rattle.rcu_jobs.specs.declared.Stop.TheVariants.{Limit}
use Rattle.rcu_jobs.specs.declared.callback.Callback.{Callback}
use Rattle.rcu_numbers.specs.Numbers.{snap_of}
use Rattle.rcu_numbers.specs.declared.shape.TheConstants.{MOST_CALLS}
use Rattle.rcu_part_lists.specs.Helds.{drawn_by}
use Rattle.rcu_part_hand.specs.Begins.{BeginsHand, ClaimsFirst, FinishesHand, IsGivenFor, IsKeyed, SameBegun, SameFinished, StopsHand, running_held}
use Rattle.rcu_part_hand.specs.Hands.{SameHand, RunsHeld, hand_drawn, hand_held, hand_records, hand_view}
use Rattle.rcu_part_hand.specs.declared.hand.HandState.{HandState}
use Rattle.rcu_part_hand.specs.declared.in_place.HandInPlaceState.{HandInPlaceState}
use Rattle.rcu_part_hand.specs.declared.running_hand.RunningHandState.{RunningHandState}
use Rattle.rcu_part_order.specs.Recorded.{HasRoomForTwo, ran_of}
use Rattle.rcu_part_steps.specs.Places.{AreKeyed}
use Rattle.rcu_part_steps.specs.declared.begins.ClaimedCallback.{ClaimedCallback}

module _ {J R : Type 0} where
  -- where no claim runs, it is this hand
  abbrev pub resting : (p : HandInPlaceState J R) → p.claimed ≡ None → HandState J R
  resting p e = record { hand = p.hand; lawful = p.rests e }

  -- in place it stands so, where no claim runs
  abbrev pub in_place : HandState J R → HandInPlaceState J R
  in_place o = record { claimed = None; hand = o.hand; rests = λ e. o.lawful; runs = λ c e. absurd (none-some c e) }

  -- where one runs, it is this running hand
  abbrev pub running : (p : HandInPlaceState J R) (c : ClaimedCallback) → p.claimed ≡ Some c → RunningHandState J R
  running p c e = record {
    claimed = c;
    hand = p.hand;
    small = (p.runs c e).small;
    room = (p.runs c e).room;
    lawful = (p.runs c e).lawful;
  }

  -- what a hand in place knows of jobs, whether a claim of it runs or not
  abbrev pub IsSoundInPlace : (J → ℕ) → (ℕ → R → Type 0) → HandInPlaceState J R → Type 0
  IsSoundInPlace key_of gives p = AreKeyed key_of (drawn_by p.hand.held) → Given gives (ran_of p.hand.ran)

  -- what is known of jobs stays known
  abbrev pub KeepsSoundInPlace : (J → ℕ) → (ℕ → R → Type 0) → HandInPlaceState J R → HandInPlaceState J R → Type 0
  KeepsSoundInPlace key_of gives p q = IsSoundInPlace key_of gives p → IsSoundInPlace key_of gives q

  -- Of a hand of which no claim runs none runs afterwards, and this is so of what it was and is.
  abbrev pub StaysResting : (HandState J R → HandState J R → Type 0) → HandInPlaceState J R → HandInPlaceState J R → Type 0
  StaysResting Does p q = (e : p.claimed ≡ None) → (f : q.claimed ≡ None) × SameHand (resting p e) (resting q f) × Does (resting p e) (resting q f)

  -- A step of a hand of which no claim runs: what it does; and what is known of jobs stays known.
  pub record KeepingInPlace (Does : HandState J R → HandState J R → Type 0) (key_of : J → ℕ) (gives : ℕ → R → Type 0) (p q : HandInPlaceState J R) : Type 0 where
    pub does : StaysResting Does p q
    pub sound : KeepsSoundInPlace key_of gives p q

  -- Where no claim of it runs, this is so of the hand.
  abbrev pub IfResting : (HandState J R → Type 0) → HandInPlaceState J R → Type 0
  IfResting Is p = (e : p.claimed ≡ None) → Is (resting p e)

  -- Of a hand of which no claim runs one runs afterwards, and this is so of what it was and is.
  abbrev pub StartsRunning : (HandState J R → RunningHandState J R → Type 0) → HandInPlaceState J R → HandInPlaceState J R → Type 0
  StartsRunning Does p q = (e : p.claimed ≡ None) → (c : ClaimedCallback) × (f : q.claimed ≡ Some c)
      × SameBegun (resting p e) (running q c f) × Does (resting p e) (running q c f)

  -- Of a hand of which a claim runs none runs afterwards, and this is so of what it was and is.
  abbrev pub EndsRunning : (RunningHandState J R → HandState J R → Type 0) → HandInPlaceState J R → HandInPlaceState J R → Type 0
  EndsRunning Does p q = (c : ClaimedCallback) (e : p.claimed ≡ Some c) → (f : q.claimed ≡ None)
      × SameFinished (running p c e) (resting q f) × Does (running p c e) (resting q f)

  -- Where a claim of it runs, this is so of the running hand.
  abbrev pub IfRunning : (RunningHandState J R → Type 0) → HandInPlaceState J R → Type 0
  IfRunning Is p = (c : ClaimedCallback) (e : p.claimed ≡ Some c) → Is (running p c e)

  -- The claim of the first callback that is held was tried at the board sight `seen`: where it was won it runs, and its job is
  -- handed out; else nothing was run, and why.
  pub record ClaimsAs (seen : ℕ) (key_of : J → ℕ) (gives : ℕ → R → Type 0) (answer : Result J Stop) (p q : HandInPlaceState J R) : Type 0 where
    -- Ok: the claim runs
    pub runs : IfOk answer (λ job. StartsRunning (λ o r. ClaimsFirst seen o r job) p q)
    -- Err: it wasn't won, which is never as so many were run
    pub stops : IfErr answer (λ stop. StaysResting (λ o r. RunsHeld seen (record { ran = 0; stop = stop }) o r) p q)
    pub counts : IfErr answer (λ stop. stop ≢ Limit)
    -- the job that is handed out has the claim's key
    pub keyed : IfOk answer (λ job. IfRunning (λ r. IsKeyed key_of r job) q)
    pub sound : KeepsSoundInPlace key_of gives p q

  -- the halt word was read, and nothing else changed
  pub record ReadsHalt (found : ℕ) (p q : HandState J R) : Type 0 where
    pub view : hand_view q ≡ touched halt_word found (hand_view p)
    pub held : hand_held q ≡ hand_held p
    pub drawn : hand_drawn q ≡ hand_drawn p
    pub records : hand_records q ≡ hand_records p

  -- While a claim runs: the first callback that is held is the next of its processor, its wait was over at the number that was
  -- seen before that claim, and there is room for the records of both.
  pub record IsFollowed (h : RunningHandState J R) : Type 0 where
    pub first : Callback J
    pub rest : List (Callback J)
    pub held : running_held h ≡ first ∷ rest
    pub next : first.number ≡ h.claimed.number + 1
    pub over : snap_of first.stamp ≤ h.claimed.ready
    pub small : first.number < MOST_CALLS
    pub room : HasRoomForTwo h.hand.ran

  -- A finish with this receipt, and then a begin, which came to this. What is known of jobs stays known over both.
  pub record GoesOn (key_of : J → ℕ) (gives : ℕ → R → Type 0) (receipt : R) (result : Result J Stop) (p q : HandInPlaceState J R) : Type 0 where
    pub between : HandInPlaceState J R
    pub rests : between.claimed ≡ None
    pub finishes : EndsRunning (FinishesHand receipt) p between
    pub begins : IfOk result (λ job. StartsRunning (λ a b. BeginsHand a b job) between q)
    pub stops : IfErr result (λ stop. StaysResting (StopsHand stop) between q)
    pub finishes_sound : IfRunning (λ h. IsGivenFor key_of gives h receipt) p → KeepsSoundInPlace key_of gives p between
    pub begins_sound : KeepsSoundInPlace key_of gives between q
