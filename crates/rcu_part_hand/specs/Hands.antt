-- What contracts see of a hand's part, and what its turn does: docs/specification/rules.md, "The calls, step by step", `Hand::turn`.
use Rattle.std.specs.Prelude.{◌≡◌, ◌≢◌, ℕ, ◌+◌, ◌≤◌, ◌*◌, ◌<◌, List, [], ◌∷◌, ◌++◌, length, All, Option, IfNone, IfSome}
use Rattle.std.proofs.Common.{◌⊎◌}
use Rattle.std.specs.Arc.{arc_value}
use Rattle.rcu_board.specs.Seats.{view}
use Rattle.rcu_board.specs.Views.{seen_at, sight}
use Rattle.rcu_board.specs.Plays.{looked}
use Rattle.rcu_board.specs.Words.{turns_word}
use Rattle.rcu_board.specs.declared.board.Board.{Board as Table}
use Rattle.rcu_board.specs.declared.board.Seat.{Seat}
use Rattle.rcu_part_lists.specs.declared.hand.Held.{Held}
use Rattle.rcu_numbers.specs.declared.parts_shape.PartsShape.{PartsShape}
use Rattle.rcu_board.specs.declared.view.View.{View}
use Rattle.rcu_board.specs.Frames.{SamePart}
use Rattle.rcu_part_lists.specs.Helds.{front_of, drawn_by, held_by}
use Rattle.rcu_jobs.specs.Records.{Given}
use Rattle.rcu_jobs.specs.declared.HandTurn.{HandTurn}
use Rattle.rcu_jobs.specs.declared.Stop.{Stop}
use Rattle.rcu_jobs.specs.declared.Stop.TheVariants.{Limit, Again, Empty, Turn, Memory}
use Rattle.rcu_jobs.specs.declared.callback.Callback.{Callback}
use Rattle.rcu_jobs.specs.declared.callback.Record.{Record}
use Rattle.rcu_lanes.specs.Ends.{SameFront}
use Rattle.rcu_numbers.specs.Numbers.{snap_of}
use Rattle.rcu_part_order.specs.Recorded.{Recorded, and_ran, recorded}
use Rattle.rcu_part_order.specs.Records.{numbered_records}
use Rattle.rcu_part_order.specs.declared.recorded.Kept.{Kept}
use Rattle.rcu_part_steps.specs.Changes.{StepsOnly}
use Rattle.rcu_part_steps.specs.Places.{AreKeyed, numbered_callbacks}
use Rattle.rcu_part_hand.specs.declared.hand.HandState.{HandState}

module _ {J R : Type 0} where
  abbrev pub hand_board : HandState J R → Table
  hand_board h = arc_value h.hand.board

  abbrev pub hand_view : HandState J R → View
  hand_view h = view h.hand.seat

  -- all records of what it ran, and which of them are left
  abbrev pub hand_records : HandState J R → Recorded R
  hand_records h = recorded h.hand.ran

  -- all that it drew, and of that what it holds
  abbrev pub hand_drawn : HandState J R → List (Callback J)
  hand_drawn h = drawn_by h.hand.held

  abbrev pub hand_held : HandState J R → List (Callback J)
  hand_held h = held_by h.hand.held

  -- the same part of the same open: its seat, its lane, its number, its limit and what it keeps of what it ran
  pub record SameHand (p q : HandState J R) : Type 0 where
    pub part : SamePart (hand_board p) (hand_board q) p.hand.seat q.hand.seat
    pub lane : SameFront (front_of p.hand.held) (front_of q.hand.held)
    pub cpu : q.hand.cpu ≡ p.hand.cpu
    pub blimit : q.hand.blimit ≡ p.hand.blimit
    pub kept : q.hand.ran.kept ≡ p.hand.ran.kept

  -- the records that there were stand before all others, and none of those that were left was lost
  abbrev pub AddsRecords : HandState J R → HandState J R → Type 0
  AddsRecords p q = (more : List (Record R)) × (hand_records q ≡ and_ran more (hand_records p))

  -- What a hand knows of jobs: where each callback that it drew has its job's key, each receipt is as the relation wants it.
  abbrev pub IsSoundHand : (J → ℕ) → (ℕ → R → Type 0) → HandState J R → Type 0
  IsSoundHand key_of gives h = AreKeyed key_of (hand_drawn h) → Given gives (hand_records h).all

  -- what is known of jobs stays known
  abbrev pub KeepsSoundHand : (J → ℕ) → (ℕ → R → Type 0) → HandState J R → HandState J R → Type 0
  KeepsSoundHand key_of gives old new = IsSoundHand key_of gives old → IsSoundHand key_of gives new

  -- A step of a hand: what it does; and it is the same hand, which knows of jobs what it knew.
  pub record Keeping (Does : HandState J R → HandState J R → Type 0) (key_of : J → ℕ) (gives : ℕ → R → Type 0) (p q : HandState J R) : Type 0 where
    pub does : Does p q
    -- the same part of the same open
    pub same : SameHand p q
    -- what is known of jobs stays known
    pub sound : KeepsSoundHand key_of gives p q

  -- The first n of what it held were run, each under a claim that was won at the board sight `seen`, and left a record
  -- each; so many claims were tried.
  pub record Ran (n tried seen : ℕ) (p q : HandState J R) : Type 0 where
    pub calls : List (Callback J)
    pub records : List (Record R)
    pub many : length records ≡ n
    pub held : hand_held p ≡ calls ++ hand_held q
    pub drawn : hand_drawn q ≡ hand_drawn p
    pub more : hand_records q ≡ and_ran records (hand_records p)
    pub same : numbered_callbacks calls ≡ numbered_records records
    pub ready : All (λ r. r.ready ≡ seen) records
    pub sight : sight (hand_view q) ≡ seen
    pub steps : StepsOnly (turns_word p.hand.cpu) (tried + n) (hand_view p) (hand_view q)

  -- why the first of what it holds doesn't run: its wait isn't over at the number seen, or its claim was lost, as its turn
  -- word is another
  abbrev pub IsNotItsTurn : ℕ → ℕ → ℕ → HandState J R → Type 0
  IsNotItsTurn ran tried seen h = (c : Callback J) × (rest : List (Callback J)) × (hand_held h ≡ c ∷ rest)
      × (((seen < snap_of c.stamp) × (tried ≡ ran)) ⊎ ((seen_at (hand_view h) (turns_word h.hand.cpu) ≢ 2 * c.number) × (tried ≡ ran + 1)))

  -- the wait of the first of what it holds is over at the number seen
  abbrev pub IsDue : ℕ → HandState J R → Type 0
  IsDue seen h = (c : Callback J) × (rest : List (Callback J)) × (hand_held h ≡ c ∷ rest) × (snap_of c.stamp ≤ seen)

  -- why no more were run, once `ran` were and so many claims were tried
  abbrev pub StopsAt : Stop → ℕ → ℕ → ℕ → HandState J R → Type 0
  StopsAt Limit ran tried seen h = (ran ≡ h.hand.blimit) × (tried ≡ ran)
  StopsAt Again ran tried seen h = (hand_held h ≡ []) × (tried ≡ ran)
  StopsAt Empty ran tried seen h = (hand_held h ≡ []) × (tried ≡ ran)
  StopsAt Turn ran tried seen h = IsNotItsTurn ran tried seen h
  StopsAt Memory ran tried seen h = IsDue seen h × (tried ≡ ran)

  -- The first of what it holds was run; or none was, and why, which is never that so many were, nor that it may go on.
  pub record RunsOne (seen : ℕ) (answer : Option Stop) (p q : HandState J R) : Type 0 where
    -- None: one was run, under the one claim that was tried
    pub ran : IfNone answer (Ran 1 1 seen p q)
    -- Some: none was, and the reason holds however many were run before
    pub not : IfSome answer (λ stop. (tried : ℕ) × Ran 0 tried seen p q × ((n : ℕ) → StopsAt stop n (n + tried) seen q))
    pub counts : IfSome answer (λ stop. (stop ≢ Limit) × (stop ≢ Again))

  -- The first ones of what it held were run, as many as the answer says, and why no more.
  abbrev pub RunsHeld : ℕ → HandTurn → HandState J R → HandState J R → Type 0
  RunsHeld seen answer p q = (tried : ℕ) × Ran answer.ran tried seen p q × StopsAt answer.stop answer.ran tried seen q

  -- one look, which found the number `seen`
  pub record Looks (seen : ℕ) (p q : HandState J R) : Type 0 where
    pub step : hand_view q ≡ looked seen (hand_view p)
    pub sight : sight (hand_view q) ≡ seen
    pub held : hand_held q ≡ hand_held p
    pub drawn : hand_drawn q ≡ hand_drawn p
    pub records : hand_records q ≡ hand_records p

  -- a batch was drawn where none was held
  pub record Loads (p q : HandState J R) : Type 0 where
    pub batch : List (Callback J)
    pub drawn : hand_drawn q ≡ hand_drawn p ++ batch
    pub held : hand_held q ≡ hand_held p ++ batch
    pub only : hand_held p ≢ [] → batch ≡ []
    pub view : hand_view q ≡ hand_view p
    pub records : hand_records q ≡ hand_records p

  -- nothing changed but which records are left
  pub record KeepsButRecords (p q : HandState J R) : Type 0 where
    pub view : hand_view q ≡ hand_view p
    pub held : q.hand.held ≡ p.hand.held

  -- A turn: a look, a draw at most, and then the first ones of what is held run.
  pub record TurnsBy (answer : HandTurn) (p q : HandState J R) : Type 0 where
    pub seen : ℕ
    pub tried : ℕ
    pub first : HandState J R
    pub second : HandState J R
    -- all the while it is the same hand
    pub same : SameHand p first × SameHand p second
    pub looks : Looks seen p first
    pub loads : Loads first second
    pub ran : Ran answer.ran tried seen second q
    pub stop : StopsAt answer.stop answer.ran tried seen q

  -- the hand of processor cpu of a board, with its seat and what it holds, which keeps this of what it runs: it ran nothing
  pub record IsNewHandOf (shape : PartsShape) (b : Table) (cpu : ℕ) (s : Seat) (held : Held J) (kept : Kept) (h : HandState J R) : Type 0 where
    pub board : hand_board h ≡ b
    pub seat : h.hand.seat ≡ s
    pub held_is : h.hand.held ≡ held
    pub cpu_is : h.hand.cpu ≡ cpu
    pub limit : h.hand.blimit ≡ shape.blimit
    pub ran : hand_records h ≡ record { kept = kept; all = []; gone = 0 }
