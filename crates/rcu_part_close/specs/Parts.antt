-- What is known of the parts of one open as they come to rest, over plain data: docs/specification/definitions.md, "The running parts: laws".
use Rattle.std.specs.Prelude.{◌≡◌, ℕ, Option, Some, None, List, [], ◌∷◌, map}
use Rattle.rcu_board.specs.Seats.{IsHere, fresh_of}
use Rattle.rcu_board.specs.Views.{cpus}
use Rattle.rcu_board.specs.declared.view.View.{View}
use Rattle.rcu_part_close.specs.Ends.{AreInPlace, AreSound}
use Rattle.rcu_part_lists.specs.ProcessorLists.{Holding}
use Rattle.rcu_jobs.specs.declared.callback.Callback.{Callback}
use Rattle.rcu_jobs.specs.declared.callback.Record.{Record}
use Rattle.rcu_part_steps.specs.Places.{accepted_list, claim_of}
use Rattle.rcu_part_order.specs.Records.{AreRipe}

-- A hand: its view, the records of all that it ran and those that are left of them, all that it drew, and what it took of that.
pub record HandPart (J R : Type 0) : Type 0 where
  pub view : View
  pub ran : List (Record R)
  pub kept : List (Record R)
  pub drawn : List (Callback J)
  pub taken : List (Callback J)

-- A processor with its hand, if it has one: its number, its view, the records of all that it ran itself, those that are left of
-- them, and its lists.
pub record CpuPart (J R : Type 0) : Type 0 where
  pub cpu : ℕ
  pub view : View
  pub own : List (Record R)
  pub kept : List (Record R)
  pub lists : Holding J
  pub hand : Option (HandPart J R)

module _ {J R : Type 0} where
  -- what the hand has, where there is one; else nothing
  abbrev pub hand_views : Option (HandPart J R) → List View
  hand_views (Some h) = h.view ∷ []
  hand_views None = []

  abbrev pub hand_ran : Option (HandPart J R) → List (Record R)
  hand_ran (Some h) = h.ran
  hand_ran None = []

  abbrev pub hand_kept : Option (HandPart J R) → List (Record R)
  hand_kept (Some h) = h.kept
  hand_kept None = []

  abbrev pub hand_drawn : Option (HandPart J R) → List (Callback J)
  hand_drawn (Some h) = h.drawn
  hand_drawn None = []

  abbrev pub hand_taken : Option (HandPart J R) → List (Callback J)
  hand_taken (Some h) = h.taken
  hand_taken None = []

  -- all records are left, of the processor and of its hand
  pub record IsWholePart (c : CpuPart J R) : Type 0 where
    pub own : c.kept ≡ c.own
    pub hand : hand_kept c.hand ≡ hand_ran c.hand

  -- the views of a processor and of its hand
  abbrev pub views_of : CpuPart J R → List View
  views_of c = c.view ∷ hand_views c.hand

  -- the records of each view's claims on processor cpu
  abbrev pub HandClaims : ℕ → Option (HandPart J R) → Type 0
  HandClaims cpu (Some h) = h.view.claims ≡ map (claim_of cpu) h.ran
  HandClaims cpu None = Unit {0}

  -- A processor and its hand at rest.
  pub record IsAtRest (c : CpuPart J R) : Type 0 where
    -- the processor's view has its lists, and each accepted number has its stamp
    pub own_cpu : cpus c.view.own ≡ c.cpu ∷ []
    pub stamped : fresh_of c.view ≡ None
    -- the processor is not away
    pub here : IsHere c.view
    -- the law of places
    pub places : AreInPlace (accepted_list c.view) c.own (hand_ran c.hand) c.lists (hand_taken c.hand)
    -- the records are those of the claims, each with the claim's board sight, by which its wait was over
    pub claims : c.view.claims ≡ map (claim_of c.cpu) c.own
    pub hand_claims : HandClaims c.cpu c.hand
    pub ripe : AreRipe c.own
    pub hand_ripe : AreRipe (hand_ran c.hand)

  -- what a processor and its hand know of jobs
  abbrev pub IsSoundPart : (J → ℕ) → (ℕ → R → Type 0) → CpuPart J R → Type 0
  IsSoundPart key_of gives c = AreSound key_of gives c.own (hand_ran c.hand) c.lists (hand_drawn c.hand)
