-- What a processor's part keeps between its calls: docs/specification/definitions.md, "Places", over whole histories.
use Rattle.std.specs.Prelude.{◌≡◌, ℕ, ◌+◌, ◌*◌, ◌≤◌, Bool, false, None, List, [], ◌∷◌, ◌++◌, map, length}
use Rattle.rcu_board.specs.Seats.{accepted_of, fresh_of, own_word}
use Rattle.rcu_board.specs.Views.{seen_at, sight}
use Rattle.rcu_board.specs.Words.{needed_word}
use Rattle.rcu_board.specs.declared.view.View.{View}
use Rattle.rcu_part_lists.specs.Aims.{AreUpTo}
use Rattle.rcu_part_lists.specs.ProcessorLists.{Holding, held_in, put_by}
use Rattle.rcu_jobs.specs.declared.callback.Record.{Record}
use Rattle.rcu_jobs.specs.declared.modes.Mode.TheVariants.{Local}
use Rattle.rcu_numbers.specs.Numbers.{snap_of}
use Rattle.rcu_numbers.specs.declared.sequence.TheConstants.{LAST_NUMBER}
use Rattle.rcu_part_order.specs.Places.{Numbered, Placed}
use Rattle.rcu_part_order.specs.Records.{numbered_records, AreRipe}
use Rattle.rcu_part_steps.specs.Begins.{claim_that_runs, number_that_runs}
use Rattle.rcu_part_steps.specs.Places.{numbered_callbacks, accepted_list, claim_of}
use Rattle.rcu_part_steps.specs.declared.begins.ClaimedCallback.{ClaimedCallback}

-- The processor is here, and the last grace period that it passed is this one, or none where that is 0: docs/specification/tables.md, "Words of the board".
pub record IsHereSince (passed : ℕ) (v : View) : Type 0 where
  -- so its report word says
  pub word : own_word v ≡ 2 * passed
  pub small : passed ≤ LAST_NUMBER

-- The processor is away, and passed this one last before it left, or none where that is 0.
pub record IsAwaySince (passed : ℕ) (v : View) : Type 0 where
  pub word : own_word v ≡ 2 * passed + 1
  pub small : passed ≤ LAST_NUMBER

-- Between calls of processor `cpu`, which accepted so many: its view, its records and its lists.
pub record IsLawful {J R : Type 0} (cpu accepted : ℕ) (v : View) (ran : List (Record R)) (h : Holding J) : Type 0 where
  -- the count is the length of the accepted list, each of which has its stamp
  pub counted : length (accepted_of v) ≡ accepted
  pub stamped : fresh_of v ≡ None
  -- no claim runs
  pub rests : v.running ≡ []
  -- what was accepted is what was claimed and put on the lane, in some order, and then what the lists hold
  pub places : ∥ Placed (accepted_list v) (numbered_records ran) (numbered_callbacks (put_by h)) (numbered_callbacks (held_in h)) ∥₁
  -- the records are those of the claims, each with the claim's board sight, by which its wait was over
  pub claims : v.claims ≡ map (claim_of cpu) ran
  pub ripe : AreRipe ran
  -- no look is later than the sight
  pub looked : h.advanced ≤ sight v
  -- each number that its own list waits for was asked for
  pub needed : AreUpTo (seen_at v needed_word) h.own

-- What is so of the lists of a processor that accepted so many, of which these were claimed.
pub record HasPlaces {J : Type 0} (accepted : ℕ) (v : View) (claimed : List Numbered) (h : Holding J) : Type 0 where
  -- the count is the length of the accepted list, each of which has its stamp
  pub counted : length (accepted_of v) ≡ accepted
  pub stamped : fresh_of v ≡ None
  -- what was accepted is what was claimed and put on the lane, in some order, and then what the lists hold
  pub places : ∥ Placed (accepted_list v) claimed (numbered_callbacks (put_by h)) (numbered_callbacks (held_in h)) ∥₁
  -- no look is later than the sight
  pub looked : h.advanced ≤ sight v
  -- each number that its own list waits for was asked for
  pub needed : AreUpTo (seen_at v needed_word) h.own

-- While the claim of this callback runs, which counts as claimed: processor `cpu`, which accepted so many.
pub record IsRunningProcessor {J R : Type 0} (cpu accepted : ℕ) (c : ClaimedCallback) (v : View) (ran : List (Record R)) (h : Holding J) : Type 0 where
  pub has : HasPlaces accepted v (numbered_records ran ++ number_that_runs c ∷ []) h
  -- its claim runs, and no other
  pub runs : v.running ≡ claim_that_runs cpu c ∷ []
  -- the claims are those of the records, and then the one that runs
  pub claims : v.claims ≡ map (claim_of cpu) ran ++ claim_that_runs cpu c ∷ []
  pub ripe : AreRipe ran
  -- its grace period was over at the number seen before the claim
  pub over : snap_of c.stamp ≤ c.ready

-- A processor that isn't offloadable is Local, and put nothing on a lane.
abbrev pub StaysLocal : {J : Type 0} → Bool → Holding J → Type 0
StaysLocal offloadable h = offloadable ≡ false → (h.mode ≡ Local) × (put_by h ≡ [])
