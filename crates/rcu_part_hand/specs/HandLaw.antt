-- What a hand's part keeps between its calls: docs/specification/definitions.md, "Places".
use Rattle.std.specs.Prelude.{◌≡◌, ℕ, ◌≤◌, List, [], ◌∷◌, ◌++◌, map}
use Rattle.rcu_board.specs.declared.view.View.{View}
use Rattle.rcu_jobs.specs.declared.callback.Callback.{Callback}
use Rattle.rcu_jobs.specs.declared.callback.Record.{Record}
use Rattle.rcu_numbers.specs.Numbers.{snap_of}
use Rattle.rcu_part_order.specs.Records.{numbered_records, AreRipe}
use Rattle.rcu_part_steps.specs.Begins.{claim_that_runs, number_that_runs}
use Rattle.rcu_part_steps.specs.Places.{numbered_callbacks, claim_of}
use Rattle.rcu_part_steps.specs.declared.begins.ClaimedCallback.{ClaimedCallback}

-- The hand of processor `cpu`: its view, its records, and what it took of all that it drew.
pub record IsLawfulHand {J R : Type 0} (cpu : ℕ) (v : View) (ran : List (Record R)) (taken : List (Callback J)) : Type 0 where
  -- no claim runs
  pub rests : v.running ≡ []
  -- what it took is what it ran, in order
  pub places : numbered_callbacks taken ≡ numbered_records ran
  -- the records are those of the claims, each with the claim's board sight, by which its wait was over
  pub claims : v.claims ≡ map (claim_of cpu) ran
  pub ripe : AreRipe ran

-- The hand of processor `cpu` while the claim of this callback runs.
pub record IsRunningHand {J R : Type 0} (cpu : ℕ) (c : ClaimedCallback) (v : View) (ran : List (Record R)) (taken : List (Callback J)) : Type 0 where
  -- its claim runs, and no other
  pub runs : v.running ≡ claim_that_runs cpu c ∷ []
  -- what it took is what it ran, in order, and then the one that runs
  pub places : numbered_callbacks taken ≡ numbered_records ran ++ number_that_runs c ∷ []
  -- the claims are those of the records, and then the one that runs
  pub claims : v.claims ≡ map (claim_of cpu) ran ++ claim_that_runs cpu c ∷ []
  pub ripe : AreRipe ran
  -- its grace period was over at the number seen before the claim
  pub over : snap_of c.stamp ≤ c.ready
