-- What a hand in place keeps while a claim of it runs.
use Rattle.std.specs.Prelude.{ℕ, ◌<◌, ◌≤◌, List}
use Rattle.rcu_board.specs.Views.{sight}
use Rattle.rcu_board.specs.declared.view.View.{View}
use Rattle.rcu_jobs.specs.declared.callback.Callback.{Callback}
use Rattle.rcu_numbers.specs.declared.shape.TheConstants.{MOST_CALLS}
use Rattle.rcu_part_hand.specs.HandLaw.{IsRunningHand}
use Rattle.rcu_part_order.specs.Recorded.{HasRoom, ran_of}
use Rattle.rcu_part_order.specs.declared.recorded.Records.{Records}
use Rattle.rcu_part_steps.specs.declared.begins.ClaimedCallback.{ClaimedCallback}

-- The law of a running hand, of processor `cpu` while the claim of this callback runs: there is room for its record.
pub record RunsAs {J R : Type 0} (cpu : ℕ) (c : ClaimedCallback) (v : View) (ran : Records R) (taken : List (Callback J)) : Type 0 where
  pub small : c.number < MOST_CALLS
  pub room : HasRoom ran
  pub lawful : IsRunningHand cpu c v (ran_of ran) taken
  -- the number that was seen before the claim is not above what the seat has seen
  pub seen : c.ready ≤ sight v
