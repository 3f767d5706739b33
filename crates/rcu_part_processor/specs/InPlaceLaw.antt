-- What a processor in place keeps while a claim of it runs.
use Rattle.std.specs.Prelude.{ℕ, ◌<◌}
use Rattle.rcu_board.specs.declared.view.View.{View}
use Rattle.rcu_numbers.specs.declared.shape.TheConstants.{MOST_CALLS}
use Rattle.rcu_part_lists.specs.ProcessorLists.{Holding}
use Rattle.rcu_part_order.specs.Recorded.{HasRoom, ran_of}
use Rattle.rcu_part_order.specs.declared.recorded.Records.{Records}
use Rattle.rcu_part_processor.specs.Lawful.{IsRunningProcessor}
use Rattle.rcu_part_steps.specs.declared.begins.ClaimedCallback.{ClaimedCallback}

-- The law of a running processor, of processor `cpu`, which accepted so many, while the claim of this callback runs: it ran so
-- much, and has room for one record more.
pub record RunsAs {J R : Type 0} (cpu accepted : ℕ) (c : ClaimedCallback) (v : View) (ran : Records R) (h : Holding J) : Type 0 where
  pub below : c.number < MOST_CALLS
  pub room : HasRoom ran
  pub lawful : IsRunningProcessor cpu accepted c v (ran_of ran) h
