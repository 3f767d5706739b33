-- What a program over runs in threads cites in its own contracts, passed on so that it names this crate alone.
pub use Rattle.rcu_parts.specs.Drained.{HasNoneBack}
pub use Rattle.rcu_runtime.specs.Ends.{HaveReceipts, LosesNone, back_in, ran_in}
pub use Rattle.rcu_runtime.specs.Runtimes.{Continues, IsDrained, accepted_in}
pub use Rattle.rcu_runtime.specs.Settled.{HasRunAll}
