-- What a call does with the pieces of a processor, it does with the processor.
use Rattle.std.proofs.Common.{ℕ, refl}
use Rattle.std.specs.Prelude.{Result, Ok, Err, IfOk, IfErr}
use Rattle.rcu_jobs.specs.declared.answers.Refused.{Refused}
use Rattle.rcu_jobs.specs.declared.answers.Refused.TheVariants.{Limit, Memory, Closed}
use Rattle.rcu_jobs.specs.declared.answers.Ticket.{Ticket}
use Rattle.rcu_lists.specs.declared.pace.Kind.{Kind}
use Rattle.rcu_part_order.specs.Recorded.{Recorded}
use Rattle.rcu_part_processor.specs.Accepting.{Accepting, Accepts, AcceptsNone, Refuses}

module _ {J R S : Type 0} where
  -- a processor by its pieces and its records
  abbrev pub with_records : Recorded R → Accepting J S → Accepting J R
  with_records records p = record { cpu = p.cpu; limit = p.limit; accepted = p.accepted; view = p.view; lists = p.lists; records = records }

  pub accepts_with : (records : Recorded R) (moment : ℕ) (kind : Kind) (key : ℕ) (job : J) (p q : Accepting J S) (r : Result Ticket (Refused J))
      → IfOk r (λ t. Accepts moment kind key job t p q) → IfOk r (λ t. Accepts moment kind key job t (with_records records p) (with_records records q))
  accepts_with records moment kind key job p q (Ok t) a = record { stamp = a.stamp; cpu = a.cpu; number = a.number; count = a.count; steps = a.steps; takes = a.takes; records = refl }
  accepts_with records moment kind key job p q (Err e) a = tt

  pub accepts_none_with : (records : Recorded R) (p q : Accepting J S) (r : Result Ticket (Refused J)) → IfErr r (λ _. AcceptsNone p q) → IfErr r (λ _. AcceptsNone (with_records records p) (with_records records q))
  accepts_none_with records p q (Ok t) a = tt
  accepts_none_with records p q (Err e) a = record { count = a.count; lists = a.lists; records = refl }

  pub refuses_with : (records : Recorded R) (job : J) (p q : Accepting J S) (r : Result Ticket (Refused J)) → IfErr r (λ e. Refuses job e p q) → IfErr r (λ e. Refuses job e (with_records records p) (with_records records q))
  refuses_with records job p q (Ok t) a = tt
  refuses_with records job p q (Err (Limit back)) a = a
  refuses_with records job p q (Err (Memory back)) a = a
  refuses_with records job p q (Err (Closed back)) a = a
