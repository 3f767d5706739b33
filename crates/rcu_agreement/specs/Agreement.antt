-- When a history agrees with what is known of a runtime at its end: docs/specification/definitions.md, "Agreeing".
-- The parts store no history, so no contract says that the marks of a run, in the order of its steps, agree. In brackets is what
-- makes each sentence true of them, a law of the board mostly (definitions.md, "The running parts: laws").
use Rattle.std.specs.Prelude.{ℕ, ◌<◌, ◌≤◌, ◌≡◌, ◌⊎◌, List, [], length, take, Some, get_or, slice_index}
use Rattle.std.specs.List.{Any, slice_get}
use Rattle.rcu_world_law.specs.declared.marks.Mark.{Mark}
use Rattle.rcu_world_law.specs.declared.marks.Mark.TheVariants.{Reported, Opened, Passed, Shut, Back}
use Rattle.rcu_world_law.specs.Law.{accepted, ran, back, IsAccepted, IsRan, IsOpened}
use Rattle.rcu_world_law.specs.Invariant.{reports}
use Rattle.rcu_agreement.specs.Accounts.{Account, account_at, number_of, ready_of, stamp_of}

-- at place i stands the j-th `Reported` of q, counted from 0
pub record IsReport (h : List Mark) (q j i : ℕ) : Type 0 where
  pub stands : slice_get h i ≡ Some (Reported q)
  pub before : reports q (take i h) ≡ j

-- the count that barrier b took of processor p, where each barrier has a list of them
abbrev pub count_of : List (List ℕ) → ℕ → ℕ → ℕ
count_of counts b p = slice_index (get_or counts b []) p

-- A history agrees with these accounts, one for each processor, and with the counts that each barrier took.
pub record Agrees (accounts : List Account) (counts : List (List ℕ)) (h : List Mark) : Type 0 where
  -- What a processor accepted is what its account says, in order. (Accept law: each acceptance adds one to its list.)
  pub accepted_is : (p : ℕ) → accepted p h ≡ (account_at accounts p).keys
  -- So is what ran of it. (Turn law: each number is claimed once, after all below it.)
  pub ran_is : (p : ℕ) → ran p h ≡ (account_at accounts p).ran
  -- So is what was handed back. (It is what `close` answers.)
  pub back_is : (p : ℕ) → back p h ≡ (account_at accounts p).back
  -- A processor has a report for each grace period that it passed. (Report law: the half of Q_q comes to the number of each by one
  -- step, a report or, where q is away, the driver's meeting.)
  pub reports_is : (q : ℕ) → reports q h ≡ (account_at accounts q).reports
  -- An acceptance stands before each report whose number is above its stamp. (Number law: the stamp is read after the acceptance,
  -- the report is made at its number, and the number only grows.)
  pub stamped : (p k t q j i : ℕ) → IsAccepted h p k t → IsReport h q j i → stamp_of accounts p k < number_of j → t < i
  -- A run stands after each report whose number is below its sight. (Report law: the sight is read before the claim, and a number
  -- above that of the report is reached only once every processor has passed it.)
  pub seen : (p k u q j i : ℕ) → IsRan h p k u → IsReport h q j i → number_of j < ready_of accounts p k → i < u
  -- A processor is shut before any of its jobs is handed back. (`close` shuts it, where nobody did before.)
  pub shut_first : (p i key : ℕ) → slice_get h i ≡ Some (Back p key) → (j : ℕ) × (j < i) × (slice_get h j ≡ Some (Shut p))
  -- Where a processor is shut, it has accepted as many as a seat saw that saw it shut, or else all. (Accept law: a sight of A_p that
  -- is odd equals it; and where `close` shuts it, nothing is accepted any more.)
  pub shut : (p i : ℕ) → slice_get h i ≡ Some (Shut p)
      → Any (λ count. count ≡ length (accepted p (take i h))) (account_at accounts p).shuts ⊎ (length (accepted p (take i h)) ≡ length (accepted p h))
  -- A barrier that passes was opened before, and once. (A barrier is a value, which an opening alone gives.)
  pub opened : IsOpened h
  -- What was accepted before a barrier opened is within its count. (Accept law: its counts are read after that, and A_p only grows.)
  pub counted : (b o p k t : ℕ) → slice_get h o ≡ Some (Opened b) → IsAccepted h p k t → t < o → k < count_of counts b p
  -- What runs within a barrier's count stands before the barrier passes. (Turn law: it passes once T_p is twice the count, and each
  -- of these was claimed by then.)
  pub passed : (b e p k u : ℕ) → slice_get h e ≡ Some (Passed b) → IsRan h p k u → k < count_of counts b p → u < e
  -- Where a barrier passes, some seat saw as many run as its count. (Turn law: the seat that polled it, whose sight never falls.)
  pub polled : (b e p : ℕ) → slice_get h e ≡ Some (Passed b) → p < length accounts → Any (λ turn. count_of counts b p ≤ turn) (account_at accounts p).turns
