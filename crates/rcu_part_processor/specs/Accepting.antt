-- How a job is accepted, whether a claim of the processor runs or not: docs/specification/rules.md, "The calls, step by step".
use Rattle.std.specs.Prelude.{◌≡◌, ◌≢◌, ℕ, ◌+◌, ◌*◌, true, [], Result, IfErr, IsErr}
use Rattle.rcu_board.specs.Plays.{touched, looked, accepted}
use Rattle.rcu_board.specs.Seats.{view}
use Rattle.rcu_board.specs.Words.{accepts_word}
use Rattle.rcu_board.specs.declared.board.Seat.{Seat}
use Rattle.rcu_board.specs.declared.view.View.{View}
use Rattle.rcu_part_lists.specs.ProcessorLists.{IsReady, Takes, holding}
use Rattle.rcu_jobs.specs.Modes.{is_offloaded}
use Rattle.rcu_part_lists.specs.declared.processor_lists.ProcessorLists.{ProcessorLists}
use Rattle.rcu_jobs.specs.declared.answers.Refused.{Refused}
use Rattle.rcu_jobs.specs.declared.answers.Refused.TheVariants.{Limit, Memory, Closed}
use Rattle.rcu_jobs.specs.declared.answers.Ticket.{Ticket}
use Rattle.rcu_jobs.specs.declared.callback.Callback.{Callback}
use Rattle.rcu_lists.specs.declared.pace.Kind.{Kind}
use Rattle.rcu_part_order.specs.Recorded.{Recorded}
use Rattle.rcu_part_order.specs.declared.recorded.Kept.TheVariants.{Nothing}

-- the callback that an accepted job becomes
abbrev pub callback : {J : Type 0} → ℕ → ℕ → ℕ → ℕ → J → Callback J
callback cpu number key stamp job = record { cpu = cpu; number = number; key = key; stamp = stamp; job = job }

-- What a call sees and changes of a processor: its number, its limit and its count, its view, its lists, and what it ran.
pub record Accepting (J R : Type 0) : Type 0 where
  pub cpu : ℕ
  pub limit : ℕ
  pub accepted : ℕ
  pub view : View
  pub lists : ProcessorLists J
  pub records : Recorded R

-- the pieces of a processor that a call is given, without its records
abbrev pub pieces : {J : Type 0} → ℕ → ℕ → ℕ → Seat → ProcessorLists J → Accepting J (Unit {0})
pieces cpu limit count seat lists = record { cpu = cpu; limit = limit; accepted = count; view = view seat; lists = lists; records = record { kept = Nothing; all = []; gone = 0 } }

-- One more callback wants memory: the list that it goes to in this mode has no room, which an empty bypass list always has.
pub record WantsMemory {J : Type 0} (lists : ProcessorLists J) : Type 0 where
  pub full : IsReady lists → ⊥
  pub some : is_offloaded (holding lists).mode ≡ true → (holding lists).outgoing.bypass ≢ []

module _ {J R : Type 0} where
  -- The job was accepted under the old count: the accepting exchange was won, then a look gave the stamp, and the callback was placed.
  pub record Accepts (moment : ℕ) (kind : Kind) (key : ℕ) (job : J) (t : Ticket) (p q : Accepting J R) : Type 0 where
    pub stamp : ℕ
    pub cpu : t.cpu ≡ p.cpu
    pub number : t.number ≡ p.accepted
    pub count : q.accepted ≡ p.accepted + 1
    pub steps : q.view ≡ looked stamp (accepted (accepts_word p.cpu) (2 * p.accepted + 2) key p.view)
    pub takes : Takes moment kind (callback p.cpu p.accepted key stamp job) (holding p.lists) (holding q.lists)
    pub records : q.records ≡ p.records

  -- nothing was accepted, and lists and counts are as before
  pub record AcceptsNone (p q : Accepting J R) : Type 0 where
    pub count : q.accepted ≡ p.accepted
    pub lists : holding q.lists ≡ holding p.lists
    pub records : q.records ≡ p.records

  -- Why the job was refused: at the limit; for want of memory, where one more callback wants any; or since the exchange found that the processor was shut.
  abbrev pub Refuses : J → Refused J → Accepting J R → Accepting J R → Type 0
  Refuses job (Limit back) p q = (back ≡ job) × (p.accepted ≡ p.limit) × (q.view ≡ p.view)
  Refuses job (Memory back) p q = (back ≡ job) × (q.view ≡ p.view) × WantsMemory p.lists
  Refuses job (Closed back) p q = (back ≡ job) × (q.view ≡ touched (accepts_word p.cpu) (2 * p.accepted + 1) p.view)

-- refusal 4
abbrev pub IsLimit : {J : Type 0} → Refused J → Type 0
IsLimit (Limit back) = Unit {0}
IsLimit (Memory back) = ⊥
IsLimit (Closed back) = ⊥

-- it is refused, and by refusal 4
abbrev pub IsRefusedByLimit : {T J : Type 0} → Result T (Refused J) → Type 0
IsRefusedByLimit result = IfErr result (λ refused. IsLimit refused) × IsErr result
