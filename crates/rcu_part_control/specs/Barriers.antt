-- Barriers: docs/specification/rules.md, "The calls, step by step", `barrier` and `poll`.
use Rattle.std.specs.Prelude.{◌≡◌, ℕ, zero, suc, ◌+◌, ◌*◌, ◌/◌, ◌<◌, ◌≤◌, nat_le, if◌then◌else◌, Option, Some, None, Result, MatchResult, List, [], ◌∷◌, slice_index, bit_or, All}
use Rattle.rcu_board.specs.Words.{accepts_word, turns_word, urges_of, urges_word, urge_bits}
use Rattle.rcu_board.specs.Views.{seen_at}
use Rattle.rcu_board.specs.Plays.{urged}
use Rattle.rcu_board.specs.Seats.{view, count_of_own}
use Rattle.rcu_board.specs.declared.board.Role.TheVariants.{Processor}
use Rattle.rcu_board.specs.declared.board.Seat.{Seat}
use Rattle.rcu_board.specs.declared.view.View.{View}
use Rattle.rcu_jobs.specs.declared.Counts.{Counts}
use Rattle.rcu_jobs.specs.declared.Ticket.{Ticket}
use Rattle.rcu_jobs.specs.declared.Passed.{Passed}
use Rattle.rcu_jobs.specs.declared.BarrierFault.{BarrierFault}
use Rattle.rcu_jobs.specs.declared.BarrierFault.TheVariants.{NoProcessor, Ahead}
use Rattle.rcu_board.specs.Frames.{StepsOnEach}
use Rattle.rcu_part_control.specs.declared.barrier.Barrier.{Barrier}

-- the count of processor p
abbrev pub count_at : Counts → ℕ → ℕ
count_at counts p = slice_index counts.counts p

-- One load of the accept word of each of n processors: each count is the half of what was read there.
pub record ReadsCounts (n : ℕ) (counts : Counts) (v w : View) : Type 0 where
  pub steps : StepsOnEach accepts_word n v w
  pub halves : (p : ℕ) → p < n → count_at counts p ≡ seen_at w (accepts_word p) / 2

-- Where the seat that read them is a processor's, the count of its own processor is that of its own accepted list.
abbrev pub CountsItsOwn : ℕ → Counts → Seat → Type 0
CountsItsOwn n counts s = (p : ℕ) → p < n → s.role ≡ Processor p → count_at counts p ≡ count_of_own (view s)

-- one step on the k-th urge word, which sets the bits of the processors that share it
abbrev pub UrgesOne : ℕ → ℕ → View → View → Type 0
UrgesOne n k v w = w ≡ urged (urges_word n k) (seen_at w (urges_word n k)) (bit_or (seen_at w (urges_word n k)) (urge_bits n k)) v

-- such a step on each of the first k urge words, in their order
unfoldable pub UrgesFirst : ℕ → ℕ → View → View → Type 0
UrgesFirst n zero v w = w ≡ v
UrgesFirst n (suc k) v w = (u : View) × UrgesFirst n k v u × UrgesOne n k u w

-- all n processors were urged
abbrev pub Urges : ℕ → View → View → Type 0
Urges n v w = UrgesFirst n (urges_of n) v w

-- what is wrong with a ticket
abbrev pub ticket_fault : Counts → Ticket → Option BarrierFault
ticket_fault counts t =
    if nat_le counts.n t.cpu then Some (NoProcessor t.cpu)
    else if nat_le (count_at counts t.cpu) t.number then Some (Ahead t.cpu (count_at counts t.cpu))
    else None

abbrev pub or_else : Option BarrierFault → Option BarrierFault → Option BarrierFault
or_else None other = other
or_else (Some fault) other = Some fault

-- the first fault in the order of the tickets
abbrev pub first_fault : Counts → List Ticket → Option BarrierFault
first_fault counts [] = None
first_fault counts (t ∷ ts) = or_else (ticket_fault counts t) (first_fault counts ts)

-- every ticket's callback is counted
abbrev pub AreCounted : Counts → List Ticket → Type 0
AreCounted counts ts = All (λ t. (t.cpu < counts.n) × (t.number < count_at counts t.cpu)) ts

-- the counts were read, and then all processors were urged
pub record Opens (n : ℕ) (b : Barrier) (v w : View) : Type 0 where
  pub between : View
  pub many : b.counts.n ≡ n
  pub reads : ReadsCounts n b.counts v between
  pub urges : Urges n between w

-- the counts were read, and that is all
pub record IsRefused (n : ℕ) (tickets : List Ticket) (fault : BarrierFault) (v w : View) : Type 0 where
  pub counts : Counts
  pub many : counts.n ≡ n
  pub reads : ReadsCounts n counts v w
  pub first : first_fault counts tickets ≡ Some fault

abbrev pub OpensBy : ℕ → List Ticket → Result Barrier BarrierFault → View → View → Type 0
OpensBy n tickets result v w = MatchResult result
    (λ b. Opens n b v w × AreCounted b.counts tickets)
    (λ fault. IsRefused n tickets fault v w)

-- ---- poll

-- Each turn word was seen to be at least twice the count: the claim of each callback that was counted had been finished.
abbrev pub IsOver : Counts → View → Type 0
IsOver counts v = (p : ℕ) → p < counts.n → 2 * count_at counts p ≤ seen_at v (turns_word p)

-- each turn word was read, and with that the barrier is over
pub record HasPassed (counts : Counts) (v w : View) : Type 0 where
  pub steps : StepsOnEach turns_word counts.n v w
  pub over : IsOver counts w

-- The turn words were read up to one that is below twice the count.
pub record HasNotPassed (counts : Counts) (v w : View) : Type 0 where
  pub cpu : ℕ
  pub there : cpu < counts.n
  pub steps : StepsOnEach turns_word (cpu + 1) v w
  pub below : seen_at w (turns_word cpu) < 2 * count_at counts cpu

abbrev pub PollsBy : Counts → Option Passed → View → View → Type 0
PollsBy counts None v w = HasNotPassed counts v w
PollsBy counts (Some passed) v w = (passed.counts ≡ counts) × HasPassed counts v w
