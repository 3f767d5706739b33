-- What each kind of step does to the view of the seat that steps, and what the rule teaches at it. A play is a fact about the step, the seat before, the number found (at a store, the one stored) and the seat after.
use Rattle.std.specs.Prelude.{◌≡◌, ◌≢◌, ℕ, ◌+◌, ◌-◌, ◌*◌, ◌/◌, ◌%◌, ◌<◌, ◌≤◌, ◌⊎◌, true, false, cond, nat_lt, Option, Some, None, List, [], ◌∷◌, ◌++◌, map, slice_index, slice_set, max, bit_or, bit_and}
use mathlib.Core.Option.{some}
use Rattle.atomic_table.specs.Table.{Me, Step}
use Rattle.rcu_numbers.specs.declared.sequence.TheConstants.{LAST_NUMBER}
use Rattle.rcu_board.specs.Words.{cpu_of, accepts_word, period_of, away_of}
use Rattle.rcu_board.specs.Quiets.{Passed}
use Rattle.rcu_board.specs.Views.{Every, seen_at, sight, own_count, claimed, runs, accepted_count}
use Rattle.rcu_board.specs.Laws.{IsNumber, Accounted, OddEquals}
use Rattle.rcu_board.specs.declared.view.Accepted.{Accepted}
use Rattle.rcu_board.specs.declared.view.Own.{Own}
use Rattle.rcu_board.specs.declared.view.Claim.{Claim}
use Rattle.rcu_board.specs.declared.view.View.{View}

abbrev pub SeatState : Type 0
SeatState = Me ℕ View

-- the seat made a step on word i, where it last read or wrote x
abbrev pub touched : ℕ → ℕ → View → View
touched i x v = record v { seen = slice_set v.seen i x; steps = slice_set v.steps i (slice_index v.steps i + 1) }

-- a load of a word that only grows
pub record Loading (st : Step ℕ) (m : SeatState) (r : ℕ) (n : SeatState) : Type 0 where
  pub view : n ≡ (touched st.word r m.0, m.1)
  pub later : seen_at m.0 st.word ≤ r

-- ---- the board

-- the accepted numbers with their stamps, where the last one gets the stamp s if it has none
abbrev pub with_stamp : ℕ → List Accepted → Option ℕ → List Accepted
with_stamp s xs None = xs
with_stamp s xs (Some key) = xs ++ record { key = key; stamp = s } ∷ []

abbrev pub stamp_own : ℕ → Own → Own
stamp_own s o = record o { accepted = with_stamp s o.accepted o.fresh; fresh = None }

-- look: the board sight, and the missing stamp
abbrev pub looked : ℕ → View → View
looked r v = touched 0 r (record v { own = map (stamp_own r) v.own })

pub record Looking (st : Step ℕ) (m : SeatState) (r : ℕ) (n : SeatState) : Type 0 where
  pub view : n ≡ (looked r m.0, m.1)
  pub number : IsNumber r
  pub later : sight m.0 ≤ r
  pub driver : m.0.drives ≡ true → sight m.0 ≡ r

-- start, end: the driver's store to N
abbrev pub Driving : Step ℕ → SeatState → ℕ → SeatState → Type 0
Driving st m r n = n ≡ (touched 0 st.first m.0, m.1)

-- q's own step, which leaves x there
abbrev pub stepped_own : (ℕ → Own → Own) → ℕ → ℕ → View → View
stepped_own f i x v = touched i x (record v { own = map (f x) v.own })

-- report: q's store of 2s to Q_q, by which it is accounted for in one grace period more
abbrev pub report_own : ℕ → Own → Own
report_own x o = record o { word = x; quiets = o.quiets ++ record { from = period_of o.word; to = period_of x; away = false } ∷ [] }

pub record Reporting (st : Step ℕ) (m : SeatState) (r : ℕ) (n : SeatState) : Type 0 where
  pub view : n ≡ (stepped_own report_own st.word st.first m.0, m.1)
  pub next : (o : Own) → m.0.own ≡ o ∷ [] → period_of o.word ≡ period_of st.first - 4
  pub later : period_of (seen_at m.0 st.word) ≤ period_of st.first

-- leave: q's store to Q_q
abbrev pub leave_own : ℕ → Own → Own
leave_own x o = record o { word = x }

pub record Leaving (st : Step ℕ) (m : SeatState) (r : ℕ) (n : SeatState) : Type 0 where
  pub view : n ≡ (stepped_own leave_own st.word st.first m.0, m.1)
  pub later : period_of (seen_at m.0 st.word) ≤ period_of st.first

-- come_back: q takes its mark away, and learns r
abbrev pub return_own : ℕ → Own → Own
return_own x o = record o { word = x; quiets = o.quiets ++ record { from = period_of o.word; to = period_of x; away = true } ∷ [] }

pub record Returning (st : Step ℕ) (m : SeatState) (r : ℕ) (n : SeatState) : Type 0 where
  pub view : n ≡ (stepped_own return_own st.word (r - 1) m.0, m.1)
  pub away : away_of r ≡ 1
  pub grows : (o : Own) → m.0.own ≡ o ∷ [] → period_of o.word ≤ period_of r
  pub later : period_of (seen_at m.0 st.word) ≤ period_of (r - 1)
  pub small : period_of r ≤ LAST_NUMBER

-- the driver's load of some Q_q
pub record Sighting (st : Step ℕ) (m : SeatState) (r : ℕ) (n : SeatState) : Type 0 where
  pub view : n ≡ (touched st.word r m.0, m.1)
  pub later : period_of (seen_at m.0 st.word) ≤ period_of r
  pub law : Accounted (sight m.0) r

-- meet: the driver's exchange on some Q_q
pub record Meeting (st : Step ℕ) (m : SeatState) (r : ℕ) (n : SeatState) : Type 0 where
  pub won : r ≡ st.first → n ≡ (touched st.word st.second m.0, m.1)
  pub lost : r ≢ st.first → n ≡ (touched st.word r m.0, m.1)
  pub later : period_of (seen_at m.0 st.word) ≤ period_of r
  pub law : Accounted (sight m.0) r

-- need: the greater of the number and the word
pub record Needing (st : Step ℕ) (m : SeatState) (r : ℕ) (n : SeatState) : Type 0 where
  pub view : n ≡ (touched st.word (max r st.first) m.0, m.1)
  pub later : seen_at m.0 st.word ≤ r

-- ---- A_p

abbrev pub accept_own : ℕ → Own → Own
accept_own key o = record o { fresh = Some key }

-- accept that won: the sight, and the key, which has no stamp yet
abbrev pub accepted : ℕ → ℕ → ℕ → View → View
accepted i x key v = touched i x (record v { own = map (accept_own key) v.own })

pub record Accepting (st : Step ℕ) (m : SeatState) (r : ℕ) (n : SeatState) : Type 0 where
  pub won : (key : ℕ) → st.said ≡ some key → r ≡ st.first → n ≡ (accepted st.word st.second key m.0, m.1)
  pub shut : r ≢ st.first → n ≡ (touched st.word r m.0, m.1)
  pub odd : r ≢ st.first → r ≡ st.first + 1
  pub later : seen_at m.0 st.word ≤ r
  pub final : seen_at m.0 st.word % 2 ≡ 1 → seen_at m.0 st.word ≡ r

-- count_of: a load of A_p, by which the seat of p itself finds the length of its own accepted list, since no other seat lengthens it
pub record Counting (st : Step ℕ) (m : SeatState) (r : ℕ) (n : SeatState) : Type 0 where
  pub view : n ≡ (touched st.word r m.0, m.1)
  pub later : seen_at m.0 st.word ≤ r
  pub final : seen_at m.0 st.word % 2 ≡ 1 → seen_at m.0 st.word ≡ r
  pub own : Every (λ (o : Own). o.cpu ≡ cpu_of st.word → r / 2 ≡ accepted_count o) m.0.own

pub record Shutting (st : Step ℕ) (m : SeatState) (r : ℕ) (n : SeatState) : Type 0 where
  pub view : n ≡ (touched st.word (r / 2 * 2 + 1) m.0, m.1)
  pub later : seen_at m.0 st.word ≤ r
  pub final : seen_at m.0 st.word % 2 ≡ 1 → seen_at m.0 st.word ≡ r

-- ---- T_p

abbrev pub claim_of : ℕ → ℕ → View → Claim
claim_of p k v = record { cpu = p; number = k; sight = sight v }

-- claim that won: the sight, and the claim, which runs
abbrev pub claiming : ℕ → ℕ → ℕ → ℕ → View → View
claiming i x p k v = touched i x (record v { claims = v.claims ++ claim_of p k v ∷ []; running = claim_of p k v ∷ [] })

pub record Claiming (st : Step ℕ) (m : SeatState) (r : ℕ) (n : SeatState) : Type 0 where
  pub won : r ≡ st.first → n ≡ (claiming st.word st.second (cpu_of st.word) (st.first / 2) m.0, m.1)
  pub lost : r ≢ st.first → n ≡ (touched st.word r m.0, m.1)
  pub later : seen_at m.0 st.word ≤ r

-- finish: the sight, and no claim runs
abbrev pub finished : ℕ → ℕ → View → View
finished i x v = touched i x (record v { running = [] })

pub record Finishing (st : Step ℕ) (m : SeatState) (r : ℕ) (n : SeatState) : Type 0 where
  pub view : n ≡ (finished st.word (r + 1) m.0, m.1)
  pub runs : (c : Claim) → m.0.running ≡ c ∷ [] → r ≡ 2 * c.number + 1
  pub later : seen_at m.0 st.word ≤ r

-- a finish and then a claim of the next number, made as one: both are counted, and what stood between them was never seen
abbrev pub went_on : ℕ → ℕ → ℕ → View → View
went_on i x p v = claiming i (x + 2) p ((x + 1) / 2) (finished i (x + 1) v)

pub record GoingOn (st : Step ℕ) (m : SeatState) (r : ℕ) (n : SeatState) : Type 0 where
  pub view : n ≡ (went_on st.word r (cpu_of st.word) m.0, m.1)
  pub runs : (c : Claim) → m.0.running ≡ c ∷ [] → r ≡ 2 * c.number + 1
  pub later : seen_at m.0 st.word ≤ r

-- ---- S_p, halt, urge

-- a load or store of a word that is 0 or 1
pub record Switching (st : Step ℕ) (m : SeatState) (r : ℕ) (n : SeatState) : Type 0 where
  pub view : n ≡ (touched st.word r m.0, m.1)
  pub small : r < 2

-- a step on the urge word, which found r there and left y
abbrev pub urged : ℕ → ℕ → ℕ → View → View
urged i r y v = touched i r (record v { left = y })

abbrev pub Urging : Step ℕ → SeatState → ℕ → SeatState → Type 0
Urging st m r n = n ≡ (urged st.word r (bit_or r st.first) m.0, m.1)

abbrev pub Hearing : Step ℕ → SeatState → ℕ → SeatState → Type 0
Hearing st m r n = n ≡ (urged st.word r (bit_and r st.first) m.0, m.1)

-- ---- what the seat learns that took in others

-- the weight of all seats of a board together: four for each of 1,024 processors, of which the seats in use take three, and two besides
abbrev pub all_seats : ℕ
all_seats = 4096

-- the number found: no stamp and no claim is later
pub record GatheredBoardLaw (x : ℕ) (v : View) : Type 0 where
  pub board : IsNumber x
  pub stamps : Every (λ (o : Own). Every (λ (a : Accepted). a.stamp ≤ x) o.accepted) v.own
  pub sights : Every (λ (c : Claim). c.sight ≤ x) v.claims

pub record LastLooking (st : Step ℕ) (m : SeatState) (r : ℕ) (n : SeatState) : Type 0 where
  pub view : n ≡ (touched 0 r m.0, m.1)
  pub later : sight m.0 ≤ r
  pub now : sight n.0 ≡ r
  pub stands : GatheredBoardLaw r m.0

-- the view has claimed each number below the turn once, and no other, and its claim runs where the turn word x is odd
pub record GatheredTurnLaw (p x : ℕ) (v : View) : Type 0 where
  pub claims : (k : ℕ) → claimed p k v ≡ cond (nat_lt k ((x + 1) / 2)) 1 0
  pub runs : runs p v ≡ x % 2

pub record LastTurning (st : Step ℕ) (m : SeatState) (r : ℕ) (n : SeatState) : Type 0 where
  pub view : n ≡ (touched st.word r m.0, m.1)
  pub later : seen_at m.0 st.word ≤ r
  pub settled : m.0.weight ≡ all_seats → GatheredTurnLaw (cpu_of st.word) r m.0

-- the view has p's accepted list once, x is twice its length, plus 1 where control's sight is odd; and each odd sight is x, its own and those of all the seats that became one
pub record GatheredAcceptLaw (p x : ℕ) (v : View) : Type 0 where
  pub once : own_count p v ≡ 1
  pub counts : Every (λ (o : Own). o.cpu ≡ p → x / 2 ≡ accepted_count o) v.own
  pub shut : seen_at v (accepts_word p) % 2 ≡ x % 2
  pub final : OddEquals p x v.seen
  pub merged : Every (OddEquals p x) v.merged

pub record LastCounting (st : Step ℕ) (m : SeatState) (r : ℕ) (n : SeatState) : Type 0 where
  pub view : n ≡ (touched st.word r m.0, m.1)
  pub later : seen_at m.0 st.word ≤ r
  pub counted : m.0.weight ≡ all_seats → GatheredAcceptLaw (cpu_of st.word) r m.0

-- p passed the grace period s by a report in it or by being away, or it is away still, from a time on before s
abbrev pub PassedBy : ℕ → Own → Type 0
PassedBy s o = Passed s o.quiets ⊎ ((away_of o.word ≡ 1) × (period_of o.word < s))

-- the view has p's lists once, and p passed each grace period that has ended
pub record GatheredReportLaw (p x : ℕ) (v : View) : Type 0 where
  pub once : own_count p v ≡ 1
  pub passed : Every (λ (o : Own). o.cpu ≡ p → (s : ℕ) → s % 4 ≡ 1 → s ≤ period_of x → PassedBy s o) v.own
  -- where p is here, it knows its report word
  pub here : Every (λ (o : Own). o.cpu ≡ p → away_of o.word ≡ 0 → o.word ≡ x) v.own
  pub ended : (s : ℕ) → s % 4 ≡ 1 → s < sight v → s ≤ period_of x
  pub accounted : Accounted (sight v) x

pub record LastSighting (st : Step ℕ) (m : SeatState) (r : ℕ) (n : SeatState) : Type 0 where
  pub view : n ≡ (touched st.word r m.0, m.1)
  pub later : period_of (seen_at m.0 st.word) ≤ period_of r
  pub settled : m.0.weight ≡ all_seats → GatheredReportLaw (cpu_of st.word) r m.0
