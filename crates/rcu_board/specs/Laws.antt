-- The rule of a board, law by law: docs/specification/definitions.md, "The running parts: laws". A quoted sentence is one of that section.
use Rattle.std.specs.Prelude.{◌≡◌, ℕ, ◌+◌, ◌-◌, ◌*◌, ◌/◌, ◌%◌, ◌<◌, ◌≤◌, true, false, List, length, slice_index}
use Rattle.rcu_numbers.specs.declared.set.TheConstants.{PARTS_PROCESSORS}
use Rattle.rcu_numbers.specs.declared.sequence.TheConstants.{LAST_NUMBER}
use mathlib.Core.Option.{some}
use lib.ListN.{get_elem?}
use Rattle.atomic_table.specs.Table.{State}
use Rattle.rcu_board.specs.Words.{words_of, board_word, needed_word, halt_word, accepts_word, turns_word, asks_word, reports_word, period_of, away_of, is_asks}
use Rattle.rcu_board.specs.Quiets.{Chain}
use Rattle.rcu_board.specs.Views.{seen_at, sight, tally, Every, total, cpus, own_count, driver_count, control_count, accepted_count, claimed, runs, spent}
use Rattle.rcu_board.specs.declared.view.Own.{Own}
use Rattle.rcu_board.specs.declared.view.View.{View}

-- said of each view
abbrev pub Each : List View → (View → Type 0) → Type 0
Each views P = (id : ℕ) (v : View) → get_elem? views id ≡ some v → P v

-- ---- number law: s is N

pub record IsNumber (s : ℕ) : Type 0 where
  -- it is idle or in progress
  pub state : s % 4 < 2
  pub small : s ≤ LAST_NUMBER

pub record BoardLawInView (s : ℕ) (v : View) : Type 0 where
  -- "The driver's sight is the number."
  pub driver : v.drives ≡ true → sight v ≡ s
  -- "no board sight [..] is above the number", and so no stamp and no claim's sight, which are not above the view's own sight (ViewAlone)
  pub sight : sight v ≤ s

pub record BoardLaw (s : ℕ) (views : List View) : Type 0 where
  pub word : IsNumber s
  pub in_views : Each views (BoardLawInView s)

-- ---- report law, which crosses two words: s is N, x is Q_p

pub record Accounted (s x : ℕ) : Type 0 where
  -- at 4j p was accounted for in the grace period that has ended last
  pub idle : s % 4 ≡ 0 → period_of x ≡ s - 3
  -- at 4j + 1 in this one, or it owes, and was in the one before
  pub busy : s % 4 ≡ 1 → (owed : ℕ) × (owed < 2) × (period_of x ≡ s - 4 * owed)

-- what p's own seat knows, o, which alone leaves and comes back, and alone steps there while it is not away
pub record OwnLaw (x : ℕ) (o : Own) : Type 0 where
  pub below : period_of o.word ≤ period_of x
  pub away : away_of o.word ≡ away_of x
  pub here : away_of x ≡ 0 → o.word ≡ x

pub record ReportLawInView (p x : ℕ) (v : View) : Type 0 where
  -- r never falls
  pub below : period_of (seen_at v (reports_word p)) ≤ period_of x
  pub own : Every (λ o. o.cpu ≡ p → OwnLaw x o) v.own

-- "and no sight of `needed` above that word", which is x
abbrev pub NeededLaw : ℕ → List View → Type 0
NeededLaw x views = Each views (λ v. seen_at v needed_word ≤ x)

-- ---- accept law: x is A_p

-- "a sight that is odd equals it", where these are the sights of a seat
abbrev pub OddEquals : ℕ → ℕ → List ℕ → Type 0
OddEquals p x seen = slice_index seen (accepts_word p) % 2 ≡ 1 → slice_index seen (accepts_word p) ≡ x

pub record AcceptLawInView (p x : ℕ) (v : View) : Type 0 where
  -- "A_p is twice the length of p's accepted list, plus 1 once shut."
  pub count : Every (λ o. o.cpu ≡ p → x / 2 ≡ accepted_count o) v.own
  -- control alone shuts
  pub shut : v.controls ≡ true → seen_at v (accepts_word p) % 2 ≡ x % 2
  -- "No sight of A_p is above it, and a sight that is odd equals it."
  pub sight : seen_at v (accepts_word p) ≤ x
  pub odd_sight : OddEquals p x v.seen
  -- and so does one that a seat had before it was merged
  pub merged : Every (OddEquals p x) v.merged

abbrev pub AcceptLaw : ℕ → ℕ → List View → Type 0
AcceptLaw p x views = Each views (AcceptLawInView p x)

-- ---- turn law: x is T_p, "2k or 2k+1", so that k is x / 2

pub record TurnLawInView (p x : ℕ) (v : View) : Type 0 where
  -- a claim that runs is the one of number k, at 2k + 1; the view has it among its claims (ViewAlone)
  pub running : Every (λ c. c.cpu ≡ p → x ≡ 2 * c.number + 1) v.running
  -- "No sight of T_p is above it."
  pub sight : seen_at v (turns_word p) ≤ x

pub record TurnLaw (p x : ℕ) (views : List View) : Type 0 where
  -- "Each number below k is once in the claims of exactly one view, and no number above k is in any."
  pub below : (number : ℕ) → number < x / 2 → total (claimed p number) views ≡ 1
  pub above : (number : ℕ) → x / 2 < number → total (claimed p number) views ≡ 0
  -- "At 2k+1, k is once in the claims of exactly one view, and that view alone has a running claim on p. At 2k none has, and k is in no claims."
  pub next : total (claimed p (x / 2)) views ≡ x % 2
  pub running : total (runs p) views ≡ x % 2
  pub in_views : Each views (TurnLawInView p x)

-- ---- ask law: x is S_p

-- "S_p is the value that the view of control last read or stored there"
abbrev pub AskLawInView : ℕ → ℕ → View → Type 0
AskLawInView p x v = v.controls ≡ true → seen_at v (asks_word p) ≡ x

pub record AskLaw (p x : ℕ) (views : List View) : Type 0 where
  pub value : x < 2
  pub in_views : Each views (AskLawInView p x)

-- ---- how a word begins: x is word i

-- a word on which no seat has made a step is 0
abbrev pub BeginsAtZero : ℕ → ℕ → List View → Type 0
BeginsAtZero i x views = total (λ v. tally v i) views ≡ 0 → x ≡ 0

-- ---- what a view says by itself

pub record ViewAlone (n : ℕ) (v : View) : Type 0 where
  -- after a merge "the other is a fixed spent view", which stands for no seat
  pub no_seat : v.weight ≡ 0 → v ≡ spent
  pub seen_long : 0 < v.weight → length v.seen ≡ words_of n
  pub steps_long : 0 < v.weight → length v.steps ≡ words_of n
  pub processors : Every (λ q. q < n) (cpus v.own)
  -- no stamp and no claim's sight is above the board sight
  pub stamps : Every (λ o. Every (λ a. a.stamp ≤ sight v) o.accepted) v.own
  pub claims : Every (λ c. c.sight ≤ sight v) v.claims
  -- each grace period in which p was accounted for is one that it reported in or was away in, as far as p knows
  pub quiets : Every (λ o. Chain 0 o.quiets (period_of o.word)) v.own
  -- what runs was claimed by the view itself
  pub running : Every (λ c. 0 < claimed c.cpu c.number v) v.running

-- ---- whose the views are

pub record SeatLaw (n all : ℕ) (views : List View) : Type 0 where
  -- each processor's lists are in one view, once
  pub processor : (p : ℕ) → p < n → total (own_count p) views ≡ 1
  pub driver : total driver_count views ≡ 1
  pub control : total control_count views ≡ 1
  pub weight : total (λ v. v.weight) views ≡ all

-- ---- the rule

-- Between any two steps of any threads: the words and the views of a board for n processors, whose seats weigh `all` together.
pub record BoardRule (n all : ℕ) (s : State ℕ View) : Type 0 where
  pub few : n ≤ PARTS_PROCESSORS
  pub words : length s.words ≡ words_of n
  pub board : BoardLaw (slice_index s.words board_word) s.views
  pub accounted : (p : ℕ) → p < n → Accounted (slice_index s.words board_word) (slice_index s.words (reports_word p))
  pub report : (p : ℕ) → p < n → Each s.views (ReportLawInView p (slice_index s.words (reports_word p)))
  pub needed : NeededLaw (slice_index s.words needed_word) s.views
  pub accept : (p : ℕ) → p < n → AcceptLaw p (slice_index s.words (accepts_word p)) s.views
  pub turn : (p : ℕ) → p < n → TurnLaw p (slice_index s.words (turns_word p)) s.views
  pub ask : (p : ℕ) → p < n → AskLaw p (slice_index s.words (asks_word p)) s.views
  -- the halt word is 0 or 1
  pub halt : slice_index s.words halt_word < 2
  -- each word "begins as 0" (docs/specification/tables.md, "Words of the board"), but S_p, which the ask law speaks of
  pub begins : (i : ℕ) → i < words_of n → is_asks i ≡ false → BeginsAtZero i (slice_index s.words i) s.views
  pub alone : Each s.views (ViewAlone n)
  pub seats : SeatLaw n all s.views
