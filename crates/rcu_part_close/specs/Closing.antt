-- What `close` promises, over plain data: docs/specification/promises.md, "Headline on the running parts", close.
use Rattle.std.specs.Prelude.{◌≡◌, ℕ, suc, ◌+◌, ◌*◌, ◌/◌, ◌%◌, ◌<◌, ◌≤◌, List, [], ◌∷◌, ◌++◌, map, length, drop, All}
use Rattle.rcu_board.specs.Quiets.{Passed}
use Rattle.rcu_board.specs.Seats.{reports_of}
use Rattle.rcu_board.specs.Views.{Every, claimed, seen_at, total}
use Rattle.rcu_board.specs.Words.{accepts_word, turns_word, words_of}
use Rattle.rcu_board.specs.declared.view.View.{View}
use Rattle.rcu_part_close.specs.Ends.{EndsWith, IsEnd, IsSoundEnd, left_of}
use Rattle.rcu_part_close.specs.Moving.{jobs_of}
use Rattle.rcu_jobs.specs.declared.callback.Callback.{Callback}
use Rattle.rcu_jobs.specs.declared.callback.Record.{Record}
use Rattle.rcu_part_order.specs.Order.{between}
use Rattle.rcu_part_order.specs.Places.{numbered}
use Rattle.rcu_part_order.specs.Callbacks.{numbered_callbacks}
use Rattle.rcu_part_order.specs.Records.{AreOfBoth, by_number}
use Rattle.rcu_part_close.specs.Gathered.{IsSettled, gather}
use Rattle.rcu_part_steps.specs.Places.{accepted_list}
use Rattle.rcu_part_close.specs.Parts.{CpuPart, IsAtRest, IsWholePart, hand_drawn, hand_kept, hand_ran, hand_taken, views_of}

-- The processor whose view this is passed the grace period s, by a report in it or by being away.
abbrev pub HasPassed : ℕ → View → Type 0
HasPassed s v = Every (λ o. Passed s o.quiets) v.own

-- Some grace period that this processor passed, the j-th from 0 of those that it counts, has a number between the record's stamp and
-- the sight by which it ran.
abbrev pub IsGracedBy : {R : Type 0} → Record R → View → Type 0
IsGracedBy r v = (j : ℕ) × (j < reports_of v) × (r.stamp < 4 * j + 1) × (4 * j + 1 < r.ready) × HasPassed (4 * j + 1) v

-- That is so for each processor, of which this is the view.
abbrev pub IsGraced : {R : Type 0} → List View → Record R → Type 0
IsGraced processors r = All (IsGracedBy r) processors

-- A processor with its hand, and what is left of it: the records of all that ran, those of them that are answered, and the jobs
-- that are handed back.
pub record CpuEnd (J R : Type 0) : Type 0 where
  pub part : CpuPart J R
  pub ran : List (Record R)
  pub kept : List (Record R)
  pub back : List J

module _ {J R : Type 0} where
  -- the views of all processors and hands
  abbrev pub seats_of : List (CpuEnd J R) → List View
  seats_of [] = []
  seats_of (e ∷ es) = views_of e.part ++ seats_of es

  abbrev pub processors_of : List (CpuEnd J R) → List View
  processors_of es = map (λ e. e.part.view) es

  -- they are the processors k, k + 1, ..
  unfoldable pub InRow : ℕ → List (CpuEnd J R) → Type 0
  InRow k [] = Unit {0}
  InRow k (e ∷ es) = (e.part.cpu ≡ k) × InRow (suc k) es

  -- the callbacks that no one ran: what the hand didn't take of what the processor put, and then what the processor holds
  abbrev pub calls_left : CpuEnd J R → List (Callback J)
  calls_left e = left_of e.part.lists (hand_taken e.part.hand)

  -- how each was ended, by `end_offloadable` or `end_local`
  pub record WasEnded (key_of : J → ℕ) (gives : ℕ → R → Type 0) (e : CpuEnd J R) : Type 0 where
    pub ends : EndsWith key_of gives e.part.own (hand_ran e.part.hand) e.part.lists (hand_taken e.part.hand) (hand_drawn e.part.hand) e.ran e.back
    -- all records of both, by their numbers, and so those that are left
    pub ran : e.ran ≡ by_number e.part.own (hand_ran e.part.hand)
    pub kept : e.kept ≡ by_number e.part.kept (hand_kept e.part.hand)

  -- What is left of one processor, whatever is known of jobs, where these are all views, and `processors` are those of
  -- processors.
  pub record EndsAs (views processors : List View) (e : CpuEnd J R) : Type 0 where
    -- as many as ran, 0 to m - 1, had records
    pub end : IsEnd (accepted_list e.part.view) (length e.ran) e.ran
    -- each record is one that the processor or its hand had, whole
    pub records : AreOfBoth e.part.own (hand_ran e.part.hand) e.ran
    -- those that were left are answered, in the order of their numbers: all of them, where none was taken and all were kept
    pub kept : e.kept ≡ by_number e.part.kept (hand_kept e.part.hand)
    pub whole : IsWholePart e.part → e.kept ≡ e.ran
    -- the jobs that come back are those of the callbacks that are left, which have the numbers from m on
    pub jobs : e.back ≡ jobs_of (calls_left e)
    pub left : numbered_callbacks (calls_left e) ≡ drop (length e.ran) (numbered 0 (accepted_list e.part.view))
    -- the claims of all views are these numbers, each once
    pub claims : (j : ℕ) → total (claimed e.part.cpu j) views ≡ between 0 (length e.ran) j
    pub graced : All (IsGraced processors) e.ran
    -- no view's sight of the turn word is above
    pub turns : All (λ v. seen_at v (turns_word e.part.cpu) / 2 ≤ length e.ran) views
    -- each view's sight of the accept word, where it is odd, has the accepted count as its half
    pub shut : All (λ v. seen_at v (accepts_word e.part.cpu) % 2 ≡ 1 → seen_at v (accepts_word e.part.cpu) / 2 ≡ length (accepted_list e.part.view)) views

  -- What is left of one processor whose jobs are sound: those that come back have the keys as accepted, too, and each receipt is
  -- as its job promises.
  pub record ClosesAs (key_of : J → ℕ) (gives : ℕ → R → Type 0) (views processors : List View) (e : CpuEnd J R) : Type 0 where
    pub ends : EndsAs views processors e
    pub sound : IsSoundEnd key_of gives (accepted_list e.part.view) (length e.ran) e.ran e.back

  -- The parts of one open have ended: what the seats knew is in one view, from which the last loads were made.
  pub record HaveEnded (key_of : J → ℕ) (gives : ℕ → R → Type 0) (n x : ℕ) (v : View) (others : List View) (es : List (CpuEnd J R)) : Type 0 where
    pub settled : IsSettled n x (gather v (others ++ seats_of es))
    -- the other seats claimed nothing
    pub nothing : All (λ w. w.claims ≡ []) (v ∷ others)
    -- these are all processors, in order
    pub all : length es ≡ n
    pub row : InRow 0 es
    pub at_rest : All (λ e. IsAtRest e.part) es
    pub ended : All (WasEnded key_of gives) es
    -- each seat is one of the board
    pub long : All (λ w. length w.seen ≡ words_of n) (v ∷ (others ++ seats_of es))

  -- What `close` promises of each processor, whatever is known of jobs.
  abbrev pub Ends : View → List View → List (CpuEnd J R) → Type 0
  Ends v others es = All (EndsAs (v ∷ (others ++ seats_of es)) (processors_of es)) es

  -- What it promises where jobs are sound.
  abbrev pub Closes : (J → ℕ) → (ℕ → R → Type 0) → View → List View → List (CpuEnd J R) → Type 0
  Closes key_of gives v others es = All (ClosesAs key_of gives (v ∷ (others ++ seats_of es)) (processors_of es)) es
