-- What a tick does: docs/specification/rules.md, "The calls, step by step", `tick`.
use Rattle.std.specs.Prelude.{◌≡◌, ◌≢◌, ℕ, ◌+◌, ◌*◌, ◌/◌, ◌≤◌, Bool, true, false, not, IsTrue, ◌↔◌, if◌then◌else◌, List, [], ◌∷◌, ◌++◌, length, All, Option, Some, None, IfNone, IfSome, bit_and, max}
use Rattle.std.specs.Int.{from_bool}
use Rattle.rcu_numbers.specs.Words.{owes_of, all_but_of}
use Rattle.rcu_board.specs.Plays.{looked, touched, urged}
use Rattle.rcu_board.specs.Views.{seen_at, tally}
use Rattle.rcu_board.specs.Words.{asks_word, board_word, needed_word, turns_word, urge_word, urge_bit}
use Rattle.rcu_board.specs.declared.view.View.{View}
use Rattle.rcu_part_lists.specs.Aims.{wanted}
use Rattle.rcu_part_lists.specs.ProcessorLists.{Holding, Releases, AskedOn, after_look, asked_off, put_by}
use Rattle.rcu_jobs.specs.Modes.{is_deoffloading, is_local, is_offloaded}
use Rattle.rcu_part_lists.specs.Modes.{settled}
use Rattle.rcu_part_lists.specs.Limits.{AreBelow}
use Rattle.rcu_jobs.specs.declared.Stop.{Stop}
use Rattle.rcu_jobs.specs.declared.Stop.TheVariants.{Limit, Again, Empty, Turn, Memory}
use Rattle.rcu_jobs.specs.declared.Ticked.{Ticked}
use Rattle.rcu_jobs.specs.declared.callback.Callback.{Callback}
use Rattle.rcu_jobs.specs.declared.callback.Record.{Record}
use Rattle.rcu_lists.specs.Labels.{Done, Labelled, marked, count, is_done}
use Rattle.rcu_part_order.specs.Recorded.{and_ran}
use Rattle.rcu_part_order.specs.Records.{numbered_records}
use Rattle.rcu_part_steps.specs.Changes.{StepsOnly}
use Rattle.rcu_part_steps.specs.Places.{numbered_callbacks}
use Rattle.rcu_part_processor.specs.Processors.{SameProcessor, board_of, view_of, lists_of, records_of}
use Rattle.rcu_part_processor.specs.declared.processor.ProcessorState.{ProcessorState}

-- the step that asks for a number, where one is wanted: the word becomes the greater of it and what was found
pub record Asks (wanted : Option ℕ) (v w : View) : Type 0 where
  pub found : ℕ
  pub some : (s : ℕ) → wanted ≡ Some s → w ≡ touched needed_word (max found s) v
  pub none : wanted ≡ None → w ≡ v

module _ {J R : Type 0} where
  -- One look, which found the number `seen`; the own list was advanced by it and accelerated, and the number that some
  -- callback waits for then was asked for.
  pub record CatchesUp (seen : ℕ) (p q : ProcessorState J R) : Type 0 where
    pub asks : Asks (wanted seen (lists_of p).own) (looked seen (view_of p)) (view_of q)
    pub lists : lists_of q ≡ after_look seen (lists_of p)
    pub records : records_of q ≡ records_of p

  -- What is asked was read, and then the processor's bit of its urge word was taken; the bypass list was released where
  -- one of a tick's causes holds, and the mode was changed as asked.
  pub record Heeds (moment : ℕ) (p q : ProcessorState J R) : Type 0 where
    pub on : Bool
    pub urges : Bool
    pub found : ℕ
    pub steps : view_of q ≡ urged (urge_word (board_of p).processors p.cpu) found (bit_and found (all_but_of (urge_bit p.cpu))) (touched (asks_word p.cpu) (from_bool on) (view_of p))
    pub heard : IsTrue urges ↔ (owes_of found (urge_bit p.cpu) ≡ 1)
    pub released : Holding J
    pub releases : Releases moment (not on) urges (lists_of p) released
    pub asked_off : on ≡ false → lists_of q ≡ asked_off p.accepted released
    pub asked_on : on ≡ true → AskedOn released (lists_of q)
    pub records : records_of q ≡ records_of p

  -- In Deoffloading the turn word was read, and the mode became Local where all that was accepted before it left has run.
  pub record Settles (p q : ProcessorState J R) : Type 0 where
    pub leaving : is_deoffloading (lists_of p).mode ≡ true
        → (view_of q ≡ touched (turns_word p.cpu) (seen_at (view_of q) (turns_word p.cpu)) (view_of p))
        × (lists_of q ≡ record (lists_of p) { mode = settled (lists_of p).left (seen_at (view_of q) (turns_word p.cpu)) (lists_of p).mode })
    pub others : is_deoffloading (lists_of p).mode ≡ false → (view_of q ≡ view_of p) × (lists_of q ≡ lists_of p)
    pub local : is_local (lists_of p).mode ≡ false → is_local (lists_of q).mode ≡ true → AreBelow (seen_at (view_of q) (turns_word p.cpu) / 2) (put_by (lists_of q))
    pub records : records_of q ≡ records_of p

  -- The first n callbacks of done were run, each under a claim that was won at the board sight `seen`, and left a record
  -- each; so many claims were tried.
  pub record RanDone (n tried seen : ℕ) (p q : ProcessorState J R) : Type 0 where
    pub calls : List (Callback J)
    pub records : List (Record R)
    pub many : length records ≡ n
    pub done : (lists_of p).own ≡ marked Done calls ++ (lists_of q).own
    pub others : lists_of q ≡ record (lists_of p) { own = (lists_of q).own }
    pub more : records_of q ≡ and_ran records (records_of p)
    pub same : numbered_callbacks calls ≡ numbered_records records
    pub ready : All (λ r. r.ready ≡ seen) records
    pub steps : StepsOnly (turns_word p.cpu) (tried + n) (view_of p) (view_of q)
    pub later : seen_at (view_of p) (turns_word p.cpu) ≤ seen_at (view_of q) (turns_word p.cpu)

  -- the first done callback's claim was lost: the turn word is another
  abbrev pub IsNotItsTurn : ProcessorState J R → Type 0
  IsNotItsTurn q = (c : Callback J) × (rest : List (Labelled J)) × ((lists_of q).own ≡ marked Done (c ∷ []) ++ rest) × (seen_at (view_of q) (turns_word q.cpu) ≢ 2 * c.number)

  -- why no more were run, once `ran` were and so many claims were tried
  abbrev pub StopsTick : Stop → ℕ → ℕ → ProcessorState J R → Type 0
  StopsTick Limit ran tried q = (ran ≡ q.blimit) × (tried ≡ ran)
  StopsTick Again ran tried q = ⊥
  StopsTick Empty ran tried q = (count is_done (lists_of q).own ≡ 0) × (tried ≡ ran)
  StopsTick Turn ran tried q = (tried ≡ ran + 1) × IsNotItsTurn q
  StopsTick Memory ran tried q = (count is_done (lists_of q).own ≢ 0) × (tried ≡ ran)

  -- The first callback of done was run; or none was, and why, which is never that so many were.
  pub record RunsOne (seen : ℕ) (answer : Option Stop) (p q : ProcessorState J R) : Type 0 where
    -- None: one was run, under the one claim that was tried
    pub ran : IfNone answer (RanDone 1 1 seen p q)
    -- Some: none was, and the reason holds however many were run before
    pub not : IfSome answer (λ stop. (tried : ℕ) × RanDone 0 tried seen p q × ((n : ℕ) → StopsTick stop n (n + tried) q))
    pub counts : IfSome answer (λ stop. stop ≢ Limit)

  -- The first callbacks of done were run, as many as the answer says, and why no more.
  abbrev pub RunsDone : ℕ → Ticked → ProcessorState J R → ProcessorState J R → Type 0
  RunsDone seen answer p q = (tried : ℕ) × RanDone answer.ran tried seen p q × StopsTick answer.stop answer.ran tried q

  -- A tick: it catches up; an offloadable processor heeds what is asked and settles; then the first done callbacks run.
  pub record TicksBy (moment : ℕ) (answer : Ticked) (p q : ProcessorState J R) : Type 0 where
    pub seen : ℕ
    pub tried : ℕ
    pub first : ProcessorState J R
    pub second : ProcessorState J R
    pub third : ProcessorState J R
    -- all the while it is the same processor
    pub same : SameProcessor p first × SameProcessor p second × SameProcessor p third
    pub catches_up : CatchesUp seen p first
    pub local : p.offloadable ≡ false → (second ≡ first) × (third ≡ second)
    pub heeds : p.offloadable ≡ true → Heeds moment first second
    pub settles : p.offloadable ≡ true → Settles second third
    pub ran : RanDone answer.ran tried seen third q
    pub stop : StopsTick answer.stop answer.ran tried q

  -- Each step was made as often as the rules say: one on the board word; where the processor is offloadable, one on what
  -- is asked of it and one on its urge word, else none.
  pub record IsFresh (p q : ProcessorState J R) : Type 0 where
    pub board : tally (view_of q) board_word ≡ tally (view_of p) board_word + 1
    pub asks : tally (view_of q) (asks_word p.cpu) ≡ tally (view_of p) (asks_word p.cpu) + (if p.offloadable then 1 else 0)
    pub urges : tally (view_of q) (urge_word (board_of p).processors p.cpu) ≡ tally (view_of p) (urge_word (board_of p).processors p.cpu) + (if p.offloadable then 1 else 0)

  -- The mode became Local only where all that was ever put on the lane has run.
  abbrev pub IsLocalOnceRun : ProcessorState J R → ProcessorState J R → Type 0
  IsLocalOnceRun p q = is_local (lists_of p).mode ≡ false → is_local (lists_of q).mode ≡ true → AreBelow (seen_at (view_of q) (turns_word p.cpu) / 2) (put_by (lists_of q))

  -- In Offloaded, before or after, nothing runs.
  pub record RunsNoneOffloaded (ran : ℕ) (p q : ProcessorState J R) : Type 0 where
    pub before : is_offloaded (lists_of p).mode ≡ true → ran ≡ 0
    pub after : is_offloaded (lists_of q).mode ≡ true → ran ≡ 0
