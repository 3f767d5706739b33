-- Each history that agrees with what `close` answers is closed, and what is answered is what it agrees with.
use Rattle.std.proofs.Common.{◌≡◌, ℕ, suc, List, [], ◌∷◌, map, length, drop, get_or, refl, ap, sym, subst, ◌∙◌, arith}
use Rattle.std.specs.List.{All}
use Rattle.std.proofs.lemmas.List.{length-map}
use Rattle.std.proofs.lemmas.List.Elements.{All-head, All-tail, All-weaker}
use Rattle.std.proofs.lemmas.Simd.{map-map}
use Rattle.rcu_agreement.proofs.Histories as histories
use Rattle.rcu_agreement.proofs.ReadSections.{runs_before, waits}
use Rattle.rcu_agreement.specs.Accounts.{Account}
use Rattle.rcu_agreement.specs.Agreement.{Agrees}
use Rattle.rcu_agreement.specs.ReadSections.{ReportsOutside, RunsBeforeReaders, Step, WaitsForReaders, history_of}
use Rattle.rcu_board.specs.declared.board.Board.{Board}
use Rattle.rcu_board.specs.declared.view.View.{View}
use Rattle.rcu_jobs.specs.declared.answers.Closed.{Closed}
use Rattle.rcu_jobs.specs.declared.callback.Callback.{Callback}
use Rattle.rcu_jobs.specs.declared.callback.Record.{Record}
use Rattle.rcu_part_close.specs.Closing.{ClosesAs, CpuEnd, EndsAs, InRow, calls_left, processors_of}
use Rattle.rcu_part_close.specs.Parts.{CpuPart}
use Rattle.rcu_part_hand.specs.declared.hand.Hand.{Hand}
use Rattle.rcu_part_processor.specs.declared.processor.Processor.{Processor}
use Rattle.rcu_parts.proofs.KeptWhole.{answers_all}
use Rattle.rcu_parts.specs.AtClose.{AccountsFor, AnswersAll, ClosesWith, KeepWhole, cpu_part, cpu_parts, hand_for, hands_after}
use Rattle.rcu_parts.specs.OneOpen.{AreOfOneOpen, AreProcessorsFrom, Parts, hands_in, parts_board, processors_in}
use Rattle.rcu_parts_law.specs.Accounts.{account_of, accounts_of, views_at_close}
use Rattle.rcu_parts_law.proofs.Accounting.{are_accounts, keys_left}
use Rattle.rcu_world_law.specs.Law.{IsClosed}
use Rattle.rcu_world_law.specs.declared.marks.Mark.{Mark}

module _ {J R : Type 0} where
  -- each processor has ended, in its place
  as_many_parts : (ps : List (Processor J R)) (hs : List (Hand J R)) → length (cpu_parts ps hs) ≡ length ps
  as_many_parts [] hs = refl
  as_many_parts (p ∷ ps) hs = ap suc (as_many_parts ps (hands_after p hs))

  pub as_many : (parts : Parts J R) (ends : List (CpuEnd J R)) → AreOfOneOpen parts → map (λ e. e.part) ends ≡ cpu_parts (processors_in parts) (hands_in parts) → length ends ≡ (parts_board parts).processors
  as_many parts ends one are =
      sym (length-map ends (λ (e : CpuEnd J R). e.part)) ∙ ap length are ∙ as_many_parts (processors_in parts) (hands_in parts) ∙ one.as_many

  in_row : (k : ℕ) (b : Board) (es : List (CpuEnd J R)) (ps : List (Processor J R)) (hs : List (Hand J R)) → map (λ e. e.part) es ≡ cpu_parts ps hs → AreProcessorsFrom k b ps → InRow k es
  unfolding InRow AreProcessorsFrom
  in_row k b [] ps hs same from = tt
  in_row k b (e ∷ es) [] hs same from = absurd (let long = ap (λ (l : List (CpuPart J R)). length l) same in omega (arith, long))
  in_row k b (e ∷ es) (p ∷ ps) hs same from =
      let first : e.part ≡ cpu_part p (hand_for p hs) = ap (λ (l : List (CpuPart J R)). get_or l 0 e.part) same in
      let rest = ap (λ (l : List (CpuPart J R)). drop 1 l) same in
      (ap (λ (c : CpuPart J R). c.cpu) first ∙ from.1, in_row (suc k) b es ps (hands_after p hs) rest from.2)

  -- what is proved of each end
  closed_by : (parts : Parts J R) (ends : List (CpuEnd J R)) (counts : List (List ℕ)) (h : List Mark) → AreOfOneOpen parts → map (λ e. e.part) ends ≡ cpu_parts (processors_in parts) (hands_in parts)
      → All (EndsAs (views_at_close parts ends) (processors_of ends)) ends → Agrees (accounts_of parts ends) counts h → IsClosed (parts_board parts).processors h
  closed_by parts ends counts h one are each agrees =
      let views = views_at_close parts ends in
      subst (λ n. IsClosed n h) (length-map ends (account_of views) ∙ as_many parts ends one are)
      (histories.closed (accounts_of parts ends) counts h (are_accounts views ends each) agrees)

  pub closed_answer : (parts : Parts J R) (closed : Closed J R) (counts : List (List ℕ)) (h : List Mark) → AreOfOneOpen parts → (answer : AccountsFor parts closed)
      → Agrees (accounts_of parts answer.ends) counts h → IsClosed (parts_board parts).processors h
  closed_answer parts closed counts h one answer agrees = closed_by parts answer.ends counts h one answer.parts_are answer.closes agrees

  pub sound_answer : (key_of : J → ℕ) (gives : ℕ → R → Type 0) (parts : Parts J R) (closed : Closed J R) (counts : List (List ℕ)) (h : List Mark) → AreOfOneOpen parts → (answer : ClosesWith key_of gives parts closed)
      → Agrees (accounts_of parts answer.ends) counts h → IsClosed (parts_board parts).processors h
  sound_answer key_of gives parts closed counts h one answer agrees =
      let views = views_at_close parts answer.ends in
      closed_by parts answer.ends counts h one answer.parts_are
      (All-weaker (ClosesAs key_of gives views (processors_of answer.ends)) (EndsAs views (processors_of answer.ends)) (λ e c. c.ends) answer.ends answer.closes) agrees

  pub row_answered : (parts : Parts J R) (closed : Closed J R) → AreOfOneOpen parts → (answer : AccountsFor parts closed) → InRow 0 answer.ends
  row_answered parts closed one answer = in_row 0 (parts_board parts) answer.ends (processors_in parts) (hands_in parts) answer.parts_are one.processors

  pub readers_waited : (parts : Parts J R) (closed : Closed J R) (counts : List (List ℕ)) (steps : List Step) → AreOfOneOpen parts → (answer : AccountsFor parts closed)
      → Agrees (accounts_of parts answer.ends) counts (history_of steps) → ReportsOutside steps → WaitsForReaders (parts_board parts).processors steps
  readers_waited parts closed counts steps one answer agrees outside = waits (parts_board parts).processors steps (closed_answer parts closed counts (history_of steps) one answer agrees).lawful outside

  pub runs_before_readers : (parts : Parts J R) (closed : Closed J R) (counts : List (List ℕ)) (steps : List Step) → AreOfOneOpen parts → (answer : AccountsFor parts closed)
      → Agrees (accounts_of parts answer.ends) counts (history_of steps) → ReportsOutside steps → RunsBeforeReaders (parts_board parts).processors steps
  runs_before_readers parts closed counts steps one answer agrees outside = runs_before (parts_board parts).processors steps (closed_answer parts closed counts (history_of steps) one answer agrees).lawful outside

  -- ---- what is answered

  pub reports_answered : (parts : Parts J R) (closed : Closed J R) (answer : AccountsFor parts closed) → closed.reports.items ≡ map (λ a. a.reports) (accounts_of parts answer.ends)
  reports_answered parts closed answer = answer.reports ∙ sym (map-map (λ (a : Account). a.reports) (account_of (views_at_close parts answer.ends)) answer.ends)

  pub ran_answered : (parts : Parts J R) (closed : Closed J R) → KeepWhole parts → (answer : AccountsFor parts closed)
      → map (λ v. map (λ r. r.key) v.items) closed.ran.items ≡ map (λ a. a.ran) (accounts_of parts answer.ends)
  ran_answered parts closed keep answer =
      let keys = map (λ (r : Record R). r.key) in
      let all : AnswersAll parts closed answer = answers_all _ (λ es ends k d lt. (ends k d lt).whole) parts closed keep answer in
      sym (map-map keys (λ v. v.items) closed.ran.items) ∙ ap (map keys) all ∙ map-map keys (λ (e : CpuEnd J R). e.ran) answer.ends
      ∙ sym (map-map (λ (a : Account). a.ran) (account_of (views_at_close parts answer.ends)) answer.ends)

  -- the jobs that come back have the keys of the callbacks that are left
  back_keys : (key_of : J → ℕ) (gives : ℕ → R → Type 0) (views processors : List View) (es : List (CpuEnd J R)) → All (ClosesAs key_of gives views processors) es
      → map (λ e. map key_of e.back) es ≡ map (λ e. map (λ c. c.key) (calls_left e)) es
  back_keys key_of gives views processors [] h = refl
  back_keys key_of gives views processors (e ∷ es) h =
      let c = All-head (ClosesAs key_of gives views processors) e es h in
      let first : map key_of e.back ≡ map (λ (d : Callback J). d.key) (calls_left e) = c.sound.back_is ∙ keys_left views processors e c.ends in
      ap (λ (l : List ℕ). l ∷ map (λ (d : CpuEnd J R). map key_of d.back) es) first
      ∙ ap (λ l. map (λ (d : Callback J). d.key) (calls_left e) ∷ l) (back_keys key_of gives views processors es (All-tail (ClosesAs key_of gives views processors) e es h))

  pub back_answered : (key_of : J → ℕ) (gives : ℕ → R → Type 0) (parts : Parts J R) (closed : Closed J R) (answer : ClosesWith key_of gives parts closed)
      → map (λ v. map key_of v.items) closed.back.items ≡ map (λ a. a.back) (accounts_of parts answer.ends)
  back_answered key_of gives parts closed answer =
      let views = views_at_close parts answer.ends in
      sym (map-map (map key_of) (λ v. v.items) closed.back.items) ∙ ap (map (map key_of)) answer.back ∙ map-map (map key_of) (λ (e : CpuEnd J R). e.back) answer.ends
      ∙ back_keys key_of gives views (processors_of answer.ends) answer.ends answer.closes
      ∙ sym (map-map (λ (a : Account). a.back) (account_of views) answer.ends)
