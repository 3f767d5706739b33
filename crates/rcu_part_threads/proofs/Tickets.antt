-- One call after another, and what tickets say of them.
use Rattle.std.proofs.Common.{◌≡◌, ℕ, zero, suc, ◌+◌, ◌*◌, ◌<◌, ◌≤◌, List, [], ◌∷◌, ◌++◌, sym, subst, arith}
use Rattle.std.specs.Prelude.{Option, Some, None, IfSome}
use Rattle.rcu_part_control.specs.Barriers.{AreCounted, IsOver, count_at}
use Rattle.rcu_part_control.specs.declared.driver.Driver.{Driver}
use Rattle.rcu_part_control.specs.Parts.{SameDriver}
use Rattle.rcu_jobs.specs.declared.Counts.{Counts}
use Rattle.std.specs.List.{AllZip, Contains}
use Rattle.std.proofs.Math.Decide.{dec_lt}
use Rattle.std.proofs.lemmas.List.Elements.{All-contains, All-contains_itself, All-head, Contains-append_left, Contains-append_right, All-weaker}
use mathlib.Core.Logic.{dite}
use Rattle.rcu_board.proofs.BoardSteps.{seen_else}
use Rattle.rcu_board.specs.Plays.{touched}
use Rattle.rcu_board.specs.Views.{seen_at}
use Rattle.rcu_board.specs.Words.{halt_word, turns_word}
use Rattle.rcu_board.specs.declared.view.View.{View}
use Rattle.rcu_jobs.specs.declared.answers.Ticket.{Ticket}
use Rattle.rcu_part_processor.specs.Processors.{IsSound, SameProcessor}
use Rattle.rcu_part_processor.specs.declared.processor.Processor.{Processor}
use Rattle.rcu_part_processor.proofs.TickRuns.{same_processor, same_processor_again}
use Rattle.rcu_part_threads.specs.Calls.{AreTickets, HasCalled}
use Rattle.rcu_part_threads.specs.Dealing.{ticket}
use Rattle.rcu_part_threads.specs.Parts.{GivesBack, ProcessorStays}
use Rattle.rcu_part_threads.specs.Runs.{AreOver, HasRun}
use Rattle.rcu_lemmas.proofs.Zips.{zip_chain, zip_pushed, zip_weaker}

-- a ticket is among more of them
tickets_more : (cpu before after : ℕ) (ts more us : List Ticket) → us ≡ ts ++ more → AreTickets cpu before after ts → AreTickets cpu before after us
tickets_more cpu before after ts more us e h = λ k low high. subst (λ l. Contains l (ticket cpu k)) (sym e) (Contains-append_left ts more (ticket cpu k) (h k low high))

-- the ticket of the one number that was accepted
one_ticket : (cpu before after : ℕ) (t : Ticket) (ts us : List Ticket) → t.cpu ≡ cpu → t.number ≡ before → after ≡ before + 1 → us ≡ ts ++ t ∷ [] → AreTickets cpu before after us
one_ticket cpu before after t ts us c n one e = λ k low high.
    let here : Contains us t = subst (λ l. Contains l t) (sym e) (Contains-append_right ts (t ∷ []) t (All-head (Contains (t ∷ [])) t [] (All-contains_itself (t ∷ [])))) in
    let same : t.number ≡ k = omega (arith, n, one, low, high) in
    subst (λ m. Contains us (ticket cpu m)) same (subst (λ d. Contains us (ticket d t.number)) c here)

-- where the tickets' callbacks have run, all that a processor accepted has
over_all : (v : View) (ts : List Ticket) (cpu n : ℕ) → AreTickets cpu 0 n ts → AreOver v ts → 2 * n ≤ seen_at v (turns_word cpu)
over_all v ts cpu zero h over = omega arith
over_all v ts cpu (suc k) h over =
    let last = All-contains (λ t. 2 * (t.number + 1) ≤ seen_at v (turns_word t.cpu)) ts (ticket cpu k) over (h k (omega arith) (omega arith)) in omega (arith, last)

-- setting the halt word leaves what was seen of the turn words
turns_stay : (v : View) (x cpu : ℕ) → seen_at (touched halt_word x v) (turns_word cpu) ≡ seen_at v (turns_word cpu)
turns_stay v x cpu = seen_else v halt_word x (turns_word cpu) (λ e. omega (arith, e))

module _ {J R : Type 0} (key_of : J → ℕ) (gives : ℕ → R → Type 0) where
  pub calls_none : (ts : List Ticket) (p : Processor J R) → HasCalled key_of gives ts p p
  calls_none ts p = record { same = same_processor p.state; count = omega arith; tickets_are = λ k low high. absurd (omega (arith, low, high)); sound = λ s. s }

  pub called_more : (ts more us : List Ticket) (p q : Processor J R) → us ≡ ts ++ more → HasCalled key_of gives ts p q → HasCalled key_of gives us p q
  called_more ts more us p q e h = record { same = h.same; count = h.count; tickets_are = tickets_more p.state.cpu p.state.accepted q.state.accepted ts more us e h.tickets_are; sound = h.sound }

  -- one call that was accepted
  pub called_once : (t : Ticket) (ts us : List Ticket) (p q : Processor J R) → us ≡ ts ++ t ∷ [] → t.cpu ≡ p.state.cpu → t.number ≡ p.state.accepted → q.state.accepted ≡ p.state.accepted + 1
      → SameProcessor p.state q.state → (IsSound key_of gives p.state → IsSound key_of gives q.state) → HasCalled key_of gives us p q
  called_once t ts us p q e c n one same sound = record { same = same; count = omega (arith, one); tickets_are = one_ticket p.state.cpu p.state.accepted q.state.accepted t ts us c n one e; sound = sound }

  -- nothing was accepted
  pub called_still : (ts : List Ticket) (p q : Processor J R) → q.state.accepted ≡ p.state.accepted → SameProcessor p.state q.state → (IsSound key_of gives p.state → IsSound key_of gives q.state) → HasCalled key_of gives ts p q
  called_still ts p q still same sound = record { same = same; count = omega (arith, still); tickets_are = λ k low high. absurd (omega (arith, low, high, still)); sound = sound }

  pub called_again : (ts : List Ticket) (p q r : Processor J R) → HasCalled key_of gives ts p q → HasCalled key_of gives ts q r → HasCalled key_of gives ts p r
  called_again ts p q r a b = record {
    same = same_processor_again p.state q.state r.state a.same b.same;
    count = let x = a.count in let y = b.count in omega (arith, x, y);
    tickets_are = λ k low high. dite (dec_lt k q.state.accepted) (λ before. a.tickets_are k low before) (λ after. subst (λ c. Contains ts (ticket c k)) a.same.cpu (b.tickets_are k (omega (arith, after)) high));
    sound = λ s. b.sound (a.sound s);
  }

  -- A processor called, and then ran until the callbacks of all tickets had run.
  pub has_run : (v : View) (ts : List Ticket) (p q r : Processor J R) → AreOver v ts → HasCalled key_of gives ts p q → ProcessorStays key_of gives q r → HasRun key_of gives v p r
  has_run v ts p q r over a b = record {
    same = same_processor_again p.state q.state r.state a.same b.same;
    sound = λ s. b.sound (a.sound s);
    over = λ none. let all = over_all v ts p.state.cpu q.state.accepted (subst (λ n. AreTickets p.state.cpu n q.state.accepted ts) none a.tickets_are) over in subst (λ n. 2 * n ≤ seen_at v (turns_word p.state.cpu)) (sym b.count) all;
  }

  -- the same once the halt word is set
  pub run_halted : (v w : View) (x : ℕ) (p q : Processor J R) → w ≡ touched halt_word x v → HasRun key_of gives v p q → HasRun key_of gives w p q
  run_halted v w x p q e h = record {
    same = h.same;
    sound = h.sound;
    over = λ none. subst (λ (u : View). 2 * q.state.accepted ≤ seen_at u (turns_word p.state.cpu)) (sym e) (subst (λ n. 2 * q.state.accepted ≤ n) (sym (turns_stay v x p.state.cpu)) (h.over none));
  }

  -- what one processor's tickets say is said by all tickets
  pub called_later : (ts own us : List Ticket) (p q : Processor J R) → us ≡ ts ++ own → HasCalled key_of gives own p q → HasCalled key_of gives us p q
  called_later ts own us p q e h = record {
    same = h.same;
    count = h.count;
    tickets_are = λ k low high. subst (λ l. Contains l (ticket p.state.cpu k)) (sym e) (Contains-append_right ts own (ticket p.state.cpu k) (h.tickets_are k low high));
    sound = h.sound;
  }

  -- one more processor has called
  pub joined_more : {H C : Type 0} (of : H → Processor J R) (to : C → Processor J R) (done : List H) (h : H) (qs rs : List C) (q : C) (ts own us : List Ticket) → us ≡ ts ++ own → rs ≡ qs ++ q ∷ [] → HasCalled key_of gives own (of h) (to q)
      → AllZip (λ t c. HasCalled key_of gives ts (of t) (to c)) done qs → AllZip (λ t c. HasCalled key_of gives us (of t) (to c)) (done ++ h ∷ []) rs
  joined_more of to done h qs rs q ts own us e pushed called before =
      zip_pushed (λ t c. HasCalled key_of gives us (of t) (to c)) done qs rs h q pushed
      (zip_weaker (λ t c. HasCalled key_of gives ts (of t) (to c)) (λ t c. HasCalled key_of gives us (of t) (to c)) (λ t c a. called_more ts own us (of t) (to c) e a) done qs before)
      (called_later ts own us (of h) (to q) e called)

  -- Each processor called, and then ran until the callbacks of all tickets had run; then the halt word was set.
  pub all_run : (v w : View) (x : ℕ) (ts : List Ticket) (ps qs rs : List (Processor J R)) → w ≡ touched halt_word x v → AreOver v ts → AllZip (HasCalled key_of gives ts) ps qs → AllZip (ProcessorStays key_of gives) qs rs → AllZip (HasRun key_of gives w) ps rs
  all_run v w x ts ps qs rs e over called stayed =
      zip_chain (HasCalled key_of gives ts) (ProcessorStays key_of gives) (HasRun key_of gives w) (λ p q r a b. run_halted v w x p r e (has_run v ts p q r over a b)) ps qs rs called stayed

  pub all_halted : (v w : View) (x : ℕ) (ps rs : List (Processor J R)) → w ≡ touched halt_word x v → AllZip (HasRun key_of gives v) ps rs → AllZip (HasRun key_of gives w) ps rs
  all_halted v w x ps rs e ran = zip_weaker (HasRun key_of gives v) (HasRun key_of gives w) (λ p r h. run_halted v w x p r e h) ps rs ran

-- A barrier that counts these tickets' callbacks is over: they have run.
pub over_tickets : (counts : Counts) (v : View) (ts : List Ticket) → IsOver counts v → AreCounted counts ts → AreOver v ts
over_tickets counts v ts over counted =
    All-weaker (λ t. (t.cpu < counts.n) × (t.number < count_at counts t.cpu)) (λ t. 2 * (t.number + 1) ≤ seen_at v (turns_word t.cpu)) (λ t c. let past = over t.cpu c.0 in let low = c.1 in omega (arith, past, low)) ts counted

-- What the driver's thread gave back is the driver that it was given.
pub driver_kept : {H : Type 0} (of : H → Driver) (t : Option H) (d e : Driver) → IfSome t (λ h. of h ≡ d) → GivesBack of t e → SameDriver d e
driver_kept of None d e started kept = absurd kept
driver_kept of (Some h) d e started kept = subst (λ x. SameDriver x e) started kept.same
