-- Calls one after another, and what they answer.
use Rattle.std.proofs.Common.{◌≡◌, ℕ, zero, suc, ◌+◌, ◌*◌, ◌%◌, ◌<◌, ◌≤◌, take, get_or, List, [], ◌∷◌, ◌++◌, map, length, length-append, append-nil, append_assoc, ap, sym, ◌∙◌, subst, refl, arith}
use Rattle.std.specs.Prelude.{All, IfErr, IfOk, MatchResult, Result}
use Rattle.std.specs.Prelude.{Ok, Err}
use Rattle.std.specs.List.{AllZip}
use Rattle.std.proofs.Math.Seq.{take-suc}
use Rattle.std.proofs.lemmas.List.{length-map, map-append, nil_from_length}
use Rattle.std.proofs.lemmas.List.Elements.{All-append, All-cons, All-head, All-nil, All-tail, All-weaker}
use Rattle.rcu_board.proofs.Facts.{accepted-looked}
use Rattle.rcu_board.specs.Seats.{SawShut, accepted_of}
use Rattle.rcu_board.specs.Views.{seen_at}
use Rattle.rcu_board.specs.Words.{accepts_word, words_of}
use Rattle.rcu_board.specs.declared.view.Accepted.{Accepted as Entry}
use Rattle.rcu_board.proofs.Stepping.{has_words, seen_here}
use Rattle.rcu_part_order.specs.Places.{keys_of}
use Rattle.rcu_part_steps.specs.Places.{accepted_entry, accepted_list}
use Rattle.rcu_jobs.specs.Refusals.{job_of}
use Rattle.rcu_jobs.specs.declared.answers.Refused.{Refused}
use Rattle.rcu_jobs.specs.declared.answers.Refused.TheVariants.{Limit, Memory, Closed}
use Rattle.rcu_jobs.specs.declared.answers.Ticket.{Ticket}
use Rattle.rcu_lists.specs.declared.pace.Kind.{Kind}
use Rattle.rcu_part_processor.specs.Calls.{IsAccepted, IsRefusedAs, KeepsAll}
use Rattle.rcu_part_processor.specs.Processors.{AcceptedStays, IsSound, SameProcessor, board_of, view_of}
use Rattle.rcu_part_processor.specs.declared.processor.Processor.{Processor}
use Rattle.rcu_part_processor.specs.declared.processor.ProcessorState.{ProcessorState}
use Rattle.rcu_part_threads.proofs.Zips.{zip_along}
use Rattle.rcu_part_threads.specs.Calls.{AreRefusalsBy, CallsInTurn, CallsThenTurns, HasAnswered, HaveAnswered, IsRefusalBy, keys_in}
use Rattle.rcu_part_threads.specs.Dealing.{AreInOrder, IsAnswer, accepted_jobs, accepted_keys, ticket, tickets_from, tickets_in}
use Rattle.rcu_part_threads.specs.Parts.{ProcessorStays}
use Rattle.rcu_part_threads.proofs.Tickets.{called_again, called_later, called_more, called_once, called_still, calls_none}
use Rattle.rcu_lemmas.proofs.Zips.{zip_push}

module _ {J : Type 0} where
  pub tickets-append : (as' bs : List (Result Ticket (Refused J))) → tickets_in (as' ++ bs) ≡ tickets_in as' ++ tickets_in bs
  tickets-append [] bs = refl
  tickets-append (Ok t ∷ as') bs = ap (λ l. t ∷ l) (tickets-append as' bs)
  tickets-append (Err r ∷ as') bs = tickets-append as' bs

  jobs-append : (js : List J) (as' : List (Result Ticket (Refused J))) (j : J) (a : Result Ticket (Refused J)) → AllZip IsAnswer js as' → accepted_jobs (js ++ j ∷ []) (as' ++ a ∷ []) ≡ accepted_jobs js as' ++ accepted_jobs (j ∷ []) (a ∷ [])
  jobs-append [] [] j a h = refl
  jobs-append [] (b ∷ bs) j a h = absurd h
  jobs-append (k ∷ ks) [] j a h = absurd h
  jobs-append (k ∷ ks) (Ok t ∷ bs) j a h = ap (λ l. k ∷ l) (jobs-append ks bs j a h.1)
  jobs-append (k ∷ ks) (Err r ∷ bs) j a h = jobs-append ks bs j a h.1

  -- as many tickets as jobs that were accepted
  as_many : (js : List J) (as' : List (Result Ticket (Refused J))) → AllZip IsAnswer js as' → length (accepted_jobs js as') ≡ length (tickets_in as')
  as_many [] [] h = refl
  as_many [] (b ∷ bs) h = absurd h
  as_many (k ∷ ks) [] h = absurd h
  as_many (k ∷ ks) (Ok t ∷ bs) h = ap suc (as_many ks bs h.1)
  as_many (k ∷ ks) (Err r ∷ bs) h = as_many ks bs h.1

  -- the tickets of one answer more
  pub tickets_next : (all : List (Result Ticket (Refused J))) (i : ℕ) (a : Result Ticket (Refused J)) (before now : List Ticket) → i < length all → get_or all i a ≡ a → before ≡ now ++ tickets_in (take i all)
      → before ++ tickets_in (a ∷ []) ≡ now ++ tickets_in (take (i + 1) all)
  tickets_next all i a before now low is so_far =
      let next : i + 1 ≡ suc i = omega arith in
      let taken : take (i + 1) all ≡ take i all ++ a ∷ [] = ap (λ n. take n all) next ∙ (take-suc all i a low ∙ ap (λ x. take i all ++ x ∷ []) is) in
      ap (λ l. l ++ tickets_in (a ∷ [])) so_far ∙ (append_assoc now (tickets_in (take i all)) (tickets_in (a ∷ []))
      ∙ ap (λ l. now ++ l) (sym (tickets-append (take i all) (a ∷ [])) ∙ ap (λ l. tickets_in l) (sym taken)))

-- the tickets of so many numbers, and then of so many more
from_append : (cpu before mid n m : ℕ) → mid ≡ before + n → tickets_from cpu before (n + m) ≡ tickets_from cpu before n ++ tickets_from cpu mid m
from_append cpu before mid zero m at =
    let same : mid ≡ before = omega (arith, at) in let none : 0 + m ≡ m = omega arith in
    ap (tickets_from cpu before) none ∙ ap (λ k. tickets_from cpu k m) (sym same)
from_append cpu before mid (suc n) m at =
    let one : suc n + m ≡ suc (n + m) = omega arith in
    ap (tickets_from cpu before) one ∙ ap (λ l. ticket cpu before ∷ l) (from_append cpu (before + 1) mid n m (omega (arith, at)))

in_order_append : (cpu before mid : ℕ) (ts us : List Ticket) → mid ≡ before + length ts → AreInOrder cpu before ts → AreInOrder cpu mid us → AreInOrder cpu before (ts ++ us)
in_order_append cpu before mid ts us at own more =
    ap (λ l. l ++ us) own ∙ (ap (λ l. tickets_from cpu before (length ts) ++ l) more
    ∙ (sym (from_append cpu before mid (length ts) (length us) at) ∙ ap (tickets_from cpu before) (sym (length-append ts us))))

module _ {J R : Type 0} where
  -- a refusal keeps its reason
  refusal_stays : (q r : ProcessorState J R) (x : Refused J) → SameProcessor q r → q.accepted ≤ r.accepted → IsRefusalBy q x → IsRefusalBy r x
  refusal_stays q r (Limit back) same count why = let most = r.small in let limit = same.limit in omega (arith, most, limit, count, why)
  refusal_stays q r (Memory back) same count why = tt
  refusal_stays q r (Closed back) same count why =
      let shut : SawShut q.cpu (view_of r) = ap (λ n. n % 2) ((same.part.seat.later (board_of q) q.here).shut q.cpu q.there why) ∙ why in
      subst (λ c. SawShut c (view_of r)) (sym same.cpu) shut

  answer_stays : (q r : ProcessorState J R) (a : Result Ticket (Refused J)) → SameProcessor q r → q.accepted ≤ r.accepted → IfErr a (IsRefusalBy q) → IfErr a (IsRefusalBy r)
  answer_stays q r (Ok t) same count why = tt
  answer_stays q r (Err x) same count why = refusal_stays q r x same count why

  pub refusals_stay : (q r : ProcessorState J R) (as' : List (Result Ticket (Refused J))) → SameProcessor q r → q.accepted ≤ r.accepted → AreRefusalsBy q as' → AreRefusalsBy r as'
  refusals_stay q r as' same count why = All-weaker (λ a. IfErr a (IsRefusalBy q)) (λ a. IfErr a (IsRefusalBy r)) (λ a h. answer_stays q r a same count h) as' why

  -- why a call refused
  refused_by : (job : J) (x : Refused J) (p q : ProcessorState J R) → SameProcessor p q → KeepsAll p q → IsRefusedAs job x p q → IsRefusalBy q x
  refused_by job (Limit back) p q same keeps why = keeps.count ∙ (why.1 ∙ sym same.limit)
  refused_by job (Memory back) p q same keeps why = tt
  refused_by job (Closed back) p q same keeps why =
      let there = p.there in
      let seen : seen_at (view_of q) (accepts_word p.cpu) ≡ 2 * p.accepted + 1 = ap (λ v. seen_at v (accepts_word p.cpu)) why.1
      ∙ seen_here (words_of (board_of p).processors) (accepts_word p.cpu) (2 * p.accepted + 1) (view_of p) (has_words (board_of p) p.seat p.here) (omega (arith, there)) in
      let shut : SawShut p.cpu (view_of q) = omega (arith, seen) in
      subst (λ c. SawShut c (view_of q)) (sym same.cpu) shut

-- what an answer says, by the clauses for each of the two
pub called_as : {T E : Type 0} (r : Result T E) (P : T → Type 0) (Q S : E → Type 0) → IfOk r P → IfErr r Q → IfErr r S → MatchResult r P (λ e. Q e × S e)
called_as (Ok t) P Q S ok err why = ok
called_as (Err e) P Q S ok err why = (err, why)

-- one call more
pub calls_more : {J R : Type 0} (key_of : J → ℕ) (m n : ℕ) (js : List J) (as' : List (Result Ticket (Refused J))) (j : J) (a : Result Ticket (Refused J)) (p q r : ProcessorState J R) → n ≡ m + length js → CallsInTurn key_of m js as' p q → CallsThenTurns key_of n j a q r
    → CallsInTurn key_of m (js ++ j ∷ []) (as' ++ a ∷ []) p r
calls_more key_of m n [] [] j a p q r at before last = let now : n ≡ m = omega (arith, at) in
    (r, subst (λ s. CallsThenTurns key_of m j a s r) before (subst (λ k. CallsThenTurns key_of k j a q r) now last), refl)
calls_more key_of m n [] (b ∷ bs) j a p q r at before last = absurd before
calls_more key_of m n (k ∷ ks) [] j a p q r at before last = absurd before
calls_more key_of m n (k ∷ ks) (b ∷ bs) j a p q r at before last =
    (before.0, before.1, calls_more key_of (m + 1) n ks bs j a before.0 q r (omega (arith, at)) before.2 last)

module _ {J R : Type 0} (key_of : J → ℕ) (gives : ℕ → R → Type 0) where
  pub answered_none : (p : Processor J R) → HasAnswered key_of gives [] [] p p
  answered_none p = record { called = calls_none key_of gives [] p; answered = tt; numbers = refl; why = All-nil (λ a. IfErr a (IsRefusalBy p.state)); keys = sym (append-nil (keys_in p)) }

  counted : (p : Processor J R) → length (keys_in p) ≡ p.state.accepted
  counted p = length-map (accepted_list (view_of p.state)) (λ a. a.key) ∙ (length-map (accepted_of (view_of p.state)) accepted_entry ∙ p.state.lawful.counted)

  -- a processor's count afterwards
  count_after : (js : List J) (as' : List (Result Ticket (Refused J))) (p q : Processor J R) → HasAnswered key_of gives js as' p q → q.state.accepted ≡ p.state.accepted + length (tickets_in as')
  count_after js as' p q x =
      let all = ap (λ (l : List ℕ). length l) x.keys in let both = length-append (keys_in p) (map key_of (accepted_jobs js as')) in
      let own = length-map (accepted_jobs js as') key_of in let many = as_many js as' x.answered in let before = counted p in let after = counted q in
      omega (arith, all, both, own, many, before, after)

  -- a call after others
  pub answered_more : (js : List J) (as' : List (Result Ticket (Refused J))) (j : J) (a : Result Ticket (Refused J)) (p q r : Processor J R) → HasAnswered key_of gives js as' p q → HasAnswered key_of gives (j ∷ []) (a ∷ []) q r → HasAnswered key_of gives (js ++ j ∷ []) (as' ++ a ∷ []) p r
  answered_more js as' j a p q r x y =
      let all = tickets_in (as' ++ a ∷ []) in let joined = tickets-append as' (a ∷ []) in record {
        called = called_again key_of gives all p q r (called_more key_of gives (tickets_in as') (tickets_in (a ∷ [])) all p q joined x.called) (called_later key_of gives (tickets_in as') (tickets_in (a ∷ [])) all q r joined y.called);
        answered = zip_push IsAnswer js as' j a x.answered y.answered.0;
        numbers = subst (λ l. AreInOrder p.state.cpu p.state.accepted l) (sym joined)
            (in_order_append p.state.cpu p.state.accepted q.state.accepted (tickets_in as') (tickets_in (a ∷ [])) (count_after js as' p q x) x.numbers (subst (λ c. AreInOrder c q.state.accepted (tickets_in (a ∷ []))) x.called.same.cpu y.numbers));
        why = All-append (λ b. IfErr b (IsRefusalBy r.state)) as' (a ∷ []) (refusals_stay q.state r.state as' y.called.same y.called.count x.why) y.why;
        keys = y.keys ∙ (ap (λ l. l ++ map key_of (accepted_jobs (j ∷ []) (a ∷ []))) x.keys
            ∙ (append_assoc (keys_in p) (map key_of (accepted_jobs js as')) (map key_of (accepted_jobs (j ∷ []) (a ∷ [])))
            ∙ ap (λ l. keys_in p ++ l) (sym (map-append key_of (accepted_jobs js as') (accepted_jobs (j ∷ []) (a ∷ []))) ∙ ap (map key_of) (sym (jobs-append js as' j a x.answered)))));
      }

  -- a report or a tick after calls
  pub answered_still : (js : List J) (as' : List (Result Ticket (Refused J))) (p q r : Processor J R) → r.state.accepted ≡ q.state.accepted → SameProcessor q.state r.state → AcceptedStays q.state r.state → (IsSound key_of gives q.state → IsSound key_of gives r.state)
      → HasAnswered key_of gives js as' p q → HasAnswered key_of gives js as' p r
  answered_still js as' p q r count same stays sound x = record {
    called = called_again key_of gives (tickets_in as') p q r x.called (called_still key_of gives (tickets_in as') q r count same sound);
    answered = x.answered;
    numbers = x.numbers;
    why = refusals_stay q.state r.state as' same (omega (arith, count)) x.why;
    keys = ap (λ (l : List Entry). keys_of (map accepted_entry l)) stays ∙ x.keys;
  }

  keys_still : (p q : Processor J R) → accepted_of (view_of q.state) ≡ accepted_of (view_of p.state) → keys_in q ≡ keys_in p ++ []
  keys_still p q e = ap (λ (l : List Entry). keys_of (map accepted_entry l)) e ∙ sym (append-nil (keys_in p))

  refused_keeps : (job : J) (r : Refused J) (p q : Processor J R) → IsRefusedAs job r p.state q.state → (job_of r ≡ job) × (accepted_of (view_of q.state) ≡ accepted_of (view_of p.state))
  refused_keeps job (Limit back) p q h = (h.0, ap accepted_of h.2)
  refused_keeps job (Memory back) p q h = (h.0, ap accepted_of h.1)
  refused_keeps job (Closed back) p q h = (h.0, ap accepted_of h.1)

  -- one call
  pub answered_by : (moment : ℕ) (kind : Kind) (job : J) (answer : Result Ticket (Refused J)) (p q : Processor J R) → SameProcessor p.state q.state → IfOk answer (λ t. IsAccepted moment kind (key_of job) job t p.state q.state) → IfErr answer (λ _. KeepsAll p.state q.state) → IfErr answer (λ r. IsRefusedAs job r p.state q.state)
      → (IsSound key_of gives p.state → IsSound key_of gives q.state) → HasAnswered key_of gives (job ∷ []) (answer ∷ []) p q
  answered_by moment kind job (Ok t) p q same ok keeps refused sound =
      let s = p.state in record {
        called = called_once key_of gives t [] (t ∷ []) p q refl ok.cpu ok.number ok.count same sound;
        answered = (tt, tt);
        numbers = ap (λ u. u ∷ []) (ap (λ c. ticket c t.number) ok.cpu ∙ ap (λ n. ticket s.cpu n) ok.number);
        why = All-cons (λ a. IfErr a (IsRefusalBy q.state)) (Ok t) [] tt (All-nil (λ a. IfErr a (IsRefusalBy q.state)));
        keys =
            let list = ap accepted_of ok.steps ∙ accepted-looked s.seat s.cpu (accepts_word s.cpu) (2 * s.accepted + 2) (key_of job) ok.stamp s.role in
            ap (λ (l : List Entry). keys_of (map accepted_entry l)) list ∙ (ap keys_of (map-append accepted_entry (accepted_of (view_of s)) _) ∙ map-append _ _ _);
      }
  answered_by moment kind job (Err r) p q same ok keeps refused sound =
      let why = refused_keeps job r p q refused in record {
        called = called_still key_of gives [] p q keeps.count same sound;
        answered = (why.0, tt);
        numbers = refl;
        why = All-cons (λ a. IfErr a (IsRefusalBy q.state)) (Err r) [] (refused_by job r p.state q.state same keeps refused) (All-nil (λ a. IfErr a (IsRefusalBy q.state)));
        keys = keys_still p q why.1;
      }

  stays_keys : (qs rs : List (Processor J R)) → AllZip (ProcessorStays key_of gives) qs rs → map (λ q. keys_in q) rs ≡ map (λ q. keys_in q) qs
  stays_keys [] [] h = refl
  stays_keys [] (r ∷ rs) h = absurd h
  stays_keys (q ∷ qs) [] h = absurd h
  stays_keys (q ∷ qs) (r ∷ rs) h =
      let same : keys_in r ≡ keys_in q = ap (λ (l : List Entry). keys_of (map accepted_entry l)) h.0.accepted in
      let rest = stays_keys qs rs h.1 in
      ap (λ l. l ∷ map (λ q. keys_in q) rs) same ∙ ap (λ l. keys_in q ∷ l) rest

  none_before : (p : Processor J R) → p.state.accepted ≡ 0 → keys_in p ≡ []
  none_before p none =
      let empty : accepted_of (view_of p.state) ≡ [] = nil_from_length (accepted_of (view_of p.state)) (p.state.lawful.counted ∙ none) in
      ap (λ (l : List Entry). keys_of (map accepted_entry l)) empty

  module _ {C D : Type 0} (processor : C → Processor J R) (jobs : C → List J) (after : D → Processor J R) (answers : D → List (Result Ticket (Refused J))) where
    abbrev Called : C → D → Type 0
    Called c d = HasAnswered key_of gives (jobs c) (answers d) (processor c) (after d)

    each_answered : (cs : List C) (ds : List D) → AllZip Called cs ds → AllZip (AllZip IsAnswer) (map jobs cs) (map answers ds)
    each_answered [] [] h = tt
    each_answered [] (d ∷ ds) h = absurd h
    each_answered (c ∷ cs) [] h = absurd h
    each_answered (c ∷ cs) (d ∷ ds) h = (h.0.answered, each_answered cs ds h.1)

    each_keys : (cs : List C) (ds : List D) → AllZip Called cs ds → All (λ c. (processor c).state.accepted ≡ 0) cs → map (λ q. keys_in q) (map after ds) ≡ accepted_keys key_of (map jobs cs) (map answers ds)
    each_keys [] [] h none = refl
    each_keys [] (d ∷ ds) h none = absurd h
    each_keys (c ∷ cs) [] h none = absurd h
    each_keys (c ∷ cs) (d ∷ ds) h none =
        let Unused = λ (x : C). (processor x).state.accepted ≡ 0 in
        let own : keys_in (after d) ≡ map key_of (accepted_jobs (jobs c) (answers d)) = h.0.keys ∙ ap (λ l. l ++ map key_of (accepted_jobs (jobs c) (answers d))) (none_before (processor c) (All-head Unused c cs none)) in
        ap (λ l. l ∷ map (λ q. keys_in q) (map after ds)) own ∙ ap (λ l. map key_of (accepted_jobs (jobs c) (answers d)) ∷ l) (each_keys cs ds h.1 (All-tail Unused c cs none))

    -- what each says of the processor afterwards
    each_after : (P : Processor J R → List (Result Ticket (Refused J)) → Type 0) → ((c : C) (d : D) → Called c d → (processor c).state.accepted ≡ 0 → P (after d) (answers d))
        → (cs : List C) (ds : List D) → AllZip Called cs ds → All (λ c. (processor c).state.accepted ≡ 0) cs → AllZip P (map after ds) (map answers ds)
    each_after P f [] [] h none = tt
    each_after P f [] (d ∷ ds) h none = absurd h
    each_after P f (c ∷ cs) [] h none = absurd h
    each_after P f (c ∷ cs) (d ∷ ds) h none =
        let Unused = λ (x : C). (processor x).state.accepted ≡ 0 in
        (f c d h.0 (All-head Unused c cs none), each_after P f cs ds h.1 (All-tail Unused c cs none))

    -- the tickets of a processor that had accepted nothing
    abbrev Tickets : Processor J R → List (Result Ticket (Refused J)) → Type 0
    Tickets q own = AreInOrder q.state.cpu 0 (tickets_in own)

    tickets_after : (c : C) (d : D) → Called c d → (processor c).state.accepted ≡ 0 → Tickets (after d) (answers d)
    tickets_after c d x none = subst (λ n. AreInOrder n 0 (tickets_in (answers d))) (sym x.called.same.cpu) (subst (λ n. AreInOrder (processor c).state.cpu n (tickets_in (answers d))) none x.numbers)

    abbrev Refusals : Processor J R → List (Result Ticket (Refused J)) → Type 0
    Refusals q own = AreRefusalsBy q.state own

    -- Processors that had accepted nothing called, and then ran.
    pub all_answered : (cs : List C) (ds : List D) (qs rs : List (Processor J R)) (own : List (List (Result Ticket (Refused J)))) → qs ≡ map after ds → own ≡ map answers ds → AllZip Called cs ds → AllZip (ProcessorStays key_of gives) qs rs
        → All (λ c. (processor c).state.accepted ≡ 0) cs → HaveAnswered key_of (map jobs cs) own rs
    all_answered cs ds qs rs own after_is answers_are called stayed none = record {
      answered = subst (λ (l : List (List (Result Ticket (Refused J)))). AllZip (AllZip IsAnswer) (map jobs cs) l) (sym answers_are) (each_answered cs ds called);
      tickets = zip_along Tickets Tickets (ProcessorStays key_of gives) (λ q r a k n. subst (λ c. AreInOrder c 0 (tickets_in a)) (sym k.same.cpu) n) qs rs own stayed
          (along Tickets (each_after Tickets tickets_after cs ds called none));
      why = zip_along Refusals Refusals (ProcessorStays key_of gives) (λ q r a k w. refusals_stay q.state r.state a k.same (let same = k.count in omega (arith, same)) w) qs rs own stayed
          (along Refusals (each_after Refusals (λ c d x unused. x.why) cs ds called none));
      keys = stays_keys qs rs stayed ∙ (ap (λ l. map (λ q. keys_in q) l) after_is ∙ (each_keys cs ds called none ∙ ap (λ l. accepted_keys key_of (map jobs cs) l) (sym answers_are)));
    } where
      along : (P : Processor J R → List (Result Ticket (Refused J)) → Type 0) → AllZip P (map after ds) (map answers ds) → AllZip P qs own
      along P z = subst (λ l. AllZip P l own) (sym after_is) (subst (λ l. AllZip P (map after ds) l) (sym answers_are) z)
