-- What the calls of the parts answer, as the lines of the commands say it.
use Rattle.std.proofs.Common.{◌≡◌, ◌≢◌, ℕ, ◌≤◌, ◌<◌, List, length, All, Result, Ok, Err, IfOk, IfErr, true, false, if◌then◌else◌, nat_lt, arith, refl, subst, sym, ◌∙◌}
use Rattle.std.proofs.lemmas.Bool.Decides.{nat_tests}
use Rattle.rcu_jobs.specs.declared.answers.Refused.{Refused}
use Rattle.rcu_jobs.specs.declared.answers.Ticket.{Ticket}
use Rattle.rcu_lists.specs.declared.pace.Kind.{Kind}
use Rattle.rcu_part_processor.specs.Calls.{IsAccepted, IsRefusedAs, KeepsAll}
use Rattle.rcu_part_hand.specs.declared.hand.Hand.{Hand}
use Rattle.rcu_part_processor.specs.declared.processor.Processor.{Processor}
use Rattle.rcuo_script.specs.declared.lines.Line.{Line}
use Rattle.rcuo_script.specs.declared.lines.Line.TheVariants.{Refused as refused_by}
use Rattle.rcuo_script.specs.declared.lines.Verb.{Verb}
use Rattle.rcuo_script.specs.declared.lines.Verb.TheVariants as verb
use Rattle.rcuo_replay.specs.Outcomes.{Calls, IsHand, kind_of}

module _ {J R : Type 0} (key_of : J → ℕ) (v : Verb) (moment : ℕ) (job : J) where
  answered : (r : Result Ticket (Refused J)) (p q : Processor J R) → IfOk r (λ t. IsAccepted moment (kind_of v) (key_of job) job t p.state q.state) → IfErr r (λ _. KeepsAll p.state q.state) → IfErr r (λ e. IsRefusedAs job e p.state q.state)
      → Calls key_of v moment job r p q
  answered (Ok t) p q ok keeps refused = ok
  answered (Err e) p q ok keeps refused = (keeps, refused)

  pub call_made : (r : Result Ticket (Refused J)) (p q : Processor J R) (kind : Kind) → kind ≡ kind_of v → IfOk r (λ t. IsAccepted moment kind (key_of job) job t p.state q.state) → IfErr r (λ _. KeepsAll p.state q.state)
      → IfErr r (λ e. IsRefusedAs job e p.state q.state) → Calls key_of v moment job r p q
  call_made r p q kind is ok keeps refused = answered r p q (subst (λ k. IfOk r (λ t. IsAccepted moment k (key_of job) job t p.state q.state)) is ok) keeps refused

-- a hand's turn of a processor that isn't offloadable
pub hand_of_local : {J R : Type 0} (n cpu : ℕ) (hs : List (Hand J R)) (l : Line) → cpu < n → All (λ h. h.state.hand.cpu ≢ cpu) hs → l ≡ refused_by verb.Hand cpu 5 → IsHand n cpu l hs hs
hand_of_local n cpu hs l within none is =
    let t : nat_lt cpu n ≡ true = grind (arith, nat_tests) in
    let e : refused_by verb.Hand cpu 5 ≡ refused_by verb.Hand cpu (if nat_lt cpu n then 5 else 6) = rw t in
    subst (λ x. IsHand n cpu x hs hs) (sym is) (none, e, refl)

-- a hand's turn of a processor that isn't there
pub no_hand : {J R : Type 0} (n cpu : ℕ) (hs : List (Hand J R)) (l : Line) → n ≤ cpu → All (λ h. h.state.hand.cpu ≢ cpu) hs → l ≡ refused_by verb.Hand cpu 6 → IsHand n cpu l hs hs
no_hand n cpu hs l past none is =
    let t : nat_lt cpu n ≡ false = grind (arith, nat_tests) in
    let e : refused_by verb.Hand cpu 6 ≡ refused_by verb.Hand cpu (if nat_lt cpu n then 5 else 6) = rw t in
    subst (λ x. IsHand n cpu x hs hs) (sym is) (none, e, refl)

-- ---- a processor that is there, and one that isn't: n is the length that the code asked for

module _ {X : Type 0} (xs : List X) (k n all : ℕ) where
  pub is_there : n ≡ all → all ≡ length xs → k < n → k < length xs
  is_there e f h = subst (λ m. k < m) (e ∙ f) h

  pub is_past : n ≡ all → all ≡ length xs → n ≤ k → length xs ≤ k
  is_past e f h = subst (λ m. m ≤ k) (e ∙ f) h
