-- What the steps of a call change of the view of a processor or a hand, beside sights and tallies:
-- docs/specification/definitions.md, "The running parts: views".
use Rattle.std.specs.Prelude.{◌≡◌, ◌≢◌, ℕ, ◌+◌, ◌*◌, ◌≤◌, [], ◌∷◌, ◌++◌, None}
use Rattle.rcu_board.specs.Plays.{claiming, finished}
use Rattle.rcu_board.specs.Words.{turns_word}
use Rattle.rcu_board.specs.Views.{seen_at, sight, tally}
use Rattle.rcu_board.specs.Seats.{accepted_of, fresh_of, own_word}
use Rattle.rcu_board.specs.declared.view.Accepted.{Accepted}
use Rattle.rcu_board.specs.declared.view.Claim.{Claim}
use Rattle.rcu_board.specs.declared.view.View.{View}
use Rattle.rcu_board.specs.Frames.{Untouched}

abbrev pub entry : ℕ → ℕ → Accepted
entry key stamp = record { key = key; stamp = stamp }

-- no list changed
pub record Keeps (v w : View) : Type 0 where
  pub accepted : accepted_of w ≡ accepted_of v
  pub fresh : fresh_of w ≡ fresh_of v
  pub word : own_word w ≡ own_word v
  pub claims : w.claims ≡ v.claims
  pub running : w.running ≡ v.running

-- one more number was accepted, and has its stamp
pub record Enters (key stamp : ℕ) (v w : View) : Type 0 where
  pub accepted : accepted_of w ≡ accepted_of v ++ entry key stamp ∷ []
  pub fresh : fresh_of w ≡ None
  pub word : own_word w ≡ own_word v
  pub claims : w.claims ≡ v.claims
  pub running : w.running ≡ v.running

abbrev pub claim_at : ℕ → ℕ → View → Claim
claim_at cpu number v = record { cpu = cpu; number = number; sight = sight v }

-- a claim was won, at the board sight that there is, and runs
pub record Claims (cpu number : ℕ) (v w : View) : Type 0 where
  pub accepted : accepted_of w ≡ accepted_of v
  pub fresh : fresh_of w ≡ fresh_of v
  pub word : own_word w ≡ own_word v
  pub claims : w.claims ≡ v.claims ++ claim_at cpu number v ∷ []
  pub running : w.running ≡ claim_at cpu number v ∷ []
  pub sights : sight w ≡ sight v

-- the claim that ran has ended
pub record Finishes (v w : View) : Type 0 where
  pub accepted : accepted_of w ≡ accepted_of v
  pub fresh : fresh_of w ≡ fresh_of v
  pub word : own_word w ≡ own_word v
  pub claims : w.claims ≡ v.claims
  pub running : w.running ≡ []
  pub sights : sight w ≡ sight v

-- the claim of number k on this processor has ended and the next number was claimed, by one step: what an end and a claim leave
pub record GoesOn (cpu k : ℕ) (v w : View) : Type 0 where
  pub view : w ≡ claiming (turns_word cpu) (2 * (k + 1) + 1) cpu (k + 1) (finished (turns_word cpu) (2 * k + 2) v)
  pub later : seen_at v (turns_word cpu) ≤ 2 * k + 1

-- a report was made, which changes at most the count of reports
pub record Tells (v w : View) : Type 0 where
  pub accepted : accepted_of w ≡ accepted_of v
  pub fresh : fresh_of w ≡ fresh_of v
  pub claims : w.claims ≡ v.claims
  pub running : w.running ≡ v.running

-- So many steps were made on word i and none on another, and no processor's accepted list or count of reports changed.
pub record StepsOnly (i many : ℕ) (v w : View) : Type 0 where
  pub own : w.own ≡ v.own
  pub steps : tally w i ≡ tally v i + many
  pub others : (j : ℕ) → j ≢ i → Untouched j v w
