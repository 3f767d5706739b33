-- The last loads, one after another, change sights and tallies alone.
use Rattle.std.proofs.Common.{◌≡◌, ◌≢◌, ℕ, ◌/◌, ◌%◌, ◌≤◌, List, sym, ap, ◌∙◌, subst, arith}
use Rattle.rcu_board.specs.Laws.{OddEquals}
use Rattle.rcu_board.specs.Plays.{GatheredAcceptLaw, GatheredBoardLaw, GatheredTurnLaw, GatheredReportLaw, PassedBy, touched}
use Rattle.rcu_part_close.specs.Gathered.{IsAccounted}
use Rattle.rcu_board.specs.Views.{Every, accepted_count, cpus, one_if_claim, one_if_equal, one_if_on, seen_at, sight, total}
use Rattle.rcu_board.specs.Words.{accepts_word, away_of, period_of}
use Rattle.rcu_board.specs.declared.view.Accepted.{Accepted}
use Rattle.rcu_board.specs.declared.view.Claim.{Claim}
use Rattle.rcu_board.specs.declared.view.Own.{Own}
use Rattle.rcu_board.specs.declared.view.View.{View}
use Rattle.rcu_board.proofs.Facts.{seen-other}

-- the sight of another word
pub seen_after : (u w : View) (i j x : ℕ) → w ≡ touched i x u → j ≢ i → seen_at w j ≡ seen_at u j
seen_after u w i j x e ne = ap (λ (v : View). seen_at v j) e ∙ seen-other u i j x ne

-- laws of a view with the same lists
pub turn_law_same : (p x : ℕ) (u v : View) → u.claims ≡ v.claims → u.running ≡ v.running → GatheredTurnLaw p x u → GatheredTurnLaw p x v
turn_law_same p x u v claims running l = record {
  claims = λ k. sym (ap (total (one_if_claim p k)) claims) ∙ l.claims k;
  runs = sym (ap (total (one_if_on p)) running) ∙ l.runs;
}

pub accept_law_same : (p x : ℕ) (u v : View) → u.own ≡ v.own → u.merged ≡ v.merged → seen_at u (accepts_word p) ≡ seen_at v (accepts_word p) → GatheredAcceptLaw p x u → GatheredAcceptLaw p x v
accept_law_same p x u v own merged seen l = record {
  once = sym (ap (λ (os : List Own). total (one_if_equal p) (cpus os)) own) ∙ l.once;
  counts = subst (Every (λ (o : Own). o.cpu ≡ p → x / 2 ≡ accepted_count o)) own l.counts;
  shut = ap (λ (s : ℕ). s % 2) (sym seen) ∙ l.shut;
  final = λ odd. sym seen ∙ l.final (ap (λ (s : ℕ). s % 2) seen ∙ odd);
  merged = subst (Every (OddEquals p x)) merged l.merged;
}

pub board_law_same : (x : ℕ) (u v : View) → u.own ≡ v.own → u.claims ≡ v.claims → GatheredBoardLaw x u → GatheredBoardLaw x v
board_law_same x u v own claims l = record {
  board = l.board;
  stamps = subst (Every (λ (o : Own). Every (λ (a : Accepted). a.stamp ≤ x) o.accepted)) own l.stamps;
  sights = subst (Every (λ (c : Claim). c.sight ≤ x)) claims l.sights;
}

pub report_law_same : (p w x : ℕ) (u v : View) → u.own ≡ v.own → sight u ≡ x → GatheredReportLaw p w u → IsAccounted p x w v
report_law_same p w x u v own number l = record {
  passed = subst (Every (λ (o : Own). o.cpu ≡ p → (s : ℕ) → s % 4 ≡ 1 → s ≤ period_of w → PassedBy s o)) own l.passed;
  here = subst (Every (λ (o : Own). o.cpu ≡ p → away_of o.word ≡ 0 → o.word ≡ w)) own l.here;
  ended = λ s busy less. l.ended s busy (omega arith);
}
