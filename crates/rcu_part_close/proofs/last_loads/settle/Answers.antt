use Rattle.std.proofs.Common.{◌≡◌, ℕ, ◌≤◌, ◌∙◌, ap, arith, below_more}
use Rattle.rcu_board.specs.Plays.{GatheredAcceptLaw, GatheredTurnLaw}
use Rattle.rcu_board.specs.Seats.{gathered_view}
use Rattle.rcu_board.specs.Views.{seen_at}
use Rattle.rcu_board.specs.Words.{accepts_word, turns_word, reports_word}
use Rattle.rcu_part_close.specs.Gathered.{IsAccounted}
use Rattle.rcu_board.specs.declared.view.View.{View}
use Rattle.rcu_part_close.proofs.Loads.{accept_law_same, report_law_same, seen_after, turn_law_same}
use Rattle.rcu_part_close.proofs.last_loads.settle.Goals as goal

pub loop-p-init : goal.loop-p-init
loop-p-init c = let e = c.last_look-number.ensures in let v = gathered_view c.args.all.now in let u = gathered_view c.last_look-number.new.all in record {
  at = e.same ∙ c.requires.all;
  same = e.same;
  weight = ap (λ (w : View). w.weight) e.view;
  own = ap (λ (w : View). w.own) e.view;
  claims = ap (λ (w : View). w.claims) e.view;
  merged = ap (λ (w : View). w.merged) e.view;
  running = ap (λ (w : View). w.running) e.view;
  turns_left = λ q _. seen_after v u 0 (turns_word q) _ e.view (λ z. omega (arith, z));
  counts_left = λ q _. seen_after v u 0 (accepts_word q) _ e.view (λ z. omega (arith, z));
  turns = λ q low. absurd (omega arith);
  counts = λ q low. absurd (omega arith);
  number = e.sight;
  board = e.stands;
  reports = λ q low. absurd (omega arith);
}

pub loop-p-preserved : goal.loop-p-preserved
loop-p-preserved c =
    let i = c.loop-p.invariant in
    let p = c.loop-p.p in
    let t = c.last_turn_of.ensures in
    let a = c.last_count_of.ensures in
    let r = c.last_report_of.ensures in
    let v = gathered_view c.args.all.now in
    let u = gathered_view c.loop-p.all in
    let u1 = gathered_view c.last_turn_of.new.all in
    let u2 = gathered_view c.last_count_of.new.all in
    let u3 = gathered_view c.last_report_of.new.all in
    let claims1 : u1.claims ≡ v.claims = ap (λ (w : View). w.claims) t.view ∙ i.claims in
    let running1 : u1.running ≡ v.running = ap (λ (w : View). w.running) t.view ∙ i.running in
    let merged1 : u1.merged ≡ v.merged = ap (λ (w : View). w.merged) t.view ∙ i.merged in
    let own1 : u1.own ≡ v.own = ap (λ (w : View). w.own) t.view ∙ i.own in
    record {
      at = r.same ∙ (a.same ∙ (t.same ∙ i.at));
      same = r.same ∙ (a.same ∙ (t.same ∙ i.same));
      weight = ap (λ (w : View). w.weight) r.view ∙ (ap (λ (w : View). w.weight) a.view ∙ (ap (λ (w : View). w.weight) t.view ∙ i.weight));
      own = ap (λ (w : View). w.own) r.view ∙ (ap (λ (w : View). w.own) a.view ∙ own1);
      claims = ap (λ (w : View). w.claims) r.view ∙ (ap (λ (w : View). w.claims) a.view ∙ claims1);
      merged = ap (λ (w : View). w.merged) r.view ∙ (ap (λ (w : View). w.merged) a.view ∙ merged1);
      running = ap (λ (w : View). w.running) r.view ∙ (ap (λ (w : View). w.running) a.view ∙ running1);
      turns_left = λ q low. seen_after u2 u3 (reports_word p) (turns_word q) _ r.view (λ e. omega (arith, e)) ∙ (seen_after u1 u2 (accepts_word p) (turns_word q) _ a.view (λ e. omega (arith, e)) ∙ (seen_after u u1 (turns_word p) (turns_word q) _ t.view (λ e. omega (arith, e, low)) ∙ i.turns_left q (omega (arith, low))));
      counts_left = λ q low. seen_after u2 u3 (reports_word p) (accepts_word q) _ r.view (λ e. omega (arith, e)) ∙ (seen_after u1 u2 (accepts_word p) (accepts_word q) _ a.view (λ e. omega (arith, e, low)) ∙ (seen_after u u1 (turns_word p) (accepts_word q) _ t.view (λ e. omega (arith, e)) ∙ i.counts_left q (omega (arith, low))));
      turns = below_more (λ (q : ℕ). (turn : ℕ) × (seen_at v (turns_word q) ≤ turn) × GatheredTurnLaw q turn v) p i.turns
          (c.last_turn_of.result, (let s = i.turns_left p (omega arith) in let z = t.later in omega arith), turn_law_same p _ u v i.claims i.running t.settled);
      counts = below_more (λ (q : ℕ). (accepts : ℕ) × GatheredAcceptLaw q accepts v) p i.counts
          (c.last_count_of.result, accept_law_same p _ u1 v own1 merged1 (seen_after u u1 (turns_word p) (accepts_word p) _ t.view (λ e. omega (arith, e)) ∙ i.counts_left p (omega arith)) a.counted);
      number = seen_after u2 u3 (reports_word p) 0 _ r.view (λ e. omega (arith, e)) ∙ (seen_after u1 u2 (accepts_word p) 0 _ a.view (λ e. omega (arith, e)) ∙ (seen_after u u1 (turns_word p) 0 _ t.view (λ e. omega (arith, e)) ∙ i.number));
      board = i.board;
      reports = below_more (λ (q : ℕ). (word : ℕ) × IsAccounted q c.last_look-number.result word v) p i.reports
          (c.last_report_of.result, report_law_same p _ _ u2 v (ap (λ (w : View). w.own) a.view ∙ own1) (seen_after u1 u2 (accepts_word p) 0 _ a.view (λ e. omega (arith, e)) ∙ (seen_after u u1 (turns_word p) 0 _ t.view (λ e. omega (arith, e)) ∙ i.number)) r.settled);
    }
