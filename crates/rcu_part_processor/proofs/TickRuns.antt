-- What the runs of a tick come to.
use Rattle.std.proofs.Common.{◌≡◌, ◌≢◌, ℕ, ◌+◌, ◌≤◌, Bool, true, false, cond, get_or, List, [], ◌∷◌, ◌++◌, map, length-append, append_assoc, ap, sym, ◌∙◌, refl, subst, arith}
use Rattle.std.proofs.lemmas.List.{map-append}
use Rattle.std.proofs.lemmas.List.Elements.{All-append, All-cons, All-head, All-nil, All-tail}
use Rattle.std.proofs.lemmas.List.Sums.{sum_by-cons}
use Rattle.rcu_board.specs.Views.{seen_at}
use Rattle.rcu_board.specs.Words.{turns_word}
use Rattle.rcu_board.proofs.Stepping.{same_again}
use Rattle.rcu_part_lists.specs.ProcessorLists.{Holding, holding, passed_on}
use Rattle.rcu_part_lists.specs.declared.processor_lists.ProcessorLists.{ProcessorLists}
use Rattle.rcu_jobs.specs.Records.{Given}
use Rattle.rcu_jobs.specs.declared.Stop.{Stop}
use Rattle.rcu_jobs.specs.declared.Ticked.{Ticked}
use Rattle.rcu_jobs.specs.declared.callback.Callback.{Callback}
use Rattle.rcu_jobs.specs.declared.callback.Record.{Record}
use Rattle.rcu_lists.specs.Labels.{Done, Labelled, marked, count, is_done}
use Rattle.rcu_part_order.specs.Places.{Numbered}
use Rattle.rcu_part_order.specs.Recorded.{Recorded, and_ran}
use Rattle.rcu_part_order.specs.Records.{numbered_record}
use Rattle.rcu_part_order.proofs.Keeping.{ran_again, ran_none}
use Rattle.rcu_part_steps.specs.Changes.{StepsOnly}
use Rattle.rcu_part_steps.specs.Places.{AreKeyed, numbered_callback}
use Rattle.rcu_part_processor.specs.Begins.{TakesNone}
use Rattle.rcu_part_processor.specs.Processors.{AddsRecords, IsSound, SameProcessor, lists_of, records_of, view_of}
use Rattle.rcu_part_processor.specs.Ticks.{RanDone, TicksBy}
use Rattle.rcu_part_processor.specs.declared.processor.ProcessorState.{ProcessorState}
use Rattle.rcu_part_steps.proofs.Turning.{steps_more}
use Rattle.rcu_board.proofs.Facts.{same_seat}

module _ {J : Type 0} where
  -- a list whose first callback is done
  pub done_some : (c : Callback J) (rest own : List (Labelled J)) → own ≡ marked Done (c ∷ []) ++ rest → count is_done own ≢ 0
  done_some c rest own e none = omega (arith, sum_by-cons (λ (x : Labelled J). cond (is_done x.label) 1 0) (record { label = Done; callback = c }) rest, ap (count is_done) e, none)

  -- is the same, however the list is written
  pub same_done : (c d : Callback J) (xs ys : List (Labelled J)) → marked Done (c ∷ []) ++ xs ≡ marked Done (d ∷ []) ++ ys → c ≡ d
  same_done c d xs ys e = ap (λ (l : List (Labelled J)). (get_or l 0 (record { label = Done; callback = c })).callback) e

module _ {J R : Type 0} where
  pub same_processor : (p : ProcessorState J R) → SameProcessor p p
  same_processor p = record { part = record { board = refl; seat = same_seat _ }; lane = refl; cpu = refl; offloadable = refl; limit = refl; blimit = refl; kept = refl }

  pub same_processor_again : (p q r : ProcessorState J R) → SameProcessor p q → SameProcessor q r → SameProcessor p r
  same_processor_again p q r a b = record {
    part = same_again _ _ _ _ _ _ a.part b.part;
    lane = b.lane ∙ a.lane;
    cpu = b.cpu ∙ a.cpu;
    offloadable = b.offloadable ∙ a.offloadable;
    limit = b.limit ∙ a.limit;
    blimit = b.blimit ∙ a.blimit;
    kept = b.kept ∙ a.kept;
  }

  -- records that stay, or to which others are added, and then others
  pub records_kept : (p q : ProcessorState J R) → records_of q ≡ records_of p → AddsRecords p q
  records_kept p q e = ([], e ∙ sym (ran_none (records_of p)))

  pub records_again : (p q r : ProcessorState J R) → AddsRecords p q → AddsRecords q r → AddsRecords p r
  records_again p q r a b = (a.0 ++ b.0, b.1 ∙ (ap (and_ran b.0) a.1 ∙ ran_again (records_of p) a.0 b.0))

  -- a tick adds the records of what it ran
  pub records_ticked : (moment : ℕ) (answer : Ticked) (p q : ProcessorState J R) → TicksBy moment answer p q → AddsRecords p q
  records_ticked moment answer p q t = (t.ran.records, t.ran.more ∙ ap (and_ran t.ran.records) (before p.offloadable refl)) where
    before : (on : Bool) → p.offloadable ≡ on → records_of t.third ≡ records_of p
    before true is = (t.settles is).records ∙ ((t.heeds is).records ∙ t.catches_up.records)
    before false is = let e = t.local is in ap records_of e.1 ∙ (ap records_of e.0 ∙ t.catches_up.records)

  -- nothing was run
  pub done_none : (tried seen : ℕ) (p q : ProcessorState J R) → lists_of q ≡ lists_of p → records_of q ≡ records_of p → StepsOnly (turns_word p.cpu) tried (view_of p) (view_of q)
      → seen_at (view_of p) (turns_word p.cpu) ≤ seen_at (view_of q) (turns_word p.cpu) → RanDone 0 tried seen p q
  done_none tried seen p q lists records steps later = record {
    calls = [];
    records = [];
    many = refl;
    done = sym (ap (λ (h : Holding J). h.own) lists);
    others = lists ∙ ap (λ (xs : List (Labelled J)). record (lists_of p) { own = xs }) (sym (ap (λ (h : Holding J). h.own) lists));
    more = records ∙ sym (ran_none (records_of p));
    same = refl;
    ready = All-nil (λ (r : Record R). r.ready ≡ seen);
    steps = subst (λ (k : ℕ). StepsOnly (turns_word p.cpu) k (view_of p) (view_of q)) (omega arith) steps;
    later = later;
  }

  -- no claim was won
  pub done_untaken : (seen : ℕ) (stop : Stop) (p q : ProcessorState J R) (t : TakesNone R p.cpu stop (view_of p) (view_of q) p.lists q.lists) → records_of q ≡ records_of p
      → seen_at (view_of p) (turns_word p.cpu) ≤ seen_at (view_of q) (turns_word p.cpu) → RanDone 0 t.tried seen p q
  done_untaken seen stop p q t records later = done_none t.tried seen p q (ap (λ (l : ProcessorLists J). holding l) t.lists) records t.steps later

  -- one was
  pub done_one : (seen : ℕ) (p q : ProcessorState J R) (c : Callback J) (r : Record R) → (lists_of p).own ≡ marked Done (c ∷ []) ++ (lists_of q).own → lists_of q ≡ record (lists_of p) { own = (lists_of q).own }
      → records_of q ≡ and_ran (r ∷ []) (records_of p) → numbered_record r ≡ numbered_callback c → r.ready ≡ seen → StepsOnly (turns_word p.cpu) 2 (view_of p) (view_of q)
      → seen_at (view_of p) (turns_word p.cpu) ≤ seen_at (view_of q) (turns_word p.cpu) → RanDone 1 1 seen p q
  done_one seen p q c r done others more same ready steps later = record {
    calls = c ∷ [];
    records = r ∷ [];
    many = refl;
    done = done;
    others = others;
    more = more;
    same = ap (λ (x : Numbered). x ∷ []) (sym same);
    ready = All-cons (λ (x : Record R). x.ready ≡ seen) r [] ready (All-nil (λ (x : Record R). x.ready ≡ seen));
    steps = steps;
    later = later;
  }

  -- some, and then others
  pub done_more : (m n a b seen : ℕ) (o p q : ProcessorState J R) → p.cpu ≡ o.cpu → RanDone m a seen o p → RanDone n b seen p q → RanDone (m + n) (a + b) seen o q
  done_more m n a b seen o p q cpu x y = record {
    calls = x.calls ++ y.calls;
    records = x.records ++ y.records;
    many = length-append x.records y.records ∙ (let s = x.many in let t = y.many in omega arith);
    done = x.done ∙ (ap (λ l. marked Done x.calls ++ l) y.done ∙ (sym (append_assoc (marked Done x.calls) (marked Done y.calls) (lists_of q).own) ∙ ap (λ l. l ++ (lists_of q).own) (sym (map-append (λ (c : Callback J). done_call c) x.calls y.calls))));
    others = y.others ∙ ap (λ (h : Holding J). record h { own = (lists_of q).own }) x.others;
    more = y.more ∙ (ap (and_ran y.records) x.more ∙ ran_again (records_of o) x.records y.records);
    same = map-append numbered_callback x.calls y.calls ∙ (ap (λ l. l ++ map numbered_callback y.calls) x.same ∙ (ap (λ l. map numbered_record x.records ++ l) y.same ∙ sym (map-append numbered_record x.records y.records)));
    ready = All-append (λ (r : Record R). r.ready ≡ seen) x.records y.records x.ready y.ready;
    steps = subst (λ (k : ℕ). StepsOnly (turns_word o.cpu) k (view_of o) (view_of q)) (omega arith)
        (steps_more (turns_word o.cpu) (a + m) (b + n) (view_of o) (view_of p) (view_of q) x.steps (subst (λ (c : ℕ). StepsOnly (turns_word c) (b + n) (view_of p) (view_of q)) cpu y.steps));
    later = let s = x.later in let t = subst (λ (c : ℕ). seen_at (view_of p) (turns_word c) ≤ seen_at (view_of q) (turns_word c)) cpu y.later in omega arith;
  } where
    done_call : Callback J → Labelled J
    done_call c = record { label = Done; callback = c }

  -- what the processor knows of jobs, where one was run
  pub sound_ran : (key_of : J → ℕ) (gives : ℕ → R → Type 0) (p q : ProcessorState J R) (c : Callback J) (r : Record R) (before after : List (Callback J)) → passed_on (lists_of p) ≡ before ++ c ∷ after → passed_on (lists_of q) ≡ before ++ after
      → records_of q ≡ and_ran (r ∷ []) (records_of p) → (key_of c.job ≡ c.key → gives r.key r.receipt) → IsSound key_of gives p → IsSound key_of gives q
  sound_ran key_of gives p q c r before after was is more given s =
      let all = subst (AreKeyed key_of) was s.keyed in record {
        keyed = subst (AreKeyed key_of) (sym is) (keyed_without before all);
        given = subst (λ (rs : Recorded R). Given gives rs.all) (sym more) (All-append (λ (x : Record R). gives x.key x.receipt) (records_of p).all (r ∷ []) s.given
            (All-cons (λ (x : Record R). gives x.key x.receipt) r [] (given (keyed_at before all)) (All-nil (λ (x : Record R). gives x.key x.receipt))));
      } where
        keyed : Callback J → Type 0
        keyed x = key_of x.job ≡ x.key

        keyed_at : (xs : List (Callback J)) → AreKeyed key_of (xs ++ c ∷ after) → key_of c.job ≡ c.key
        keyed_at [] k = All-head keyed c after k
        keyed_at (x ∷ xs) k = keyed_at xs (All-tail keyed x (xs ++ c ∷ after) k)

        keyed_without : (xs : List (Callback J)) → AreKeyed key_of (xs ++ c ∷ after) → AreKeyed key_of (xs ++ after)
        keyed_without [] k = All-tail keyed c after k
        keyed_without (x ∷ xs) k = All-cons keyed x (xs ++ after) (All-head keyed x (xs ++ c ∷ after) k) (keyed_without xs (All-tail keyed x (xs ++ c ∷ after) k))
