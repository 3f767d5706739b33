-- The two steps of a callback, as the law of places sees them.
use Rattle.std.proofs.Common.{◌≡◌, ℕ, ◌≤◌, List, [], ◌∷◌, ◌++◌, map, length, ap, sym, ◌∙◌, subst, arith}
use Rattle.std.proofs.Math.Logic.{∥∥₁_map}
use Rattle.std.proofs.lemmas.List.{map-append}
use Rattle.std.proofs.lemmas.List.Elements.{All-head, All-push, All-tail, All-cons}
use Rattle.rcu_board.specs.Seats.{NeverFalls}
use Rattle.rcu_board.specs.Views.{seen_at, sight}
use Rattle.rcu_board.specs.Words.{needed_word}
use Rattle.rcu_board.specs.declared.view.Accepted.{Accepted as Entry}
use Rattle.rcu_board.specs.declared.view.View.{View}
use Rattle.rcu_board.proofs.Stepping.{same_again}
use Rattle.rcu_part_lists.specs.Aims.{AreUpTo}
use Rattle.rcu_part_lists.specs.ProcessorLists.{Holding, held_in, put_by}
use Rattle.rcu_part_lists.proofs.Aims.{up-raised}
use Rattle.rcu_jobs.specs.Records.{Given}
use Rattle.rcu_jobs.specs.declared.callback.Callback.{Callback}
use Rattle.rcu_jobs.specs.declared.callback.Record.{Record}
use Rattle.rcu_numbers.specs.Numbers.{snap_of}
use Rattle.rcu_part_order.specs.Places.{Placed, Numbered}
use Rattle.rcu_part_order.proofs.Moves.{placed_claims}
use Rattle.rcu_part_order.specs.Records.{numbered_record, numbered_records, AreRipe}
use Rattle.rcu_part_steps.specs.Begins.{claimed_as, claim_that_runs, number_that_runs, record_with}
use Rattle.rcu_part_steps.specs.Changes.{Claims, Finishes}
use Rattle.rcu_part_steps.specs.Places.{AreKeyed, accepted_entry, accepted_list, claim_of, numbered_callback, numbered_callbacks}
use Rattle.rcu_part_steps.specs.declared.begins.ClaimedCallback.{ClaimedCallback}
use Rattle.rcu_part_processor.specs.Lawful.{IsLawful, IsRunningProcessor}
use Rattle.rcu_part_processor.specs.Processors.{SameProcessor}
use Rattle.rcu_part_processor.specs.Running.{SameBegun, SameFinished, SameRunning}
use Rattle.rcu_part_processor.specs.declared.processor.ProcessorState.{ProcessorState}
use Rattle.rcu_part_processor.specs.declared.running_processor.RunningProcessorState.{RunningProcessorState}

module _ {R : Type 0} where
  -- the receipt of the one that ran is given as the others are
  pub given_finished : (gives : ℕ → R → Type 0) (k : ClaimedCallback) (receipt : R) (ran ran' : List (Record R)) → ran' ≡ ran ++ record_with receipt k ∷ [] → gives k.key receipt → Given gives ran → Given gives ran'
  given_finished gives k receipt ran ran' more given all = subst (λ (rs : List (Record R)). Given gives rs) (sym more) (All-push (λ (x : Record R). gives x.key x.receipt) ran (record_with receipt k) all given)

module _ {J R : Type 0} where
  -- the first callback was claimed, and counts as claimed
  pub begun_law : (cpu n m seen : ℕ) (v u : View) (ran : List (Record R)) (h h' : Holding J) (c : Callback J) (k : ClaimedCallback)
      → k ≡ claimed_as seen c → Claims cpu c.number v u → NeverFalls m v u → sight v ≡ seen → put_by h' ≡ put_by h → held_in h ≡ c ∷ held_in h' → h'.advanced ≡ h.advanced
      → ((s : ℕ) → AreUpTo s h.own → AreUpTo s h'.own) → snap_of c.stamp ≤ seen → IsLawful cpu n v ran h → IsRunningProcessor cpu n k u ran h'
  begun_law cpu n m seen v u ran h h' c k is won later at put held advanced less over l = subst (λ (x : ClaimedCallback). IsRunningProcessor cpu n x u ran h') (sym is) (record {
    has = record {
      counted = ap length won.accepted ∙ l.counted;
      stamped = won.fresh ∙ l.stamped;
      places = ∥∥₁_map l.places (λ p. subst (λ (as' : List Entry). Placed (map accepted_entry as') (numbered_records ran ++ numbered_callback c ∷ []) (numbered_callbacks (put_by h')) (numbered_callbacks (held_in h'))) (sym won.accepted)
          (placed_claims (accepted_list v) (numbered_records ran) (numbered_callbacks (put_by h')) (numbered_callbacks (held_in h')) (numbered_callback c)
          (subst (λ (ps : List (Callback J)). Placed (accepted_list v) (numbered_records ran) (numbered_callbacks ps) (numbered_callback c ∷ numbered_callbacks (held_in h'))) (sym put)
          (subst (λ (cs : List (Callback J)). Placed (accepted_list v) (numbered_records ran) (numbered_callbacks (put_by h)) (numbered_callbacks cs)) held p))));
      looked = let z = l.looked in let y = later.board in omega (arith, advanced);
      needed = less (seen_at u needed_word) (up-raised (seen_at v needed_word) (seen_at u needed_word) h.own later.needed l.needed);
    };
    runs = won.running ∙ ap (λ (s : ℕ). claim_that_runs cpu (claimed_as s c) ∷ []) at;
    claims = won.claims ∙ (ap (λ (s : ℕ). v.claims ++ claim_that_runs cpu (claimed_as s c) ∷ []) at ∙ ap (λ cs. cs ++ claim_that_runs cpu (claimed_as seen c) ∷ []) l.claims);
    ripe = l.ripe;
    over = over;
  })

  -- its claim ended, and left its record
  pub finished_law : (cpu n m : ℕ) (k : ClaimedCallback) (receipt : R) (u w : View) (ran ran' : List (Record R)) (h : Holding J)
      → Finishes u w → NeverFalls m u w → ran' ≡ ran ++ record_with receipt k ∷ [] → IsRunningProcessor cpu n k u ran h → IsLawful cpu n w ran' h
  finished_law cpu n m k receipt u w ran ran' h ends later more l = let r = record_with receipt k in
      let records : numbered_records ran ++ number_that_runs k ∷ [] ≡ numbered_records ran' = sym (map-append numbered_record ran (r ∷ [])) ∙ ap (map numbered_record) (sym more) in record {
        counted = ap length ends.accepted ∙ l.has.counted;
        stamped = ends.fresh ∙ l.has.stamped;
        rests = ends.running;
        places = ∥∥₁_map l.has.places (λ p. subst (λ (as' : List Entry). Placed (map accepted_entry as') (numbered_records ran') (numbered_callbacks (put_by h)) (numbered_callbacks (held_in h))) (sym ends.accepted)
            (subst (λ (rs : List Numbered). Placed (accepted_list u) rs (numbered_callbacks (put_by h)) (numbered_callbacks (held_in h))) records p));
        claims = ends.claims ∙ (l.claims ∙ (sym (map-append (claim_of cpu) ran (r ∷ [])) ∙ ap (map (claim_of cpu)) (sym more)));
        ripe = subst (λ (rs : List (Record R)). AreRipe rs) (sym more) (All-push (λ (x : Record R). snap_of x.stamp ≤ x.ready) ran r l.ripe l.over);
        looked = let z = l.has.looked in let y = later.board in omega arith;
        needed = up-raised (seen_at u needed_word) (seen_at w needed_word) h.own later.needed l.has.needed;
      }

  pub same_begun_after : (p q : ProcessorState J R) (r : RunningProcessorState J R) → SameProcessor p q → SameBegun q r → SameBegun p r
  same_begun_after p q r a b = record {
    part = same_again _ _ _ _ _ _ a.part b.part;
    lane = b.lane ∙ a.lane;
    cpu = b.cpu ∙ a.cpu;
    offloadable = b.offloadable ∙ a.offloadable;
    limit = b.limit ∙ a.limit;
    blimit = b.blimit ∙ a.blimit;
    kept = b.kept ∙ a.kept;
  }

  -- a call leaves it what it was
  pub same_begun_again : (p : ProcessorState J R) (q r : RunningProcessorState J R) → SameBegun p q → SameRunning q r → SameBegun p r
  same_begun_again p q r a b = record {
    part = same_again _ _ _ _ _ _ a.part b.part;
    lane = b.lane ∙ a.lane;
    cpu = b.cpu ∙ a.cpu;
    offloadable = b.offloadable ∙ a.offloadable;
    limit = b.limit ∙ a.limit;
    blimit = b.blimit ∙ a.blimit;
    kept = b.kept ∙ a.kept;
  }

  -- and so do the two steps of a callback
  pub same_in_two_steps : (p : ProcessorState J R) (q : RunningProcessorState J R) (r : ProcessorState J R) → SameBegun p q → SameFinished q r → SameProcessor p r
  same_in_two_steps p q r a b = record {
    part = same_again _ _ _ _ _ _ a.part b.part;
    lane = b.lane ∙ a.lane;
    cpu = b.cpu ∙ a.cpu;
    offloadable = b.offloadable ∙ a.offloadable;
    limit = b.limit ∙ a.limit;
    blimit = b.blimit ∙ a.blimit;
    kept = b.kept ∙ a.kept;
  }

module _ {J : Type 0} where
  abbrev keyed : (J → ℕ) → Callback J → Type 0
  keyed key_of x = key_of x.job ≡ x.key

  -- of callbacks with their jobs' keys, each
  pub keyed_in : (key_of : J → ℕ) (before : List (Callback J)) (c : Callback J) (after : List (Callback J)) → AreKeyed key_of (before ++ c ∷ after) → key_of c.job ≡ c.key
  keyed_in key_of [] c after k = All-head (keyed key_of) c after k
  keyed_in key_of (x ∷ xs) c after k = keyed_in key_of xs c after (All-tail (keyed key_of) x (xs ++ c ∷ after) k)

  -- and all others
  pub keyed_without : (key_of : J → ℕ) (before : List (Callback J)) (c : Callback J) (after : List (Callback J)) → AreKeyed key_of (before ++ c ∷ after) → AreKeyed key_of (before ++ after)
  keyed_without key_of [] c after k = All-tail (keyed key_of) c after k
  keyed_without key_of (x ∷ xs) c after k = All-cons (keyed key_of) x (xs ++ after) (All-head (keyed key_of) x (xs ++ c ∷ after) k) (keyed_without key_of xs c after (All-tail (keyed key_of) x (xs ++ c ∷ after) k))
