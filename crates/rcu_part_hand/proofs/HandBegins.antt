-- The two steps of a callback, as the hand's law sees them.
use Rattle.std.proofs.Common.{◌≡◌, ◌≢◌, ℕ, ◌≤◌, List, [], ◌∷◌, ◌++◌, map, ap, sym, ◌∙◌, subst, arith}
use Rattle.std.proofs.lemmas.List.{map-append}
use Rattle.std.proofs.lemmas.List.Elements.{All-append}
use Rattle.rcu_board.specs.Views.{sight}
use Rattle.rcu_board.specs.declared.view.View.{View}
use Rattle.rcu_board.proofs.Stepping.{same_again}
use Rattle.rcu_jobs.specs.Records.{Given}
use Rattle.rcu_jobs.specs.declared.Stop.{Stop}
use Rattle.rcu_jobs.specs.declared.Stop.TheVariants.{Limit}
use Rattle.rcu_jobs.specs.declared.callback.Callback.{Callback}
use Rattle.rcu_jobs.specs.declared.callback.Record.{Record}
use Rattle.rcu_numbers.specs.Numbers.{snap_of}
use Rattle.rcu_part_order.specs.Records.{numbered_record, AreRipe}
use Rattle.rcu_part_steps.specs.Begins.{claimed_as, claim_that_runs, record_with}
use Rattle.rcu_part_steps.specs.Changes.{Claims, Finishes}
use Rattle.rcu_part_steps.specs.Places.{AreKeyed, numbered_callback, claim_of}
use Rattle.rcu_part_steps.specs.declared.begins.ClaimedCallback.{ClaimedCallback}
use Rattle.rcu_part_hand.specs.Begins.{SameBegun, SameFinished}
use Rattle.rcu_part_hand.specs.HandLaw.{IsLawfulHand, IsRunningHand}
use Rattle.rcu_part_hand.specs.Hands.{SameHand, StopsAt}
use Rattle.rcu_part_hand.specs.declared.hand.HandState.{HandState}
use Rattle.rcu_part_hand.specs.declared.running_hand.RunningHandState.{RunningHandState}
use Rattle.rcu_part_hand.proofs.HandRuns.{all_one, keyed_at}

module _ {J : Type 0} where
  -- what was drawn and has its jobs' keys, the one that runs has
  pub keyed_that_runs : (key_of : J → ℕ) (seen : ℕ) (drawn drawn' taken rest : List (Callback J)) (c : Callback J) (k : ClaimedCallback) → k ≡ claimed_as seen c → drawn ≡ taken ++ c ∷ rest → drawn' ≡ drawn → AreKeyed key_of drawn' → key_of c.job ≡ k.key
  keyed_that_runs key_of seen drawn drawn' taken rest c k is all e keyed =
      keyed_at key_of taken c rest (subst (λ (cs : List (Callback J)). AreKeyed key_of cs) all (subst (λ (cs : List (Callback J)). AreKeyed key_of cs) e keyed)) ∙ sym (ap (λ (x : ClaimedCallback). x.key) is)

module _ {J R : Type 0} where
  -- a claim was won
  pub hand_begun : (cpu seen : ℕ) (v u : View) (ran : List (Record R)) (taken taken' : List (Callback J)) (c : Callback J) (k : ClaimedCallback)
      → k ≡ claimed_as seen c → Claims cpu c.number v u → sight v ≡ seen → taken' ≡ taken ++ c ∷ [] → snap_of c.stamp ≤ seen → IsLawfulHand cpu v ran taken → IsRunningHand cpu k u ran taken'
  hand_begun cpu seen v u ran taken taken' c k is won at took over l = subst (λ (x : ClaimedCallback). IsRunningHand cpu x u ran taken') (sym is) (record {
    runs = won.running ∙ ap (λ (s : ℕ). claim_that_runs cpu (claimed_as s c) ∷ []) at;
    places = ap (map numbered_callback) took ∙ (map-append numbered_callback taken (c ∷ []) ∙ ap (λ l. l ++ numbered_callback c ∷ []) l.places);
    claims = won.claims ∙ (ap (λ (s : ℕ). v.claims ++ claim_that_runs cpu (claimed_as s c) ∷ []) at ∙ ap (λ cs. cs ++ claim_that_runs cpu (claimed_as seen c) ∷ []) l.claims);
    ripe = l.ripe;
    over = over;
  })

  -- it ended, and left its record
  pub hand_finished : (cpu : ℕ) (k : ClaimedCallback) (receipt : R) (u w : View) (ran ran' : List (Record R)) (taken : List (Callback J))
      → Finishes u w → ran' ≡ ran ++ record_with receipt k ∷ [] → IsRunningHand cpu k u ran taken → IsLawfulHand cpu w ran' taken
  hand_finished cpu k receipt u w ran ran' taken ends more l = let r = record_with receipt k in record {
    rests = ends.running;
    places = l.places ∙ (sym (map-append numbered_record ran (r ∷ [])) ∙ ap (map numbered_record) (sym more));
    claims = ends.claims ∙ (l.claims ∙ (sym (map-append (claim_of cpu) ran (r ∷ [])) ∙ ap (map (claim_of cpu)) (sym more)));
    ripe = subst (λ (rs : List (Record R)). AreRipe rs) (sym more) (All-append (λ (x : Record R). snap_of x.stamp ≤ x.ready) ran (r ∷ []) l.ripe (all_one (λ (x : Record R). snap_of x.stamp ≤ x.ready) r l.over));
  }

  -- the receipt of the one that ran is given as the others are
  pub hand_sound_finished : (key_of : J → ℕ) (gives : ℕ → R → Type 0) (drawn : List (Callback J)) (k : ClaimedCallback) (receipt : R) (ran ran' : List (Record R)) → ran' ≡ ran ++ record_with receipt k ∷ []
      → (AreKeyed key_of drawn → Given gives ran) → (AreKeyed key_of drawn → gives k.key receipt) → AreKeyed key_of drawn → Given gives ran'
  hand_sound_finished key_of gives drawn k receipt ran ran' more s given keyed = let r = record_with receipt k in
      subst (λ (rs : List (Record R)). Given gives rs) (sym more) (All-append (λ (x : Record R). gives x.key x.receipt) ran (r ∷ []) (s keyed) (all_one (λ (x : Record R). gives x.key x.receipt) r (given keyed)))

  pub same_begun_after : (p q : HandState J R) (r : RunningHandState J R) → SameHand p q → SameBegun q r → SameBegun p r
  same_begun_after p q r a b = record { part = same_again _ _ _ _ _ _ a.part b.part; lane = b.lane ∙ a.lane; cpu = b.cpu ∙ a.cpu; blimit = b.blimit ∙ a.blimit; kept = b.kept ∙ a.kept }

  -- the two steps of a callback leave the hand what it was
  pub same_in_two_steps : (p : HandState J R) (q : RunningHandState J R) (r : HandState J R) → SameBegun p q → SameFinished q r → SameHand p r
  same_in_two_steps p q r a b = record { part = same_again _ _ _ _ _ _ a.part b.part; lane = b.lane ∙ a.lane; cpu = b.cpu ∙ a.cpu; blimit = b.blimit ∙ a.blimit; kept = b.kept ∙ a.kept }

  -- a reason that holds of every number of runs isn't the limit
  pub never_limit : (stop : Stop) (h : HandState J R) → ((n seen : ℕ) → StopsAt stop n n seen h) → stop ≢ Limit
  never_limit stop h all e = let at : (n : ℕ) → n ≡ h.hand.blimit = λ n. (subst (λ (s : Stop). StopsAt s n n 0 h) e (all n 0)).0 in omega (arith, at 0, at 1)
