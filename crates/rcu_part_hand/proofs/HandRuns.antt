-- How a hand keeps its law, and what its runs come to.
use Rattle.std.proofs.Common.{◌≡◌, ◌≢◌, ℕ, zero, suc, ◌+◌, ◌≤◌, List, [], ◌∷◌, ◌++◌, map, length, length-append, append-nil, append_assoc, ap, sym, ◌∙◌, refl, subst, arith, get_or, get_or-set_same, false, rules, Option, None, Some, IfSome}
use Rattle.std.proofs.lemmas.List.{map-append}
use Rattle.std.proofs.lemmas.List.Elements.{All-append}
use Rattle.std.specs.List.{All}
use Rattle.rcu_board.specs.Views.{new_view, sight, tally}
use Rattle.rcu_board.specs.declared.board.Board.{Board}
use Rattle.rcu_part_lists.specs.Ends.{before_end}
use Rattle.rcu_part_lists.specs.Helds.{drawn_by, held_by}
use Rattle.rcu_part_lists.specs.declared.hand.Held.{Held}
use Rattle.rcu_board.specs.declared.view.Claim.{Claim}
use Rattle.rcu_board.specs.declared.view.View.{View}
use Rattle.rcu_board.proofs.Stepping.{has_words, same_again}
use Rattle.rcu_jobs.specs.Records.{Given}
use Rattle.rcu_jobs.specs.declared.HandTurn.{HandTurn}
use Rattle.rcu_jobs.specs.declared.Stop.{Stop}
use Rattle.rcu_jobs.specs.declared.Stop.TheVariants.{Again, Empty, Limit, Memory, Turn}
use Rattle.rcu_part_lists.specs.Lanes.{IsStopOfLane}
use Rattle.rcu_jobs.specs.declared.callback.Callback.{Callback}
use Rattle.rcu_jobs.specs.declared.callback.Record.{Record}
use Rattle.rcu_numbers.specs.Numbers.{snap_of}
use Rattle.rcu_part_order.specs.Places.{Numbered}
use Rattle.rcu_part_order.specs.Recorded.{Recorded, and_ran}
use Rattle.rcu_part_order.specs.Records.{numbered_record, AreRipe}
use Rattle.rcu_part_order.proofs.Keeping.{ran_again, ran_none as nothing_more}
use Rattle.rcu_part_steps.specs.Changes.{Keeps, Claims, Finishes, StepsOnly, claim_at}
use Rattle.rcu_board.specs.Words.{board_word, turns_word}
use Rattle.rcu_part_steps.proofs.Turning.{steps_more}
use Rattle.rcu_part_hand.specs.Begins.{TakesNone}
use Rattle.rcu_part_hand.specs.HandLaw.{IsLawfulHand}
use Rattle.rcu_part_hand.specs.Hands.{AddsRecords, Looks, Loads, Ran, RunsHeld, SameHand, StopsAt, TurnsBy, hand_board, hand_held, hand_drawn, hand_records, hand_view}
use Rattle.rcu_part_steps.specs.Places.{AreKeyed, numbered_callback, claim_of}
use Rattle.rcu_part_hand.specs.declared.hand.HandState.{HandState}
use Rattle.rcu_board.proofs.Facts.{same_seat}

module _ {R : Type 0} where
  -- where what is recorded is the same, so are all records, and what is kept
  pub all_as : (a b : Recorded R) → a ≡ b → a.all ≡ b.all
  all_as a b e = ap (λ (r : Recorded R). r.all) e

  pub kept_as : (a b : Recorded R) → a ≡ b → a.kept ≡ b.kept
  kept_as a b e = ap (λ (r : Recorded R). r.kept) e

pub all_one : {X : Type 0} (P : X → Type 0) (x : X) → P x → All P (x ∷ [])
all_one P x p zero d low = p
all_one P x p (suc k) d low = absurd (omega (arith, low))

none_of : {X : Type 0} (P : X → Type 0) → All P []
none_of P k d low = absurd (omega (arith, low))

-- the first of a list is the same, however the list is written
pub same_first : {X : Type 0} (x y : X) (xs ys : List X) → x ∷ xs ≡ y ∷ ys → x ≡ y
same_first x y xs ys e = ap (λ l. get_or l 0 x) e

pub first_none : {X : Type 0} (xs ys : List X) → xs ++ ys ≡ [] → xs ≡ []
first_none [] ys e = refl
first_none (x ∷ xs) ys e = absurd (omega (arith, ap length e))

pub not_none : {X : Type 0} (x : X) (xs ys : List X) → ys ≡ x ∷ xs → ys ≡ [] → ⊥
not_none x xs ys e none = omega (arith, ap length (sym e ∙ none))

pub keyed_at : {J : Type 0} (key_of : J → ℕ) (xs : List (Callback J)) (x : Callback J) (ys : List (Callback J)) → AreKeyed key_of (xs ++ x ∷ ys) → key_of x.job ≡ x.key
keyed_at key_of [] x ys k = k zero x (omega arith)
keyed_at key_of (y ∷ xs) x ys k = keyed_at key_of xs x ys (λ i d low. k (suc i) d (omega (arith, low)))

module _ {J : Type 0} where
  -- what a fetch comes to
  pub fetched : (A : Type 0) (held held' drawn drawn' : List (Callback J)) → (held ≢ [] → A × (drawn' ≡ drawn) × (held' ≡ held)) → (held ≡ [] → drawn' ≡ drawn ++ held')
      → (batch : List (Callback J)) × (drawn' ≡ drawn ++ batch) × (held' ≡ held ++ batch) × (held ≢ [] → batch ≡ [])
  fetched A [] held' drawn drawn' some none = (held', none refl, refl, λ not. absurd (not refl))
  fetched A (x ∷ xs) held' drawn drawn' some none = let s = some (not_none x xs (x ∷ xs) refl) in ([], s.1 ∙ sym (append-nil drawn), s.2 ∙ sym (append-nil (x ∷ xs)), λ not. refl)

  keyed_before : (key_of : J → ℕ) (xs ys : List (Callback J)) → AreKeyed key_of (xs ++ ys) → AreKeyed key_of xs
  keyed_before key_of [] ys k i d low = absurd (omega (arith, low))
  keyed_before key_of (x ∷ xs) ys k zero d low = k zero d (omega (arith, length-append xs ys))
  keyed_before key_of (x ∷ xs) ys k (suc i) d low = keyed_before key_of xs ys (λ j e less. k (suc j) e (omega (arith, less))) i d (omega (arith, low))

module _ {J R : Type 0} where
  -- where a draw gave nothing, a turn stops for that
  pub stops_empty : (stop : Option Stop) (h : HandState J R) → (stop ≢ None → hand_held h ≡ []) → IfSome stop IsStopOfLane → IfSome stop (λ s. (n seen : ℕ) → StopsAt s n n seen h)
  stops_empty None h none why = tt
  stops_empty (Some Empty) h none why = λ n seen. (none (λ e. absurd cc), refl)
  stops_empty (Some Again) h none why = λ n seen. (none (λ e. absurd cc), refl)
  stops_empty (Some Limit) h none why = absurd why
  stops_empty (Some Turn) h none why = absurd why
  stops_empty (Some Memory) h none why = absurd why

  -- nothing was claimed
  pub hand_kept : (cpu : ℕ) (v w : View) (ran ran' : List (Record R)) (taken taken' : List (Callback J)) → Keeps v w → ran' ≡ ran → taken' ≡ taken → IsLawfulHand cpu v ran taken → IsLawfulHand cpu w ran' taken'
  hand_kept cpu v w ran ran' taken taken' k same took l = record {
    rests = k.running ∙ l.rests;
    places = ap (map numbered_callback) took ∙ (l.places ∙ ap (map numbered_record) (sym same));
    claims = k.claims ∙ (l.claims ∙ ap (map (claim_of cpu)) (sym same));
    ripe = subst (λ (rs : List (Record R)). AreRipe rs) (sym same) l.ripe;
  }

  -- one callback was claimed, run, and recorded
  pub hand_ran : (cpu seen : ℕ) (v u w : View) (ran ran' : List (Record R)) (taken taken' : List (Callback J)) (c : Callback J) (r : Record R)
      → Claims cpu c.number v u → Finishes u w → sight v ≡ seen → ran' ≡ ran ++ r ∷ [] → taken' ≡ taken ++ c ∷ [] → numbered_record r ≡ numbered_callback c → r.ready ≡ seen → snap_of c.stamp ≤ seen
      → IsLawfulHand cpu v ran taken → IsLawfulHand cpu w ran' taken'
  hand_ran cpu seen v u w ran ran' taken taken' c r won ends at more took same ready over l =
      let claim : claim_at cpu c.number v ≡ claim_of cpu r = ap (λ (x : Numbered). claim_with cpu x.number (sight v)) (sym same) ∙ ap (λ (k : ℕ). claim_with cpu r.number k) (at ∙ sym ready) in record {
        rests = ends.running;
        places = ap (map numbered_callback) took ∙ (map-append numbered_callback taken (c ∷ []) ∙ (ap (λ l. l ++ numbered_callback c ∷ []) l.places
            ∙ (ap (λ (x : Numbered). map numbered_record ran ++ x ∷ []) (sym same) ∙ (sym (map-append numbered_record ran (r ∷ [])) ∙ ap (map numbered_record) (sym more)))));
        claims = ends.claims ∙ (won.claims ∙ (ap (λ cs. cs ++ claim_at cpu c.number v ∷ []) l.claims ∙ (ap (λ (x : Claim). map (claim_of cpu) ran ++ x ∷ []) claim
            ∙ (sym (map-append (claim_of cpu) ran (r ∷ [])) ∙ ap (map (claim_of cpu)) (sym more)))));
        ripe = subst (λ (rs : List (Record R)). AreRipe rs) (sym more) (All-append (λ (x : Record R). snap_of x.stamp ≤ x.ready) ran (r ∷ []) l.ripe (all_one (λ (x : Record R). snap_of x.stamp ≤ x.ready) r
            (omega (arith, over, ready, ap (λ (x : Numbered). snap_of x.stamp) same))));
      } where
        claim_with : ℕ → ℕ → ℕ → Claim
        claim_with p k s = record { cpu = p; number = k; sight = s }

  -- nothing was run
  pub ran_none : (tried seen : ℕ) (p q : HandState J R) → hand_held q ≡ hand_held p → hand_drawn q ≡ hand_drawn p → hand_records q ≡ hand_records p → sight (hand_view q) ≡ seen → StepsOnly (turns_word p.hand.cpu) tried (hand_view p) (hand_view q) → Ran 0 tried seen p q
  ran_none tried seen p q held drawn records at steps = record {
    calls = [];
    records = [];
    many = refl;
    held = sym held;
    drawn = drawn;
    more = records ∙ sym (nothing_more (hand_records p));
    same = refl;
    ready = none_of (λ (r : Record R). r.ready ≡ seen);
    sight = at;
    steps = subst (λ (k : ℕ). StepsOnly (turns_word p.hand.cpu) k (hand_view p) (hand_view q)) (omega arith) steps;
  }

  -- no claim was won
  pub ran_untaken : (seen : ℕ) (stop : Stop) (p q : HandState J R) (t : TakesNone R p.hand.cpu seen stop (hand_view p) (hand_view q) p.hand.held q.hand.held) → hand_records q ≡ hand_records p → sight (hand_view p) ≡ seen → Ran 0 t.tried seen p q
  ran_untaken seen stop p q t records at = ran_none t.tried seen p q (ap (λ (h : Held J). held_by h) t.held) (ap (λ (h : Held J). drawn_by h) t.held) records (t.sight ∙ at) t.steps

  pub held_untaken : (seen : ℕ) (stop : Stop) (p q : HandState J R) → TakesNone R p.hand.cpu seen stop (hand_view p) (hand_view q) p.hand.held q.hand.held → q.hand.cpu ≡ p.hand.cpu → hand_records q ≡ hand_records p → sight (hand_view p) ≡ seen
      → RunsHeld seen (record { ran = 0; stop = stop }) p q
  held_untaken seen stop p q t cpu records at = (t.tried, ran_untaken seen stop p q t records at, subst (λ (k : ℕ). StopsAt stop 0 k seen q) (omega arith) (t.why q cpu refl t.held 0))

  -- one was
  pub ran_one : (seen : ℕ) (p q : HandState J R) (c : Callback J) (r : Record R) → hand_held p ≡ c ∷ hand_held q → hand_drawn q ≡ hand_drawn p → hand_records q ≡ and_ran (r ∷ []) (hand_records p)
      → numbered_record r ≡ numbered_callback c → r.ready ≡ seen → sight (hand_view q) ≡ seen → StepsOnly (turns_word p.hand.cpu) 2 (hand_view p) (hand_view q) → Ran 1 1 seen p q
  ran_one seen p q c r held drawn more same ready at steps = record {
    calls = c ∷ [];
    records = r ∷ [];
    many = refl;
    held = held;
    drawn = drawn;
    more = more;
    same = ap (λ (x : Numbered). x ∷ []) (sym same);
    ready = all_one (λ (x : Record R). x.ready ≡ seen) r ready;
    sight = at;
    steps = steps;
  }

  -- some, and then others
  pub ran_more : (m n x y seen : ℕ) (o p q : HandState J R) → p.hand.cpu ≡ o.hand.cpu → Ran m x seen o p → Ran n y seen p q → Ran (m + n) (x + y) seen o q
  ran_more m n x y seen o p q cpu a b = record {
    calls = a.calls ++ b.calls;
    records = a.records ++ b.records;
    many = length-append a.records b.records ∙ (let s = a.many in let t = b.many in omega arith);
    held = a.held ∙ (ap (λ l. a.calls ++ l) b.held ∙ sym (append_assoc a.calls b.calls (hand_held q)));
    drawn = b.drawn ∙ a.drawn;
    more = b.more ∙ (ap (and_ran b.records) a.more ∙ ran_again (hand_records o) a.records b.records);
    same = map-append numbered_callback a.calls b.calls ∙ (ap (λ l. l ++ map numbered_callback b.calls) a.same ∙ (ap (λ l. map numbered_record a.records ++ l) b.same ∙ sym (map-append numbered_record a.records b.records)));
    ready = All-append (λ (r : Record R). r.ready ≡ seen) a.records b.records a.ready b.ready;
    sight = b.sight;
    steps = subst (λ (k : ℕ). StepsOnly (turns_word o.hand.cpu) k (hand_view o) (hand_view q)) (omega arith)
        (steps_more (turns_word o.hand.cpu) (x + m) (y + n) (hand_view o) (hand_view p) (hand_view q) a.steps (subst (λ (c : ℕ). StepsOnly (turns_word c) (y + n) (hand_view p) (hand_view q)) cpu b.steps));
  }

  -- what a hand knows of jobs, where nothing was run
  pub hand_sound_kept : (key_of : J → ℕ) (gives : ℕ → R → Type 0) (drawn drawn' : List (Callback J)) (ran ran' : List (Record R)) → drawn' ≡ drawn → ran' ≡ ran
      → (AreKeyed key_of drawn → Given gives ran) → AreKeyed key_of drawn' → Given gives ran'
  hand_sound_kept key_of gives drawn drawn' ran ran' e f s keyed = subst (λ (rs : List (Record R)). Given gives rs) (sym f) (s (subst (λ (cs : List (Callback J)). AreKeyed key_of cs) e keyed))

  -- where one was run, whose key is its job's if what was drawn has its jobs' keys
  pub hand_sound_ran : (key_of : J → ℕ) (gives : ℕ → R → Type 0) (drawn drawn' taken rest : List (Callback J)) (c : Callback J) (ran ran' : List (Record R)) (r : Record R) → drawn ≡ taken ++ c ∷ rest
      → drawn' ≡ drawn → ran' ≡ ran ++ r ∷ [] → (key_of c.job ≡ c.key → gives r.key r.receipt) → (AreKeyed key_of drawn → Given gives ran) → AreKeyed key_of drawn' → Given gives ran'
  hand_sound_ran key_of gives drawn drawn' taken rest c ran ran' r all e more given s keyed =
      let before = subst (λ (cs : List (Callback J)). AreKeyed key_of cs) e keyed in
      let split = subst (λ (cs : List (Callback J)). AreKeyed key_of cs) all before in
      subst (λ (rs : List (Record R)). Given gives rs) (sym more) (All-append (λ (x : Record R). gives x.key x.receipt) ran (r ∷ []) (s before)
      (all_one (λ (x : Record R). gives x.key x.receipt) r (given (keyed_at key_of taken c rest split))))

  pub same_hand : (p : HandState J R) → SameHand p p
  same_hand p = record { part = record { board = refl; seat = same_seat _ }; lane = refl; cpu = refl; blimit = refl; kept = refl }

  pub same_hand_again : (p q r : HandState J R) → SameHand p q → SameHand q r → SameHand p r
  same_hand_again p q r a b = record { part = same_again _ _ _ _ _ _ a.part b.part; lane = b.lane ∙ a.lane; cpu = b.cpu ∙ a.cpu; blimit = b.blimit ∙ a.blimit; kept = b.kept ∙ a.kept }

  -- records that stay, or to which others are added, and then others
  pub records_kept : (p q : HandState J R) → hand_records q ≡ hand_records p → AddsRecords p q
  records_kept p q e = ([], e ∙ sym (nothing_more (hand_records p)))

  pub records_again : (p q r : HandState J R) → AddsRecords p q → AddsRecords q r → AddsRecords p r
  records_again p q r a b = (a.0 ++ b.0, b.1 ∙ (ap (and_ran b.0) a.1 ∙ ran_again (hand_records p) a.0 b.0))

  -- a turn adds the records of what it ran
  pub records_turned : (answer : HandTurn) (p q : HandState J R) → TurnsBy answer p q → AddsRecords p q
  records_turned answer p q t = (t.ran.records, t.ran.more ∙ ap (and_ran t.ran.records) (t.loads.records ∙ t.looks.records))

  -- a step that changes no claim
  pub hand_watched : (cpu : ℕ) (v w : View) (ran : List (Record R)) (taken : List (Callback J)) → w.claims ≡ v.claims → w.running ≡ v.running → IsLawfulHand cpu v ran taken → IsLawfulHand cpu w ran taken
  hand_watched cpu v w ran taken claims running l = record { rests = running ∙ l.rests; places = l.places; claims = claims ∙ l.claims; ripe = l.ripe }

  -- what a hand knows of jobs, where it drew more
  pub hand_sound_drawn : (key_of : J → ℕ) (gives : ℕ → R → Type 0) (drawn drawn' batch : List (Callback J)) (ran : List (Record R)) → drawn' ≡ drawn ++ batch → (AreKeyed key_of drawn → Given gives ran) → AreKeyed key_of drawn' → Given gives ran
  hand_sound_drawn key_of gives drawn drawn' batch ran e s keyed = s (keyed_before key_of drawn batch (subst (λ (cs : List (Callback J)). AreKeyed key_of cs) e keyed))

  -- before any step
  pub first_hand : (b : Board) (cpu : ℕ) (v : View) (ran : List (Record R)) (drawn held : List (Callback J)) → v ≡ new_view b.processors b.offloadable 1 false false [] → ran ≡ [] → drawn ≡ []
      → IsLawfulHand cpu v ran (before_end drawn held)
  first_hand b cpu v ran drawn held first none nothing = record {
    rests = ap (λ (w : View). w.running) first;
    places = ap (λ (ds : List (Callback J)). map numbered_callback (before_end ds held)) nothing ∙ (taken_none held ∙ sym (ap (λ (rs : List (Record R)). map numbered_record rs) none));
    claims = ap (λ (w : View). w.claims) first ∙ sym (ap (λ (rs : List (Record R)). map (claim_of cpu) rs) none);
    ripe = subst (λ (rs : List (Record R)). AreRipe rs) (sym none) (none_of (λ (r : Record R). snap_of r.stamp ≤ r.ready));
  } where
    taken_none : (ys : List (Callback J)) → map numbered_callback (before_end [] ys) ≡ []
    taken_none ys = search rules

  -- one step was made on the board word, by the look
  pub looked_once : (p q r : HandState J R) (seen : ℕ) → Looks seen p q → Loads q r → tally (hand_view r) board_word ≡ tally (hand_view p) board_word + 1
  looked_once p q r seen a b = ap (λ (v : View). tally v board_word) b.view ∙ (ap (λ (v : View). tally v board_word) a.step
      ∙ get_or-set_same (hand_view p).steps 0 (tally (hand_view p) 0 + 1) 0 (let h = has_words (hand_board p) p.hand.seat p.hand.here in omega (arith, h.steps)))
