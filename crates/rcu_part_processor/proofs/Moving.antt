-- How a processor's part keeps its law as callbacks move, and as they run.
use Rattle.std.proofs.Common.{◌≡◌, ℕ, ◌+◌, ◌<◌, ◌≤◌, true, false, List, [], ◌∷◌, ◌++◌, map, length, ap, sym, ◌∙◌, subst, arith, append_assoc}
use Rattle.std.specs.List.{All}
use Rattle.std.proofs.Math.Logic.{∥∥₁_map, ∥∥₁_elim}
use Rattle.std.proofs.Props.{props}
use Rattle.std.proofs.lemmas.List.{map-append, append_cancel_left, length-map}
use Rattle.std.proofs.lemmas.List.Elements.{All-cons, All-head, All-nil, All-tail, All-push}
use Rattle.rcu_board.specs.Seats.{NeverFalls, accepted_of}
use Rattle.rcu_board.specs.Views.{seen_at, sight}
use Rattle.rcu_board.specs.Words.{needed_word}
use Rattle.rcu_board.specs.declared.view.Accepted.{Accepted as Entry}
use Rattle.rcu_board.specs.declared.view.Claim.{Claim}
use Rattle.rcu_board.specs.declared.view.View.{View}
use Rattle.rcu_part_lists.specs.Aims.{AreUpTo}
use Rattle.rcu_part_lists.specs.ProcessorLists.{Holding, held_in, put_by, passed_on}
use Rattle.rcu_part_lists.specs.Limits.{AreBelow}
use Rattle.rcu_part_lists.proofs.Aims.{up-raised}
use Rattle.rcu_jobs.specs.declared.callback.Callback.{Callback}
use Rattle.rcu_jobs.specs.declared.callback.Record.{Record}
use Rattle.rcu_numbers.specs.Numbers.{snap_of}
use Rattle.rcu_part_order.specs.Places.{Accepted, Placed, Move, Numbered, numbered, moved, put_of, with_number}
use Rattle.rcu_part_order.proofs.Moves.{placed_claims, placed_puts}
use Rattle.rcu_part_order.specs.Records.{numbered_record, numbered_records, AreRipe}
use Rattle.rcu_part_steps.specs.Changes.{Claims, Finishes, Tells, claim_at}
use Rattle.rcu_part_processor.specs.Lawful.{IsLawful}
use Rattle.rcu_part_steps.specs.Places.{numbered_callback, numbered_callbacks, accepted_entry, accepted_list, claim_of}

-- ---- what was put is below the count

abbrev below : ℕ → Numbered → Type 0
below n x = x.number < n

all_numbered : (k : ℕ) (acc : List Accepted) (n : ℕ) → k + length acc ≤ n → All (below n) (numbered k acc)
all_numbered k [] n le = All-nil (below n)
all_numbered k (x ∷ xs) n le = All-cons (below n) (with_number k x) (numbered (k + 1) xs) (omega arith) (all_numbered (k + 1) xs n (omega arith))

put_below : (n : ℕ) (ms : List Move) (held : List Numbered) → All (below n) (moved ms ++ held) → All (below n) (put_of ms)
put_below n [] held a = All-nil (below n)
put_below n (m ∷ ms) held a =
    let rest = put_below n ms held (All-tail (below n) m.what (moved ms ++ held) a) in
    elim m.claimed as (λ b. All (below n) (put_of (record { claimed = b; what = m.what } ∷ ms))) [
      | true ↦ rest
      | false ↦ All-cons (below n) m.what (put_of ms) (All-head (below n) m.what (moved ms ++ held) a) rest
    ]

module _ {J : Type 0} where
  put_calls_below : (n : ℕ) (cs : List (Callback J)) → All (below n) (numbered_callbacks cs) → AreBelow n cs
  put_calls_below n [] a = All-nil (λ (c : Callback J). c.number < n)
  put_calls_below n (c ∷ cs) a = All-cons (λ (x : Callback J). x.number < n) c cs (All-head (below n) (numbered_callback c) (numbered_callbacks cs) a)
      (put_calls_below n cs (All-tail (below n) (numbered_callback c) (numbered_callbacks cs) a))

  placed_below : (acc : List Accepted) (ran : List Numbered) (put : List (Callback J)) (held : List Numbered) (n : ℕ) → length acc ≡ n → Placed acc ran (numbered_callbacks put) held → AreBelow n put
  placed_below acc ran put held n len p = put_calls_below n put (subst (All (below n)) p.put_is (put_below n p.moves held (subst (All (below n)) p.all (all_numbered 0 acc n (omega (arith, len))))))

  -- what is put stays behind what was put
  placed_moved : (acc : List Accepted) (ran : List Numbered) (put held put' held' batch : List (Callback J)) → put' ≡ put ++ batch → put' ++ held' ≡ put ++ held
      → Placed acc ran (numbered_callbacks put) (numbered_callbacks held) → Placed acc ran (numbered_callbacks put') (numbered_callbacks held')
  placed_moved acc ran put held put' held' batch more all p =
      let k = numbered_callback {J = J} in
      let rest : batch ++ held' ≡ held = append_cancel_left put (batch ++ held') held (sym (append_assoc put batch held') ∙ (ap (λ (l : List (Callback J)). l ++ held') (sym more) ∙ all)) in
      let split : map k held ≡ map k batch ++ map k held' = ap (map k) (sym rest) ∙ map-append k batch held' in
      subst (λ (ps : List Numbered). Placed acc ran ps (map k held')) (sym (map-append k put batch) ∙ ap (map k) (sym more))
      (placed_puts acc ran (map k put) (map k batch) (map k held') (subst (Placed acc ran (map k put)) split p))

module _ {J R : Type 0} where
  -- each number that was put is below the count
  pub lawful_below : (cpu n : ℕ) (v : View) (ran : List (Record R)) (h : Holding J) → IsLawful cpu n v ran h → AreBelow n (put_by h)
  lawful_below cpu n v ran h l = ∥∥₁_elim l.places (hlevel props) (λ p.
      placed_below (accepted_list v) (numbered_records ran) (put_by h) (numbered_callbacks (held_in h)) n (length-map (accepted_of v) accepted_entry ∙ l.counted) p)

  -- callbacks moved on, and steps changed no accepted number and no claim
  pub kept_by_moves : (cpu n : ℕ) (v w : View) (ran : List (Record R)) (h h' : Holding J) (batch : List (Callback J)) → Tells v w
      → put_by h' ≡ put_by h ++ batch → passed_on h' ≡ passed_on h → h'.advanced ≤ sight w → AreUpTo (seen_at w needed_word) h'.own → IsLawful cpu n v ran h → IsLawful cpu n w ran h'
  kept_by_moves cpu n v w ran h h' batch k more all looked up l = record {
    counted = ap length k.accepted ∙ l.counted;
    stamped = k.fresh ∙ l.stamped;
    rests = k.running ∙ l.rests;
    places = ∥∥₁_map l.places (λ p. subst (λ (as' : List Entry). Placed (map accepted_entry as') (numbered_records ran) (numbered_callbacks (put_by h')) (numbered_callbacks (held_in h'))) (sym k.accepted)
        (placed_moved (accepted_list v) (numbered_records ran) (put_by h) (held_in h) (put_by h') (held_in h') batch more all p));
    claims = k.claims ∙ l.claims;
    ripe = l.ripe;
    looked = looked;
    needed = up;
  }

  -- the first callback was claimed, run, and recorded
  pub kept_by_runs : (cpu n m seen : ℕ) (v u w : View) (ran ran' : List (Record R)) (h h' : Holding J) (c : Callback J) (r : Record R)
      → Claims cpu c.number v u → Finishes u w → NeverFalls m v w → sight v ≡ seen → ran' ≡ ran ++ r ∷ [] → put_by h' ≡ put_by h → held_in h ≡ c ∷ held_in h' → h'.advanced ≡ h.advanced
      → ((s : ℕ) → AreUpTo s h.own → AreUpTo s h'.own)
      → numbered_record r ≡ numbered_callback c → r.ready ≡ seen → snap_of c.stamp ≤ seen → IsLawful cpu n v ran h → IsLawful cpu n w ran' h'
  kept_by_runs cpu n m seen v u w ran ran' h h' c r won ends later at more put held advanced less same ready over l =
      let claim : claim_at cpu c.number v ≡ claim_of cpu r = ap (λ (x : Numbered). claim_with cpu x.number (sight v)) (sym same) ∙ ap (λ (k : ℕ). claim_with cpu r.number k) (at ∙ sym ready) in
      let accepted : accepted_of w ≡ accepted_of v = ends.accepted ∙ won.accepted in record {
        counted = ap length accepted ∙ l.counted;
        stamped = ends.fresh ∙ (won.fresh ∙ l.stamped);
        rests = ends.running;
        places = ∥∥₁_map l.places (λ p. subst (λ (as' : List Entry). Placed (map accepted_entry as') (numbered_records ran') (numbered_callbacks (put_by h')) (numbered_callbacks (held_in h'))) (sym accepted)
            (subst (λ (rs : List Numbered). Placed (accepted_list v) rs (numbered_callbacks (put_by h')) (numbered_callbacks (held_in h'))) records
            (placed_claims (accepted_list v) (numbered_records ran) (numbered_callbacks (put_by h')) (numbered_callbacks (held_in h')) (numbered_callback c)
            (subst (λ (ps : List (Callback J)). Placed (accepted_list v) (numbered_records ran) (numbered_callbacks ps) (numbered_callback c ∷ numbered_callbacks (held_in h'))) (sym put)
            (subst (λ (cs : List (Callback J)). Placed (accepted_list v) (numbered_records ran) (numbered_callbacks (put_by h)) (numbered_callbacks cs)) held p)))));
        claims = ends.claims ∙ (won.claims ∙ (ap (λ cs. cs ++ claim_at cpu c.number v ∷ []) l.claims ∙ (ap (λ (x : Claim). map (claim_of cpu) ran ++ x ∷ []) claim
            ∙ (sym (map-append (claim_of cpu) ran (r ∷ [])) ∙ ap (map (claim_of cpu)) (sym more)))));
        ripe = subst (λ (rs : List (Record R)). AreRipe rs) (sym more) (All-push (λ (x : Record R). snap_of x.stamp ≤ x.ready) ran r l.ripe (omega (arith, over, ready, ap (λ (x : Numbered). snap_of x.stamp) same)));
        looked = let z = l.looked in let y = later.board in omega (arith, advanced);
        needed = less (seen_at w needed_word) (up-raised (seen_at v needed_word) (seen_at w needed_word) h.own later.needed l.needed);
      } where
        claim_with : ℕ → ℕ → ℕ → Claim
        claim_with p k s = record { cpu = p; number = k; sight = s }

        records : numbered_records ran ++ numbered_callback c ∷ [] ≡ numbered_records ran'
        records = ap (λ (x : Numbered). numbered_records ran ++ x ∷ []) (sym same) ∙ (sym (map-append numbered_record ran (r ∷ [])) ∙ ap (map numbered_record) (sym more))
