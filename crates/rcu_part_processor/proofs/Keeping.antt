-- How a processor's part keeps its law over steps.
use Rattle.std.proofs.Common.{◌≡◌, ℕ, ◌+◌, ◌≤◌, List, [], ◌∷◌, ◌++◌, map, length, length-append, ap, sym, ◌∙◌, subst, arith, append_assoc}
use Rattle.std.proofs.Math.Logic.{∥∥₁_map, ∥∥₁_elim}
use Rattle.std.proofs.Props.{props}
use Rattle.std.proofs.lemmas.List.{map-append, length-map, append_cancel_left}
use Rattle.rcu_board.specs.Seats.{NeverFalls, accepted_of}
use Rattle.rcu_board.specs.Views.{seen_at}
use Rattle.rcu_board.specs.Words.{needed_word}
use Rattle.rcu_board.specs.declared.view.Accepted.{Accepted as Entry}
use Rattle.rcu_board.specs.declared.view.View.{View}
use Rattle.rcu_part_lists.specs.Aims.{AreUpTo}
use Rattle.rcu_part_lists.specs.ProcessorLists.{Holding, held_in, holding, put_by, passed_on}
use Rattle.rcu_part_lists.specs.declared.processor_lists.ProcessorLists.{ProcessorLists}
use Rattle.rcu_part_lists.proofs.Aims.{up-raised}
use Rattle.rcu_jobs.specs.declared.callback.Callback.{Callback}
use Rattle.rcu_jobs.specs.declared.callback.Record.{Record}
use Rattle.rcu_part_order.specs.Places.{Placed, Numbered, with_number}
use Rattle.rcu_part_order.proofs.Moves.{placed_accepts, placed_all, placed_puts}
use Rattle.rcu_part_order.specs.Records.{numbered_records}
use Rattle.rcu_part_steps.specs.Begins.{number_that_runs}
use Rattle.rcu_part_steps.specs.Changes.{Keeps, Tells, Enters, entry}
use Rattle.rcu_part_processor.specs.Lawful.{HasPlaces, IsLawful, IsRunningProcessor}
use Rattle.rcu_part_steps.specs.Places.{numbered_callback, numbered_callbacks, accepted_entry, accepted_list}
use Rattle.rcu_part_steps.specs.declared.begins.ClaimedCallback.{ClaimedCallback}

module _ {J : Type 0} where
  -- the callbacks that are put and held, once one more was accepted and some were put
  placed_after : (entries : List Entry) (ran : List Numbered) (put held put' held' batch : List (Callback J)) (c : Callback J)
      → c.number ≡ length entries → put' ≡ put ++ batch → put' ++ held' ≡ (put ++ held) ++ c ∷ []
      → Placed (map accepted_entry entries) ran (numbered_callbacks put) (numbered_callbacks held)
      → Placed (map accepted_entry (entries ++ entry c.key c.stamp ∷ [])) ran (numbered_callbacks put') (numbered_callbacks held')
  placed_after entries ran put held put' held' batch c number more all p =
      let k = numbered_callback {J = J} in
      let x = accepted_entry (entry c.key c.stamp) in
      let same : with_number (length (map accepted_entry entries)) x ≡ k c = ap (λ (j : ℕ). with_number j x) (length-map entries accepted_entry ∙ sym number) in
      let first = placed_accepts (map accepted_entry entries) ran (map k put) (map k held) x p in
      let rest : batch ++ held' ≡ held ++ c ∷ [] = append_cancel_left put (batch ++ held') (held ++ c ∷ [])
      (sym (append_assoc put batch held') ∙ (ap (λ (l : List (Callback J)). l ++ held') (sym more) ∙ (all ∙ append_assoc put held (c ∷ [])))) in
      let split : map k held ++ k c ∷ [] ≡ map k batch ++ map k held' = sym (map-append k held (c ∷ [])) ∙ (ap (map k) (sym rest) ∙ map-append k batch held') in
      let second : Placed (map accepted_entry entries ++ x ∷ []) ran (map k put) (map k batch ++ map k held')
      = subst (Placed (map accepted_entry entries ++ x ∷ []) ran (map k put)) (ap (λ (y : Numbered). map k held ++ y ∷ []) same ∙ split) first in
      let third = placed_puts (map accepted_entry entries ++ x ∷ []) ran (map k put) (map k batch) (map k held') second in
      subst (λ (ps : List Numbered). Placed (map accepted_entry (entries ++ entry c.key c.stamp ∷ [])) ran ps (map k held')) (sym (map-append k put batch) ∙ ap (map k) (sym more))
      (subst (λ (as' : List _). Placed as' ran (map k put ++ map k batch) (map k held')) (sym (map-append accepted_entry entries (entry c.key c.stamp ∷ []))) third)

-- steps that keep all lists change no accepted number
pub tells_by_keeps : (v w : View) → Keeps v w → Tells v w
tells_by_keeps v w k = record { accepted = k.accepted; fresh = k.fresh; claims = k.claims; running = k.running }

module _ {J : Type 0} where
  -- steps that change no accepted number
  pub places_by_tells : (n m : ℕ) (v w : View) (claimed : List Numbered) (h : Holding J) → Tells v w → NeverFalls m v w → HasPlaces n v claimed h → HasPlaces n w claimed h
  places_by_tells n m v w claimed h k later l = record {
    counted = ap length k.accepted ∙ l.counted;
    stamped = k.fresh ∙ l.stamped;
    places = subst (λ (as' : List Entry). ∥ Placed (map accepted_entry as') claimed (numbered_callbacks (put_by h)) (numbered_callbacks (held_in h)) ∥₁) (sym k.accepted) l.places;
    looked = let z = l.looked in let y = later.board in omega arith;
    needed = up-raised (seen_at v needed_word) (seen_at w needed_word) h.own later.needed l.needed;
  }

  pub places_by_keeps : (n m : ℕ) (v w : View) (claimed : List Numbered) (h : Holding J) → Keeps v w → NeverFalls m v w → HasPlaces n v claimed h → HasPlaces n w claimed h
  places_by_keeps n m v w claimed h k later l = places_by_tells n m v w claimed h (tells_by_keeps v w k) later l

  -- one more was accepted, and placed
  pub places_by_enters : (n m : ℕ) (v w : View) (claimed : List Numbered) (h h' : Holding J) (batch : List (Callback J)) (c : Callback J)
      → c.number ≡ n → Enters c.key c.stamp v w → NeverFalls m v w → put_by h' ≡ put_by h ++ batch → passed_on h' ≡ passed_on h ++ c ∷ [] → h'.advanced ≡ h.advanced → ((s : ℕ) → AreUpTo s h.own → AreUpTo s h'.own)
      → HasPlaces n v claimed h → HasPlaces (n + 1) w claimed h'
  places_by_enters n m v w claimed h h' batch c number e later more all advanced up l = record {
    counted = ap length e.accepted ∙ (length-append (accepted_of v) (entry c.key c.stamp ∷ []) ∙ ap (λ (j : ℕ). j + 1) l.counted);
    stamped = e.fresh;
    places = ∥∥₁_map l.places (λ p.
        subst (λ (as' : List Entry). Placed (map accepted_entry as') claimed (numbered_callbacks (put_by h')) (numbered_callbacks (held_in h'))) (sym e.accepted)
        (placed_after (accepted_of v) claimed (put_by h) (held_in h) (put_by h') (held_in h') batch c (number ∙ sym l.counted) more all p));
    looked = let z = l.looked in let y = later.board in omega (arith, advanced);
    needed = up (seen_at w needed_word) (up-raised (seen_at v needed_word) (seen_at w needed_word) h.own later.needed l.needed);
  }

  -- no more was put and is held than was accepted
  pub few_placed : (n : ℕ) (v : View) (claimed : List Numbered) (h : Holding J) → HasPlaces n v claimed h → length (passed_on h) ≤ n
  few_placed n v claimed h l = ∥∥₁_elim l.places (hlevel props) (λ p.
      let all = placed_all (accepted_list v) claimed (numbered_callbacks (put_by h)) (numbered_callbacks (held_in h)) p in
      omega (arith, all, length-append (put_by h) (held_in h), length-map (accepted_of v) accepted_entry, length-map (put_by h) (numbered_callback {J = J}), length-map (held_in h) (numbered_callback {J = J}), l.counted))

module _ {J R : Type 0} where
  pub places_of : (cpu n : ℕ) (v : View) (ran : List (Record R)) (h : Holding J) → IsLawful cpu n v ran h → HasPlaces n v (numbered_records ran) h
  places_of cpu n v ran h l = record { counted = l.counted; stamped = l.stamped; places = l.places; looked = l.looked; needed = l.needed }

  -- the law where no claim changed
  pub kept_by_places : (cpu n m : ℕ) (v w : View) (ran : List (Record R)) (h h' : Holding J) → w.claims ≡ v.claims → w.running ≡ v.running → HasPlaces m w (numbered_records ran) h' → IsLawful cpu n v ran h → IsLawful cpu m w ran h'
  kept_by_places cpu n m v w ran h h' claims running has l = record {
    counted = has.counted;
    stamped = has.stamped;
    rests = running ∙ l.rests;
    places = has.places;
    claims = claims ∙ l.claims;
    ripe = l.ripe;
    looked = has.looked;
    needed = has.needed;
  }

  -- and while a claim runs
  pub runs_by_places : (cpu n m : ℕ) (c : ClaimedCallback) (v w : View) (ran : List (Record R)) (h h' : Holding J) → w.claims ≡ v.claims → w.running ≡ v.running → HasPlaces m w (numbered_records ran ++ number_that_runs c ∷ []) h'
      → IsRunningProcessor cpu n c v ran h → IsRunningProcessor cpu m c w ran h'
  runs_by_places cpu n m c v w ran h h' claims running has l = record { has = has; runs = running ∙ l.runs; claims = claims ∙ l.claims; ripe = l.ripe; over = l.over }

  -- steps that change no accepted number and no claim
  pub kept_by_tells : (cpu n m : ℕ) (v w : View) (ran : List (Record R)) (h : Holding J) → Tells v w → NeverFalls m v w → IsLawful cpu n v ran h → IsLawful cpu n w ran h
  kept_by_tells cpu n m v w ran h k later l = kept_by_places cpu n n v w ran h h k.claims k.running (places_by_tells n m v w (numbered_records ran) h k later (places_of cpu n v ran h l)) l

  pub kept_by_keeps : (cpu n m : ℕ) (v w : View) (ran : List (Record R)) (h : Holding J) → Keeps v w → NeverFalls m v w → IsLawful cpu n v ran h → IsLawful cpu n w ran h
  kept_by_keeps cpu n m v w ran h k later l = kept_by_tells cpu n m v w ran h (tells_by_keeps v w k) later l

  -- no claim was won
  pub kept_untaken : (cpu n m : ℕ) (v w : View) (ran ran' : List (Record R)) (a b : ProcessorLists J) → Keeps v w → NeverFalls m v w → ran' ≡ ran → b ≡ a → IsLawful cpu n v ran (holding a) → IsLawful cpu n w ran' (holding b)
  kept_untaken cpu n m v w ran ran' a b k later same lists l =
      subst (λ (x : ProcessorLists J). IsLawful cpu n w ran' (holding x)) (sym lists) (subst (λ (rs : List (Record R)). IsLawful cpu n w rs (holding a)) (sym same) (kept_by_keeps cpu n m v w ran (holding a) k later l))

  pub runs_by_tells : (cpu n m : ℕ) (c : ClaimedCallback) (v w : View) (ran : List (Record R)) (h : Holding J) → Tells v w → NeverFalls m v w → IsRunningProcessor cpu n c v ran h → IsRunningProcessor cpu n c w ran h
  runs_by_tells cpu n m c v w ran h k later l = runs_by_places cpu n n c v w ran h h k.claims k.running (places_by_tells n m v w (numbered_records ran ++ number_that_runs c ∷ []) h k later l.has) l
