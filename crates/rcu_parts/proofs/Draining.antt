-- What is seen stays seen, and once all that was accepted has run no job comes back.
use Rattle.std.proofs.Common.{◌≡◌, ℕ, zero, suc, ◌/◌, ◌%◌, ◌<◌, ◌≤◌, ◌∙◌, List, [], ◌∷◌, ◌++◌, map, drop, length, slice_index_or, get_or, sym, ap, subst, refl, arith}
use Rattle.std.specs.List.{All, AllZip, Any}
use Rattle.rcu_board.specs.Seats.{NeverFalls}
use Rattle.rcu_board.specs.Views.{seen_at}
use Rattle.rcu_board.specs.Words.{accepts_word, turns_word}
use Rattle.rcu_board.specs.declared.board.Board.{Board}
use Rattle.rcu_board.specs.declared.view.View.{View}
use Rattle.rcu_part_control.specs.Barriers.{IsOver, count_at}
use Rattle.rcu_part_control.specs.Parts.{control_view}
use Rattle.rcu_part_close.proofs.Closings.{as_many_ended}
use Rattle.rcu_part_close.specs.Closing.{CpuEnd, EndsAs, processors_of, seats_of}
use Rattle.rcu_part_steps.specs.Places.{accepted_list}
use Rattle.rcu_part_close.specs.Parts.{CpuPart, hand_views, views_of}
use Rattle.rcu_jobs.specs.declared.Counts.{Counts}
use Rattle.rcu_jobs.specs.declared.answers.Closed.{Closed}
use Rattle.rcu_part_processor.specs.Processors.{SameProcessor, board_of, view_of}
use Rattle.rcu_part_processor.specs.declared.processor.Processor.{Processor}
use Rattle.rcu_part_hand.specs.declared.hand.Hand.{Hand}
use Rattle.rcu_parts.specs.AtClose.{AccountsFor, cpu_part, cpu_parts, hand_for, hands_after, other_views}
use Rattle.rcu_parts.specs.Drained.{HasNoneBack, IsCountedFor, IsDrained, polling_views}
use Rattle.rcu_parts.specs.OneOpen.{AreOfOneOpen, AreProcessorsFrom, Parts, hands_in, parts_board, processors_in}
use Rattle.rcu_parts.specs.SameParts.{AreSameParts}
use Rattle.std.proofs.lemmas.List.Elements.{All-cons, All-head, All-map, All-nil, All-tail}
use Rattle.rcu_lemmas.proofs.All.{All-append_right, All-unmap}

module _ {A : Type 0} where
  -- what some element is, of which also what all are
  any_of_all : (P Q : A → Type 0) (xs : List A) → Any P xs → All Q xs → (x : A) × P x × Q x
  any_of_all P Q xs some all = (some.1, some.4, subst Q some.3 (all some.0 some.1 some.2))

  -- what is said of some of one list is said of some of the other
  any_at : (P S : A → Type 0) (Q : A → A → Type 0) → ((x y : A) → Q x y → P x → S y) → (xs ys : List A) → AllZip Q xs ys → (k : ℕ) (w : A) → k < length xs → slice_index_or xs k w ≡ w → P w → Any S ys
  any_at P S Q f [] ys z k w low is p = absurd (omega (arith, low))
  any_at P S Q f (x ∷ xs) [] z k w low is p = absurd z
  any_at P S Q f (x ∷ xs) (y ∷ ys) z zero w low is p = (zero, y, (let some : 0 < length (y ∷ ys) = omega arith in some), refl, f x y z.0 (subst P (sym is) p))
  any_at P S Q f (x ∷ xs) (y ∷ ys) z (suc k) w low is p = let r = any_at P S Q f xs ys z.1 k w (omega (arith, low)) is p in
      (suc r.0, r.1, (let more : suc r.0 < length (y ∷ ys) = omega (arith, r.2) in more), r.3, r.4)

  any_zipped : (P S : A → Type 0) (Q : A → A → Type 0) → ((x y : A) → Q x y → P x → S y) → (xs ys : List A) → AllZip Q xs ys → Any P xs → Any S ys
  any_zipped P S Q f xs ys z some = any_at P S Q f xs ys z some.0 some.1 some.2 some.3 some.4

no_longer : {X : Type 0} (l : List X) → length l ≤ 0 → l ≡ []
no_longer [] short = refl
no_longer (x ∷ xs) short = absurd (omega (arith, short))

-- ---- what is seen stays seen

still_counted : (n p : ℕ) (counts : Counts) (v w : View) → p < n → NeverFalls n v w → IsCountedFor p counts v → IsCountedFor p counts w
still_counted n p counts v w low later is = let same = later.shut p low is.0 in (ap (λ (x : ℕ). x % 2) same ∙ is.0, omega (arith, ap (λ (x : ℕ). x / 2) same, is.1))

still_over : (n : ℕ) (counts : Counts) (v w : View) → counts.n ≡ n → NeverFalls n v w → IsOver counts v → IsOver counts w
still_over n counts v w many later over p low = omega (arith, over p low, later.turns p (omega (arith, many, low)))

module _ {J R : Type 0} where
  abbrev own_view : Processor J R → View
  own_view p = view_of p.state

  processors_later : (k : ℕ) (b : Board) (ps qs : List (Processor J R)) → AllZip (λ p q. SameProcessor p.state q.state) ps qs → AreProcessorsFrom k b ps → AllZip (NeverFalls b.processors) (map own_view ps) (map own_view qs)
  unfolding AreProcessorsFrom
  processors_later k b [] [] z h = tt
  processors_later k b [] (q ∷ qs) z h = absurd z
  processors_later k b (p ∷ ps) [] z h = absurd z
  processors_later k b (p ∷ ps) (q ∷ qs) z h =
      (subst (λ (c : Board). NeverFalls c.processors (own_view p) (own_view q)) h.0 (z.0.part.seat.later (board_of p.state) p.state.here), processors_later (suc k) b ps qs z.1 h.2)

  -- no sight of a part falls while it stays the same part
  pub polling_later : (old new : Parts J R) → AreSameParts old new → AreOfOneOpen old → AllZip (NeverFalls (parts_board old).processors) (polling_views old) (polling_views new)
  polling_later old new s one = (s.control.seat.later (parts_board old) old.control.here, processors_later 0 (parts_board old) (processors_in old) (processors_in new) s.processors one.processors)

  pub stays_drained : (counts : Counts) (old new : Parts J R) → AreSameParts old new → AreOfOneOpen old → IsDrained counts old → IsDrained counts new
  stays_drained counts old new s one d = let n = (parts_board old).processors in let later = polling_later old new s one in record {
    many = d.many ∙ ap (λ (b : Board). b.processors) (sym s.control.board);
    counted = λ p low. any_zipped (IsCountedFor p counts) (IsCountedFor p counts) (NeverFalls n) (λ v w. still_counted n p counts v w (omega (arith, low, d.many))) (polling_views old) (polling_views new) later (d.counted p low);
    passed = any_zipped (IsOver counts) (IsOver counts) (NeverFalls n) (λ v w. still_over n counts v w d.many) (polling_views old) (polling_views new) later d.passed;
  }

  -- ---- what that means at close

  -- what is said of all seats is said of the processors'
  all_own : (Q : View → Type 0) (es : List (CpuEnd J R)) (ps : List (Processor J R)) (hs : List (Hand J R)) → map (λ e. e.part) es ≡ cpu_parts ps hs → All Q (seats_of es) → All Q (map own_view ps)
  all_own Q es [] hs same h = All-nil Q
  all_own Q [] (p ∷ ps) hs same h = absurd (let long = ap (λ (l : List (CpuPart J R)). length l) same in omega (arith, long))
  all_own Q (e ∷ es) (p ∷ ps) hs same h =
      let first : e.part ≡ cpu_part p (hand_for p hs) = ap (λ (l : List (CpuPart J R)). get_or l 0 e.part) same in
      let rest = ap (λ (l : List (CpuPart J R)). drop 1 l) same in
      All-cons Q (own_view p) (map own_view ps)
      (subst Q (ap (λ (c : CpuPart J R). c.view) first) (All-head Q e.part.view (hand_views e.part.hand ++ seats_of es) h))
      (all_own Q es ps (hands_after p hs) rest (All-append_right Q (views_of e.part) (seats_of es) h))

  -- and of those that poll
  all_polling : (Q : View → Type 0) (parts : Parts J R) (es : List (CpuEnd J R)) → map (λ e. e.part) es ≡ cpu_parts (processors_in parts) (hands_in parts)
      → All Q (control_view parts.control ∷ (other_views parts ++ seats_of es)) → All Q (polling_views parts)
  all_polling Q parts es same h = let v = control_view parts.control in let others = other_views parts ++ seats_of es in
      All-cons Q v (map own_view (processors_in parts)) (All-head Q v others h)
      (all_own Q es (processors_in parts) (hands_in parts) same (All-append_right Q (other_views parts) (seats_of es) (All-tail Q v others h)))

module _ {J R : Type 0} (counts : Counts) (parts : Parts J R) (drained : IsDrained counts parts) where
  -- of a processor whose accepted callbacks the barrier counted no job comes back
  none_of : (es : List (CpuEnd J R)) (e : CpuEnd J R) → map (λ x. x.part) es ≡ cpu_parts (processors_in parts) (hands_in parts) → e.part.cpu < counts.n
      → EndsAs (control_view parts.control ∷ (other_views parts ++ seats_of es)) (processors_of es) e → e.back ≡ []
  none_of es e same low h = let p = e.part.cpu in let accepted = accepted_list e.part.view in
      let Turns = λ (w : View). seen_at w (turns_word p) / 2 ≤ length e.ran in
      let Shut = λ (w : View). seen_at w (accepts_word p) % 2 ≡ 1 → seen_at w (accepts_word p) / 2 ≡ length accepted in
      let over = any_of_all (IsOver counts) Turns (polling_views parts) drained.passed (all_polling Turns parts es same h.turns) in
      let shut = any_of_all (IsCountedFor p counts) Shut (polling_views parts) (drained.counted p low) (all_polling Shut parts es same h.shut) in
      let ran : count_at counts p ≤ length e.ran = omega (arith, over.1 p low, over.2) in
      let all : length accepted ≤ count_at counts p = omega (arith, shut.1.1, shut.2 shut.1.0) in
      no_longer e.back (omega (arith, ran, all, as_many_ended (control_view parts.control ∷ (other_views parts ++ seats_of es)) (processors_of es) e h))

  none_each : (k : ℕ) (b : Board) (all es : List (CpuEnd J R)) (ps : List (Processor J R)) (hs : List (Hand J R)) → map (λ x. x.part) all ≡ cpu_parts (processors_in parts) (hands_in parts) → map (λ x. x.part) es ≡ cpu_parts ps hs
      → counts.n ≡ b.processors → AreProcessorsFrom k b ps → All (EndsAs (control_view parts.control ∷ (other_views parts ++ seats_of all)) (processors_of all)) es → All (λ e. e.back ≡ []) es
  unfolding AreProcessorsFrom
  none_each k b all [] ps hs whole same many from h = All-nil (λ (e : CpuEnd J R). e.back ≡ [])
  none_each k b all (e ∷ es) [] hs whole same many from h = absurd (let long = ap (λ (l : List (CpuPart J R)). length l) same in omega (arith, long))
  none_each k b all (e ∷ es) (p ∷ ps) hs whole same many from h =
      let first : e.part ≡ cpu_part p (hand_for p hs) = ap (λ (l : List (CpuPart J R)). get_or l 0 e.part) same in
      let rest = ap (λ (l : List (CpuPart J R)). drop 1 l) same in
      let Ends = EndsAs (control_view parts.control ∷ (other_views parts ++ seats_of all)) (processors_of all) in
      let near : e.part.cpu < counts.n = omega (arith, ap (λ (c : CpuPart J R). c.cpu) first, p.state.there, ap (λ (c : Board). c.processors) from.0, many) in
      All-cons (λ (x : CpuEnd J R). x.back ≡ []) e es (none_of all e whole near (All-head Ends e es h))
      (none_each (suc k) b all es ps (hands_after p hs) whole rest many from.2 (All-tail Ends e es h))

  -- a drained runtime hands no job back
  pub drained_none_back : (closed : Closed J R) → AreOfOneOpen parts → AccountsFor parts closed → HasNoneBack closed
  drained_none_back closed one c =
      let None = λ (l : List J). l ≡ [] in
      let each = none_each 0 (parts_board parts) c.ends c.ends (processors_in parts) (hands_in parts) c.parts_are c.parts_are drained.many one.processors c.closes in
      let lists : All None (map (λ (e : CpuEnd J R). e.back) c.ends) = All-map None (λ (e : CpuEnd J R). e.back) c.ends each in
      All-unmap None (λ b. b.items) closed.back.items (subst (All None) (sym c.back) lists)
