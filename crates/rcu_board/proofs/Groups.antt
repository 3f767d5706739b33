-- Seats that are made and joined keep the rule.
use Rattle.rcu_board.specs.Views.{tally, one_if, control_count, joined_word, joined_words, given_control, with_control, Every, total, seen_at, sight, accepted_count, one_if_claim, one_if_on, claimed, runs, cpus, one_if_equal, own_count, driver_count, spent, joined_tallies, joined, given_plain, plain, rest_own, first_own, given_own, with_own}
use Rattle.rcu_board.specs.Laws.{OddEquals, AskLawInView, Each, BoardRule, ViewAlone, BoardLawInView, AcceptLawInView, TurnLawInView, OwnLaw, ReportLawInView}
use Rattle.rcu_board.specs.Quiets.{Chain}
use Rattle.rcu_board.specs.Words.{words_of, is_asks, asks_word, accepts_word, turns_word, reports_word, period_of}
use Rattle.std.proofs.Common.{◌≡◌, ℕ, zero, suc, ◌+◌, ◌-◌, ◌*◌, ◌%◌, ◌/◌, ◌<◌, ◌≤◌, Bool, true, false, cond, ◌||◌, List, [], ◌∷◌, ◌++◌, length, get_or, set, sym, refl, ap, ◌∙◌, subst, ⊎_elim, ◌⊎◌, inl, inr, arith, max}
use mathlib.Core.Option.{some}
use native.Mathlib.Decide.{dec_le, ℕ_discrete}
use mathlib.Core.Logic.{dite}
use lib.ListN.{get_elem?}
use Rattle.atomic_table.specs.Table.{State, Joins, Splits}
use Rattle.atomic_table.proofs.Lists.{at_snoc, set_else}
use Rattle.rcu_board.specs.declared.view.View.{View}
use Rattle.rcu_board.specs.declared.view.Own.{Own}
use Rattle.rcu_board.specs.declared.view.Claim.{Claim}
use Rattle.rcu_board.specs.declared.view.Accepted.{Accepted}
use Rattle.rcu_board.proofs.Asks.{no_true, accepts_not, turns_not, reports_not, asks_is}
use Rattle.rcu_board.proofs.Turns.{turn_counts, turn_law}
use Rattle.rcu_board.proofs.Views.{every, every_nil, every_more, every_append, total-append, total-set, two_of, each_set}

-- a word of two joined views
pub joined-word-at : (second : Bool) (k i j : ℕ) (xs ys : List ℕ) → length xs ≡ length ys → i < length xs → j ≡ k + i → get_or (joined_words k second xs ys) i 0 ≡ joined_word j second (get_or xs i 0) (get_or ys i 0)
joined-word-at second k i j [] ys e h is = absurd (omega arith)
joined-word-at second k i j (x ∷ xs) [] e h is = absurd (omega arith)
joined-word-at second k zero j (x ∷ xs) (y ∷ ys) e h is = let same : k ≡ j = omega arith in ap (λ (z : ℕ). joined_word z second x y) same
joined-word-at second k (suc i) j (x ∷ xs) (y ∷ ys) e h is = joined-word-at second (suc k) i j xs ys (omega arith) (omega arith) (omega arith)

pub joined-word-greater : (i : ℕ) (second : Bool) (x y : ℕ) → is_asks i ≡ false → joined_word i second x y ≡ max x y
joined-word-greater i second x y e = ap (λ (b : Bool). cond b (cond second y x) (max x y)) e

joined-word-asks : (i : ℕ) (second : Bool) (x y : ℕ) → is_asks i ≡ true → joined_word i second x y ≡ cond second y x
joined-word-asks i second x y e = ap (λ (b : Bool). cond b (cond second y x) (max x y)) e

pub joined-words-long : (second : Bool) (k : ℕ) (xs ys : List ℕ) (n : ℕ) → length xs ≡ n → length ys ≡ n → length (joined_words k second xs ys) ≡ n
joined-words-long second k [] ys n a b = a
joined-words-long second k (x ∷ xs) [] n a b = absurd (omega arith)
joined-words-long second k (x ∷ xs) (y ∷ ys) zero a b = absurd (omega arith)
joined-words-long second k (x ∷ xs) (y ∷ ys) (suc n) a b = let r = joined-words-long second (suc k) xs ys n (omega arith) (omega arith) in omega arith

joined-tallies-long : (xs ys : List ℕ) (n : ℕ) → length xs ≡ n → length ys ≡ n → length (joined_tallies xs ys) ≡ n
joined-tallies-long [] ys n a b = b
joined-tallies-long (x ∷ xs) [] n a b = a
joined-tallies-long (x ∷ xs) (y ∷ ys) zero a b = absurd (omega arith)
joined-tallies-long (x ∷ xs) (y ∷ ys) (suc n) a b = let r = joined-tallies-long xs ys n (omega arith) (omega arith) in omega arith

-- of a word the steps of both
joined-tally-at : (i : ℕ) (xs ys : List ℕ) → get_or (joined_tallies xs ys) i 0 ≡ get_or xs i 0 + get_or ys i 0
joined-tally-at i [] ys = omega arith
joined-tally-at i (x ∷ xs) [] = omega arith
joined-tally-at zero (x ∷ xs) (y ∷ ys) = refl
joined-tally-at (suc i) (x ∷ xs) (y ∷ ys) = joined-tally-at i xs ys

cpus-append : (a b : List Own) → cpus (a ++ b) ≡ cpus a ++ cpus b
cpus-append [] b = refl
cpus-append (x ∷ xs) b = λ i. x.cpu ∷ cpus-append xs b i

-- a law that a view keeps, kept by every view where the two that changed keep it
module _ (n seats : ℕ) (s : State ℕ View) (k : BoardRule n seats s) (id other : ℕ) (v w : View) (at : get_elem? s.views id ≡ some v) (apart : ¬ (other ≡ id)) (there : get_elem? s.views other ≡ some w) where
  abbrev Ends : List View
  Ends = set (set s.views id (joined v w)) other spent

  each_join : (P : View → Type 0) → Each s.views P → P (joined v w) → P spent → Each Ends P
  each_join P all a b = each_set (set s.views id (joined v w)) other spent P P (each_set s.views id (joined v w) P P all (λ _ u _ _ h. h) a) (λ _ u _ _ h. h) b

  total_join : (f : View → ℕ) → f (joined v w) ≡ f v + f w → f spent ≡ 0 → total f Ends ≡ total f s.views
  total_join f both none_left = let a = total-set f s.views id v (joined v w) at in
      let b = total-set f (set s.views id (joined v w)) other w spent (set_else s.views id other (joined v w) apart ∙ there) in omega arith

one_of : (a b x : ℕ) → (a % 2 ≡ 1 → a ≡ x) → (b % 2 ≡ 1 → b ≡ x) → a ≤ x → b ≤ x → max a b % 2 ≡ 1 → max a b ≡ x
one_of a b x f g p q odd = dite (dec_le a b) (λ le. let e : max a b ≡ b = omega arith in e ∙ g (ap (λ (z : ℕ). z % 2) (sym e) ∙ odd)) (λ gt. let e : max a b ≡ a = omega arith in e ∙ f (ap (λ (z : ℕ). z % 2) (sym e) ∙ odd))

count_or : (a b : Bool) → one_if a + one_if b ≤ 1 → one_if (a || b) ≡ one_if a + one_if b
count_or true true h = absurd (omega arith)
count_or true false h = refl
count_or false b h = omega arith

or_split : (a b : Bool) → (a || b) ≡ true → (a ≡ true) ⊎ (b ≡ true)
or_split true b e = inl refl
or_split false b e = inr e

-- of two sights of a word the greater is as odd as the word, where one of them is
parity : (a b x : ℕ) → (a % 2 ≡ 1 → a ≡ x) → (b % 2 ≡ 1 → b ≡ x) → a ≤ x → b ≤ x → (a % 2 ≡ x % 2) ⊎ (b % 2 ≡ x % 2) → max a b % 2 ≡ x % 2
parity a b x f g p q one = dite (ℕ_discrete (x % 2) 1)
    (λ odd. let e : max a b ≡ x = ⊎_elim (λ t. let h = f (t ∙ odd) in omega arith) (λ t. let h = g (t ∙ odd) in omega arith) one in ap (λ (z : ℕ). z % 2) e)
    (λ even.
    let c : a % 2 ≡ 0 = dite (ℕ_discrete (a % 2) 1) (λ o. absurd (even (ap (λ (z : ℕ). z % 2) (sym (f o)) ∙ o))) (λ no. omega arith) in
    let d : b % 2 ≡ 0 = dite (ℕ_discrete (b % 2) 1) (λ o. absurd (even (ap (λ (z : ℕ). z % 2) (sym (g o)) ∙ o))) (λ no. omega arith) in
    dite (dec_le a b) (λ le. let e : max a b ≡ b = omega arith in ap (λ (z : ℕ). z % 2) e ∙ omega arith) (λ gt. let e : max a b ≡ a = omega arith in ap (λ (z : ℕ). z % 2) e ∙ omega arith))

-- what is asked, after a merge
asks_joined : (a b : Bool) (x y z : ℕ) → (a ≡ true → x ≡ z) → (b ≡ true → y ≡ z) → (a || b) ≡ true → cond b y x ≡ z
asks_joined a true x y z f g e = g refl
asks_joined true false x y z f g e = f refl
asks_joined false false x y z f g e = absurd (no_true e)

half_max : (a b x : ℕ) → a / 2 ≤ x → b / 2 ≤ x → max a b / 2 ≤ x
half_max a b x h k = dite (dec_le a b) (λ le. let e : max a b ≡ b = omega arith in omega arith) (λ gt. let e : max a b ≡ a = omega arith in omega arith)

pub joins : (n seats id other : ℕ) (v w : View) → 0 < v.weight → 0 < w.weight → Joins (BoardRule n seats) id v other w (joined v w) spent
joins n seats id other v w live live' s k at apart at' =
    let there : get_elem? s.views other ≡ some w = sym (set_else s.views id other (joined v w) apart) ∙ at' in
    let b : View = joined v w in
    let one : driver_count v + driver_count w ≤ 1 = (let e = two_of driver_count s.views id other v w (λ z. apart (sym z)) at there in let f = k.seats.driver in omega arith) in
    let commanding : control_count v + control_count w ≤ 1 = (let e = two_of control_count s.views id other v w (λ z. apart (sym z)) at there in let f = k.seats.control in omega arith) in
    let tv = k.alone id v at in let tw = k.alone other w there in
    let lv : length v.seen ≡ words_of n = tv.seen_long live in let lw : length w.seen ≡ words_of n = tw.seen_long live' in
    let m : (i : ℕ) → i < words_of n → seen_at b i ≡ joined_word i w.controls (seen_at v i) (seen_at w i) = λ i near. joined-word-at w.controls 0 i i v.seen w.seen (lv ∙ sym lw) (omega arith) (omega arith) in
    let g : (i : ℕ) → is_asks i ≡ false → i < words_of n → seen_at b i ≡ max (seen_at v i) (seen_at w i) = λ i away near. m i near ∙ joined-word-greater i w.controls (seen_at v i) (seen_at w i) away in
    let sv : sight v ≤ sight b = (let e = g 0 refl (omega arith) in omega arith) in let sw : sight w ≤ sight b = (let e = g 0 refl (omega arith) in omega arith) in
    let stamps : (u : View) → sight u ≤ sight b → (l : List Own) → Every (λ (o : Own). Every (λ (a : Accepted). a.stamp ≤ sight u) o.accepted) l → Every (λ (o : Own). Every (λ (a : Accepted). a.stamp ≤ sight b) o.accepted) l =
    λ u le. every (λ (o : Own). Every (λ (a : Accepted). a.stamp ≤ sight u) o.accepted) (λ (o : Own). Every (λ (a : Accepted). a.stamp ≤ sight b) o.accepted)
    (λ o. every (λ (a : Accepted). a.stamp ≤ sight u) (λ (a : Accepted). a.stamp ≤ sight b) (λ a h. omega arith) o.accepted) in
    let sights : (u : View) → sight u ≤ sight b → Every (λ (c : Claim). c.sight ≤ sight u) u.claims → Every (λ (c : Claim). c.sight ≤ sight b) u.claims =
    λ u le. every (λ (c : Claim). c.sight ≤ sight u) (λ (c : Claim). c.sight ≤ sight b) (λ c h. omega arith) u.claims in
    let each = each_join n seats s k id other v w at apart there in let sum = total_join n seats s k id other v w at apart there in
    record {
      few = k.few;
      words = k.words;
      board = record {
        word = k.board.word;
        in_views = let x : ℕ = get_or s.words 0 0 in let hv = k.board.in_views id v at in let hw = k.board.in_views other w there in each (BoardLawInView x) k.board.in_views record {
          sight = let e = g 0 refl (omega arith) in let p = hv.sight in let q = hw.sight in omega arith;
          driver = λ d. let e = g 0 refl (omega arith) in let p = hv.sight in let q = hw.sight in ⊎_elim (λ t. let f = hv.driver t in omega arith) (λ t. let f = hw.driver t in omega arith) (or_split v.drives w.drives d);
        } record { sight = omega arith; driver = λ d. absurd (no_true d) };
      };
      accounted = k.accounted;
      report = λ p low. let x : ℕ = get_or s.words (reports_word p) 0 in let hv = k.report p low id v at in let hw = k.report p low other w there in let e = g (reports_word p) (reports_not p) (omega arith) in each (ReportLawInView p x) (k.report p low) record {
        below = let m = half_max (seen_at v (reports_word p)) (seen_at w (reports_word p)) (period_of x) hv.below hw.below in omega (arith, ap period_of e);
        own = every_append (λ (o : Own). o.cpu ≡ p → OwnLaw x o) v.own w.own hv.own hw.own;
      } record { below = omega arith; own = every_nil (λ (o : Own). o.cpu ≡ p → OwnLaw x o) };
      needed = let x : ℕ = get_or s.words 1 0 in each (λ u. seen_at u 1 ≤ x) k.needed (let e = g 1 refl (omega arith) in let p = k.needed id v at in let q = k.needed other w there in omega arith) (omega arith);
      accept = λ p low. let x : ℕ = get_or s.words (accepts_word p) 0 in let hv = k.accept p low id v at in let hw = k.accept p low other w there in let e = g (accepts_word p) (accepts_not p) (omega arith) in each (AcceptLawInView p x) (k.accept p low) record {
        sight = let a = hv.sight in let c = hw.sight in omega arith;
        odd_sight = λ odd. e ∙ one_of (seen_at v (accepts_word p)) (seen_at w (accepts_word p)) x hv.odd_sight hw.odd_sight hv.sight hw.sight (ap (λ (z : ℕ). z % 2) (sym e) ∙ odd);
        merged = every_more (OddEquals p x) v.seen (w.seen ∷ (v.merged ++ w.merged)) hv.odd_sight
            (every_more (OddEquals p x) w.seen (v.merged ++ w.merged) hw.odd_sight (every_append (OddEquals p x) v.merged w.merged hv.merged hw.merged));
        count = every_append (λ (o : Own). o.cpu ≡ p → x / 2 ≡ accepted_count o) v.own w.own hv.count hw.count;
        shut = λ c. ap (λ (z : ℕ). z % 2) e ∙ parity (seen_at v (accepts_word p)) (seen_at w (accepts_word p)) x hv.odd_sight hw.odd_sight hv.sight hw.sight (⊎_elim (λ t. inl (hv.shut t)) (λ t. inr (hw.shut t)) (or_split v.controls w.controls c));
      } record { sight = omega arith; odd_sight = λ odd. absurd (omega arith); merged = every_nil (OddEquals p x); count = every_nil (λ (o : Own). o.cpu ≡ p → x / 2 ≡ accepted_count o); shut = λ d. absurd (no_true d) };
      turn = λ p low. turn_law _ _ _ (let t = turn_counts _ _ _ (k.turn p low) in record {
        once = λ j. sum (claimed p j) (total-append (one_if_claim p j) v.claims w.claims) refl ∙ t.once j;
        one = sum (runs p) (total-append (one_if_on p) v.running w.running) refl ∙ t.one;
      }) (let x : ℕ = get_or s.words (turns_word p) 0 in let hv = (k.turn p low).in_views id v at in let hw = (k.turn p low).in_views other w there in let e = g (turns_word p) (turns_not p) (omega arith) in each (TurnLawInView p x) ((k.turn p low).in_views) record {
        sight = let a = hv.sight in let c = hw.sight in omega arith;
        running = every_append (λ (c : Claim). c.cpu ≡ p → x ≡ 2 * c.number + 1) v.running w.running hv.running hw.running;
      } record { sight = omega arith; running = every_nil (λ (c : Claim). c.cpu ≡ p → x ≡ 2 * c.number + 1) });
      ask = λ p low. record {
        value = (k.ask p low).value;
        in_views = let x : ℕ = get_or s.words (asks_word p) 0 in each (AskLawInView p x) ((k.ask p low).in_views)
            (λ c. m (asks_word p) (omega arith) ∙ joined-word-asks (asks_word p) w.controls (seen_at v (asks_word p)) (seen_at w (asks_word p)) (asks_is p)
            ∙ asks_joined v.controls w.controls (seen_at v (asks_word p)) (seen_at w (asks_word p)) x ((k.ask p low).in_views id v at) ((k.ask p low).in_views other w there) c)
            (λ d. absurd (no_true d));
      };
      halt = k.halt;
      begins = λ i near away none. k.begins i near away (sym (sum (λ (u : View). tally u i) (joined-tally-at i v.steps w.steps) refl) ∙ none);
      alone = each (ViewAlone n) k.alone record {
        no_seat = λ e. absurd (omega arith);
        seen_long = λ _. joined-words-long w.controls 0 v.seen w.seen (words_of n) lv lw;
        steps_long = λ _. joined-tallies-long v.steps w.steps (words_of n) (tv.steps_long live) (tw.steps_long live');
        processors = subst (Every (λ (q : ℕ). q < n)) (sym (cpus-append v.own w.own)) (every_append (λ (q : ℕ). q < n) (cpus v.own) (cpus w.own) tv.processors tw.processors);
        stamps = every_append (λ (o : Own). Every (λ (a : Accepted). a.stamp ≤ sight b) o.accepted) v.own w.own (stamps v sv v.own tv.stamps) (stamps w sw w.own tw.stamps);
        running = every_append (λ (c : Claim). 0 < claimed c.cpu c.number b) v.running w.running (every (λ (c : Claim). 0 < claimed c.cpu c.number v) (λ (c : Claim). 0 < claimed c.cpu c.number b) (λ c h. let e = total-append (one_if_claim c.cpu c.number) v.claims w.claims in omega arith) v.running tv.running)
            (every (λ (c : Claim). 0 < claimed c.cpu c.number w) (λ (c : Claim). 0 < claimed c.cpu c.number b) (λ c h. let e = total-append (one_if_claim c.cpu c.number) v.claims w.claims in omega arith) w.running tw.running);
        claims = every_append (λ (c : Claim). c.sight ≤ sight b) v.claims w.claims (sights v sv tv.claims) (sights w sw tw.claims);
        quiets = every_append (λ (o : Own). Chain 0 o.quiets (period_of o.word)) v.own w.own tv.quiets tw.quiets;
      } record {
        no_seat = λ _. refl;
        seen_long = λ e. absurd (omega arith);
        steps_long = λ e. absurd (omega arith);
        processors = every_nil (λ (q : ℕ). q < n);
        stamps = every_nil (λ (o : Own). Every (λ (a : Accepted). a.stamp ≤ 0) o.accepted);
        claims = every_nil (λ (c : Claim). c.sight ≤ 0);
        running = every_nil (λ (c : Claim). 0 < claimed c.cpu c.number spent);
        quiets = every_nil (λ (o : Own). Chain 0 o.quiets (period_of o.word));
      };
      seats = record {
        processor = λ p low. sum (own_count p) (ap (total (one_if_equal p)) (cpus-append v.own w.own) ∙ total-append (one_if_equal p) (cpus v.own) (cpus w.own)) refl ∙ k.seats.processor p low;
        driver = sum driver_count (count_or v.drives w.drives one) refl ∙ k.seats.driver;
        control = sum control_count (count_or v.controls w.controls commanding) refl ∙ k.seats.control;
        weight = sum (λ (u : View). u.weight) refl refl ∙ k.seats.weight;
      };
    }

-- ---- one seat more

every_first : (P : Own → Type 0) (l : List Own) → Every P l → Every P (first_own l)
unfolding Every
every_first P [] h = tt
every_first P (o ∷ os) h = (h.0, tt)

every_rest : (P : Own → Type 0) (l : List Own) → Every P l → Every P (rest_own l)
unfolding Every
every_rest P [] h = tt
every_rest P (o ∷ os) h = h.1

every_first_cpu : (P : ℕ → Type 0) (l : List Own) → Every P (cpus l) → Every P (cpus (first_own l))
unfolding Every
every_first_cpu P [] h = tt
every_first_cpu P (o ∷ os) h = (h.0, tt)

every_rest_cpu : (P : ℕ → Type 0) (l : List Own) → Every P (cpus l) → Every P (cpus (rest_own l))
unfolding Every
every_rest_cpu P [] h = tt
every_rest_cpu P (o ∷ os) h = h.1

parts_of : (p : ℕ) (l : List Own) → total (one_if_equal p) (cpus (rest_own l)) + total (one_if_equal p) (cpus (first_own l)) ≡ total (one_if_equal p) (cpus l)
parts_of p [] = refl
parts_of p (o ∷ os) = omega arith

module _ (n seats id : ℕ) (v : View) (lo ro : List Own) (lc rc : Bool) (big : 1 < v.weight) (lefts : (P : Own → Type 0) → Every P v.own → Every P lo) (rights : (P : Own → Type 0) → Every P v.own → Every P ro)
    (low_left : (P : ℕ → Type 0) → Every P (cpus v.own) → Every P (cpus lo)) (low_right : (P : ℕ → Type 0) → Every P (cpus v.own) → Every P (cpus ro))
    (flag : one_if lc + one_if rc ≡ control_count v) (left_flag : lc ≡ true → v.controls ≡ true) (right_flag : rc ≡ true → v.controls ≡ true)
    (shared : (p : ℕ) → total (one_if_equal p) (cpus lo) + total (one_if_equal p) (cpus ro) ≡ own_count p v) where
  abbrev Left : View
  Left = record v { weight = v.weight - 1; controls = lc; own = lo }

  abbrev Right : View
  Right = record v { weight = 1; drives = false; controls = rc; own = ro; claims = []; running = [] }

  each_split : (views : List View) → get_elem? views id ≡ some v → (P : View → Type 0) → Each views P → P Left → P Right → Each (set views id Left ++ Right ∷ []) P
  each_split views at P all a b j u e = ⊎_elim (each_set views id Left P P all (λ _ u _ _ h. h) a j u) (λ (t : Right ≡ u). subst P t b) (at_snoc (set views id Left) Right u j e)

  total_split : (views : List View) → get_elem? views id ≡ some v → (f : View → ℕ) → f Left + f Right ≡ f v → total f (set views id Left ++ Right ∷ []) ≡ total f views
  total_split views at f e = let a = total-set f views id v Left at in let b = total-append f (set views id Left) (Right ∷ []) in omega arith

  -- what both halves have is 0 before where it is 0 after
  total_copied : (views : List View) → get_elem? views id ≡ some v → (f : View → ℕ) → f Left ≡ f v → total f (set views id Left ++ Right ∷ []) ≡ 0 → total f views ≡ 0
  total_copied views at f e none = let a = total-set f views id v Left at in let b = total-append f (set views id Left) (Right ∷ []) in omega arith

  pub splits : Splits (BoardRule n seats) id v Left Right
  splits s k at = let each = each_split s.views at in let sum = total_split s.views at in let t = k.alone id v at in record {
    few = k.few;
    words = k.words;
    board = record {
      word = k.board.word;
      in_views = let x : ℕ = get_or s.words 0 0 in let h = k.board.in_views id v at in each (BoardLawInView x) k.board.in_views
          (record { sight = h.sight; driver = h.driver })
          (record { sight = h.sight; driver = λ d. absurd (no_true d) });
    };
    accounted = k.accounted;
    report = λ p low. let x : ℕ = get_or s.words (reports_word p) 0 in let h = k.report p low id v at in each (ReportLawInView p x) (k.report p low)
        (record { below = h.below; own = lefts (λ (o : Own). o.cpu ≡ p → OwnLaw x o) h.own })
        (record { below = h.below; own = rights (λ (o : Own). o.cpu ≡ p → OwnLaw x o) h.own });
    needed = let x : ℕ = get_or s.words 1 0 in let h = k.needed id v at in each (λ u. seen_at u 1 ≤ x) k.needed h h;
    accept = λ p low. let x : ℕ = get_or s.words (accepts_word p) 0 in let h = k.accept p low id v at in each (AcceptLawInView p x) (k.accept p low)
        (record { sight = h.sight; odd_sight = h.odd_sight; merged = h.merged; count = lefts (λ (o : Own). o.cpu ≡ p → x / 2 ≡ accepted_count o) h.count; shut = λ c. h.shut (left_flag c) })
        (record { sight = h.sight; odd_sight = h.odd_sight; merged = h.merged; count = rights (λ (o : Own). o.cpu ≡ p → x / 2 ≡ accepted_count o) h.count; shut = λ c. h.shut (right_flag c) });
    turn = λ p low. turn_law _ _ _ (let h = turn_counts _ _ _ (k.turn p low) in record { once = λ j. sum (claimed p j) (omega arith) ∙ h.once j; one = sum (runs p) (omega arith) ∙ h.one }) (let x : ℕ = get_or s.words (turns_word p) 0 in let h = (k.turn p low).in_views id v at in each (TurnLawInView p x) ((k.turn p low).in_views)
        (record { sight = h.sight; running = h.running })
        (record { sight = h.sight; running = every_nil (λ (c : Claim). c.cpu ≡ p → x ≡ 2 * c.number + 1) }));
    ask = λ p low. record { value = (k.ask p low).value; in_views = let x : ℕ = get_or s.words (asks_word p) 0 in let h = (k.ask p low).in_views id v at in each (AskLawInView p x) ((k.ask p low).in_views) (λ c. h (left_flag c)) (λ c. h (right_flag c)) };
    halt = k.halt;
    begins = λ i near away none. k.begins i near away (total_copied s.views at (λ (u : View). tally u i) refl none);
    alone = each (ViewAlone n) k.alone record {
      no_seat = λ e. absurd (omega arith);
      seen_long = λ _. t.seen_long (omega arith);
      steps_long = λ _. t.steps_long (omega arith);
      processors = low_left (λ (q : ℕ). q < n) t.processors;
      stamps = lefts (λ (o : Own). Every (λ (a : Accepted). a.stamp ≤ sight v) o.accepted) t.stamps;
      claims = t.claims;
      running = t.running;
      quiets = lefts (λ (o : Own). Chain 0 o.quiets (period_of o.word)) t.quiets;
    } record {
      no_seat = λ e. absurd (omega arith);
      seen_long = λ _. t.seen_long (omega arith);
      steps_long = λ _. t.steps_long (omega arith);
      processors = low_right (λ (q : ℕ). q < n) t.processors;
      stamps = rights (λ (o : Own). Every (λ (a : Accepted). a.stamp ≤ sight v) o.accepted) t.stamps;
      claims = every_nil (λ (c : Claim). c.sight ≤ sight v);
      running = every_nil (λ (c : Claim). 0 < claimed c.cpu c.number Right);
      quiets = rights (λ (o : Own). Chain 0 o.quiets (period_of o.word)) t.quiets;
    };
    seats = record {
      processor = λ p low. sum (own_count p) (shared p) ∙ k.seats.processor p low;
      driver = sum driver_count (omega arith) ∙ k.seats.driver;
      control = sum control_count flag ∙ k.seats.control;
      weight = sum (λ (u : View). u.weight) (omega arith) ∙ k.seats.weight;
    };
  }

pub splits_plain : (n seats id : ℕ) (v : View) → 1 < v.weight → Splits (BoardRule n seats) id v (given_plain v) (plain v)
splits_plain n seats id v big = splits n seats id v v.own [] v.controls false big (λ P h. h) (λ P _. every_nil P) (λ P h. h) (λ P _. every_nil P) (omega arith) (λ c. c) (λ c. absurd (no_true c)) (λ p. omega arith)

pub splits_control : (n seats id : ℕ) (v : View) → 1 < v.weight → Splits (BoardRule n seats) id v (given_control v) (with_control v)
splits_control n seats id v big = splits n seats id v v.own [] false v.controls big (λ P h. h) (λ P _. every_nil P) (λ P h. h) (λ P _. every_nil P) (omega arith) (λ c. absurd (no_true c)) (λ c. c) (λ p. omega arith)

pub splits_own : (n seats id : ℕ) (v : View) → 1 < v.weight → Splits (BoardRule n seats) id v (given_own v) (with_own v)
splits_own n seats id v big = splits n seats id v (rest_own v.own) (first_own v.own) v.controls false big (λ P. every_rest P v.own) (λ P. every_first P v.own) (λ P. every_rest_cpu P v.own) (λ P. every_first_cpu P v.own) (omega arith) (λ c. c) (λ c. absurd (no_true c)) (λ p. parts_of p v.own)
