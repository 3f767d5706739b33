-- what a close finds room for, and what it hands back
use Rattle.std.proofs.Common.{◌≡◌, ℕ, zero, suc, ◌+◌, ◌<◌, ◌≤◌, List, [], ◌∷◌, ◌++◌, length, map, take, drop, get_or, vec_len, vec_capacity, Fits, w64, ◌*◌, refl, ap, sym, ◌∙◌, subst, arith, append_assoc, length-append}
use Rattle.std.proofs.lemmas.List.{drop_more, drop_all, take_all, take_more, length-map, map-append, append-nil}
use Rattle.std.specs.Global.{Vec}
use Rattle.std.specs.List.{AllByRecursion, remove}
use Rattle.rcu_world_law.specs.declared.marks.Mark.{Mark}
use Rattle.rcu_world_law.specs.declared.marks.Mark.TheVariants.{Back}
use Rattle.rcu_world_law.specs.Places.{key_of, remaining_callbacks}
use Rattle.rcu_world_law.specs.Closing.{shut_mark, shut_marks, back_marks}
use Rattle.rcu_world_law.specs.States.{Cpu}
use Rattle.rcu_world_law.specs.Calls.{Call}
use Rattle.rcu_world_processor.specs.declared.processor.WorldProcessor.{WorldProcessor}
use Rattle.rcu_world_processor.specs.Leaving.{IsCounted, left_keys}
use Rattle.rcu_world.specs.Leaving.{HaveRoom, backs, most_marks}
use Rattle.rcu_world_processor.specs.Views.{seen}
use Rattle.rcu_world.specs.Views.{all_seen}

pub all_at : {X : Type 0} (P : X → Type 0) (xs : List X) (i : ℕ) (x : X) → i < length xs → x ≡ get_or xs i x → AllByRecursion P xs → P x
all_at P (z ∷ xs) zero x l e a = subst P (sym e) a.0
all_at P (z ∷ xs) (suc i) x l e a = all_at P xs i x (omega arith) e a.1
all_at P [] i x l e a = absurd (omega arith)

first_rest : {X : Type 0} (xs : List X) (x : X) → 0 < length xs → x ≡ get_or xs 0 x → xs ≡ x ∷ remove xs 0
first_rest (y ∷ xs) x l e = ap (λ z. z ∷ xs) (sym e)
first_rest [] x l e = absurd (omega arith)

-- the first of what is left joins what is done
pub moved_one : {X Y : Type 0} (F : List X → List Y) (f : X → Y) → ((x : X) (xs : List X) → F (x ∷ xs) ≡ f x ∷ F xs) → (done : List Y) (xs : List X) (x : X) (y : Y)
    → 0 < length xs → x ≡ get_or xs 0 x → y ≡ f x → (done ++ y ∷ []) ++ F (remove xs 0) ≡ done ++ F xs
moved_one F f h done xs x y l e v = append_assoc done (y ∷ []) (F (remove xs 0))
    ∙ ap (λ z. done ++ z ∷ F (remove xs 0)) v ∙ ap (λ z. done ++ z) (sym (ap F (first_rest xs x l e) ∙ h x (remove xs 0)))

pub none_left : {X : Type 0} (xs : List X) → length xs ≡ 0 → xs ≡ []
none_left [] e = refl
none_left (x ∷ xs) e = absurd (omega arith)

module _ {J R : Type 0} (job_key : J → ℕ) where
  -- one more list
  room_suc : (ps : List (WorldProcessor J R)) (vs : List (Vec J)) (i : ℕ) (p : WorldProcessor J R) (v : Vec J) → i < length ps → p ≡ get_or ps i p
      → v.items ≡ [] → length (remaining_callbacks (seen job_key p)) ≤ vec_capacity v → HaveRoom job_key (take i ps) vs → HaveRoom job_key (take (suc i) ps) (vs ++ v ∷ [])
  room_suc (q ∷ ps) [] zero p v l e n r h = (subst (λ (x : WorldProcessor J R). (v.items ≡ []) × (length (remaining_callbacks (seen job_key x)) ≤ vec_capacity v)) e (n, r), tt)
  room_suc (q ∷ ps) (w ∷ vs) zero p v l e n r h = absurd h
  room_suc (q ∷ ps) (w ∷ vs) (suc i) p v l e n r h = (h.0, room_suc ps vs i p v (omega arith) e n r h.1)
  room_suc (q ∷ ps) [] (suc i) p v l e n r h = absurd h
  room_suc [] vs i p v l e n r h = absurd (omega arith)

  pub room_more : (ps : List (WorldProcessor J R)) (vs : List (Vec J)) (i : ℕ) (p : WorldProcessor J R) (v : Vec J) → i < length ps → p ≡ get_or ps i p
      → v.items ≡ [] → length (remaining_callbacks (seen job_key p)) ≤ vec_capacity v → HaveRoom job_key (take i ps) vs → HaveRoom job_key (take (i + 1) ps) (vs ++ v ∷ [])
  room_more ps vs i p v l e n r h = subst (λ j. HaveRoom job_key (take j ps) (vs ++ v ∷ [])) (let z : suc i ≡ i + 1 = omega arith in z) (room_suc ps vs i p v l e n r h)

  pub room_end : (ps : List (WorldProcessor J R)) (vs : List (Vec J)) (i : ℕ) → length ps ≤ i → HaveRoom job_key (take i ps) vs → HaveRoom job_key ps vs
  room_end ps vs i l h = subst (λ x. HaveRoom job_key x vs) (take_all i ps l) h

  -- the first one has a list
  pub room_there : (ps : List (WorldProcessor J R)) (vs : List (Vec J)) → 0 < length ps → HaveRoom job_key ps vs → 0 < length vs
  room_there (p ∷ ps) (v ∷ vs) l h = omega arith
  room_there (p ∷ ps) [] l h = absurd h
  room_there [] vs l h = absurd (omega arith)

  pub room_first : (ps : List (WorldProcessor J R)) (vs : List (Vec J)) (p : WorldProcessor J R) (v : Vec J) → 0 < length ps → p ≡ get_or ps 0 p → v ≡ get_or vs 0 v → HaveRoom job_key ps vs
      → (v.items ≡ []) × (length (remaining_callbacks (seen job_key p)) ≤ vec_capacity v)
  room_first (q ∷ ps) (w ∷ vs) p v l e f h = subst (λ (x : WorldProcessor J R). (v.items ≡ []) × (length (remaining_callbacks (seen job_key x)) ≤ vec_capacity v)) (sym e)
      (subst (λ (y : Vec J). (y.items ≡ []) × (length (remaining_callbacks (seen job_key q)) ≤ vec_capacity y)) (sym f) h.0)
  room_first (q ∷ ps) [] p v l e f h = absurd h
  room_first [] vs p v l e f h = absurd (omega arith)

  pub room_rest : (ps : List (WorldProcessor J R)) (vs : List (Vec J)) → 0 < length ps → HaveRoom job_key ps vs → HaveRoom job_key (remove ps 0) (remove vs 0)
  room_rest (p ∷ ps) (v ∷ vs) l h = h.1
  room_rest (p ∷ ps) [] l h = absurd h
  room_rest [] vs l h = absurd (omega arith)

  -- one more processor's marks
  pub marks_more : (ps : List (WorldProcessor J R)) (i : ℕ) (p : WorldProcessor J R) → i < length ps → p ≡ get_or ps i p
      → most_marks (all_seen job_key (drop i ps)) ≡ (1 + length (remaining_callbacks (seen job_key p))) + most_marks (all_seen job_key (drop (i + 1) ps))
  marks_more ps i p l e = ap (λ x. most_marks (all_seen job_key x)) (drop_more ps i p l ∙ ap (λ y. y ∷ drop (i + 1) ps) (sym e))

  pub shuts_more : (ps : List (WorldProcessor J R)) (i : ℕ) (p : WorldProcessor J R) → i < length ps → p ≡ get_or ps i p
      → shut_marks i (all_seen job_key (drop i ps)) ≡ shut_mark i (seen job_key p) ++ shut_marks (i + 1) (all_seen job_key (drop (i + 1) ps))
  shuts_more ps i p l e = ap (λ x. shut_marks i (all_seen job_key x)) (drop_more ps i p l ∙ ap (λ y. y ∷ drop (i + 1) ps) (sym e))

-- one more processor's jobs
pub backs_more : {J : Type 0} (job_key : J → ℕ) (vs : List (Vec J)) (i : ℕ) (v : Vec J) → i < length vs → v ≡ get_or vs i v
    → backs i (map (λ (v : Vec J). map job_key v.items) (drop i vs)) ≡ map (λ key. Back i key) (map job_key v.items) ++ backs (i + 1) (map (λ (v : Vec J). map job_key v.items) (drop (i + 1) vs))
backs_more job_key vs i v l e = ap (λ x. backs i (map (λ (v : Vec _). map job_key v.items) x)) (drop_more vs i v l ∙ ap (λ y. y ∷ drop (i + 1) vs) (sym e))

-- what is handed back has the keys of what is left
same_backs : (p : ℕ) (xs : List Call) → map (λ key. Back p key) (map key_of xs) ≡ map (λ x. Back p x.key) xs
same_backs p [] = refl
same_backs p (x ∷ xs) = ap (λ l. Back p x.key ∷ l) (same_backs p xs)

pub backs_left : (p : ℕ) (cs : List Cpu) → backs p (map left_keys cs) ≡ back_marks p cs
backs_left p [] = refl
backs_left p (c ∷ cs) = ap (λ l. l ++ backs (p + 1) (map left_keys cs)) (same_backs p (remaining_callbacks c)) ∙ ap (λ l. map (λ x. Back p x.key) (remaining_callbacks c) ++ l) (backs_left (p + 1) cs)

pub length_shuts : (p : ℕ) (cs : List Cpu) → length (shut_marks p cs) ≤ length cs
length_shuts p [] = omega arith
length_shuts p (c ∷ cs) = grind (arith, length_shuts (p + 1) cs)

-- a Shut and the Backs of each processor find their room
pub most_both : (p : ℕ) (cs : List Cpu) → most_marks cs ≡ length cs + length (back_marks p cs)
most_both p [] = refl
most_both p (c ∷ cs) =
    let e = most_both (p + 1) cs in
    let f = length-append (map (λ x. Back p x.key) (remaining_callbacks c)) (back_marks (p + 1) cs) in
    let h = length-map (remaining_callbacks c) (λ x. Back p x.key) in
    omega arith

-- rooms, in numbers
pub exact_room : {a b c : ℕ} → a ≡ b → c ≡ a → b ≤ c
exact_room e f = omega arith

pub room_step : (len cap later grown left rest : ℕ) → later ≡ len + 1 → grown ≡ cap → rest + 1 ≡ left → len + left ≤ cap → later + rest ≤ grown
room_step len cap later grown left rest a b c d = omega arith

pub one_fits : (c : Cpu) (left : ℕ) → IsCounted c → left ≡ length (remaining_callbacks c) → Fits w64 (1 + left)
one_fits c left k e = omega (arith, k.count, k.few)

pub more_fits : (c : Cpu) (left count i n : ℕ) → IsCounted c → left ≡ length (remaining_callbacks c) → count ≤ 1000001 * i → i < n → n ≤ 32 → Fits w64 (count + (1 + left))
more_fits c left count i n k e m l f = omega (arith, k.count, k.few)

pub marks_most : (c : Cpu) (left count i : ℕ) → IsCounted c → left ≡ length (remaining_callbacks c) → count ≤ 1000001 * i → count + (1 + left) ≤ 1000001 * (i + 1)
marks_most c left count i k e m = omega (arith, k.count, k.few)

module _ {J R : Type 0} (job_key : J → ℕ) where
  pub marks_sum : (ps : List (WorldProcessor J R)) (i : ℕ) (p : WorldProcessor J R) (left count all : ℕ) → i < length ps → p ≡ get_or ps i p → left ≡ length (remaining_callbacks (seen job_key p))
      → all ≡ count + most_marks (all_seen job_key (drop i ps)) → all ≡ count + (1 + left) + most_marks (all_seen job_key (drop (i + 1) ps))
  marks_sum ps i p left count all l e f h = let m = marks_more job_key ps i p l e in omega arith

  pub marks_end : (ps : List (WorldProcessor J R)) (i count all : ℕ) → length ps ≤ i → all ≡ count + most_marks (all_seen job_key (drop i ps)) → count ≡ all
  marks_end ps i count all l h = let m : most_marks (all_seen job_key (drop i ps)) ≡ 0 = ap (λ x. most_marks (all_seen job_key x)) (drop_all i ps l) in omega arith

  -- a Shut for each processor, and then the Backs
  pub shuts_room : (ps : List (WorldProcessor J R)) (n len cap : ℕ) → n ≡ length ps → len + most_marks (all_seen job_key ps) ≤ cap → len + n ≤ cap
  shuts_room ps n len cap e m = omega (arith, most_both 0 (all_seen job_key ps), length-map ps (seen job_key))

  pub last_room : (ps : List (WorldProcessor J R)) (before lists : List (Vec J)) (n len cap later grown : ℕ) → n ≡ length ps → before ≡ []
      → map (λ (v : Vec J). map job_key v.items) lists ≡ map (λ (v : Vec J). map job_key v.items) before ++ map left_keys (all_seen job_key ps)
      → later ≤ len + n → cap ≤ grown → len + most_marks (all_seen job_key ps) ≤ cap → later + length (backs 0 (map (λ (v : Vec J). map job_key v.items) lists)) ≤ grown
  last_room ps before lists n len cap later grown e b h l c m =
      let k : length (backs 0 (map (λ (v : Vec J). map job_key v.items) lists)) ≡ length (back_marks 0 (all_seen job_key ps)) =
      ap (λ x. length (backs 0 x)) (h ∙ ap (λ x. map (λ (v : Vec J). map job_key v.items) x ++ map left_keys (all_seen job_key ps)) b) ∙ ap length (backs_left 0 (all_seen job_key ps)) in
      omega (arith, most_both 0 (all_seen job_key ps), length-map ps (seen job_key))

pub backs_room : {J : Type 0} (job_key : J → ℕ) (vs : List (Vec J)) (i : ℕ) (v : Vec J) (len cap later grown : ℕ) → i < length vs → v ≡ get_or vs i v → later ≡ len + vec_len v → cap ≤ grown
    → len + length (backs i (map (λ (v : Vec J). map job_key v.items) (drop i vs))) ≤ cap → later + length (backs (i + 1) (map (λ (v : Vec J). map job_key v.items) (drop (i + 1) vs))) ≤ grown
backs_room job_key vs i v len cap later grown l e f c m =
    let b = ap length (backs_more job_key vs i v l e) in
    let a = length-append (map (λ key. Back i key) (map job_key v.items)) (backs (i + 1) (map (λ (v : Vec _). map job_key v.items) (drop (i + 1) vs))) in
    let x = length-map (map job_key v.items) (λ key. Back i key) in
    let y = length-map v.items job_key in
    omega (arith, v.ok.0)

-- one more job is handed back
pub backs_taken : {J : Type 0} (job_key : J → ℕ) (cpu i key : ℕ) (jobs from : List J) (job : J) (old marks new : List Mark) → from ≡ jobs → i < length from → job ≡ get_or from i job → key ≡ job_key job
    → marks ≡ old ++ map (λ k. Back cpu k) (map job_key (take i jobs)) → new ≡ marks ++ Back cpu key ∷ [] → new ≡ old ++ map (λ k. Back cpu k) (map job_key (take (i + 1) jobs))
backs_taken job_key cpu i key jobs from job old marks new s l e f h n =
    let b : ℕ → Mark = λ k. Back cpu k in
    let t : take (i + 1) jobs ≡ take i jobs ++ job ∷ [] = take_more jobs i job (subst (λ xs. i < length xs) s l) ∙ ap (λ x. take i jobs ++ x ∷ []) (sym (e ∙ ap (λ xs. get_or xs i job) s)) in
    let m : map b (map job_key (take (i + 1) jobs)) ≡ map b (map job_key (take i jobs)) ++ b (job_key job) ∷ [] =
    ap (λ xs. map b (map job_key xs)) t ∙ ap (map b) (map-append job_key (take i jobs) (job ∷ [])) ∙ map-append b (map job_key (take i jobs)) (job_key job ∷ []) in
    n ∙ ap (λ xs. xs ++ b key ∷ []) h ∙ append_assoc old (map b (map job_key (take i jobs))) (b key ∷ []) ∙ ap (λ k. old ++ (map b (map job_key (take i jobs)) ++ b k ∷ [])) f ∙ ap (λ x. old ++ x) (sym m)

-- room for the jobs of the next list
pub back_room : {J : Type 0} (job_key : J → ℕ) (vs : List (Vec J)) (i : ℕ) (v : Vec J) (len cap : ℕ) → i < length vs → v ≡ get_or vs i v
    → len + length (backs i (map (λ (v : Vec J). map job_key v.items) (drop i vs))) ≤ cap → len + vec_len v ≤ cap
back_room job_key vs i v len cap l e m =
    let b = ap length (backs_more job_key vs i v l e) in
    let a = length-append (map (λ key. Back i key) (map job_key v.items)) (backs (i + 1) (map (λ (v : Vec _). map job_key v.items) (drop (i + 1) vs))) in
    let x = length-map (map job_key v.items) (λ key. Back i key) in
    let y = length-map v.items job_key in
    omega (arith, v.ok.0)

-- all lists are handed back
pub backs_end : {J : Type 0} (job_key : J → ℕ) (vs : List (Vec J)) (i : ℕ) (marks all : List Mark) → length vs ≤ i
    → all ≡ marks ++ backs i (map (λ (v : Vec J). map job_key v.items) (drop i vs)) → marks ≡ all
backs_end job_key vs i marks all l e = sym (e ∙ ap (λ xs. marks ++ backs i (map (λ (v : Vec _). map job_key v.items) xs)) (drop_all i vs l) ∙ append-nil marks)
