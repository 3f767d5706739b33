-- What the seats that poll saw, among the sights of the accounts.
use Rattle.std.proofs.Common.{◌≡◌, ℕ, zero, suc, ◌/◌, ◌<◌, ◌≤◌, Bool, true, false, cond, List, [], ◌∷◌, map, length, get_or, refl, ap, sym, subst, ◌∙◌, arith}
use Rattle.std.specs.List.{All, Any, Contains, filter}
use Rattle.std.proofs.lemmas.Bool.{eq-eqb}
use Rattle.std.proofs.lemmas.List.{get_or-map, length-map}
use Rattle.std.proofs.lemmas.List.Elements.{All-cons, All-contains, All-nil, All-weaker, Contains-append_left, Contains-append_right}
use Rattle.std.proofs.lemmas.Simd.{map-map}
use Rattle.rcu_agreement.specs.Accounts.{Account, account_at, no_account}
use Rattle.rcu_board.specs.Views.{seen_at}
use Rattle.rcu_board.specs.Words.{accepts_word, turns_word}
use Rattle.rcu_board.specs.declared.view.View.{View}
use Rattle.rcu_jobs.specs.declared.Counts.{Counts}
use Rattle.rcu_jobs.specs.declared.answers.Closed.{Closed}
use Rattle.rcu_part_close.proofs.Claims.{cpu_at}
use Rattle.rcu_part_close.specs.Closing.{CpuEnd, processors_of, seats_of}
use Rattle.rcu_part_close.specs.Parts.{CpuPart, views_of}
use Rattle.rcu_part_control.specs.Barriers.{IsOver, count_at}
use Rattle.rcu_part_control.specs.Parts.{control_view}
use Rattle.rcu_part_hand.specs.declared.hand.Hand.{Hand}
use Rattle.rcu_part_processor.specs.Processors.{view_of}
use Rattle.rcu_part_processor.specs.declared.processor.Processor.{Processor}
use Rattle.rcu_parts.specs.AtClose.{AccountsFor, cpu_parts, hands_after, other_views}
use Rattle.rcu_parts.specs.Drained.{polling_views}
use Rattle.rcu_parts.specs.OneOpen.{AreOfOneOpen, Parts, hands_in, parts_board, processors_in}
use Rattle.rcu_parts_law.proofs.Lawful.{as_many, row_answered}
use Rattle.rcu_parts_law.specs.Accounts.{SawShutAt, account_of, accounts_of, saw_shut, shuts_seen, turns_seen, views_at_close}

module _ {A : Type 0} where
  any_of : (P : A → Type 0) (xs : List A) (x : A) → Contains xs x → P x → Any P xs
  any_of P xs x c p = (c.0, x, c.1, c.2, p)

  contains_some : (P : A → Type 0) (xs : List A) (some : Any P xs) → Contains xs some.1
  contains_some P xs some = (some.0, some.2, some.3)

  contains_map : {B : Type 0} (f : A → B) (xs : List A) (x : A) → Contains xs x → Contains (map f xs) (f x)
  contains_map f xs x c = let lt = c.1 in (c.0, omega (arith, length-map xs f), get_or-map f xs c.0 x (f x) lt ∙ ap f c.2)

  contains_more : (b : Bool) (y x : A) (us : List A) → Contains us x → Contains (cond b (y ∷ us) us) x
  contains_more true y x us c = let lt = c.1 in (suc c.0, omega arith, c.2)
  contains_more false y x us c = c

  contains_filter_at : (p : A → Bool) (xs : List A) (x : A) (k : ℕ) → k < length xs → get_or xs k x ≡ x → p x ≡ true → Contains (filter p xs) x
  contains_filter_at p [] x k lt e t = absurd (omega (arith, lt))
  contains_filter_at p (y ∷ ys) x zero lt e t = subst (λ b. Contains (cond b (y ∷ filter p ys) (filter p ys)) x) (sym (ap p e ∙ t)) (0, omega arith, e)
  contains_filter_at p (y ∷ ys) x (suc k) lt e t = contains_more (p y) y x (filter p ys) (contains_filter_at p ys x k (omega (arith, lt)) e t)

  contains_filter : (p : A → Bool) (xs : List A) (x : A) → Contains xs x → p x ≡ true → Contains (filter p xs) x
  contains_filter p xs x c t = contains_filter_at p xs x c.0 c.1 c.2 t

  some_of : (xs : List A) (k : ℕ) → k < length xs → A
  some_of [] k lt = absurd (omega (arith, lt))
  some_of (x ∷ xs) k lt = x

module _ {J R : Type 0} where
  -- ---- the seats that poll are seats

  own_views : (ps : List (Processor J R)) (hs : List (Hand J R)) → map (λ c. c.view) (cpu_parts ps hs) ≡ map (λ p. view_of p.state) ps
  own_views [] hs = refl
  own_views (p ∷ ps) hs = ap (λ l. view_of p.state ∷ l) (own_views ps (hands_after p hs))

  seats_have : (es : List (CpuEnd J R)) → All (Contains (seats_of es)) (processors_of es)
  seats_have [] = All-nil (Contains [])
  seats_have (e ∷ es) = All-cons (Contains (seats_of (e ∷ es))) e.part.view (processors_of es)
      (Contains-append_left (views_of e.part) (seats_of es) e.part.view (0, (let some : 0 < length (views_of e.part) = omega arith in some), refl))
      (All-weaker (Contains (seats_of es)) (Contains (seats_of (e ∷ es))) (λ w c. Contains-append_right (views_of e.part) (seats_of es) w c) (processors_of es) (seats_have es))

  polling_seats : (parts : Parts J R) (ends : List (CpuEnd J R)) → map (λ e. e.part) ends ≡ cpu_parts (processors_in parts) (hands_in parts) → All (Contains (views_at_close parts ends)) (polling_views parts)
  polling_seats parts ends are =
      let views = views_at_close parts ends in
      let same : processors_of ends ≡ map (λ p. view_of p.state) (processors_in parts) =
      sym (map-map (λ (c : CpuPart J R). c.view) (λ (e : CpuEnd J R). e.part) ends) ∙ ap (map (λ (c : CpuPart J R). c.view)) are ∙ own_views (processors_in parts) (hands_in parts) in
      All-cons (Contains views) (control_view parts.control) (map (λ p. view_of p.state) (processors_in parts)) (0, (let some : 0 < length views = omega arith in some), refl)
      (subst (All (Contains views)) same
      (All-weaker (Contains (seats_of ends)) (Contains views) (λ w c. Contains-append_right (control_view parts.control ∷ other_views parts) (seats_of ends) w c) (processors_of ends) (seats_have ends)))

  -- ---- the sights that an account has

  -- what one of them saw, of the processor whose account it is
  at_account : (f : ℕ → List View → List ℕ) (g : Account → List ℕ) → ((e : CpuEnd J R) (views : List View) → g (account_of views e) ≡ f e.part.cpu views)
      → (parts : Parts J R) (closed : Closed J R) → AreOfOneOpen parts → (answer : AccountsFor parts closed) → (p : ℕ) → p < (parts_board parts).processors
      → g (account_at (accounts_of parts answer.ends) p) ≡ f p (views_at_close parts answer.ends)
  at_account f g same parts closed one answer p low =
      let ends = answer.ends in
      let views = views_at_close parts ends in
      let near : p < length ends = omega (arith, low, as_many parts ends one answer.parts_are) in
      let d = some_of ends p near in
      let cpu : (get_or ends p d).part.cpu ≡ p = (let z = cpu_at 0 p ends d near (row_answered parts closed one answer) in omega (arith, z)) in
      ap g (get_or-map (account_of views) ends p d no_account near) ∙ same (get_or ends p d) views ∙ ap (λ q. f q views) cpu

  pub turns_accounted : (counts : Counts) (parts : Parts J R) (closed : Closed J R) → AreOfOneOpen parts → (answer : AccountsFor parts closed) → counts.n ≡ (parts_board parts).processors → Any (IsOver counts) (polling_views parts)
      → (p : ℕ) → p < counts.n → Any (λ turn. count_at counts p ≤ turn) (account_at (accounts_of parts answer.ends) p).turns
  turns_accounted counts parts closed one answer many some p low =
      let views = views_at_close parts answer.ends in
      let v = some.1 in
      let there = All-contains (Contains views) (polling_views parts) v (polling_seats parts answer.ends answer.parts_are) (contains_some (IsOver counts) (polling_views parts) some) in
      let enough = some.4 p low in
      subst (Any (λ turn. count_at counts p ≤ turn)) (sym (at_account turns_seen (λ a. a.turns) (λ e views. refl) parts closed one answer p (omega (arith, low, many))))
      (any_of (λ turn. count_at counts p ≤ turn) (turns_seen p views) (seen_at v (turns_word p) / 2) (contains_map (λ (w : View). seen_at w (turns_word p) / 2) views v there) (omega (arith, enough)))

  pub shuts_accounted : (p count : ℕ) (parts : Parts J R) (closed : Closed J R) → AreOfOneOpen parts → (answer : AccountsFor parts closed) → p < (parts_board parts).processors → Any (SawShutAt p count) (polling_views parts)
      → Any (λ seen. seen ≡ count) (account_at (accounts_of parts answer.ends) p).shuts
  shuts_accounted p count parts closed one answer low some =
      let views = views_at_close parts answer.ends in
      let v = some.1 in
      let there = All-contains (Contains views) (polling_views parts) v (polling_seats parts answer.ends answer.parts_are) (contains_some (SawShutAt p count) (polling_views parts) some) in
      subst (Any (λ seen. seen ≡ count)) (sym (at_account shuts_seen (λ a. a.shuts) (λ e views. refl) parts closed one answer p low))
      (any_of (λ seen. seen ≡ count) (shuts_seen p views) (seen_at v (accepts_word p) / 2)
      (contains_map (λ (w : View). seen_at w (accepts_word p) / 2) (filter (saw_shut p) views) v (contains_filter (saw_shut p) views v there (eq-eqb _ _ some.4.0))) some.4.1)
