-- Lists place by place: what was started, what came back, and what is known of both.
use Rattle.std.proofs.Common.{◌≡◌, ◌≢◌, ℕ, zero, suc, ◌+◌, ◌≤◌, Some, List, [], ◌∷◌, ◌++◌, map, length, ap, sym, ◌∙◌, refl, subst, arith}
use Rattle.std.specs.List.{AllZip, slice_get}
use Rattle.std.specs.Prelude.{unwrap_or}
use Rattle.std.proofs.lemmas.List.{length-map, map-append, nil_from_length}
use Rattle.rcu_runtime_threads.specs.Crews.{HasBegun, HasEnded}
use Rattle.rcu_runtime_threads.specs.declared.crew.Started.{Started}
use Rattle.rcu_runtime_threads.specs.declared.crew.Started.TheVariants.{Running, Back}
use Rattle.rcu_runtime_threads.specs.declared.post.Post.{Post}
use Rattle.rcu_runtime_threads.specs.declared.worker.WorkerEnd.{WorkerEnd}
use Rattle.rcu_runtime_threads.specs.declared.worker.WorkerEnd.TheVariants.{NotBegun}
use Rattle.rcu_lemmas.proofs.Zips.{all_of, zip_chain}

module _ {A B : Type 0} (R : A → B → Type 0) where
  -- of a list of which none has come yet
  pub zip_none : (all : List A) (ys : List B) → ys ≡ [] → AllZip R [] ys
  zip_none all ys none = subst (AllZip R []) (sym none) tt

  zip_push : (xs : List A) (ys : List B) (x : A) (y : B) → AllZip R xs ys → R x y → AllZip R (xs ++ x ∷ []) (ys ++ y ∷ [])
  zip_push [] [] x y h r = (r, tt)
  zip_push [] (b ∷ bs) x y h r = absurd h
  zip_push (a ∷ as') [] x y h r = absurd h
  zip_push (a ∷ as') (b ∷ bs) x y h r = (h.0, zip_push as' bs x y h.1 r)

-- and an empty list that has room for all has it at first
pub room_for_all : {X Y : Type 0} (n m cap : ℕ) (none : List Y) (rest all : List X) → n ≡ length none → none ≡ [] → rest ≡ all → m ≡ length all → m ≤ cap → n + length rest ≤ cap
room_for_all {X} {Y} n m cap none rest all len empty same many room = let e = ap (λ (l : List Y). length l) empty in let s = ap (λ (l : List X). length l) same in omega (arith, len, e, s, many, room)

module _ {A B : Type 0} (f : A → B) where
  -- what is taken from each, where one more is there
  pub taken_pushed : (xs ys : List A) (x : A) (taken : List B) → ys ≡ xs ++ x ∷ [] → map f xs ≡ taken → map f ys ≡ taken ++ f x ∷ []
  taken_pushed xs ys x taken pushed old = ap (λ l. map f l) pushed ∙ (map-append f xs (x ∷ []) ∙ ap (λ l. l ++ f x ∷ []) old)

  -- and a list of what was taken, where one more was put to it
  pub pushed_taken : (xs : List A) (x : A) (ys zs : List B) → zs ≡ ys ++ f x ∷ [] → ys ≡ map f xs → zs ≡ map f (xs ++ x ∷ [])
  pushed_taken xs x ys zs pushed old = pushed ∙ (ap (λ l. l ++ f x ∷ []) old ∙ sym (map-append f xs (x ∷ [])))

module _ {A B : Type 0} where
  pub zip_length : (P : A → B → Type 0) (xs : List A) (ys : List B) → AllZip P xs ys → length ys ≡ length xs
  zip_length P [] [] p = refl
  zip_length P [] (y ∷ ys) p = absurd p
  zip_length P (x ∷ xs) [] p = absurd p
  zip_length P (x ∷ xs) (y ∷ ys) p = let e = zip_length P xs ys p.1 in omega (arith, e)

  -- of what was taken from each
  pub zip_mapped : (f : A → B) (P : B → B → Type 0) → (xs ys : List A) → AllZip (λ x y. P (f x) (f y)) xs ys → AllZip P (map f xs) (map f ys)
  zip_mapped f P [] [] p = tt
  zip_mapped f P [] (y ∷ ys) p = absurd p
  zip_mapped f P (x ∷ xs) [] p = absurd p
  zip_mapped f P (x ∷ xs) (y ∷ ys) p = (p.0, zip_mapped f P xs ys p.1)

module _ {H P : Type 0} (of : H → P) (S : P → P → Type 0) (K : H → P → Type 0) (keeps : (h : H) (q : P) → K h q → S (of h) q) where
  -- what comes back is what was given, as far as it came
  pub joined_one : (p : P) (s : Started H P) (q : P) → HasBegun of S p s → HasEnded K s q → S p q
  joined_one p (Running h) q is k = subst (λ x. S x q) is (keeps h q k)
  joined_one p (Back r) q s is = subst (S p) (sym is) s

  pub joined_all : (ps : List P) (ss : List (Started H P)) (qs : List P) → AllZip (HasBegun of S) ps ss → AllZip (HasEnded K) ss qs → AllZip S ps qs
  joined_all ps ss qs b e = zip_chain (HasBegun of S) (HasEnded K) S joined_one ps ss qs b e

-- as many as were taken from
pub as_many : {A B : Type 0} (f : A → B) (xs : List A) (ys : List B) → map f xs ≡ ys → length xs ≡ length ys
as_many f xs ys e = sym (length-map xs f) ∙ ap (λ l. length l) e

-- where none is left, all have come
pub all_came : {A : Type 0} (done rest all : List A) → done ++ rest ≡ all → length rest ≡ 0 → done ≡ all
all_came done rest all order none = all_of done rest all order (nil_from_length rest none)

-- what is said of all that came is said of the whole list, where none is left
pub all_done : {A B : Type 0} (R : A → B → Type 0) (done rest all : List A) (ys : List B) → done ++ rest ≡ all → length rest ≡ 0 → AllZip R done ys → AllZip R all ys
all_done R done rest all ys order none z = subst (λ l. AllZip R l ys) (all_came done rest all order none) z

-- what is left as it was has its worker, in its place
pub unbegun_at : {P W : Type 0} (ps qs : List (Post P W)) → AllZip (λ p q. q.end ≡ NotBegun → q.worker ≡ p.worker) ps qs → (k : ℕ) → slice_get (map (λ q. q.end) qs) k ≡ Some NotBegun
    → slice_get (map (λ q. q.worker) qs) k ≡ slice_get (map (λ p. p.worker) ps) k
unbegun_at [] [] z k none = refl
unbegun_at [] (q ∷ qs) z k none = absurd z
unbegun_at (p ∷ ps) [] z k none = absurd z
unbegun_at (p ∷ ps) (q ∷ qs) z zero none = ap Some (z.0 (ap (λ e. unwrap_or e q.end) none))
unbegun_at (p ∷ ps) (q ∷ qs) z (suc k) none = unbegun_at ps qs z.1 k none

-- and one that has ended is as it said, in its place
pub ended_at : {P W : Type 0} (ends_as : WorkerEnd → W → Type 0) (ps qs : List (Post P W)) → AllZip (λ p q. q.end ≢ NotBegun → ends_as q.end q.worker) ps qs → (k : ℕ) (w : W) (e : WorkerEnd)
    → slice_get (map (λ q. q.worker) qs) k ≡ Some w → slice_get (map (λ q. q.end) qs) k ≡ Some e → e ≢ NotBegun → ends_as e w
ended_at ends_as [] [] z k w e is ends begun = absurd (let h = is in cc)
ended_at ends_as [] (q ∷ qs) z k w e is ends begun = absurd z
ended_at ends_as (p ∷ ps) [] z k w e is ends begun = absurd z
ended_at ends_as (p ∷ ps) (q ∷ qs) z zero w e is ends begun = let f = ap (λ x. unwrap_or x q.end) ends in
    subst (λ x. ends_as x w) f (subst (ends_as q.end) (ap (λ x. unwrap_or x q.worker) is) (z.0 (λ n. begun (sym f ∙ n))))
ended_at ends_as (p ∷ ps) (q ∷ qs) z (suc k) w e is ends begun = ended_at ends_as ps qs z.1 k w e is ends begun
