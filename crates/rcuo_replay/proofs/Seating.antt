-- A list that is taken item by item, each into a place of another one, which has room for all.
use Rattle.std.proofs.Common.{◌≡◌, ℕ, ◌+◌, ◌<◌, ◌≤◌, List, [], ◌++◌, Result, Ok, Err, IsOk, OnErr, length, ap, arith, refl, subst, sym}
use Rattle.std.proofs.lemmas.List.{nil_from_length}
use Rattle.std.specs.List.{AllZip}
use Rattle.rcu_lemmas.proofs.Zips.{all_of}

-- none is taken yet
pub none_yet : {A B : Type 0} (Q : A → B → Type 0) (ys : List B) → ys ≡ [] → AllZip Q [] ys
none_yet Q ys none = subst (AllZip Q []) (sym none) tt

-- an empty list that has room for all has it at first
pub room_for_all : {X Y : Type 0} (n m cap : ℕ) (none : List Y) (rest all : List X) → n ≡ length none → none ≡ [] → rest ≡ all → m ≡ length all → m ≤ cap → n + length rest ≤ cap
room_for_all {X} {Y} n m cap none rest all len empty same many room = let e = ap (λ (l : List Y). length l) empty in let s = ap (λ (l : List X). length l) same in omega (arith, len, e, s, many, room)

-- where none is left, all were taken
pub all_came : {A : Type 0} (done rest all : List A) → done ++ rest ≡ all → length rest ≡ 0 → done ≡ all
all_came done rest all order none = all_of done rest all order (nil_from_length rest none)

-- what fails for want of room alone is done where there is room
pub is_done : {T E : Type 0} (r : Result T E) (n most : ℕ) → OnErr r (most ≤ n) → n < most → IsOk r
is_done (Ok x) n most full room = refl
is_done (Err e) n most full room = absurd (omega (arith, full, room))
