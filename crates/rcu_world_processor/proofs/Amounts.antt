-- How many callbacks a Give gives
use Rattle.std.proofs.Common.{◌≡◌, ℕ, ◌+◌, ◌≤◌, min, cond, Bool, true, false, List, [], ◌∷◌, ◌++◌, length, map, take, ap, ◌∙◌, arith}
use Rattle.std.proofs.lemmas.List.{append-nil, length-map, length-take}
use Rattle.rcu_world_law.specs.Calls.{Call}
use Rattle.rcu_world_law.specs.LabelledLists.{Labelled, call_of, done_count, is_done}
use Rattle.rcu_world_law.specs.Lists.{is_nil}
use Rattle.rcu_world_law.specs.States.{Cpu}
use Rattle.rcu_world_law.specs.Steps.{given}

one_done : (b : Bool) (n m : ℕ) → n ≤ m → cond b (1 + n) 0 ≤ m + 1
one_done true n m l = omega arith
one_done false n m l = omega arith

done_most : (ws : List Labelled) → done_count ws ≤ length ws
done_most [] = omega arith
done_most (w ∷ ws) = let o = one_done (is_done w.label) (done_count ws) (length ws) (done_most ws) in omega arith

from_done : (out : List Call) (ws : List Labelled) (n : ℕ) → is_nil out ≡ true → n ≤ length ws → length (out ++ map call_of (take (cond (is_nil out) n 0) ws)) ≡ n
from_done [] ws n e l = length-map (take n ws) call_of ∙ (let t = length-take n ws in omega arith)
from_done (x ∷ xs) ws n e l = absurd cc

from_out : (out : List Call) (ws : List Labelled) (n : ℕ) → is_nil out ≡ false → length (out ++ map call_of (take (cond (is_nil out) n 0) ws)) ≡ length out
from_out [] ws n e = absurd cc
from_out (x ∷ xs) ws n e = ap length (append-nil (x ∷ xs))

pub given_done : (blimit : ℕ) (c : Cpu) → is_nil c.out ≡ true → length (given blimit c) ≡ min blimit (done_count c.joined)
given_done blimit c e = from_done c.out c.joined (min blimit (done_count c.joined)) e (let d = done_most c.joined in omega arith)

pub given_out : (blimit : ℕ) (c : Cpu) → is_nil c.out ≡ false → length (given blimit c) ≡ length c.out
given_out blimit c e = from_out c.out c.joined (min blimit (done_count c.joined)) e

-- so many are taken, where r are done, which a count n of them says, and the most is the less of the two
pub taken_count : (most n d r count len : ℕ) → n ≡ d → d ≡ r → count ≡ min most n → len ≡ min count d → len ≡ min most r
taken_count most n d r count len e f h i = omega arith
