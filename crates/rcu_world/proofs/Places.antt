-- A loop over the places of a list
use Rattle.std.proofs.Common.{◌≡◌, ℕ, zero, suc, ◌+◌, ◌-◌, ◌<◌, ◌≤◌, ◌==◌, false, arith}

-- each step leaves one less
pub steps_on : (i n : ℕ) → i < n → n - (i + 1) < n - i
steps_on i n h = omega arith

-- a place that is seen is one of the vector
pub in_vec : (i all items len : ℕ) → i < all → all ≡ items → len ≡ items → i < len
in_vec i all items len h e f = omega arith

pub few_in_vec : (n all items len most : ℕ) → n ≡ len → len ≡ items → all ≡ items → all ≤ most → n ≤ most
few_in_vec n all items len most e f h l = omega arith

-- room for all is room for the next
pub room_for_next : (len start i n all cap grown : ℕ) → len ≡ start + i → i < n → n ≡ all → start + all ≤ cap → cap ≤ grown → len < grown
room_for_next len start i n all cap grown e l f c d = omega arith

pub room_for_least : (len start i n all cap grown : ℕ) → len ≤ start + i → i < n → n ≡ all → start + all ≤ cap → cap ≤ grown → len < grown
room_for_least len start i n all cap grown e l f c d = omega arith

pub room_for_one : (len rest cap : ℕ) → len + rest ≤ cap → 0 < rest → len < cap
room_for_one len rest cap r l = omega arith

pub room_for_yielded : (len n all cap : ℕ) → len ≡ n → n < all → all ≤ cap → len < cap
room_for_yielded len n all cap e l c = omega arith

-- nothing is added yet
pub none_added : (n : ℕ) → n ≡ n + 0
none_added n = omega arith

pub least_none : (n : ℕ) → n ≤ n + 0
least_none n = omega arith

pub least_of : (n : ℕ) → 0 ≤ n
least_of n = omega arith

pub as_much : (n : ℕ) → n ≤ n
as_much n = omega arith

-- one more is added
pub one_added : (later len start i : ℕ) → later ≡ len + 1 → len ≡ start + i → later ≡ start + (i + 1)
one_added later len start i e f = omega arith

-- the loop has come to its end
pub all_added : (len start i n all : ℕ) → len ≡ start + i → i ≤ n → n ≤ i → n ≡ all → len ≡ start + all
all_added len start i n all e l m f = omega arith

pub most_added : (len start i n all : ℕ) → len ≤ start + i → i ≤ n → n ≡ all → len ≤ start + all
most_added len start i n all e l f = omega arith

pub same_place : (i n : ℕ) → i ≤ n → n ≤ i → i ≡ n
same_place i n l m = omega arith

-- what isn't empty has some
pub some_left : (n : ℕ) → (n == 0) ≡ false → 0 < n
some_left zero e = absurd cc
some_left (suc n) e = omega arith

-- one is taken out
pub one_out : (rest all : ℕ) → rest + 1 ≡ all → rest < all
one_out rest all e = omega arith
