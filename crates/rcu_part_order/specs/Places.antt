-- Where the accepted numbers of one processor are, as its own part knows it (docs/specification/definitions.md, "Places"):
-- claimed by the processor itself, put on its lane, or held in one of its lists.
use Rattle.std.specs.Prelude.{◌≡◌, ℕ, ◌+◌, Bool, if◌then◌else◌, List, [], ◌∷◌, ◌++◌, map}

-- an accepted number's key and stamp, as the accepted list keeps them
pub record Accepted : Type 0 where
  pub key : ℕ
  pub stamp : ℕ

-- the keys of an accepted list
abbrev pub keys_of : List Accepted → List ℕ
keys_of accepted = map (λ a. a.key) accepted

-- an accepted number, with its key and stamp
pub record Numbered : Type 0 where
  pub number : ℕ
  pub key : ℕ
  pub stamp : ℕ

abbrev pub with_number : ℕ → Accepted → Numbered
with_number k a = record { number = k; key = a.key; stamp = a.stamp }

-- an accepted list with its numbers, from k on
abbrev pub numbered : ℕ → List Accepted → List Numbered
numbered k [] = []
numbered k (x ∷ xs) = with_number k x ∷ numbered (k + 1) xs

-- a number that left the processor's lists: the processor claimed it, or else put it on its lane
pub record Move : Type 0 where
  pub claimed : Bool
  pub what : Numbered

abbrev pub claimed_of : List Move → List Numbered
claimed_of [] = []
claimed_of (m ∷ ms) = if m.claimed then m.what ∷ claimed_of ms else claimed_of ms

abbrev pub put_of : List Move → List Numbered
put_of [] = []
put_of (m ∷ ms) = if m.claimed then put_of ms else m.what ∷ put_of ms

abbrev pub moved : List Move → List Numbered
moved ms = map (λ m. m.what) ms

-- What the processor accepted is what left its lists, in some order of claims and puts, and then what they hold.
pub record Placed (accepted : List Accepted) (ran put held : List Numbered) : Type 0 where
  pub moves : List Move
  pub ran_is : claimed_of moves ≡ ran
  pub put_is : put_of moves ≡ put
  pub all : numbered 0 accepted ≡ moved moves ++ held
