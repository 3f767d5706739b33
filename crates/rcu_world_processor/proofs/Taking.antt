-- What is left of a processor, taken out one after another
use Rattle.std.proofs.Common.{◌≡◌, ℕ, ◌+◌, ◌<◌, ◌≤◌, true, false, List, [], ◌∷◌, ◌++◌, map, length, drop, refl, ap, sym, ◌∙◌, subst, arith, append_assoc, length-append}
use Rattle.std.proofs.lemmas.List.{map-append, append-nil}
use Rattle.std.specs.Option.{option_to_list}
use Rattle.rcu_jobs.specs.declared.Callback.{Callback}
use Rattle.rcu_world_law.specs.Calls.{Call}
use Rattle.rcu_world_law.specs.LabelledLists.{call_of}
use Rattle.rcu_world_law.specs.Lists.{is_nil, tail, first_batch}
use Rattle.rcu_world_law.specs.Places.{key_of, flattened, remaining_callbacks}
use Rattle.rcu_world_law.specs.States.{Cpu}
use Rattle.rcu_world_law.specs.Steps.{front}
use Rattle.rcu_lists.specs.Labels.{Labelled, callbacks_of}
use Rattle.rcu_world_processor.specs.Waits.{calls, waits}
use Rattle.rcu_world_processor.proofs.Waiting.{calls_as, nil_of, tail_shorter}

-- the first key goes to the end of those that were taken
pub one_taken : {J : Type 0} (k : J → ℕ) (js : List J) (j : J) (xs rest : List Call) → is_nil xs ≡ false → k j ≡ (front xs).key → rest ≡ tail xs
    → map k (js ++ j ∷ []) ++ map key_of rest ≡ map k js ++ map key_of xs
one_taken k js j [] rest n e f = absurd cc
one_taken k js j (x ∷ xs) rest n e f = ap (λ y. y ++ map key_of rest) (map-append k js (j ∷ [])) ∙ append_assoc (map k js) (k j ∷ []) (map key_of rest)
    ∙ ap (λ z. map k js ++ z ∷ map key_of rest) e ∙ ap (λ r. map k js ++ x.key ∷ map key_of r) f

-- nothing is left
pub none_taken : {J : Type 0} (k : J → ℕ) (js : List J) (xs : List Call) (all : List ℕ) → is_nil xs ≡ true → map k js ++ map key_of xs ≡ all → map k js ≡ all
none_taken k js xs all n e = sym (append-nil (map k js)) ∙ ap (λ ys. map k js ++ map key_of ys) (sym (nil_of xs n)) ∙ e

pub one_less : (xs rest : List Call) → is_nil xs ≡ false → rest ≡ tail xs → length xs ≡ length rest + 1
one_less xs rest n e = tail_shorter xs n ∙ ap (λ ys. length ys + 1) (sym e)

pub one_shorter : (xs rest : List Call) → is_nil xs ≡ false → rest ≡ tail xs → length rest < length xs
one_shorter xs rest n e = let l = one_less xs rest n e in omega arith

pub none_left : (xs : List Call) → is_nil xs ≡ true → length xs ≡ 0
none_left xs n = ap length (nil_of xs n)

-- a lane, batch after batch
pub first_flattened : (bs : List (List Call)) → is_nil bs ≡ false → flattened bs ≡ first_batch bs ++ flattened (tail bs)
first_flattened [] n = absurd cc
first_flattened (b ∷ bs) n = refl

pub none_flattened : (bs : List (List Call)) → is_nil bs ≡ true → flattened bs ≡ []
none_flattened bs n = ap flattened (nil_of bs n)

pub lane_shorter : (bs rest : List (List Call)) → is_nil bs ≡ false → rest ≡ tail bs → length rest < length bs
lane_shorter [] rest n e = absurd cc
lane_shorter (b ∷ bs) rest n e = omega (arith, ap length e)

-- the first batch of a lane was taken
pub batch_taken : (got before : List ℕ) (b : List Call) (bs rest : List (List Call)) → is_nil bs ≡ false → b ≡ first_batch bs → rest ≡ tail bs → got ≡ before ++ map key_of b
    → got ++ map key_of (flattened rest) ≡ before ++ map key_of (flattened bs)
batch_taken got before b bs rest n e f h =
    ap (λ x. x ++ map key_of (flattened rest)) h ∙ append_assoc before (map key_of b) (map key_of (flattened rest))
    ∙ ap (λ x. before ++ x) (sym (map-append key_of b (flattened rest)) ∙ ap (map key_of) (ap (λ x. x ++ flattened rest) e ∙ ap (λ x. first_batch bs ++ flattened x) f ∙ sym (first_flattened bs n)))

pub batch_less : (b : List Call) (bs rest : List (List Call)) → is_nil bs ≡ false → b ≡ first_batch bs → rest ≡ tail bs → length (flattened bs) ≡ length b + length (flattened rest)
batch_less b bs rest n e f = ap length (first_flattened bs n) ∙ length-append (first_batch bs) (flattened (tail bs)) ∙ ap (λ x. length x + length (flattened (tail bs))) (sym e) ∙ ap (λ x. length b + length (flattened x)) (sym f)

pub lane_taken : (got all : List ℕ) (bs : List (List Call)) → is_nil bs ≡ true → got ++ map key_of (flattened bs) ≡ all → got ≡ all
lane_taken got all bs n e = sym (append-nil got) ∙ ap (λ xs. got ++ map key_of xs) (sym (none_flattened bs n)) ∙ e

-- room for what is left is room for its first part
pub rest_fits : (len later x rest cap grown : ℕ) → len + (x + rest) ≤ cap → later ≡ len + x → cap ≤ grown → later + rest ≤ grown
rest_fits len later x rest cap grown a b c = omega arith

pub first_fits : (len x rest cap : ℕ) → len + (x + rest) ≤ cap → len + x ≤ cap
first_fits len x rest cap a = omega arith

-- room for what is left is room for the first of it
pub one_has_room : (len xs rest cap : ℕ) → len + xs ≤ cap → xs ≡ rest + 1 → len + 1 ≤ cap
one_has_room len xs rest cap a l = omega arith

pub room_left : (len xs rest start all cap grown : ℕ) → xs ≡ rest + 1 → len + xs ≡ start + all → start + all ≤ cap → cap ≤ grown → len < grown
room_left len xs rest start all cap grown l e f c = omega arith

-- some lists, taken out one after another
three : (a b c : List Call) → length (a ++ (b ++ c)) ≡ length a + (length b + length c)
three a b c = length-append a (b ++ c) ∙ ap (λ n. length a + n) (length-append b c)

four : (a b c d : List Call) → length (a ++ (b ++ (c ++ d))) ≡ length a + (length b + (length c + length d))
four a b c d = length-append a (b ++ (c ++ d)) ∙ ap (λ n. length a + n) (three b c d)

pub three_fit : (a b c : List Call) (len cap : ℕ) → len + length (a ++ (b ++ c)) ≤ cap → len + (length a + (length b + length c)) ≤ cap
three_fit a b c len cap l = subst (λ n. len + n ≤ cap) (three a b c) l

pub four_fit : (a b c d : List Call) (len cap : ℕ) → len + length (a ++ (b ++ (c ++ d))) ≤ cap → len + (length a + (length b + (length c + length d))) ≤ cap
four_fit a b c d len cap l = subst (λ n. len + n ≤ cap) (four a b c d) l

pub three_len : (a b c : List Call) (x0 x1 x2 x3 : ℕ) → x1 ≡ x0 + length a → x2 ≡ x1 + length b → x3 ≡ x2 + length c → x3 ≡ x0 + length (a ++ (b ++ c))
three_len a b c x0 x1 x2 x3 e1 e2 e3 = let e = three a b c in omega arith

pub four_len : (a b c d : List Call) (x0 x1 x2 x3 x4 : ℕ) → x1 ≡ x0 + length a → x2 ≡ x1 + length b → x3 ≡ x2 + length c → x4 ≡ x3 + length d → x4 ≡ x0 + length (a ++ (b ++ (c ++ d)))
four_len a b c d x0 x1 x2 x3 x4 e1 e2 e3 e4 = let e = four a b c d in omega arith

pub three_keys : (a b c : List Call) (x0 x1 x2 x3 : List ℕ) → x1 ≡ x0 ++ map key_of a → x2 ≡ x1 ++ map key_of b → x3 ≡ x2 ++ map key_of c → x3 ≡ x0 ++ map key_of (a ++ (b ++ c))
three_keys a b c x0 x1 x2 x3 e1 e2 e3 = rw (e3, e2, e1) (simp (map-append, append_assoc))

pub four_keys : (a b c d : List Call) (x0 x1 x2 x3 x4 : List ℕ) → x1 ≡ x0 ++ map key_of a → x2 ≡ x1 ++ map key_of b → x3 ≡ x2 ++ map key_of c → x4 ≡ x3 ++ map key_of d
    → x4 ≡ x0 ++ map key_of (a ++ (b ++ (c ++ d)))
four_keys a b c d x0 x1 x2 x3 x4 e1 e2 e3 e4 = rw (e4, e3, e2, e1) (simp (map-append, append_assoc))

-- what is left of a processor: the places up to the group's list, those up to the bypass list, the own list, and the fresh one
abbrev pub joined_part : Cpu → List Call
joined_part c = c.held ++ (flattened c.done_lane ++ (c.out ++ map call_of c.joined))

abbrev pub bypassed_part : Cpu → List Call
bypassed_part c = c.drawn ++ (flattened c.lane ++ c.bypass)

parted : (a b c d e f g h i : List Call) → (a ++ (b ++ (c ++ (d ++ (e ++ (f ++ (g ++ h))))))) ++ i ≡ (a ++ (b ++ (c ++ d))) ++ ((e ++ (f ++ g)) ++ (h ++ i))
parted a b c d e f g h i = simp append_assoc

parts : (c : Cpu) → remaining_callbacks c ≡ joined_part c ++ (bypassed_part c ++ (map call_of c.own ++ option_to_list c.fresh))
parts c = parted c.held (flattened c.done_lane) c.out (map call_of c.joined) c.drawn (flattened c.lane) c.bypass (map call_of c.own) (option_to_list c.fresh)

pub parts_fit : (c : Cpu) (len cap : ℕ) → len + length (remaining_callbacks c) ≤ cap
    → len + (length (joined_part c) + (length (bypassed_part c) + (length (map call_of c.own) + length (option_to_list c.fresh)))) ≤ cap
parts_fit c len cap l = four_fit (joined_part c) (bypassed_part c) (map call_of c.own) (option_to_list c.fresh) len cap (subst (λ xs. len + length xs ≤ cap) (parts c) l)

pub parts_keys : (c : Cpu) (x0 x1 x2 x3 x4 : List ℕ) → x1 ≡ x0 ++ map key_of (joined_part c) → x2 ≡ x1 ++ map key_of (bypassed_part c) → x3 ≡ x2 ++ map key_of (map call_of c.own)
    → x4 ≡ x3 ++ map key_of (option_to_list c.fresh) → x4 ≡ x0 ++ map key_of (remaining_callbacks c)
parts_keys c x0 x1 x2 x3 x4 e1 e2 e3 e4 = four_keys (joined_part c) (bypassed_part c) (map call_of c.own) (option_to_list c.fresh) x0 x1 x2 x3 x4 e1 e2 e3 e4 ∙ ap (λ xs. x0 ++ map key_of xs) (sym (parts c))

-- the callbacks of a list of segments
pub calls_waiting : {J : Type 0} (k : J → ℕ) (cs : List (Callback J)) (xs : List (Labelled J)) → cs ≡ callbacks_of xs → calls k cs ≡ map call_of (waits k xs)
calls_waiting k cs xs e = ap (calls k) e ∙ sym (calls_as k xs)

-- a list that is its own rest is empty
pub none_first : {A : Type 0} (xs ys : List A) → xs ≡ ys → ys ≡ drop 1 xs → xs ≡ []
none_first [] ys e r = refl
none_first (x ∷ xs) ys e r = let n : length (x ∷ xs) ≡ length xs = ap length (e ∙ r) in absurd (omega arith)
