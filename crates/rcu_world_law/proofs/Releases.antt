-- The release of a call and the test of `Give`, in the forms that code tests.
use Rattle.std.proofs.Common.{◌≡◌, ℕ, zero, suc, ◌+◌, ◌≤◌, min, List, [], ◌∷◌, ◌++◌, length, take, map, refl, ap, sym, ◌∙◌, arith, Bool, true, false, not, ◌&&◌, ◌||◌, ◌==◌, cond, nat_le, nat_lt}
use Rattle.std.proofs.lemmas.Bool.{ne_eqb, lt-ltb}
use Rattle.rcu_world_law.specs.Calls.{Call}
use Rattle.rcu_world_law.specs.Lists.{is_none, is_nil}
use Rattle.rcu_world_law.specs.LabelledLists.{Labelled, is_done, call_of, done_count}
use Rattle.rcu_world_law.specs.States.{Cpu}
use Rattle.rcu_world_law.specs.Releases.{differs, releases}
use Rattle.rcu_world_law.specs.Steps.{given}

alone : (xs : List Call) → (length xs + 1 == 1) ≡ is_nil xs
alone [] = refl
alone (x ∷ xs) = ne_eqb (length (x ∷ xs) + 1) 1 (λ e. omega arith)

-- the callback is alone in the list with it where the list without it is empty
pub releases_as : (qhimark : ℕ) (lazy : Bool) (m : ℕ) (c : Cpu) → releases qhimark lazy m c
    ≡ cond lazy (nat_le qhimark (length c.bypass + 1)) (differs c.moment m || (not (is_none c.kept_moment) || ((is_nil c.bypass && nat_lt c.direct 16) || nat_le qhimark (length c.bypass + 1))))
releases_as qhimark true m c = refl
releases_as qhimark false m c = ap (λ x. differs c.moment m || (not (is_none c.kept_moment) || ((x && nat_lt c.direct 16) || nat_le qhimark (length c.bypass + 1)))) (alone c.bypass)

some_taken : (j : ℕ) (w : Labelled) (ws : List Labelled) → 1 ≤ j → is_nil (map call_of (take j (w ∷ ws))) ≡ false
some_taken zero w ws l = absurd (omega arith)
some_taken (suc j) w ws l = refl

none_taken : (j : ℕ) (ws : List Labelled) → j ≡ 0 → is_nil (map call_of (take j ws)) ≡ true
none_taken zero ws e = refl
none_taken (suc j) ws e = absurd (omega arith)

done_given : (blimit : ℕ) (b : Bool) (w : Labelled) (ws : List Labelled) → is_done w.label ≡ b → 1 ≤ blimit
    → not (is_nil (map call_of (take (min blimit (done_count (w ∷ ws))) (w ∷ ws)))) ≡ nat_lt 0 (done_count (w ∷ ws))
done_given blimit true w ws e l =
    let d : done_count (w ∷ ws) ≡ 1 + done_count ws = ap (λ x. cond x (1 + done_count ws) 0) e in
    ap not (some_taken (min blimit (done_count (w ∷ ws))) w ws (omega arith)) ∙ sym (lt-ltb 0 (done_count (w ∷ ws)) (omega arith))
done_given blimit false w ws e l =
    let d : done_count (w ∷ ws) ≡ 0 = ap (λ x. cond x (1 + done_count ws) 0) e in
    ap not (none_taken (min blimit (done_count (w ∷ ws))) (w ∷ ws) (omega arith)) ∙ ap (nat_lt 0) (sym d)

given_from : (blimit : ℕ) (out : List Call) (ws : List Labelled) → 1 ≤ blimit
    → not (is_nil (out ++ map call_of (take (cond (is_nil out) (min blimit (done_count ws)) 0) ws))) ≡ (not (is_nil out) || nat_lt 0 (done_count ws))
given_from blimit (c ∷ cs) ws l = refl
given_from blimit [] [] l = ap not (none_taken (min blimit 0) [] (omega arith))
given_from blimit [] (w ∷ ws) l = done_given blimit (is_done w.label) w ws refl l

-- there is something to give where out or the group's done isn't empty
pub something_given : (blimit : ℕ) (c : Cpu) → 1 ≤ blimit → not (is_nil (given blimit c)) ≡ (not (is_nil c.out) || nat_lt 0 (done_count c.joined))
something_given blimit c l = given_from blimit c.out c.joined l
