-- A group's members, taken off the front of all that are left.
use Rattle.std.proofs.Common.{◌≡◌, ℕ, ◌/◌, ◌<◌, ◌≤◌, Bool, true, false, cond, zero, suc, List, [], ◌∷◌, ◌++◌, length, drop, ap, sym, ◌∙◌, refl, subst, arith}
use Rattle.std.specs.Prelude.{◌==◌, ◌&&◌, All, slice_index_or}
use Rattle.std.specs.List.{AllByRecursion, AllPairs}
use Rattle.std.proofs.lemmas.Bool.{eqb-true}
use Rattle.std.proofs.lemmas.List.{length-map, map-append}
use Rattle.std.proofs.lemmas.List.Elements.{All-from_recursion, All-tail, All-head}
use Rattle.std.proofs.lemmas.List.Kept.{AllPairs-cons}
use Rattle.rcu_numbers.specs.declared.set.TheConstants.{PARTS_PROCESSORS}
use Rattle.rcu_board.specs.Opened.{is_offloadable, numbers_where}
use Rattle.rcu_part_group.specs.GroupLaw.{AreMembers, cpus_of}
use Rattle.rcu_parts.specs.Openings.{BeginsOutside, TakesMembers, is_member}
use Rattle.rcu_part_group.specs.declared.members.GroupMember.{GroupMember}
use Rattle.rcu_parts.proofs.Splitting.{AreGrouped, StartsOutside, where_all, where_few}

-- one list is cut in two at the first that isn't of the group, in one way
one_cut : (stride g : ℕ) (mine others taken left : List ℕ) → AllByRecursion (λ p. p / stride ≡ g) mine → AllByRecursion (λ p. p / stride ≡ g) taken
    → StartsOutside stride g others → StartsOutside stride g left → mine ++ others ≡ taken ++ left → (mine ≡ taken) × (others ≡ left)
one_cut stride g [] others [] left a b c d e = (refl, e)
one_cut stride g [] others (t ∷ ts) left a b c d e = absurd (subst (StartsOutside stride g) e c b.0)
one_cut stride g (m ∷ ms) others [] left a b c d e = absurd (subst (StartsOutside stride g) (sym e) d a.0)
one_cut stride g (m ∷ ms) others (t ∷ ts) left a b c d e = let r = one_cut stride g ms others ts left a.1 b.1 c d (ap (λ (l : List ℕ). drop 1 l) e) in
    (ap (λ (l : List ℕ). m ∷ l) r.0 ∙ ap (λ (x : ℕ). x ∷ ts) (ap (λ (l : List ℕ). slice_index_or l 0 0) e), r.1)

both_yes : (o t : Bool) → (o && t) ≡ true → t ≡ true
both_yes true t e = e
both_yes false t e = absurd (let f : false ≡ true = e in cc)

members_inside : (mask stride n g : ℕ) → AllByRecursion (λ p. p / stride ≡ g) (numbers_where (is_member mask stride g) 0 n)
members_inside mask stride n g = where_all (λ p. p / stride ≡ g) (is_member mask stride g) 0 n (λ q low e. eqb-true (q / stride) g (both_yes (is_offloadable mask q) (q / stride == g) e))

rises_if : (b : Bool) (p : ℕ) (l : List ℕ) → AllPairs (λ x y. x < y) l → All (λ q. p < q) l → AllPairs (λ x y. x < y) (cond b (p ∷ l) l)
rises_if true p l pairs above = AllPairs-cons (λ x y. x < y) p l above pairs
rises_if false p l pairs above = pairs

increasing : (t : ℕ → Bool) (p k : ℕ) → AllPairs (λ x y. x < y) (numbers_where t p k)
unfolding numbers_where
increasing t p zero = λ i j d a b. absurd (omega (arith, b))
increasing t p (suc k) = rises_if (t p) p (numbers_where t (suc p) k) (increasing t (suc p) k) (All-from_recursion (λ q. p < q) (numbers_where t (suc p) k) (where_all (λ q. p < q) t (suc p) k (λ q low e. omega (arith, low))))

module _ {J : Type 0} where
  cpus_inside : (stride g : ℕ) (ms : List (GroupMember J)) → All (λ (m : GroupMember J). m.cpu / stride ≡ g) ms → AllByRecursion (λ p. p / stride ≡ g) (cpus_of ms)
  cpus_inside stride g [] h = tt
  cpus_inside stride g (m ∷ ms) h = (All-head (λ (m : GroupMember J). m.cpu / stride ≡ g) m ms h, cpus_inside stride g ms (All-tail (λ (m : GroupMember J). m.cpu / stride ≡ g) m ms h))

  cpus_outside : (stride g : ℕ) (ms : List (GroupMember J)) → BeginsOutside stride g ms → StartsOutside stride g (cpus_of ms)
  cpus_outside stride g [] h = tt
  cpus_outside stride g (m ∷ ms) h = h

  first_group_member : (p : ℕ) (ps : List ℕ) (ms : List (GroupMember J)) → cpus_of ms ≡ p ∷ ps → (m : GroupMember J) × (rest : List (GroupMember J)) × (ms ≡ m ∷ rest) × (m.cpu ≡ p)
  first_group_member p ps [] e = absurd (let n : 0 ≡ suc (length ps) = ap (λ (l : List ℕ). length l) e in omega (arith, n))
  first_group_member p ps (m ∷ ms) e = (m, ms, refl, ap (λ (l : List ℕ). slice_index_or l 0 0) e)

  -- the first that is left is of the next group
  pub group_begins : (mask stride n g : ℕ) (gs : List ℕ) (ms : List (GroupMember J)) → AreGrouped mask stride n (g ∷ gs) (cpus_of ms) → (m : GroupMember J) × (rest : List (GroupMember J)) × (ms ≡ m ∷ rest) × (m.cpu / stride ≡ g)
  group_begins mask stride n g gs ms h = let f = first_group_member h.0 (h.1 ++ h.2) ms h.4 in
      let inside = subst (AllByRecursion (λ p. p / stride ≡ g)) h.3 (members_inside mask stride n g) in
      (f.0, f.1, f.2, ap (λ (p : ℕ). p / stride) f.3 ∙ inside.0)

  -- what is taken are the group's members, and the other groups are left
  pub group_taken : (mask stride n g : ℕ) (gs : List ℕ) (taken old new : List (GroupMember J)) → AreGrouped mask stride n (g ∷ gs) (cpus_of old) → TakesMembers stride g taken old new
      → (cpus_of taken ≡ numbers_where (is_member mask stride g) 0 n) × AreGrouped mask stride n gs (cpus_of new)
  group_taken mask stride n g gs taken old new h t =
      let mine = h.0 ∷ h.1 in let rest = h.2 in
      let inside = subst (AllByRecursion (λ p. p / stride ≡ g)) h.3 (members_inside mask stride n g) in
      let cut = one_cut stride g mine rest (cpus_of taken) (cpus_of new) inside (cpus_inside stride g taken t.inside) h.5 (cpus_outside stride g new t.outside)
      (sym h.4 ∙ ap cpus_of t.order ∙ map-append (λ (m : GroupMember J). m.cpu) taken new) in
      (sym (h.3 ∙ cut.0), subst (AreGrouped mask stride n gs) cut.1 h.6)

  -- they are rising, and no more than there are processors
  pub are_members : (mask stride n g : ℕ) (ms : List (GroupMember J)) → n ≤ PARTS_PROCESSORS → cpus_of ms ≡ numbers_where (is_member mask stride g) 0 n → AreMembers ms
  are_members mask stride n g ms few e = record {
    few = let long : length (cpus_of ms) ≡ length ms = length-map ms (λ (m : GroupMember J). m.cpu) in let same = ap (λ (l : List ℕ). length l) e in let most = where_few (is_member mask stride g) 0 n in omega (arith, long, same, most, few);
    rising = subst (AllPairs (λ p q. p < q)) (sym e) (increasing (is_member mask stride g) 0 n);
  }
