-- What `show` writes, one list and one processor further.
use Rattle.std.proofs.Common.{◌≡◌, ℕ, suc, ◌+◌, ◌<◌, get_or, take, arith, [], ◌∷◌, ◌++◌, ◌∙◌, ap, sym, subst, refl, append-nil, append_assoc, List, Option, Some, None, Result, OnOk, length}
use Rattle.std.proofs.lemmas.List.{length-take, take_more}
use Rattle.std.proofs.lemmas.Result.{on_ok_weaker}
use Rattle.std.specs.Io.KnownBytes.{Appends}
use Rattle.rcu_part_group.specs.declared.group.Group.{Group}
use Rattle.rcu_jobs.specs.declared.Lists.{Lists}
use Rattle.rcuo_script.proofs.Written.{Appends-append}
use Rattle.rcuo_script.specs.Lines.{lists_line}
use Rattle.rcuo_replay.specs.Outcomes.{ShowsFrom, ShowsOne, ShownIn}
use Rattle.rcuo_replay.specs.Presences.{ScriptProcessor, lists_shown}

module _ {J R : Type 0} (groups : List (Group J R)) where
  pub shows_none : (k : ℕ) → ShowsFrom k [] groups []
  unfolding ShowsFrom
  shows_none k = refl

  -- one processor more
  pub shows_more : (k : ℕ) (ps : List (ScriptProcessor J R)) (p : ScriptProcessor J R) (before text : List ℕ) → ShowsFrom k ps groups before → ShowsOne (k + length ps) p groups text → ShowsFrom k (ps ++ p ∷ []) groups (before ++ text)
  unfolding ShowsFrom
  shows_more k [] p before text none one = (text, [], subst (λ n. ShowsOne n p groups text) (let z : k + 0 ≡ k = omega arith in z) one, refl, ap (λ l. l ++ text) none ∙ sym (append-nil text))
  shows_more k (q ∷ ps) p before text some one =
      let more = shows_more (suc k) ps p some.1 text some.3 (subst (λ n. ShowsOne n p groups text) (let z : k + suc (length ps) ≡ suc k + length ps = omega arith in z) one) in
      (some.0, some.1 ++ text, some.2, more, ap (λ l. l ++ text) some.4 ∙ append_assoc some.0 some.1 text)

  module _ (k : ℕ) (p : ScriptProcessor J R) (own : Lists) (is : own ≡ lists_shown p) (a b : Option (List ℕ)) (first : Appends a b (lists_line k own)) where
    -- the lines of one processor, which no group has as a member
    pub own_alone : ShownIn k None groups → (text : List ℕ) × ShowsOne k p groups text × Appends a b text
    own_alone none = (lists_line k own ++ [], (None, none, ap (λ l. lists_line k l ++ []) is), subst (Appends a b) (sym (append-nil (lists_line k own))) first)

    -- which a group has
    pub own_and_group : {E : Type 0} (r : Result (Unit {0}) E) (c : Option (List ℕ)) (group_member : Lists) → ShownIn k (Some group_member) groups → OnOk r (Appends b c (lists_line k group_member)) → OnOk r ((text : List ℕ) × ShowsOne k p groups text × Appends a c text)
    own_and_group r c group_member some h = on_ok_weaker {Q = (text : List ℕ) × ShowsOne k p groups text × Appends a c text} r
        (λ second. (lists_line k own ++ lists_line k group_member, (Some group_member, some, ap (λ l. lists_line k l ++ lists_line k group_member) is), Appends-append a b c (lists_line k own) (lists_line k group_member) first second)) h

  -- one processor more than the first so many, and all of them
  pub one_shown : (ps : List (ScriptProcessor J R)) (n : ℕ) (p : ScriptProcessor J R) → n < length ps → p ≡ get_or ps n p → (a b c : Option (List ℕ)) → (text : List ℕ) × ShowsFrom 0 (take n ps) groups text × Appends a b text
      → (text : List ℕ) × ShowsOne n p groups text × Appends b c text → (text : List ℕ) × ShowsFrom 0 (take (n + 1) ps) groups text × Appends a c text
  one_shown ps n p there is a b c before one =
      let long : length (take n ps) ≡ n = simp length-take (omega arith) in
      let more = shows_more 0 (take n ps) p before.0 one.0 before.1 (subst (λ k. ShowsOne k p groups one.0) (let z : n ≡ 0 + length (take n ps) = omega (arith, long) in z) one.1) in
      let taken : take (n + 1) ps ≡ take n ps ++ p ∷ [] = take_more ps n p there ∙ ap (λ x. take n ps ++ x ∷ []) (sym is) in
      (before.0 ++ one.0, subst (λ l. ShowsFrom 0 l groups (before.0 ++ one.0)) (sym taken) more, Appends-append a b c before.0 one.0 before.2 one.2)

  pub all_shown : (ps : List (ScriptProcessor J R)) (n : ℕ) → take n ps ≡ ps → (a b : Option (List ℕ)) → (text : List ℕ) × ShowsFrom 0 (take n ps) groups text × Appends a b text → (text : List ℕ) × ShowsFrom 0 ps groups text × Appends a b text
  all_shown ps n all a b shown = (shown.0, subst (λ l. ShowsFrom 0 l groups shown.0) all shown.1, shown.2)
