-- the end of a loop over all processors
use Rattle.std.proofs.Common.{◌≡◌, ℕ, ◌≤◌, ◌+◌, ◌++◌, List, [], ◌∷◌, Bool, true, false, not, ◌<◌, get_or, cond, append_assoc, refl, length, take, drop, ap, sym, ◌∙◌}
use Rattle.std.proofs.lemmas.List.{take_all, drop_all, append-nil}
use Rattle.rcu_world_law.specs.declared.marks.Mark.{Mark}
use Rattle.rcu_world_law.specs.declared.marks.Mark.TheVariants.{Shut}
use Rattle.rcu_world_law.specs.Closing.{shut_mark, shut_marks}
use Rattle.rcu_world_law.specs.Events.{each_cpu}
use Rattle.rcu_world_law.specs.States.{Cpu}
use Rattle.rcu_world_processor.specs.declared.processor.WorldProcessor.{WorldProcessor}
use Rattle.rcu_world_processor.specs.Views.{seen}
use Rattle.rcu_world.proofs.Leaving.{shuts_more}
use Rattle.rcu_world.specs.Views.{all_seen}

pub each_end : (f : ℕ → Cpu → Cpu) (i : ℕ) (all xs : List Cpu) → length xs ≤ i → all ≡ take i xs ++ each_cpu f i (drop i xs) → xs ≡ all
each_end f i all xs l h = sym (h ∙ ap (λ x. x ++ each_cpu f i (drop i xs)) (take_all i xs l) ∙ ap (λ x. xs ++ each_cpu f i x) (drop_all i xs l) ∙ append-nil xs)

pub shuts_end : {J R : Type 0} (key_of : J → ℕ) (ps : List (WorldProcessor J R)) (i : ℕ) (marks all : List Mark) → length ps ≤ i → all ≡ marks ++ shut_marks i (all_seen key_of (drop i ps)) → marks ≡ all
shuts_end key_of ps i marks all l h = sym (h ∙ ap (λ x. marks ++ shut_marks i (all_seen key_of x)) (drop_all i ps l) ∙ append-nil marks)

pub shuts_step : {J R : Type 0} (key_of : J → ℕ) (ps : List (WorldProcessor J R)) (i : ℕ) (p : WorldProcessor J R) (marks later all : List Mark) → i < length ps → p ≡ get_or ps i p
    → later ≡ marks ++ shut_mark i (seen key_of p) → all ≡ marks ++ shut_marks i (all_seen key_of (drop i ps)) → all ≡ later ++ shut_marks (i + 1) (all_seen key_of (drop (i + 1) ps))
shuts_step key_of ps i p marks later all l e r h =
    h ∙ ap (λ x. marks ++ x) (shuts_more key_of ps i p l e) ∙ sym (append_assoc marks (shut_mark i (seen key_of p)) _) ∙ ap (λ x. x ++ shut_marks (i + 1) (all_seen key_of (drop (i + 1) ps))) (sym r)

-- the mark of a processor that is open, and of one that is shut
pub open_mark : (i : ℕ) (b : Bool) → not b ≡ true → cond b [] (Shut i ∷ []) ≡ Shut i ∷ []
open_mark i true h = absurd cc
open_mark i false h = refl

pub no_mark : (i : ℕ) (b : Bool) → not b ≡ false → cond b [] (Shut i ∷ []) ≡ []
no_mark i true h = refl
no_mark i false h = absurd cc
