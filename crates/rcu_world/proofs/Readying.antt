-- Room for a Stamp that follows directly on Accept
use Rattle.std.proofs.Common.{◌≡◌, ℕ, ◌<◌, List, length, get_or, set, subst, sym, ◌∙◌}
use Rattle.std.proofs.lemmas.List.{get_or-set_same}
use Rattle.rcu_world_processor.specs.declared.processor.WorldProcessor.{WorldProcessor}
use Rattle.rcu_world_processor.specs.Ready.{IsReady}

pub ready_set : {J R : Type 0} (ps : List (WorldProcessor J R)) (i : ℕ) (p : WorldProcessor J R) → i < length ps → IsReady p → (q : WorldProcessor J R) → q ≡ get_or (set ps i p) i q → IsReady q
ready_set ps i p l r q e = subst IsReady (sym (e ∙ get_or-set_same ps i p q l)) r
