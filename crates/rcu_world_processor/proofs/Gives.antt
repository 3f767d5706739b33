-- A Give, and the steps that are refused, in the words of the law
use Rattle.std.proofs.Common.{◌≡◌, ℕ, List, [], ◌∷◌, ◌++◌, map, take, drop, min, refl}
use Rattle.rcu_world_law.specs.Calls.{Call}
use Rattle.rcu_world_law.specs.LabelledLists.{Labelled, call_of, done_count}
use Rattle.rcu_world_law.specs.Releases.{Pace}
use Rattle.rcu_world_law.specs.States.{Cpu}
use Rattle.rcu_world_law.specs.Steps.{with_pace}
use Rattle.rcu_world_processor.specs.Giving.{gives_done, gives_out}

pub gives_done_as : (blimit : ℕ) (c : Cpu) (lane : List (List Call)) (b : List Call) (ws : List Labelled) → lane ≡ c.done_lane ++ b ∷ [] → b ≡ map call_of (take (min blimit (done_count c.joined)) c.joined)
    → ws ≡ drop (min blimit (done_count c.joined)) c.joined → record c { done_lane = lane; joined = ws } ≡ gives_done blimit c
gives_done_as blimit c lane b ws e f h = rw (e, f, h) refl

pub gives_out_as : (c : Cpu) (lane : List (List Call)) (b left : List Call) → lane ≡ c.done_lane ++ b ∷ [] → b ≡ c.out → left ≡ [] → record c { done_lane = lane; out = left } ≡ gives_out c
gives_out_as c lane b left e f h = rw (e, f, h) refl

-- nothing was given, and nothing was poured
pub none_given : (c : Cpu) (lane : List (List Call)) (ws : List Labelled) → lane ≡ c.done_lane → ws ≡ c.joined → record c { done_lane = lane; joined = ws } ≡ c
none_given c lane ws e f = rw (e, f) refl

pub none_poured : (c : Cpu) (ws : List Labelled) (xs : List Call) (p : Pace) → ws ≡ c.own → xs ≡ c.bypass → p ≡ record { moment = c.moment; direct = c.direct; kept_moment = c.kept_moment; plain = c.plain }
    → with_pace p (record c { own = ws; bypass = xs }) ≡ c
none_poured c ws xs p e f h = rw (e, f, h) refl
