-- A processor at rest, in the words of the law
use Rattle.std.proofs.Common.{◌≡◌, ℕ, Bool, List, [], arith, refl}
use Rattle.std.specs.Prelude.{if◌then◌else◌}
use Rattle.rcu_jobs.specs.declared.modes.Mode.{Mode}
use Rattle.rcu_jobs.specs.declared.modes.Mode.TheVariants.{Local, Offloaded}
use Rattle.rcu_world_law.specs.Calls.{Call}
use Rattle.rcu_world_law.specs.LabelledLists.{Labelled}
use Rattle.rcu_world_law.specs.Releases.{Pace}
use Rattle.rcu_world_law.specs.States.{Run, opening_cpu}
use Rattle.rcu_world_law.specs.Steps.{with_pace}
use Rattle.rcu_lists.specs.Release.{beginning}
use Rattle.rcu_world_processor.specs.Batches.{law_pace}
use Rattle.rcu_jobs.specs.Records.{Given}

pub opens_as : (on : Bool) (own joined : List Labelled) (bypass drawn out held : List Call) (lane done_lane : List (List Call)) (runs : List Run) (p : Pace) (m : Mode)
    → own ≡ [] → joined ≡ [] → bypass ≡ [] → drawn ≡ [] → out ≡ [] → held ≡ [] → lane ≡ [] → done_lane ≡ [] → runs ≡ [] → p ≡ law_pace beginning → m ≡ (if on then Offloaded else Local)
    → with_pace p (record (opening_cpu on) { own = own; joined = joined; bypass = bypass; drawn = drawn; out = out; held = held; lane = lane; done_lane = done_lane; runs = runs; mode = m }) ≡ opening_cpu on
opens_as on own joined bypass drawn out held lane done_lane runs p m e1 e2 e3 e4 e5 e6 e7 e8 e9 e10 e11 = rw (e1, e2, e3, e4, e5, e6, e7, e8, e9, e10, e11) refl

pub none_ran : {R : Type 0} (gives : ℕ → R → Type 0) → Given gives []
none_ran gives = λ k d l. absurd (omega arith)
