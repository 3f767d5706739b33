-- Room for a Stamp that follows directly on Accept. docs/specification/surface.md, "rcu_world"
use Rattle.std.specs.Prelude.{◌≡◌, true, false}
use Rattle.rcu_jobs.specs.Modes.{is_offloaded}
use Rattle.rcu_lists.specs.Bypasses.{BypassRoom}
use Rattle.rcu_lists.specs.Segments.{SegmentsRoom}
use Rattle.rcu_world_processor.specs.declared.processor.WorldProcessor.{WorldProcessor}

-- room for one more in the bypass list of an offloaded processor, else in its own list
abbrev pub IsReady : {J R : Type 0} → WorldProcessor J R → Type 0
IsReady p = (is_offloaded p.mode ≡ true → BypassRoom p.bypass 1) × (is_offloaded p.mode ≡ false → SegmentsRoom p.own 1)
