-- Callbacks in a list, as the law sees them
use Rattle.std.specs.Prelude.{ℕ, List, map}
use Rattle.rcu_jobs.specs.declared.Callback.{Callback}
use Rattle.rcu_world_law.specs.declared.labels.Label.{Label}
use Rattle.rcu_world_law.specs.declared.labels.Label.TheVariants as labels
use Rattle.rcu_world_law.specs.Calls.{Call}
use Rattle.rcu_world_law.specs.LabelledLists.{Labelled}
use Rattle.rcu_lists.specs.Labels.{Label as ListLabel, Done, Numbered, Bare, Labelled as Listed}
use Rattle.rcu_lists.specs.Segments.{labelled}
use Rattle.rcu_lists.specs.declared.segments.Segments.{Segments}

-- the label of the law
abbrev pub label : ListLabel → Label
label Done = labels.Done
label (Numbered n) = labels.At n
label Bare = labels.Bare

module _ {J : Type 0} (key_of : J → ℕ) where
  -- a callback without its job: the key is the job's
  abbrev pub call : Callback J → Call
  call c = record { number = c.number; key = key_of c.job; stamp = c.stamp }

  abbrev pub calls : List (Callback J) → List Call
  calls cs = map call cs

  abbrev pub wait : Listed J → Labelled
  wait x = record { call = call x.callback; label = label x.label }

  abbrev pub waits : List (Listed J) → List Labelled
  waits xs = map wait xs

  -- a list of segments
  abbrev pub waiting : Segments J → List Labelled
  waiting s = waits (labelled s)
