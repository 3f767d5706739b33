-- Give, by its two cases
use Rattle.std.specs.Prelude.{ℕ, [], ◌∷◌, ◌++◌, map, take, drop, min, if◌then◌else◌}
use Rattle.rcu_world_law.specs.States.{Cpu}
use Rattle.rcu_world_law.specs.LabelledLists.{call_of, done_count}
use Rattle.rcu_world_law.specs.Lists.{is_nil}

abbrev pub gives_done : ℕ → Cpu → Cpu
gives_done blimit c = record c { done_lane = c.done_lane ++ map call_of (take (min blimit (done_count c.joined)) c.joined) ∷ []; joined = drop (min blimit (done_count c.joined)) c.joined }

abbrev pub gives_out : Cpu → Cpu
gives_out c = record c { done_lane = c.done_lane ++ c.out ∷ []; out = [] }

abbrev pub gives_by_case : ℕ → Cpu → Cpu
gives_by_case blimit c = if is_nil c.out then gives_done blimit c else gives_out c
