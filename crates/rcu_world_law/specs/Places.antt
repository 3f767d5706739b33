-- The places of a callback, from the front (`docs/specification/tables.md`, "Places of a callback").
use Rattle.std.specs.Prelude.{ℕ, List, [], ◌∷◌, ◌++◌, map}
use Rattle.std.specs.Option.{option_to_list}
use Rattle.rcu_world_law.specs.Calls.{Call}
use Rattle.rcu_world_law.specs.LabelledLists.{call_of}
use Rattle.rcu_world_law.specs.States.{Cpu}

abbrev pub key_of : Call → ℕ
key_of c = c.key

-- the callbacks of some batches, in order
abbrev pub flattened : List (List Call) → List Call
flattened [] = []
flattened (b ∷ bs) = b ++ flattened bs

-- the callbacks in the places 1 to 7, which have their stamps: held, done lane, out, the group's list, drawn, lane,
-- bypass list or own list
abbrev pub stamped_callbacks : Cpu → List Call
stamped_callbacks c = c.held ++ (flattened c.done_lane ++ (c.out ++ (map call_of c.joined ++ (c.drawn ++ (flattened c.lane ++ (c.bypass ++ map call_of c.own))))))

-- the callbacks in all eight places: those that neither ran nor were handed back
abbrev pub remaining_callbacks : Cpu → List Call
remaining_callbacks c = stamped_callbacks c ++ option_to_list c.fresh

-- the callbacks in the places before the own list: with the hand and the group, on their lanes, and in the bypass list
abbrev pub offloaded_callbacks : Cpu → List Call
offloaded_callbacks c = c.held ++ (flattened c.done_lane ++ (c.out ++ (map call_of c.joined ++ (c.drawn ++ (flattened c.lane ++ c.bypass)))))
