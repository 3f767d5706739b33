-- What a turn call asks of a processor. docs/specification/rules.md, "The calls, step by step"
use Rattle.std.specs.Prelude.{Bool, not, ◌&&◌, ◌||◌, ◌==◌, if◌then◌else◌}
use Rattle.rcu_jobs.specs.declared.Stop.{Stop}
use Rattle.rcu_jobs.specs.declared.Stop.TheVariants as stops
use Rattle.rcu_jobs.specs.declared.modes.Mode.{Mode}
use Rattle.rcu_jobs.specs.Modes.{is_offloaded, is_offloading}
use Rattle.rcu_world_law.specs.declared.who.Side.{Side}
use Rattle.rcu_world_law.specs.declared.who.Side.TheVariants.{Local, Hand}
use Rattle.rcu_world_law.specs.LabelledLists.{done_count}
use Rattle.rcu_world_law.specs.Lists.{is_nil}
use Rattle.rcu_world_law.specs.States.{Cpu}

-- a switch is asked for that can be made; `clear` says that the bypass list is empty
abbrev pub can_switch : Mode → (asked clear : Bool) → Bool
can_switch mode asked clear = if asked then not (is_offloaded mode) else (is_offloading mode || (is_offloaded mode && clear))

abbrev pub is_switching : Cpu → Bool
is_switching c = can_switch c.mode c.asked (is_nil c.bypass)

-- a batch stands on the lane, and none waits that was drawn
abbrev pub can_draw : Cpu → Bool
can_draw c = not (is_nil c.lane) && is_nil c.drawn

-- the hand holds nothing, and a batch stands on the done lane
abbrev pub can_fetch : Cpu → Bool
can_fetch c = is_nil c.held && not (is_nil c.done_lane)

-- a processor has nothing that is done, a hand nothing that it holds
abbrev pub has_none : Side → Cpu → Bool
has_none Local c = done_count c.own == 0
has_none Hand c = is_nil c.held

-- why a claim isn't enabled: there is none, or it isn't its turn
abbrev pub no_claim : Side → Cpu → Stop
no_claim by c = if has_none by c then stops.Empty else stops.Turn
