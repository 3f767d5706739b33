-- What turns of a runtime's parts do, in the words of each part's own turn: docs/embedding.md, "In one thread".
use Rattle.std.specs.Prelude.{◌≡◌, ℕ, ◌+◌, ◌*◌, ◌≤◌, Option, [], length}
use Rattle.std.specs.List.{AllZip}
use Rattle.rcu_board.specs.Views.{tally}
use Rattle.rcu_board.specs.Words.{board_word}
use Rattle.rcu_part_control.specs.Driving.{DrivesBy}
use Rattle.rcu_part_control.specs.Parts.{driver_board, driver_view}
use Rattle.rcu_part_control.specs.declared.driver.Driver.{Driver}
use Rattle.rcu_jobs.specs.declared.turns.DriverTurn.{DriverTurn}
use Rattle.rcu_jobs.specs.declared.turns.GroupTurn.{GroupTurn}
use Rattle.rcu_jobs.specs.declared.turns.HandTurn.{HandTurn}
use Rattle.rcu_jobs.specs.declared.Stop.TheVariants.{Again}
use Rattle.rcu_jobs.specs.declared.turns.Ticked.{Ticked}
use Rattle.rcu_part_group.specs.Groups.{TurnsGroup, group_view, members_of}
use Rattle.rcu_part_group.specs.declared.group.Group.{Group}
use Rattle.rcu_part_hand.specs.Hands.{TurnsBy, hand_held, hand_view}
use Rattle.rcu_part_hand.specs.declared.hand.Hand.{Hand}
use Rattle.rcu_part_processor.specs.Ticks.{IsFresh, IsLocalOnceRun, RunsNoneOffloaded, TicksBy}
use Rattle.rcu_part_processor.specs.declared.processor.Processor.{Processor}
use Rattle.rcu_part_processor.specs.declared.processor.ProcessorState.{ProcessorState}
use Rattle.rcu_part_steps.specs.Stops.{StopsInTime}
use Rattle.rcu_parts.specs.OneOpen.{Parts, groups_in, hands_in, processors_in}
use Rattle.rcu_runtime.specs.Calls.{ReportsOnce}
use Rattle.rcu_runtime.specs.Runtimes.{Continues, accepted_in}

-- a turn of the driver
abbrev pub Drives : DriverTurn → Driver → Driver → Type 0
Drives answer d e = DrivesBy (driver_board d).processors answer (driver_view d) (driver_view e)

module _ {J R : Type 0} where
  -- a tick of a processor
  pub record Ticks (moment : ℕ) (ticked : Ticked) (p q : ProcessorState J R) : Type 0 where
    pub ticks : TicksBy moment ticked p q
    pub few : ticked.ran ≤ p.blimit
    pub first : StopsInTime ticked.stop ticked.ran p.blimit
    pub fresh : IsFresh p q
    pub local : IsLocalOnceRun p q
    pub none : RunsNoneOffloaded ticked.ran p q

  -- a report of a processor, and then a tick
  pub record ReportsAndTicks (moment : ℕ) (p q : Processor J R) : Type 0 where
    pub between : Processor J R
    pub counted : Option ℕ
    pub ticked : Ticked
    pub reports : ReportsOnce counted p.state between.state
    pub ticks : Ticks moment ticked between.state q.state

  -- a turn of a group
  pub record GroupTurns (g h : Group J R) : Type 0 where
    pub answer : GroupTurn
    pub turns : TurnsGroup answer g.state h.state
    -- at most `blimit` for each member
    pub few : answer.gave ≤ g.state.blimit * length (members_of g.state)
    pub fresh : tally (group_view h.state) board_word ≡ tally (group_view g.state) board_word + 1

  -- a turn of a hand
  pub record HandTurns (h i : Hand J R) : Type 0 where
    pub answer : HandTurn
    pub turns : TurnsBy answer h.state i.state
    pub few : answer.ran ≤ h.state.hand.blimit
    pub first : StopsInTime answer.stop answer.ran h.state.hand.blimit
    pub again : answer.stop ≡ Again → (hand_held h.state ≡ []) × (answer.ran ≡ 0)
    pub fresh : tally (hand_view i.state) board_word ≡ tally (hand_view h.state) board_word + 1

  -- After each of these turns the runtime goes on as the same one, and no callback more is accepted.

  -- Each processor reported and ticked, and all other parts are as they were.
  pub record TurnsProcessors (moment : ℕ) (old new : Parts J R) : Type 0 where
    pub processors : AllZip (ReportsAndTicks moment) (processors_in old) (processors_in new)
    pub groups : new.groups ≡ old.groups
    pub hands : new.hands ≡ old.hands
    pub driver : new.driver ≡ old.driver
    pub control : new.control ≡ old.control
    pub continues : Continues old new
    pub none : accepted_in new ≡ accepted_in old

  -- Each group made a turn, and all other parts are as they were.
  pub record TurnsGroups (old new : Parts J R) : Type 0 where
    pub groups : AllZip GroupTurns (groups_in old) (groups_in new)
    pub processors : new.processors ≡ old.processors
    pub hands : new.hands ≡ old.hands
    pub driver : new.driver ≡ old.driver
    pub control : new.control ≡ old.control
    pub continues : Continues old new
    pub none : accepted_in new ≡ accepted_in old

  -- Each hand made a turn, and all other parts are as they were.
  pub record TurnsHands (old new : Parts J R) : Type 0 where
    pub hands : AllZip HandTurns (hands_in old) (hands_in new)
    pub processors : new.processors ≡ old.processors
    pub groups : new.groups ≡ old.groups
    pub driver : new.driver ≡ old.driver
    pub control : new.control ≡ old.control
    pub continues : Continues old new
    pub none : accepted_in new ≡ accepted_in old

  -- The driver made a turn, and all other parts are as they were.
  pub record TurnsDriver (answer : DriverTurn) (old new : Parts J R) : Type 0 where
    pub driver : Drives answer old.driver new.driver
    pub processors : new.processors ≡ old.processors
    pub groups : new.groups ≡ old.groups
    pub hands : new.hands ≡ old.hands
    pub control : new.control ≡ old.control
    pub continues : Continues old new
    pub none : accepted_in new ≡ accepted_in old

  -- Each processor reported and ticked, and each group, each hand and the driver made a turn.
  pub record TurnsAll (moment : ℕ) (answer : DriverTurn) (old new : Parts J R) : Type 0 where
    pub processors : AllZip (ReportsAndTicks moment) (processors_in old) (processors_in new)
    pub groups : AllZip GroupTurns (groups_in old) (groups_in new)
    pub hands : AllZip HandTurns (hands_in old) (hands_in new)
    pub driver : Drives answer old.driver new.driver
    pub control : new.control ≡ old.control
    pub continues : Continues old new
    pub none : accepted_in new ≡ accepted_in old
