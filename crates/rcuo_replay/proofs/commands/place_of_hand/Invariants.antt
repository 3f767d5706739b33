use Rattle.std.proofs.Common.{◌≢◌, take}
use Rattle.std.specs.List.{All}
use Rattle.rcuo_replay.proofs.commands.place_of_hand.Given as goal

abbrev pub invariant-loop-place : goal.invariant-loop-place
invariant-loop-place g l = All (λ x. x.state.hand.cpu ≢ l.cpu) (take l.place l.hands.items)
