use Rattle.std.proofs.Common.{refl, arith}
use Rattle.rcu_part_group.proofs.GroupTurns.{same_group}
use Rattle.rcu_part_hand.proofs.HandRuns.{same_hand}
use Rattle.rcu_part_hand.specs.Hands.{SameHand}
use Rattle.rcu_part_group.specs.Groups.{SameGroup}
use Rattle.rcu_parts.proofs.StaySame.{stay_same}
use Rattle.rcu_parts.specs.OneOpen.{groups_in, hands_in}
use Rattle.rcu_board.proofs.Stepping.{same_part}
use Rattle.test_parts.proofs.two_steps.steps.work_and_close.Goals as goal
use Rattle.rcu_lemmas.proofs.Zips.{zip_same}

pub close-requires-clause-parts : goal.close-requires-clause-parts
close-requires-clause-parts c κs = (
  omega arith,
  (
    omega arith,
    (
      omega arith,
      stay_same c.args.parts _ (record {
        control = same_part _ _;
        driver = c.work_last.ensures.driver;
        processors = c.work_last.ensures.same;
        groups = zip_same (λ g h. SameGroup g.state h.state) (λ g. same_group g.state) (groups_in c.args.parts);
        hands = zip_same (λ h i. SameHand h.state i.state) (λ h. same_hand h.state) (hands_in c.args.parts);
      }) c.requires.one,
    ),
  ),
)
