use Rattle.std.proofs.Common.{◌∙◌, subst}
use Rattle.rcu_lanes.specs.Ends.{SameRear}
use Rattle.rcu_part_lists.specs.MemberLists.{relay, rear_of}
use Rattle.rcu_part_lists.proofs.Relays.{gives-some}
use Rattle.rcu_part_lists.proofs.member_lists.MemberLists.give.Goals as goal

pub load-requires : goal.load-requires
load-requires g c = assumption

pub hand_on-requires : goal.hand_on-requires
hand_on-requires g c = assumption

pub returns-clause-gives : goal.returns-clause-gives
returns-clause-gives g c = record { between = relay c.load.new.self; loads = c.load.ensures.loads; fits = c.load.ensures.fits; hands = c.hand_on.ensures.hands }

pub returns-clause-some : goal.returns-clause-some
returns-clause-some g c = gives-some c.args.blimit c.hand_on.result (relay c.args.self.now) (relay c.load.new.self) (relay c.hand_on.new.self) c.load.ensures.fits c.hand_on.ensures.hands

pub returns-clause-lanes : goal.returns-clause-lanes
returns-clause-lanes g c =
    let e = c.load.ensures.ends in
    let l = c.hand_on.ensures.lanes in
    (l.0 ∙ e.0, subst (λ r. SameRear r (rear_of c.hand_on.new.self)) e.1 l.1)

pub returns-clause-advanced : goal.returns-clause-advanced
returns-clause-advanced g c = c.hand_on.ensures.advanced ∙ c.load.ensures.advanced
