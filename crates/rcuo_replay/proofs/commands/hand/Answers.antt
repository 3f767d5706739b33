use Rattle.std.proofs.Common.{arith, refl}
use Rattle.rcu_part_hand.proofs.HandRuns.{same_hand}
use Rattle.rcu_part_hand.specs.Hands.{IsSoundHand, SameHand}
use Rattle.rcuo_replay.proofs.Answering.{hand_of_local, no_hand}
use Rattle.rcuo_replay.proofs.commands.hand.Goals as goal
use Rattle.rcu_lemmas.proofs.Zips.{zip_same}
use Rattle.rcu_lemmas.proofs.Changed.{all_changed, zip_changed}

pub returns-then-cpu-n-clause-same : goal.returns-then-cpu-n-clause-same
returns-then-cpu-n-clause-same g c = zip_same (λ h i. SameHand h.state i.state) (λ h. same_hand h.state) c.args.hands.now.items

pub returns-then-cpu-n-clause-line : goal.returns-then-cpu-n-clause-line
returns-then-cpu-n-clause-line g c = hand_of_local c.args.n c.args.cpu c.args.hands.now.items c.not_offloadable.result (omega arith) c.in_default.ensures.none c.not_offloadable.ensures

pub returns-in_default-clause-line : goal.returns-in_default-clause-line
returns-in_default-clause-line g c = no_hand c.args.n c.args.cpu c.args.hands.now.items c.no_such.result (omega arith) c.in_default.ensures.none c.no_such.ensures

pub returns-in_default-clause-same : goal.returns-in_default-clause-same
returns-in_default-clause-same g c = zip_same (λ h i. SameHand h.state i.state) (λ h. same_hand h.state) c.args.hands.now.items

pub returns-clause-line : goal.returns-clause-line
returns-clause-line g c = let found = c.in-Some.ensures.found in (
  refl,
  refl,
  (
    c.in-Some.place,
    record {
      x = c.index_mut.result.now;
      y = c.turn-turn.new.self;
      there = found.0;
      old = c.index_mut.ensures.value;
      new = refl;
      by = (found.1 c.index_mut.result.now c.index_mut.ensures.value, (c.turn-turn.result, refl, c.turn-turn.ensures.turn));
    },
  ),
)

pub returns-clause-same : goal.returns-clause-same
returns-clause-same g c =
    zip_changed (λ h i. SameHand h.state i.state) (λ h. same_hand h.state) c.args.hands.now.items c.in-Some.place c.index_mut.result.now c.turn-turn.new.self c.in-Some.ensures.found.0 c.index_mut.ensures.value c.turn-turn.ensures.same

pub returns-clause-sound : goal.returns-clause-sound
returns-clause-sound g c =
    all_changed (λ h. IsSoundHand g.J.Job.key_of g.J.Job.gives h.state) c.args.hands.now.items c.in-Some.place c.index_mut.result.now c.turn-turn.new.self c.in-Some.ensures.found.0 c.index_mut.ensures.value c.turn-turn.ensures.sound

pub place_of_hand-requires-send-J : goal.place_of_hand-requires-send-J
place_of_hand-requires-send-J g c κs within = c.type_bounds.send-J

pub place_of_hand-requires-send-J-Receipt : goal.place_of_hand-requires-send-J-Receipt
place_of_hand-requires-send-J-Receipt g c κs within = c.type_bounds.send-J-Receipt

pub place_of_hand-requires-after_bounds : goal.place_of_hand-requires-after_bounds
place_of_hand-requires-after_bounds g c κs within = assumption

pub turn-turn-requires-send-J : goal.turn-turn-requires-send-J
turn-turn-requires-send-J g c κs within = c.type_bounds.send-J

pub turn-turn-requires-send-J-Receipt : goal.turn-turn-requires-send-J-Receipt
turn-turn-requires-send-J-Receipt g c κs within = c.type_bounds.send-J-Receipt

pub turn-turn-requires-after_bounds : goal.turn-turn-requires-after_bounds
turn-turn-requires-after_bounds g c κs within = assumption
