use Rattle.std.proofs.Common.{◌∙◌, sym}
use Rattle.rcu_part_hand.proofs.HandRuns.{same_hand}
use Rattle.rcu_part_hand.specs.Hands.{IsSoundHand, SameHand}
use Rattle.check_memory.specs.Works.{IsOwnKey, key_of_work}
use Rattle.check_memory.proofs.Nonempty.{not_none}
use Rattle.check_memory.proofs.parts.turn_hand.Goals as goal
use Rattle.rcu_lemmas.proofs.Zips.{zip_same}
use Rattle.rcu_lemmas.proofs.Changed.{all_changed, zip_changed}

pub returns-then-is_empty-clause-same : goal.returns-then-is_empty-clause-same
returns-then-is_empty-clause-same c = zip_same (λ h i. SameHand h.state i.state) (λ h. same_hand h.state) c.args.hands.now.items

pub returns-clause-same : goal.returns-clause-same
returns-clause-same c = zip_changed (λ h i. SameHand h.state i.state) (λ h. same_hand h.state) c.args.hands.now.items 0 c.index_mut.result.now c.turn-turn.new.self (not_none c.args.hands.now (sym c.is_empty.ensures ∙ c.if-is_empty.false)) c.index_mut.ensures.value c.turn-turn.ensures.same

pub returns-clause-sound : goal.returns-clause-sound
returns-clause-sound c = all_changed (λ h. IsSoundHand key_of_work IsOwnKey h.state) c.args.hands.now.items 0 c.index_mut.result.now c.turn-turn.new.self (not_none c.args.hands.now (sym c.is_empty.ensures ∙ c.if-is_empty.false)) c.index_mut.ensures.value c.turn-turn.ensures.sound
