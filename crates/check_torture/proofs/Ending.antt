-- What a run leaves to `close`: the parts are the same parts, and know of their jobs what they should.
use Rattle.std.proofs.Common.{ℕ}
use Rattle.rcu_parts.specs.OneOpen.{AreSoundParts, Parts, groups_in, hands_in, processors_in}
use Rattle.rcu_parts.specs.SameParts.{AreSameParts}
use Rattle.rcu_part_group.specs.Groups.{SameGroup}
use Rattle.rcu_part_hand.specs.Hands.{IsSoundHand}
use Rattle.rcu_part_processor.specs.Processors.{IsSound, SameProcessor}
use Rattle.rcu_part_threads.proofs.Zips.{zip_all}
use Rattle.rcu_part_threads.specs.Parts.{GroupStays, HandStays}
use Rattle.check_torture.specs.Ends.{CpuKeeps, HaveKept}
use Rattle.check_torture.specs.Retired.{IsVersion, version_of}
use Rattle.check_torture.specs.declared.retire.Retire.{Retire}
use Rattle.rcu_lemmas.proofs.Zips.{zip_weaker}

pub all_same : (old new : Parts Retire ℕ) → HaveKept old new → AreSameParts old new
all_same old new h = record {
  control = h.control;
  driver = h.driver;
  processors = zip_weaker CpuKeeps (λ p q. SameProcessor p.state q.state) (λ p q k. k.same) (processors_in old) (processors_in new) h.processors;
  groups = zip_weaker GroupStays (λ g h. SameGroup g.state h.state) (λ g h s. s.same) (groups_in old) (groups_in new) h.groups;
  hands = zip_weaker (HandStays version_of IsVersion) _ (λ h i s. s.same) (hands_in old) (hands_in new) h.hands;
}

pub all_sound : (old new : Parts Retire ℕ) → HaveKept old new → AreSoundParts version_of IsVersion old → AreSoundParts version_of IsVersion new
all_sound old new h s = record {
  processors = zip_all (λ p. IsSound version_of IsVersion p.state) CpuKeeps (λ p. IsSound version_of IsVersion p.state) (λ p q k. k.sound) (processors_in old) (processors_in new) h.processors s.processors;
  hands = zip_all (λ i. IsSoundHand version_of IsVersion i.state) (HandStays version_of IsVersion) (λ i. IsSoundHand version_of IsVersion i.state) (λ h i r. r.sound) (hands_in old) (hands_in new) h.hands s.hands;
}
