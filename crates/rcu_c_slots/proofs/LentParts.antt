-- A processor and a hand in a slot, by whether a callback runs.
use Rattle.std.proofs.Common.{◌≡◌, ◌≢◌, Option, None, Some, is_some, true, false, ap, sym, ◌∙◌, refl, subst}
use Rattle.std.specs.Prelude.{MatchOption}
use Rattle.std.proofs.Props.{props}
use Rattle.rcu_c_slots.specs.Parts.{if_resting}
use Rattle.rcu_c_slots.specs.Processors.{ForeignCpu, lent_processor}
use Rattle.rcu_c_slots.specs.Runs.{ForeignHand, lent_hand}
use Rattle.rcu_c_slots.specs.declared.job.ForeignJob.{ForeignJob}
use Rattle.rcu_c_slots.specs.declared.part.PartKind.{PartKind}
use Rattle.rcu_c_slots.specs.declared.part.PartKind.TheVariants as kind
use Rattle.rcu_c_slots.specs.declared.lent.LentHand.{LentHand}
use Rattle.rcu_c_slots.specs.declared.lent.LentProcessor.{LentProcessor}
use Rattle.rcu_part_hand.specs.InPlace as hand
use Rattle.rcu_part_hand.specs.declared.hand.HandState.{HandState}
use Rattle.rcu_part_hand.specs.declared.in_place.HandInPlaceState.{HandInPlaceState}
use Rattle.rcu_part_hand.proofs.InPlace as hands
use Rattle.rcu_part_processor.specs.InPlace.{in_place, resting}
use Rattle.rcu_part_processor.specs.declared.in_place.ProcessorInPlaceState.{ProcessorInPlaceState}
use Rattle.rcu_part_processor.specs.declared.processor.ProcessorState.{ProcessorState}
use Rattle.rcu_part_processor.proofs.InPlace.{rests_as}

pub none_if : {A : Type 0} (o : Option A) → is_some o ≡ false → o ≡ None
none_if None e = refl
none_if (Some x) e = (let f : true ≡ false = e in cc)

pub some_if : {A : Type 0} (o : Option A) → is_some o ≡ true → (x : A) × (o ≡ Some x)
some_if None e = (let f : false ≡ true = e in cc)
some_if (Some x) e = (x, refl)

-- by whether a job was handed out
pub finishes_none : {A : Type 0} (o : Option A) (P : Type 0) (Q : A → Type 0) → ((x : A) → o ≡ Some x → ⊥) → P → MatchOption o P Q
finishes_none None P Q n p = p
finishes_none (Some x) P Q n p = absurd (n x refl)

pub leaves_resting : {A : Type 0} (o : Option A) (P : Type 0) (Q : A → Type 0) → o ≡ None → P → MatchOption o P Q
leaves_resting o P Q e p = subst (λ y. MatchOption y P Q) (sym e) p

pub finishes_some : {A : Type 0} (o : Option A) (P : Type 0) (Q : A → Type 0) (x : A) → o ≡ Some x → Q x → MatchOption o P Q
finishes_some o P Q x e q = subst (λ y. MatchOption y P Q) (sym e) q

-- a part of which a callback runs is of neither kind
pub rests_by_kind : (o : Option ForeignJob) (k : PartKind) → (kind.Running ≡ k → ⊥) → if_resting o k kind.Running ≡ k → o ≡ None
rests_by_kind None k n e = refl
rests_by_kind (Some j) k n e = absurd (n e)

-- ---- what stands in a slot is what was put there, where no callback runs

abbrev as_processor : (s : ProcessorInPlaceState ForeignJob ForeignJob) (o : Option ForeignJob) → is_some o ≡ is_some s.claimed → LentProcessor
as_processor s o both = record { processor = record { state = s }; job = o; both = both }

same_lent : (s t : ProcessorInPlaceState ForeignJob ForeignJob) → s ≡ t → (o u : Option ForeignJob) → o ≡ u → (b : is_some o ≡ is_some s.claimed) (c : is_some u ≡ is_some t.claimed) → as_processor s o b ≡ as_processor t u c
same_lent s t e o u f b c =
    let once : IsProp (is_some o ≡ is_some s.claimed) = hlevel props in
    subst (λ (x : ProcessorInPlaceState ForeignJob ForeignJob). (d : is_some u ≡ is_some x.claimed) → as_processor s o b ≡ as_processor x u d) e
    (subst (λ (y : Option ForeignJob). (d : is_some y ≡ is_some s.claimed) → as_processor s o b ≡ as_processor s y d) f (λ d. ap (λ x. as_processor s o x) (once b d))) c

pub lent_as : (l : LentProcessor) → l.job ≡ None → (f : l.processor.state.claimed ≡ None) (p : ForeignCpu) → resting l.processor.state f ≡ p.state → l ≡ lent_processor p
lent_as l e f p is = same_lent l.processor.state (in_place p.state) (rests_as l.processor.state f ∙ ap (λ (x : ProcessorState ForeignJob ForeignJob). in_place x) is) l.job None e l.both refl

abbrev as_hand : (s : HandInPlaceState ForeignJob ForeignJob) (o : Option ForeignJob) → is_some o ≡ is_some s.claimed → LentHand
as_hand s o both = record { hand = record { state = s }; job = o; both = both }

same_lent_hand : (s t : HandInPlaceState ForeignJob ForeignJob) → s ≡ t → (o u : Option ForeignJob) → o ≡ u → (b : is_some o ≡ is_some s.claimed) (c : is_some u ≡ is_some t.claimed) → as_hand s o b ≡ as_hand t u c
same_lent_hand s t e o u f b c =
    let once : IsProp (is_some o ≡ is_some s.claimed) = hlevel props in
    subst (λ (x : HandInPlaceState ForeignJob ForeignJob). (d : is_some u ≡ is_some x.claimed) → as_hand s o b ≡ as_hand x u d) e
    (subst (λ (y : Option ForeignJob). (d : is_some y ≡ is_some s.claimed) → as_hand s o b ≡ as_hand s y d) f (λ d. ap (λ x. as_hand s o x) (once b d))) c

pub lent_hand_as : (l : LentHand) → l.job ≡ None → (f : l.hand.state.claimed ≡ None) (h : ForeignHand) → hand.resting l.hand.state f ≡ h.state → l ≡ lent_hand h
lent_hand_as l e f h is = same_lent_hand l.hand.state (hand.in_place h.state) (hands.rests_as l.hand.state f ∙ ap (λ (x : HandState ForeignJob ForeignJob). hand.in_place x) is) l.job None e l.both refl

-- where no job was handed out, no claim runs, and the other way round
pub rests_in : (l : LentProcessor) → l.job ≡ None → l.processor.state.claimed ≡ None
rests_in l e = none_if l.processor.state.claimed (sym l.both ∙ ap is_some e)

pub hand_rests_in : (l : LentHand) → l.job ≡ None → l.hand.state.claimed ≡ None
hand_rests_in l e = none_if l.hand.state.claimed (sym l.both ∙ ap is_some e)

pub runs_in : (l : LentProcessor) (job : ForeignJob) → l.job ≡ Some job → l.processor.state.claimed ≢ None
runs_in l job e none = (let f : true ≡ false = sym (ap is_some e) ∙ (l.both ∙ ap is_some none) in cc)

pub hand_runs_in : (l : LentHand) (job : ForeignJob) → l.job ≡ Some job → l.hand.state.claimed ≢ None
hand_runs_in l job e none = (let f : true ≡ false = sym (ap is_some e) ∙ (l.both ∙ ap is_some none) in cc)
