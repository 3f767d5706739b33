-- Parts that keep every record answer them all.
use Rattle.std.proofs.Common.{◌≡◌, None, List, [], ◌∷◌, ap, map, refl, sym, ◌∙◌, subst}
use Rattle.std.specs.List.{All}
use Rattle.std.proofs.lemmas.Bool.{cond_both}
use Rattle.std.proofs.lemmas.List.Elements.{All-cons, All-head, All-nil, All-tail}
use Rattle.rcu_jobs.specs.declared.answers.Closed.{Closed}
use Rattle.rcu_jobs.specs.declared.callback.Record.{Record}
use Rattle.rcu_lemmas.proofs.All.{All-unmap}
use Rattle.rcu_numbers.specs.declared.parts_shape.PartsShape.{PartsShape}
use Rattle.rcu_part_close.specs.Closing.{CpuEnd}
use Rattle.rcu_part_close.specs.Parts.{IsWholePart}
use Rattle.rcu_part_hand.specs.Hands.{SameHand}
use Rattle.rcu_part_hand.specs.declared.hand.Hand.{Hand}
use Rattle.rcu_part_order.proofs.Keeping.{whole_left}
use Rattle.rcu_part_order.specs.Recorded.{Recorded}
use Rattle.rcu_part_order.specs.declared.recorded.Kept.TheVariants.{Whole}
use Rattle.rcu_part_processor.specs.Processors.{SameProcessor}
use Rattle.rcu_part_processor.specs.declared.processor.Processor.{Processor}
use Rattle.rcu_parts.proofs.OneByOne.{all_after}
use Rattle.rcu_parts.proofs.StaySame.{all_zipped}
use Rattle.rcu_parts.proofs.Zips.{zip_all}
use Rattle.rcu_parts.specs.AtClose.{Answers, AnswersAll, KeepWhole, cpu_part, cpu_parts, first_hand, hand_for, hands_after}
use Rattle.rcu_parts.specs.OneOpen.{Parts, hands_in, processors_in}
use Rattle.rcu_parts.specs.Openings.{IsFirstHand, IsFirstProcessor, IsOpened}
use Rattle.rcu_parts.specs.SameParts.{AreSameParts}

module _ {J R : Type 0} where
  abbrev KeepsAll : Processor J R → Type 0
  KeepsAll p = p.state.ran.kept ≡ Whole

  abbrev HandKeepsAll : Hand J R → Type 0
  HandKeepsAll h = h.state.hand.ran.kept ≡ Whole

  -- as they are opened
  pub opened_whole : (shape : PartsShape) (parts : Parts J R) → IsOpened shape parts → KeepWhole parts
  opened_whole shape parts o = record {
    processors = zip_all (IsFirstProcessor shape Whole _) KeepsAll (λ k p f. ap (λ (r : Recorded R). r.kept) f.part.ran) _ (processors_in parts) o.processors;
    hands = zip_all (IsFirstHand shape Whole _) HandKeepsAll (λ k h f. ap (λ (r : Recorded R). r.kept) f.part.ran) _ (hands_in parts) o.hands;
  }

  -- and so they stay
  pub whole_stays : (old new : Parts J R) → AreSameParts old new → KeepWhole old → KeepWhole new
  whole_stays old new same w = record {
    processors = all_zipped KeepsAll KeepsAll (λ p q. SameProcessor p.state q.state) (λ p q s e. s.kept ∙ e) (processors_in old) (processors_in new) same.processors w.processors;
    hands = all_zipped HandKeepsAll HandKeepsAll (λ h i. SameHand h.state i.state) (λ h i s e. s.kept ∙ e) (hands_in old) (hands_in new) same.hands w.hands;
  }

  whole_alone : (p : Processor J R) → KeepsAll p → IsWholePart (cpu_part p None)
  whole_alone p e = record { own = whole_left p.state.ran e; hand = refl }

  whole_with : (p : Processor J R) (hs : List (Hand J R)) → KeepsAll p → All HandKeepsAll hs → IsWholePart (cpu_part p (first_hand hs))
  whole_with p [] e w = whole_alone p e
  whole_with p (h ∷ hs) e w = record { own = whole_left p.state.ran e; hand = whole_left h.state.hand.ran (All-head HandKeepsAll h hs w) }

  whole_parts : (ps : List (Processor J R)) (hs : List (Hand J R)) → All KeepsAll ps → All HandKeepsAll hs → All IsWholePart (cpu_parts ps hs)
  whole_parts [] hs e w = All-nil IsWholePart
  whole_parts (p ∷ ps) hs e w =
      let own = All-head KeepsAll p ps e in
      All-cons IsWholePart (cpu_part p (hand_for p hs)) (cpu_parts ps (hands_after p hs))
      (cond_both p.state.offloadable (first_hand hs) None (λ hand. IsWholePart (cpu_part p hand)) (λ on. whole_with p hs own w) (λ off. whole_alone p own))
      (whole_parts ps (hands_after p hs) (All-tail KeepsAll p ps e) (all_after HandKeepsAll p hs w))

  same_records : (es : List (CpuEnd J R)) → All (λ e. e.kept ≡ e.ran) es → map (λ e. e.kept) es ≡ map (λ e. e.ran) es
  same_records [] h = refl
  same_records (e ∷ es) h =
      ap (λ (l : List (Record R)). l ∷ map (λ (d : CpuEnd J R). d.kept) es) (All-head (λ (d : CpuEnd J R). d.kept ≡ d.ran) e es h)
      ∙ ap (λ (l : List (List (Record R))). e.ran ∷ l) (same_records es (All-tail (λ (d : CpuEnd J R). d.kept ≡ d.ran) e es h))

  -- what is answered are the records of all that ran
  pub answers_all : (promised : List (CpuEnd J R) → Type 0) → ((es : List (CpuEnd J R)) → promised es → All (λ e. IsWholePart e.part → e.kept ≡ e.ran) es)
      → (parts : Parts J R) (closed : Closed J R) → KeepWhole parts → (a : Answers promised parts closed) → AnswersAll parts closed a
  answers_all promised whole parts closed keep a =
      let are : All (λ (e : CpuEnd J R). IsWholePart e.part) a.ends = All-unmap IsWholePart (λ (e : CpuEnd J R). e.part) a.ends
      (subst (All IsWholePart) (sym a.parts_are) (whole_parts (processors_in parts) (hands_in parts) keep.processors keep.hands)) in
      let each = whole a.ends a.closes in
      a.ran ∙ same_records a.ends (λ k d lt. each k d lt (are k d lt))
