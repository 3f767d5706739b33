-- Room that is found for one processor after another.
use Rattle.std.proofs.Common.{◌≡◌, ℕ, zero, suc, ◌+◌, ◌<◌, ◌≤◌, ◌∙◌, true, false, cond, Option, None, Some, List, [], ◌∷◌, ◌++◌, length, drop, get_or, sym, ap, subst, refl, arith}
use Rattle.std.proofs.Math.Seq.{drop-cons}
use Rattle.std.specs.List.{AllZip}
use Rattle.std.proofs.lemmas.List.{append_assoc, append-nil, drop_all, length-map}
use Rattle.std.proofs.lemmas.Bool.{cond_both}
use Rattle.rcu_part_close.specs.declared.ended.ProcessorEnd.{ProcessorEnd}
use Rattle.rcu_part_close.specs.Parts.{CpuPart, HandPart, hand_ran, hand_taken}
use Rattle.rcu_parts.specs.AtClose.{cpu_part, cpu_parts, first_hand, hand_for, hand_part, hands_after, other_hands}
use Rattle.rcu_part_lists.specs.Helds.{taken_by}
use Rattle.rcu_part_order.specs.Recorded.{ran_of}
use Rattle.rcu_part_order.specs.Records.{numbered_record}
use Rattle.rcu_part_steps.specs.Places.{numbered_callback}
use Rattle.rcu_parts.specs.Rooms.{FitsCpu}
use Rattle.rcu_part_hand.specs.declared.hand.Hand.{Hand}
use Rattle.rcu_part_processor.specs.declared.processor.Processor.{Processor}
use Rattle.rcu_lemmas.proofs.Zips.{zip_push}

module _ {J R : Type 0} where
  others_left : (b : ℕ) (hs : List (Hand J R)) → drop (suc b) hs ≡ other_hands (drop b hs)
  others_left b [] = ap other_hands (sym (drop_all b [] (omega arith)))
  others_left zero (h ∷ hs) = refl
  others_left (suc b) (h ∷ hs) = others_left b hs

  -- the hands that are left once one more was one processor's
  pub others_after : (b : ℕ) (p : Processor J R) (hs : List (Hand J R)) → p.state.offloadable ≡ true → drop (b + 1) hs ≡ hands_after p (drop b hs)
  others_after b p hs e = ap (λ k. drop k hs) (let z : b + 1 ≡ suc b = omega arith in z) ∙ (others_left b hs ∙ ap (λ c. cond c (other_hands (drop b hs)) (drop b hs)) (sym e))

  first_taken : (hs : List (Hand J R)) → length (hand_taken (first_hand hs)) ≡ length (hand_ran (first_hand hs))
  first_taken [] = refl
  first_taken (h ∷ hs) = omega (arith, length-map (taken_by h.state.hand.held) (numbered_callback {J = J}), ap length h.state.lawful.places, length-map (ran_of h.state.hand.ran) (numbered_record {R = R}))

  -- where none is left
  pub none_after : (p : Processor J R) (hs : List (Hand J R)) → p.state.offloadable ≡ true → hs ≡ [] → hs ≡ hands_after p hs
  none_after p hs e none = none ∙ (ap other_hands (sym none) ∙ ap (λ c. cond c (other_hands hs) hs) (sym e))

  -- of a processor's hand, if it has one: how many it ran, or how many of its records are left
  pub many_by_first : (many : Option (HandPart J R) → ℕ) (p : Processor J R) (hs : List (Hand J R)) → p.state.offloadable ≡ true → many (first_hand hs) ≡ many (hand_for p hs)
  many_by_first many p hs e = ap (λ c. many (cond c (first_hand hs) None)) (sym e)

  -- where a processor has no hand, nothing ran and none is taken
  pub none_for : (many : Option (HandPart J R) → ℕ) (p : Processor J R) (hs : List (Hand J R)) → p.state.offloadable ≡ false → many None ≡ many (hand_for p hs)
  none_for many p hs e = ap (λ c. many (cond c (first_hand hs) None)) (sym e)

  pub all_left : (p : Processor J R) (hs : List (Hand J R)) → p.state.offloadable ≡ false → hs ≡ hands_after p hs
  all_left p hs e = ap (λ c. cond c (other_hands hs) hs) (sym e)

  -- the same of the hand in a place, and where there is none
  pub hand_at : (many : Option (HandPart J R) → ℕ) (place : ℕ) (h : Hand J R) (all hs : List (Hand J R)) → all ≡ hs → h ≡ get_or all place h → place < length all → many (Some (hand_part h)) ≡ many (first_hand (drop place hs))
  hand_at many place h all hs same is low = ap (λ (x : Hand J R). many (Some (hand_part x))) is ∙ (ap (λ (l : List (Hand J R)). many (first_hand l)) (sym (drop-cons all place h low)) ∙ ap (λ (l : List (Hand J R)). many (first_hand (drop place l))) same)

  pub no_hand_at : (many : Option (HandPart J R) → ℕ) (place : ℕ) (all hs : List (Hand J R)) → all ≡ hs → length all ≤ place → many None ≡ many (first_hand (drop place hs))
  no_hand_at many place all hs same high = ap (λ (l : List (Hand J R)). many (first_hand l)) (sym (drop_all place all high)) ∙ ap (λ (l : List (Hand J R)). many (first_hand (drop place l))) same

  -- a hand took as many as it ran
  pub taken_ran : (p : Processor J R) (hs : List (Hand J R)) → length (hand_taken (hand_for p hs)) ≡ length (hand_ran (hand_for p hs))
  taken_ran p hs = cond_both p.state.offloadable (first_hand hs) None (λ o. length (hand_taken o) ≡ length (hand_ran o)) (λ e. first_taken hs) (λ e. refl)

  -- the first processors have room; and so many hands are theirs
  pub record FitsSoFar (i next : ℕ) (ps : List (Processor J R)) (hs : List (Hand J R)) (ends : List (ProcessorEnd J R)) : Type 0 where
    pub done : List (CpuPart J R)
    pub split : cpu_parts ps hs ≡ done ++ cpu_parts (drop i ps) (drop next hs)
    pub fits : AllZip FitsCpu done ends

  pub fits_none : (ps : List (Processor J R)) (hs : List (Hand J R)) (ends : List (ProcessorEnd J R)) → ends ≡ [] → FitsSoFar 0 0 ps hs ends
  fits_none ps hs ends none = record { done = []; split = refl; fits = subst (λ l. AllZip FitsCpu [] l) (sym none) tt }

  pub fits_more : (i next left : ℕ) (ps : List (Processor J R)) (hs : List (Hand J R)) (ends news : List (ProcessorEnd J R)) (p : Processor J R) (room : ProcessorEnd J R) → FitsSoFar i next ps hs ends
      → drop i ps ≡ p ∷ drop (i + 1) ps → drop left hs ≡ hands_after p (drop next hs) → news ≡ ends ++ room ∷ [] → FitsCpu (cpu_part p (hand_for p (drop next hs))) room → FitsSoFar (i + 1) left ps hs news
  fits_more i next left ps hs ends news p room s at after more fits =
      let c = cpu_part p (hand_for p (drop next hs)) in
      record {
        done = s.done ++ c ∷ [];
        split = s.split ∙ (ap (λ l. s.done ++ cpu_parts l (drop next hs)) at ∙ (ap (λ l. s.done ++ c ∷ cpu_parts (drop (i + 1) ps) l) (sym after) ∙ sym (append_assoc s.done (c ∷ []) (cpu_parts (drop (i + 1) ps) (drop left hs)))));
        fits = subst (λ l. AllZip FitsCpu (s.done ++ c ∷ []) l) (sym more) (zip_push FitsCpu s.done ends c room s.fits fits);
      }

  pub fits_all : (i next : ℕ) (ps : List (Processor J R)) (hs : List (Hand J R)) (ends : List (ProcessorEnd J R)) → FitsSoFar i next ps hs ends → drop i ps ≡ [] → AllZip FitsCpu (cpu_parts ps hs) ends
  fits_all i next ps hs ends s none = subst (λ l. AllZip FitsCpu l ends) (sym (s.split ∙ (ap (λ l. s.done ++ cpu_parts l (drop next hs)) none ∙ append-nil s.done))) s.fits
