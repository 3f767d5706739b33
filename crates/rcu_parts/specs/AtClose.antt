-- What `close` answers: docs/specification/promises.md, "Headline on the running parts", close.
use Rattle.std.specs.Prelude.{◌≡◌, ℕ, Option, Some, None, List, [], ◌∷◌, All, cond, map}
use Rattle.rcu_board.specs.Seats.{reports_of}
use Rattle.rcu_board.specs.declared.view.View.{View}
use Rattle.rcu_part_control.specs.Parts.{control_view, driver_view}
use Rattle.rcu_part_close.specs.Closing.{Closes, CpuEnd, Ends}
use Rattle.rcu_part_close.specs.Parts.{CpuPart, HandPart}
use Rattle.rcu_part_lists.specs.Helds.{taken_by}
use Rattle.rcu_jobs.specs.declared.answers.Closed.{Closed}
use Rattle.rcu_part_group.specs.Groups.{group_view}
use Rattle.rcu_part_hand.specs.Hands.{hand_drawn, hand_view}
use Rattle.rcu_part_order.specs.Recorded.{left_in, ran_of}
use Rattle.rcu_parts.specs.OneOpen.{Parts, groups_in, hands_in, processors_in}
use Rattle.rcu_part_processor.specs.Processors.{lists_of, view_of}
use Rattle.rcu_part_hand.specs.declared.hand.Hand.{Hand}
use Rattle.rcu_part_order.specs.declared.recorded.Kept.TheVariants.{Whole}
use Rattle.rcu_part_processor.specs.declared.processor.Processor.{Processor}

module _ {J R : Type 0} where
  abbrev pub hand_part : Hand J R → HandPart J R
  hand_part h = record { view = hand_view h.state; ran = ran_of h.state.hand.ran; kept = left_in h.state.hand.ran; drawn = hand_drawn h.state; taken = taken_by h.state.hand.held }

  -- a processor with its hand, if it has one
  abbrev pub cpu_part : Processor J R → Option (HandPart J R) → CpuPart J R
  cpu_part p hand = record { cpu = p.state.cpu; view = view_of p.state; own = ran_of p.state.ran; kept = left_in p.state.ran; lists = lists_of p.state; hand = hand }

  abbrev pub first_hand : List (Hand J R) → Option (HandPart J R)
  first_hand [] = None
  first_hand (h ∷ hs) = Some (hand_part h)

  abbrev pub other_hands : List (Hand J R) → List (Hand J R)
  other_hands [] = []
  other_hands (h ∷ hs) = hs

  -- the hand of a processor, which is the first of those that are left, where it has one; and those that are left then
  abbrev pub hand_for : Processor J R → List (Hand J R) → Option (HandPart J R)
  hand_for p hs = cond p.state.offloadable (first_hand hs) None

  abbrev pub hands_after : Processor J R → List (Hand J R) → List (Hand J R)
  hands_after p hs = cond p.state.offloadable (other_hands hs) hs

  -- each processor, in order, the offloadable ones with their hands
  abbrev pub cpu_parts : List (Processor J R) → List (Hand J R) → List (CpuPart J R)
  cpu_parts [] hs = []
  cpu_parts (p ∷ ps) hs = cpu_part p (hand_for p hs) ∷ cpu_parts ps (hands_after p hs)

  -- the views of the driver and the groups
  abbrev pub other_views : Parts J R → List View
  other_views parts = driver_view parts.driver ∷ map (λ g. group_view g.state) (groups_in parts)

  -- What is answered is what is left of each processor, with how many grace periods it passed; and this is so of those ends.
  pub record Answers (promised : List (CpuEnd J R) → Type 0) (parts : Parts J R) (closed : Closed J R) : Type 0 where
    pub ends : List (CpuEnd J R)
    pub parts_are : map (λ e. e.part) ends ≡ cpu_parts (processors_in parts) (hands_in parts)
    pub ran : map (λ v. v.items) closed.ran.items ≡ map (λ e. e.kept) ends
    pub back : map (λ v. v.items) closed.back.items ≡ map (λ e. e.back) ends
    pub reports : closed.reports.items ≡ map (λ e. reports_of e.part.view) ends
    pub closes : promised ends

  -- The parts keep every record: none is gone, and none can be taken out.
  pub record KeepWhole (parts : Parts J R) : Type 0 where
    pub processors : All (λ p. p.state.ran.kept ≡ Whole) (processors_in parts)
    pub hands : All (λ h. h.state.hand.ran.kept ≡ Whole) (hands_in parts)

  -- Then the records of all that ran are answered.
  abbrev pub AnswersAll : {promised : List (CpuEnd J R) → Type 0} (parts : Parts J R) (closed : Closed J R) → Answers promised parts closed → Type 0
  AnswersAll parts closed a = map (λ v. v.items) closed.ran.items ≡ map (λ e. e.ran) a.ends

  -- What `close` promises of the views, records and lists of all parts, whatever is known of jobs: which callbacks ran, with
  -- which numbers, keys, stamps and looks, and that what comes back are the jobs of all others, in order.
  abbrev pub AccountsFor : Parts J R → Closed J R → Type 0
  AccountsFor parts closed = Answers (Ends (control_view parts.control) (other_views parts)) parts closed

  -- What it promises where jobs are sound: also that the jobs that come back have their callbacks' keys, and what the receipts are.
  abbrev pub ClosesWith : (J → ℕ) → (ℕ → R → Type 0) → Parts J R → Closed J R → Type 0
  ClosesWith key_of gives parts closed = Answers (Closes key_of gives (control_view parts.control) (other_views parts)) parts closed
