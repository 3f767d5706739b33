-- No callback is lost: what `close` promises, counted.
use Rattle.std.proofs.Common.{◌≡◌, ℕ, ◌+◌, List, [], ◌∷◌, ◌++◌, map, drop, length, get_or, sum_by, ap, sym, ◌∙◌, subst, refl, arith}
use Rattle.std.specs.Prelude.{All}
use Rattle.std.proofs.lemmas.List.{length-map}
use Rattle.std.proofs.lemmas.List.Sums.{sum_by-cons}
use Rattle.rcu_board.specs.Seats.{accepted_of}
use Rattle.rcu_board.specs.declared.view.View.{View}
use Rattle.rcu_part_control.specs.Parts.{control_view}
use Rattle.rcu_part_close.proofs.Closings.{as_many_ended}
use Rattle.rcu_part_close.specs.Closing.{Closes, ClosesAs, CpuEnd, processors_of, seats_of}
use Rattle.rcu_part_steps.specs.Places.{accepted_entry, accepted_list}
use Rattle.rcu_part_close.specs.Parts.{CpuPart}
use Rattle.rcu_jobs.specs.Records.{Given}
use Rattle.rcu_jobs.specs.declared.answers.Closed.{Closed}
use Rattle.rcu_jobs.specs.declared.callback.Record.{Record}
use Rattle.rcu_parts.proofs.KeptWhole.{answers_all}
use Rattle.rcu_parts.specs.AtClose.{ClosesWith, cpu_part, cpu_parts, hand_for, hands_after, other_views}
use Rattle.rcu_parts.specs.OneOpen.{AreSoundParts, Parts, hands_in, processors_in}
use Rattle.rcu_part_processor.specs.Processors.{view_of}
use Rattle.rcu_part_hand.specs.declared.hand.Hand.{Hand}
use Rattle.rcu_part_processor.specs.declared.processor.Processor.{Processor}
use Rattle.rcu_runtime.specs.Ends.{ClosesWhole, HaveReceipts, back_in, ran_in}
use Rattle.rcu_runtime.specs.Runtimes.{CanClose, accepted_in}
use Rattle.std.proofs.lemmas.List.Elements.{All-head, All-map, All-tail, All-weaker}
use Rattle.rcu_lemmas.proofs.All.{All-unmap}

-- lists of the same lengths, place by place
summed : {A B X : Type 0} (f : A → List X) (g : B → List X) (as' : List A) (bs : List B) → map f as' ≡ map g bs → sum_by (λ a. length (f a)) as' ≡ sum_by (λ b. length (g b)) bs
summed f g [] [] same = refl
summed {X} f g [] (b ∷ bs) same = absurd (let long = ap (λ (l : List (List X)). length l) same in omega (arith, long))
summed {X} f g (a ∷ as') [] same = absurd (let long = ap (λ (l : List (List X)). length l) same in omega (arith, long))
summed {X} f g (a ∷ as') (b ∷ bs) same =
    let first : length (f a) ≡ length (g b) = ap (λ (l : List (List X)). length (get_or l 0 (f a))) same in
    let rest = summed f g as' bs (ap (λ (l : List (List X)). drop 1 l) same) in
    let left = sum_by-cons (λ a. length (f a)) a as' in
    let right = sum_by-cons (λ b. length (g b)) b bs in
    omega (arith, first, rest, left, right)

module _ {J R : Type 0} (key_of : J → ℕ) (gives : ℕ → R → Type 0) where
  -- as many as a processor accepted ran or are handed back
  one_end : (views processors : List View) (p : Processor J R) (c : CpuPart J R) (e : CpuEnd J R) → c.view ≡ view_of p.state → e.part ≡ c → ClosesAs key_of gives views processors e
      → length e.ran + length e.back ≡ p.state.accepted
  one_end views processors p c e at part h =
      let view : e.part.view ≡ view_of p.state = ap (λ (x : CpuPart J R). x.view) part ∙ at in
      let many : length (accepted_list e.part.view) ≡ p.state.accepted = ap (λ (w : View). length (accepted_list w)) view ∙ (length-map (accepted_of (view_of p.state)) accepted_entry ∙ p.state.lawful.counted) in
      omega (arith, many, as_many_ended views processors e h.ends)

  each_end : (views processors : List View) (es : List (CpuEnd J R)) (ps : List (Processor J R)) (hs : List (Hand J R)) → map (λ e. e.part) es ≡ cpu_parts ps hs → All (ClosesAs key_of gives views processors) es
      → sum_by (λ e. length e.ran) es + sum_by (λ e. length e.back) es ≡ sum_by (λ p. p.state.accepted) ps
  each_end views processors [] [] hs same h = refl
  each_end views processors [] (p ∷ ps) hs same h = absurd (let long = ap (λ (l : List (CpuPart J R)). length l) same in omega (arith, long))
  each_end views processors (e ∷ es) [] hs same h = absurd (let long = ap (λ (l : List (CpuPart J R)). length l) same in omega (arith, long))
  each_end views processors (e ∷ es) (p ∷ ps) hs same h =
      let first = ap (λ (l : List (CpuPart J R)). get_or l 0 e.part) same in
      let rest = ap (λ (l : List (CpuPart J R)). drop 1 l) same in
      let Closes = ClosesAs key_of gives views processors in
      let one = one_end views processors p (cpu_part p (hand_for p hs)) e refl first (All-head Closes e es h) in
      let more = each_end views processors es ps (hands_after p hs) rest (All-tail Closes e es h) in
      let ran = sum_by-cons (λ (e : CpuEnd J R). length e.ran) e es in
      let back = sum_by-cons (λ (e : CpuEnd J R). length e.back) e es in
      let accepted = sum_by-cons (λ (p : Processor J R). p.state.accepted) p ps in
      omega (arith, one, more, ran, back, accepted)

  -- the parts of a runtime keep every record, so they answer them all
  pub closes_whole : (parts : Parts J R) (closed : Closed J R) → CanClose key_of gives parts → (AreSoundParts key_of gives parts → ClosesWith key_of gives parts closed) → ClosesWhole key_of gives parts closed
  closes_whole parts closed can closes =
      let answer = closes can.sound in
      record {
        closes = answer;
        all = answers_all (Closes key_of gives (control_view parts.control) (other_views parts)) (λ es each k d lt. (each k d lt).ends.whole) parts closed can.keep answer;
      }

  module _ (parts : Parts J R) (closed : Closed J R) (w : ClosesWhole key_of gives parts closed) where
    -- as many as were accepted ran or are handed back
    pub none_lost : ran_in closed + back_in closed ≡ accepted_in parts
    none_lost =
        let views = control_view parts.control ∷ (other_views parts ++ seats_of w.closes.ends) in
        let each = each_end views (processors_of w.closes.ends) w.closes.ends (processors_in parts) (hands_in parts) w.closes.parts_are w.closes.closes in
        let ran = summed (λ v. v.items) (λ (e : CpuEnd J R). e.ran) closed.ran.items w.closes.ends w.all in
        let back = summed (λ v. v.items) (λ (e : CpuEnd J R). e.back) closed.back.items w.closes.ends w.closes.back in
        omega (arith, each, ran, back)

    -- each receipt is of the version that its record's key names
    pub have_receipts : HaveReceipts gives closed
    have_receipts =
        let views = control_view parts.control ∷ (other_views parts ++ seats_of w.closes.ends) in
        let P = λ (records : List (Record R)). Given gives records in
        let each = All-weaker (ClosesAs key_of gives views (processors_of w.closes.ends)) (λ e. P e.ran) (λ e h. h.sound.given) w.closes.ends w.closes.closes in
        let lists = All-map P (λ (e : CpuEnd J R). e.ran) w.closes.ends each in
        All-unmap P (λ v. v.items) closed.ran.items (subst (All P) (sym w.all) lists)
