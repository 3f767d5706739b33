use Rattle.std.proofs.Common.{◌≡◌, ℕ, [], ◌≤◌, ◌-◌, ◌++◌, ◌∙◌, min, length, take, drop, ap, refl, sym, subst, arith, length-drop}
use Rattle.std.specs.Prelude.{All}
use Rattle.std.proofs.lemmas.List.{length-take-le}
use Rattle.std.proofs.lemmas.Bool.{false≢true}
use Rattle.rcu_jobs.specs.declared.callback.Callback.{Callback}
use Rattle.rcu_numbers.specs.Numbers.{snap_of}
use Rattle.rcu_lists.specs.Batches.{batch_items}
use Rattle.rcu_lists.specs.Cut.{cut}
use Rattle.rcu_lists.specs.Labels.{Done, marked, IsGraced}
use Rattle.rcu_lists.specs.Segments.{SegmentsUnchanged}
use Rattle.rcu_lists.specs.declared.batch.TheConstants.{INLINE_PLACES}
use Rattle.rcu_lists.proofs.Counts.{count-done}
use Rattle.rcu_lists.proofs.Cuts.{take-front}
use Rattle.rcu_lists.proofs.Graced.{graced-left, graced-taken}
use Rattle.rcu_lists.proofs.Outcomes.{on_ok_never, on_err_said}
use Rattle.rcu_lists.proofs.Rooms.{room-moved}
use Rattle.rcu_lists.proofs.Stamps.{stamps-drop}
use Rattle.rcu_lists.proofs.segments.Segments.fill_batch.Goals as goal

fewest : (t a b : ℕ) → t ≡ min a b → t ≤ b
fewest t a b e = omega arith

pub invariant_of-self-2 : goal.invariant_of-self-2
invariant_of-self-2 g c = let s = c.args.self.now in let le = s.within in let t = c.min-number.result in
    let few = fewest t c.args.max s.bounds.done c.min-number.ensures in
    let cut_front = take-front s.bounds.wait_number s.bounds.ready_number s.bounds.done s.bounds.wait s.bounds.ready t s.list.items few s.within in
    record {
      within = rw c.take_from.ensures.left (simp length-drop (omega arith));
      stamps = λ e. rw c.take_from.ensures.left (stamps-drop 0 t s.list.items (s.stamps e));
      graced = rw c.take_from.ensures.left (graced-left s.bounds.advanced (take t s.list.items) (cut (s.bounds.done - t) s.bounds.wait s.bounds.ready s.bounds.wait_number s.bounds.ready_number (drop t s.list.items)) (subst (IsGraced s.bounds.advanced) cut_front s.graced));
    }

pub returns-clause-taken : goal.returns-clause-taken
returns-clause-taken g c = let s = c.args.self.now in let le = s.within in let t = c.min-number.result in
    let few = fewest t c.args.max s.bounds.done c.min-number.ensures in
    let b = c.take_from.new.self in
    let front : batch_items b ≡ take t s.list.items = c.take_from.ensures.moved ∙ ap (λ z. z ++ take t s.list.items) (c.reserve.ensures.items ∙ c.free_places.ensures.items ∙ c.requires.none) in
    take-front s.bounds.wait_number s.bounds.ready_number s.bounds.done s.bounds.wait s.bounds.ready t s.list.items few s.within
    ∙ ap (λ z. marked Done z ++ cut (s.bounds.done - t) s.bounds.wait s.bounds.ready s.bounds.wait_number s.bounds.ready_number (drop t s.list.items)) (sym front)
    ∙ ap (λ z. marked Done (batch_items b) ++ cut (s.bounds.done - t) s.bounds.wait s.bounds.ready s.bounds.wait_number s.bounds.ready_number z) (sym c.take_from.ensures.left)

pub returns-clause-number : goal.returns-clause-number
returns-clause-number g c = let s = c.args.self.now in let le = s.within in let t = c.min-number.result in
    let few = fewest t c.args.max s.bounds.done c.min-number.ensures in
    let least : t ≡ min c.args.max s.bounds.done = c.min-number.ensures in
    let b = c.take_from.new.self in
    let front : batch_items b ≡ take t s.list.items = c.take_from.ensures.moved ∙ ap (λ z. z ++ take t s.list.items) (c.reserve.ensures.items ∙ c.free_places.ensures.items ∙ c.requires.none) in
    ap length front ∙ length-take-le t s.list.items (omega arith) ∙ least ∙ ap (min c.args.max) (sym (count-done s.bounds.wait_number s.bounds.ready_number s.bounds.done s.bounds.wait s.bounds.ready s.list.items s.within))

pub returns-clause-graced : goal.returns-clause-graced
returns-clause-graced g c = let s = c.args.self.now in let t = c.min-number.result in
    let few = fewest t c.args.max s.bounds.done c.min-number.ensures in
    let b = c.take_from.new.self in
    let front : batch_items b ≡ take t s.list.items = c.take_from.ensures.moved ∙ ap (λ z. z ++ take t s.list.items) (c.reserve.ensures.items ∙ c.free_places.ensures.items ∙ c.requires.none) in
    subst (All (λ (x : Callback g.row.J.Denot). snap_of x.stamp ≤ s.bounds.advanced)) (sym front)
    (graced-taken s.bounds.advanced (take t s.list.items) _ (subst (IsGraced s.bounds.advanced) (take-front s.bounds.wait_number s.bounds.ready_number s.bounds.done s.bounds.wait s.bounds.ready t s.list.items few s.within) s.graced))

pub returns-in_err-reserve-clause-taken : goal.returns-in_err-reserve-clause-taken
returns-in_err-reserve-clause-taken g c = on_ok_never _ _ c.from_residual.ensures

pub returns-in_err-reserve-clause-number : goal.returns-in_err-reserve-clause-number
returns-in_err-reserve-clause-number g c = on_ok_never _ _ c.from_residual.ensures

pub returns-in_err-reserve-clause-graced : goal.returns-in_err-reserve-clause-graced
returns-in_err-reserve-clause-graced g c = on_ok_never _ _ c.from_residual.ensures

pub returns-in_err-reserve-clause-room : goal.returns-in_err-reserve-clause-room
returns-in_err-reserve-clause-room g c = on_ok_never _ _ c.from_residual.ensures

pub returns-in_err-reserve-clause-refused : goal.returns-in_err-reserve-clause-refused
returns-in_err-reserve-clause-refused g c = let s = c.args.self.now in let same : SegmentsUnchanged s s = record { list = refl; advanced = refl; room = λ _ room. room } in
    let none : batch_items c.reserve.new.self ≡ [] = c.reserve.ensures.items ∙ c.free_places.ensures.items ∙ c.requires.none in
    let kept : SegmentsUnchanged s s × (batch_items c.reserve.new.self ≡ []) = (same, none) in on_err_said _ _ kept

pub returns-clause-room : goal.returns-clause-room
returns-clause-room g c = let s = c.args.self.now in let le = s.within in let t = c.min-number.result in
    let few = fewest t c.args.max s.bounds.done c.min-number.ensures in
    let b = c.take_from.new.self in
    let front : batch_items b ≡ take t s.list.items = c.take_from.ensures.moved ∙ ap (λ z. z ++ take t s.list.items) (c.reserve.ensures.items ∙ c.free_places.ensures.items ∙ c.requires.none) in
    room-moved s.list.items c.take_from.new.list.items (batch_items b) t _ _ (omega arith) c.take_from.ensures.left front c.take_from.ensures.capacity

pub returns-in_err-reserve-clause-inline : goal.returns-in_err-reserve-clause-inline
returns-in_err-reserve-clause-inline g c = λ few. let s = c.args.self.now in let t = c.min-number.result in
    let least : t ≡ min c.args.max s.bounds.done = c.min-number.ensures in
    let small = subst (λ n. min c.args.max n ≤ INLINE_PLACES) (count-done s.bounds.wait_number s.bounds.ready_number s.bounds.done s.bounds.wait s.bounds.ready s.list.items s.within) few in
    let room = c.free_places.ensures.inline (c.free_places.ensures.items ∙ c.requires.none) in
    absurd (false≢true (c.in_err-reserve.ensures.had (omega (arith, least, small, room))))

pub invariant_of-self : goal.invariant_of-self
invariant_of-self g c = let b = c.args.self.now.bounds in record {
  counted = omega (arith, b.counted);
  filled = b.filled;
  single = b.single;
  rising = b.rising;
}

pub overflow_sub-self : goal.overflow_sub-self
overflow_sub-self g c = fewest _ _ _ c.min-number.ensures

pub returns-in_err-reserve-clause-advanced : goal.returns-in_err-reserve-clause-advanced
returns-in_err-reserve-clause-advanced g c = refl

pub returns-clause-advanced : goal.returns-clause-advanced
returns-clause-advanced g c = refl

pub returns-clause-inline : goal.returns-clause-inline
returns-clause-inline g c = λ _. refl

pub free_places-requires : goal.free_places-requires
free_places-requires g c = assumption

pub reserve-requires : goal.reserve-requires
reserve-requires g c = assumption

pub take_from-requires : goal.take_from-requires
take_from-requires g c = (assumption, (let few = fewest _ _ _ c.min-number.ensures in omega (arith, few, c.args.self.now.within), c.in_ok-reserve.ensures.found))

pub returns-clause-refused : goal.returns-clause-refused
returns-clause-refused g c = tt
