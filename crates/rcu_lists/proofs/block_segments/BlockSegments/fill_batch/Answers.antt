use Rattle.std.proofs.Common.{◌≤◌, ◌-◌, ◌++◌, ◌∙◌, min, length, take, drop, ap, refl, sym, subst, arith, length-drop}
use Rattle.std.specs.Prelude.{All}
use Rattle.std.proofs.lemmas.Bool.{false≢true}
use Rattle.std.proofs.lemmas.List.{length-take-le}
use Rattle.rcu_jobs.specs.declared.callback.Callback.{Callback}
use Rattle.rcu_numbers.specs.Numbers.{snap_of}
use Rattle.rcu_lists.specs.Batches.{batch_items}
use Rattle.rcu_lists.specs.Chains.{chain_items}
use Rattle.rcu_lists.specs.Cut.{cut}
use Rattle.rcu_lists.specs.Labels.{Done, marked, IsGraced}
use Rattle.rcu_lists.specs.declared.batch.TheConstants.{INLINE_PLACES}
use Rattle.rcu_lists.proofs.Counts.{count-done}
use Rattle.rcu_lists.proofs.Cuts.{take-front}
use Rattle.rcu_lists.proofs.Graced.{graced-left, graced-taken}
use Rattle.rcu_lists.proofs.Outcomes.{on_err_said, on_ok_never}
use Rattle.rcu_lists.proofs.block_segments.BlockSegments.fill_batch.Goals as goal

pub fill_batch-requires : goal.fill_batch-requires
fill_batch-requires g c = let s = c.args.self.now in (assumption, (c.requires.none, omega (arith, s.within, c.min-number.ensures)))

pub returns-in_err-fill_batch-clause-taken : goal.returns-in_err-fill_batch-clause-taken
returns-in_err-fill_batch-clause-taken g c = on_ok_never c.from_residual.result _ c.from_residual.ensures

pub returns-in_err-fill_batch-clause-number : goal.returns-in_err-fill_batch-clause-number
returns-in_err-fill_batch-clause-number g c = on_ok_never c.from_residual.result _ c.from_residual.ensures

pub returns-in_err-fill_batch-clause-graced : goal.returns-in_err-fill_batch-clause-graced
returns-in_err-fill_batch-clause-graced g c = on_ok_never c.from_residual.result _ c.from_residual.ensures

pub returns-in_err-fill_batch-clause-advanced : goal.returns-in_err-fill_batch-clause-advanced
returns-in_err-fill_batch-clause-advanced g c = refl

pub returns-in_err-fill_batch-clause-refused : goal.returns-in_err-fill_batch-clause-refused
returns-in_err-fill_batch-clause-refused g c = let s = c.args.self.now in let same = c.in_err-fill_batch.ensures.refused in
    on_err_said c.from_residual.result _ (record { list = ap (cut s.bounds.done s.bounds.wait s.bounds.ready s.bounds.wait_number s.bounds.ready_number) same.0; advanced = refl }, same.1)

pub overflow_sub-self : goal.overflow_sub-self
overflow_sub-self g c = omega (arith, c.min-number.ensures)

pub returns-clause-advanced : goal.returns-clause-advanced
returns-clause-advanced g c = refl

pub returns-clause-inline : goal.returns-clause-inline
returns-clause-inline g c = λ _. refl

pub invariant_of-self : goal.invariant_of-self
invariant_of-self g c = let s = c.args.self.now in let same = c.in_err-fill_batch.ensures.refused.0 in record { within = rw same s.within; graced = rw same s.graced }

pub invariant_of-self-2 : goal.invariant_of-self-2
invariant_of-self-2 g c = let b = c.args.self.now.bounds in record {
  counted = omega (arith, b.counted);
  filled = b.filled;
  single = b.single;
  rising = b.rising;
}

pub invariant_of-self-3 : goal.invariant_of-self-3
invariant_of-self-3 g c = let s = c.args.self.now in let b = s.bounds in let cs = chain_items s.list in let t = c.min-number.result in
    let few : t ≤ b.done = omega (arith, c.min-number.ensures) in let left = c.in_ok-fill_batch.ensures.left in record {
      within = rw left (simp length-drop (omega (arith, s.within, few)));
      graced = rw left (graced-left b.advanced (take t cs) (cut (b.done - t) b.wait b.ready b.wait_number b.ready_number (drop t cs))
          (subst (IsGraced b.advanced) (take-front b.wait_number b.ready_number b.done b.wait b.ready t cs few s.within) s.graced));
    }

pub returns-clause-taken : goal.returns-clause-taken
returns-clause-taken g c = let s = c.args.self.now in let b = s.bounds in let cs = chain_items s.list in let t = c.min-number.result in
    let few : t ≤ b.done = omega (arith, c.min-number.ensures) in let e = c.in_ok-fill_batch.ensures in
    take-front b.wait_number b.ready_number b.done b.wait b.ready t cs few s.within
    ∙ ap (λ z. marked Done z ++ cut (b.done - t) b.wait b.ready b.wait_number b.ready_number (drop t cs)) (sym e.moved)
    ∙ ap (λ z. marked Done (batch_items c.fill_batch.new.batch) ++ cut (b.done - t) b.wait b.ready b.wait_number b.ready_number z) (sym e.left)

pub returns-clause-number : goal.returns-clause-number
returns-clause-number g c = let s = c.args.self.now in let b = s.bounds in let cs = chain_items s.list in let t = c.min-number.result in
    ap length c.in_ok-fill_batch.ensures.moved ∙ length-take-le t cs (omega (arith, s.within, c.min-number.ensures)) ∙ c.min-number.ensures
    ∙ ap (min c.args.max) (sym (count-done b.wait_number b.ready_number b.done b.wait b.ready cs s.within))

pub returns-clause-graced : goal.returns-clause-graced
returns-clause-graced g c = let s = c.args.self.now in let b = s.bounds in let cs = chain_items s.list in let t = c.min-number.result in
    let few : t ≤ b.done = omega (arith, c.min-number.ensures) in
    subst (All (λ (x : Callback g.row.J.Denot). snap_of x.stamp ≤ b.advanced)) (sym c.in_ok-fill_batch.ensures.moved)
    (graced-taken b.advanced (take t cs) _ (subst (IsGraced b.advanced) (take-front b.wait_number b.ready_number b.done b.wait b.ready t cs few s.within) s.graced))

pub returns-in_err-fill_batch-clause-inline : goal.returns-in_err-fill_batch-clause-inline
returns-in_err-fill_batch-clause-inline g c = λ few. let s = c.args.self.now in let b = s.bounds in
    let small = subst (λ n. min c.args.max n ≤ INLINE_PLACES) (count-done b.wait_number b.ready_number b.done b.wait b.ready (chain_items s.list) s.within) few in
    absurd (false≢true (c.in_err-fill_batch.ensures.inline (omega (arith, c.min-number.ensures, small))))

pub returns-clause-refused : goal.returns-clause-refused
returns-clause-refused g c = tt
