use Rattle.std.proofs.Common.{◌≡◌, arith, length, List, ◌++◌, ◌∙◌, ap, refl, subst, sym, zero-le}
use Rattle.std.proofs.lemmas.List.{length-map}
use Rattle.std.proofs.lemmas.Bool.{false≢true}
use Rattle.rcu_jobs.specs.declared.callback.Callback.{Callback}
use Rattle.rcu_lists.specs.Release.{joined_plain}
use Rattle.rcu_lists.specs.Bypasses.{bypass_items, BypassRoom, BypassUnchanged}
use Rattle.rcu_lists.specs.Segments.{labelled, SegmentsUnchanged}
use Rattle.rcu_lists.specs.declared.segments.Segments.{Segments}
use Rattle.rcu_lists.proofs.Cuts.{callbacks-cut}
use Rattle.rcu_lists.proofs.Outcomes.{on_err_said, on_ok_never}
use Rattle.rcu_lists.proofs.segments.Segments.pour.Goals as goal

-- as many callbacks as the list has
long : {J : Type 0} (s : Segments J) → length (labelled s) ≡ length s.list.items
long s = sym (length-map (labelled s) (λ x. x.callback)) ∙ ap length (callbacks-cut s.bounds.wait_number s.bounds.ready_number s.bounds.done s.bounds.wait s.bounds.ready s.list.items s.within)

pub returns-clause-left : goal.returns-clause-left
returns-clause-left g c = let e = c.clear.ensures in rw (e.done, e.wait, e.ready, c.take_list.ensures.left) refl

pub returns-clause-moved : goal.returns-clause-moved
returns-clause-moved g c = let s = c.args.self.now in
    c.take_list.ensures.items ∙ ap (λ z. z ++ s.list.items) c.make_room.ensures.same.items ∙ ap (λ z. bypass_items c.args.bypass.now ++ z) (sym (callbacks-cut s.bounds.wait_number s.bounds.ready_number s.bounds.done s.bounds.wait s.bounds.ready s.list.items s.within))

pub returns-clause-pace : goal.returns-clause-pace
returns-clause-pace g c = let s = c.args.self.now in c.take_list.ensures.pace ∙ ap (joined_plain s.list.items) c.make_room.ensures.same.pace ∙ ap (λ (z : List (Callback g.row.J.Denot)). joined_plain z c.args.bypass.now.pace) (sym (callbacks-cut s.bounds.wait_number s.bounds.ready_number s.bounds.done s.bounds.wait s.bounds.ready s.list.items s.within))

pub returns-in_err-make_room-clause-left : goal.returns-in_err-make_room-clause-left
returns-in_err-make_room-clause-left g c = on_ok_never _ _ c.from_residual.ensures

pub returns-in_err-make_room-clause-moved : goal.returns-in_err-make_room-clause-moved
returns-in_err-make_room-clause-moved g c = on_ok_never _ _ c.from_residual.ensures

pub returns-in_err-make_room-clause-pace : goal.returns-in_err-make_room-clause-pace
returns-in_err-make_room-clause-pace g c = on_ok_never _ _ c.from_residual.ensures

pub returns-in_err-make_room-clause-refused : goal.returns-in_err-make_room-clause-refused
returns-in_err-make_room-clause-refused g c = let s = c.args.self.now in let same : SegmentsUnchanged s s = record { list = refl; advanced = refl; room = λ _ room. room } in
    let both : SegmentsUnchanged s s × BypassUnchanged c.args.bypass.now c.make_room.new.self = (same, c.make_room.ensures.same) in on_err_said _ _ both

pub take_list-requires : goal.take_list-requires
take_list-requires g c = (assumption, subst (BypassRoom c.make_room.new.self) (c.len.ensures ∙ c.args.self.now.list.ok.0) c.in_ok-make_room.ensures.found)

pub invariant_of-self : goal.invariant_of-self
invariant_of-self g c = let e = c.clear.ensures in record {
  within = rw (e.done, e.wait, e.ready) zero-le;
  stamps = λ _. rw c.take_list.ensures.left refl;
  graced = rw (e.done, e.wait, e.ready, c.take_list.ensures.left) (λ k d h. absurd (omega arith));
}

pub returns-in_err-make_room-clause-qhimark : goal.returns-in_err-make_room-clause-qhimark
returns-in_err-make_room-clause-qhimark g c = c.make_room.ensures.same.qhimark

pub returns-clause-qhimark : goal.returns-clause-qhimark
returns-clause-qhimark g c = c.take_list.ensures.qhimark ∙ c.make_room.ensures.same.qhimark

pub returns-in_err-make_room-clause-had : goal.returns-in_err-make_room-clause-had
returns-in_err-make_room-clause-had g c = λ room. let s = c.args.self.now in
    absurd (false≢true (c.in_err-make_room.ensures.had (subst (BypassRoom c.args.bypass.now) (long s ∙ sym (c.len.ensures ∙ s.list.ok.0)) room)))

pub returns-in_err-make_room-clause-none : goal.returns-in_err-make_room-clause-none
returns-in_err-make_room-clause-none g c = λ e. let s = c.args.self.now in
    absurd (false≢true (c.in_err-make_room.ensures.had (subst (BypassRoom c.args.bypass.now) (sym (c.len.ensures ∙ s.list.ok.0 ∙ sym (long s) ∙ ap length e)) c.args.bypass.now.held.fits)))

pub returns-in_err-make_room-clause-advanced : goal.returns-in_err-make_room-clause-advanced
returns-in_err-make_room-clause-advanced g c = refl

pub returns-clause-advanced : goal.returns-clause-advanced
returns-clause-advanced g c = c.clear.ensures.advanced

pub returns-clause-had : goal.returns-clause-had
returns-clause-had g c = λ _. refl

pub returns-clause-none : goal.returns-clause-none
returns-clause-none g c = λ _. refl

pub make_room-requires : goal.make_room-requires
make_room-requires g c = assumption

pub returns-clause-refused : goal.returns-clause-refused
returns-clause-refused g c = tt
