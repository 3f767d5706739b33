use Rattle.std.proofs.Common.{sym, ap, ◌∙◌, length, subst}
use Rattle.std.proofs.lemmas.List.Elements.{All-nil}
use Rattle.std.specs.List.{flat_map}
use Rattle.rcu_lanes.specs.Ends.{items_put}
use Rattle.rcu_lists.specs.Bypasses.{bypass_items}
use Rattle.rcu_lists.specs.Labels.{callbacks_of}
use Rattle.rcu_lists.specs.Parcels.{parcel_items}
use Rattle.rcu_lists.specs.Segments.{labelled, advanced_by}
use Rattle.rcu_lists.proofs.Outcomes.{if_ok_never}
use Rattle.rcu_part_lists.specs.Lanes.{put_calls}
use Rattle.rcu_jobs.specs.Modes.{is_deoffloading}
use Rattle.rcu_part_lists.specs.Limits.{AreSafe, IsSafe}
use Rattle.rcu_part_lists.proofs.Holdings.{all-of-none, aimed-none, none-few, nothing-held}
use Rattle.rcu_part_lists.proofs.Switching.{first-stays}
use denote.Param.{param}
use Rattle.rcu_part_lists.proofs.Sizes.{processor_lists-bypass}
use Rattle.rcu_part_lists.proofs.processor_lists.ProcessorLists.new.Goals as goal

pub invariant_of-result : goal.invariant_of-result
invariant_of-result g c = record {
  bypassing = λ _. c.new-2.ensures.list;
  alone = λ _. c.new-3.ensures.items;
  safe = subst AreSafe (sym c.new-3.ensures.items) (All-nil IsSafe);
  own_safe = all-of-none (labelled c.new-2.result) c.new-2.ensures.list;
  few = none-few (put_calls c.in_ok-outlet.outlet.rear) (bypass_items c.new-3.result) (callbacks_of (labelled c.new-2.result)) (ap (flat_map parcel_items) (ap items_put c.in_ok-outlet.ensures.rear ∙ c.requires)) c.new-3.ensures.items (ap callbacks_of c.new-2.ensures.list);
  aimed = aimed-none (advanced_by c.new-2.result) (labelled c.new-2.result) c.new-2.ensures.list;
  before = λ e. absurd (first-stays c.args.offloadable (ap is_deoffloading (sym c.first.ensures) ∙ e));
}

pub returns-in_err-outlet-clause-rear : goal.returns-in_err-outlet-clause-rear
returns-in_err-outlet-clause-rear g c = if_ok_never c.from_residual.result _ c.from_residual.ensures

pub returns-in_err-outlet-clause-empty : goal.returns-in_err-outlet-clause-empty
returns-in_err-outlet-clause-empty g c = if_ok_never c.from_residual.result _ c.from_residual.ensures

pub new-requires-3 : goal.new-requires-3
new-requires-3 g c = processor_lists-bypass (param 0 g.row.J) assumption

pub returns-clause-rear : goal.returns-clause-rear
returns-clause-rear g c = c.in_ok-outlet.ensures.rear

pub returns-clause-empty : goal.returns-clause-empty
returns-clause-empty g c =
    let put = ap items_put c.in_ok-outlet.ensures.rear ∙ c.requires in
    let b = c.new-3.ensures in
    nothing-held c.args.offloadable c.args.qhimark c.first.ensures c.new-2.ensures.list c.new-2.ensures.advanced (ap (flat_map parcel_items) put) (ap length put) b.items b.pace b.qhimark
