use Rattle.std.proofs.Common.{inl, inr, refl, sym, ap, ◌∙◌, [], ◌∷◌, ◌++◌, ◌+◌, length, subst}
use Rattle.std.proofs.lemmas.List.Elements.{All-nil, All-cons}
use Rattle.std.specs.List.{flat_map}
use Rattle.rcu_jobs.specs.declared.callback.Callback.{Callback}
use Rattle.rcu_lanes.specs.Ends.{items_put}
use Rattle.rcu_lists.specs.Parcels.{parcel_items}
use Rattle.rcu_lists.specs.Release.{refilled}
use Rattle.rcu_part_lists.specs.Outgoing.{outgoing}
use Rattle.rcu_part_lists.specs.Limits.{AreSafe, IsSafe}
use Rattle.rcu_part_lists.proofs.Releases.{same_outgoing, full}
use Rattle.rcu_part_lists.proofs.sends.send_single.Goals as goal

pub returns-in-Ok-clause-released : goal.returns-in-Ok-clause-released
returns-in-Ok-clause-released g c =
    let o = outgoing c.args.outlet.now.rear c.args.bypass.now in
    inl (same_outgoing (record o { put = o.put ++ c.args.callback ∷ []; batches = o.batches + 1 }) (outgoing c.put_single.new.self.rear c.args.bypass.now) c.in-Ok.ensures.put.0 c.in-Ok.ensures.put.1 refl refl refl)

pub returns-in-Err-clause-released : goal.returns-in-Err-clause-released
returns-in-Err-clause-released g c =
    let o = outgoing c.args.outlet.now.rear c.args.bypass.now in
    let one = ap (λ (x : Callback g.row.J.Denot). x ∷ []) c.in-Err.ensures.put.0 in
    inr (
      full (length (items_put c.args.outlet.now.rear)) c.in-Err.ensures.room,
      same_outgoing (record o { bypass = c.args.callback ∷ []; pace = refilled (c.args.callback ∷ []) o.pace }) (outgoing c.put_single.new.self.rear c.refill_single.new.self)
          (ap (flat_map parcel_items) c.in-Err.ensures.put.1)
          (ap length c.in-Err.ensures.put.1)
          (c.refill_single.ensures.items ∙ one)
          (c.refill_single.ensures.pace ∙ ap (λ l. refilled l o.pace) one)
          c.refill_single.ensures.qhimark,
    )

pub returns-in-Err-clause-safe : goal.returns-in-Err-clause-safe
returns-in-Err-clause-safe g c =
    subst AreSafe (sym (c.refill_single.ensures.items ∙ ap (λ (x : Callback g.row.J.Denot). x ∷ []) c.in-Err.ensures.put.0)) (All-cons IsSafe c.args.callback [] c.requires.safe (All-nil IsSafe))

pub returns-in-Ok-clause-safe : goal.returns-in-Ok-clause-safe
returns-in-Ok-clause-safe g c = subst AreSafe (sym c.requires.none) (All-nil IsSafe)

pub put_single-requires-clause-safe : goal.put_single-requires-clause-safe
put_single-requires-clause-safe g c = c.requires.safe

pub put_single-requires-clause-few : goal.put_single-requires-clause-few
put_single-requires-clause-few g c = c.requires.few

pub refill_single-requires : goal.refill_single-requires
refill_single-requires g c = (assumption, c.requires.none)

pub returns-in-Ok-clause-lane : goal.returns-in-Ok-clause-lane
returns-in-Ok-clause-lane g c = c.put_single.ensures.lane

pub returns-in-Err-clause-lane : goal.returns-in-Err-clause-lane
returns-in-Err-clause-lane g c = c.put_single.ensures.lane
