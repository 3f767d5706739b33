use Rattle.std.proofs.Common.{inl, inr, sym, ap, ◌∙◌, ◌++◌, length, subst}
use Rattle.std.proofs.lemmas.List.Elements.{All-nil}
use Rattle.std.specs.List.{flat_map}
use Rattle.rcu_lanes.specs.Ends.{items_put}
use Rattle.rcu_lists.specs.Bypasses.{bypass_pace}
use Rattle.rcu_lists.specs.Parcels.{parcel_items}
use Rattle.rcu_lists.specs.Release.{refilled}
use Rattle.rcu_lists.specs.declared.pace.Pace.{Pace}
use Rattle.rcu_part_lists.specs.Lanes.{put_calls}
use Rattle.rcu_part_lists.specs.Outgoing.{outgoing, sent, sent_back}
use Rattle.rcu_part_lists.specs.Limits.{AreFew, AreSafe, IsSafe}
use Rattle.rcu_part_lists.proofs.Releases.{same_outgoing, full}
use Rattle.rcu_lists.proofs.Sizes.{bypass-batch, in_places}
use denote.Param.{param}
use Rattle.rcu_part_lists.proofs.sends.send_all.Goals as goal

pub flush-batch-requires : goal.flush-batch-requires
flush-batch-requires g c = (assumption, bypass-batch (param 0 g.row.J) assumption)

pub put_from-requires : goal.put_from-requires
put_from-requires g c = let e = sym c.flush-batch.ensures.all in
    (bypass-batch (param 0 g.row.J) assumption, (subst AreSafe e c.requires.safe, subst (λ l. AreFew (put_calls c.args.outlet.now.rear ++ l)) e c.requires.few))

pub refill-requires : goal.refill-requires
refill-requires g c = (assumption, (bypass-batch (param 0 g.row.J) assumption, c.flush-batch.ensures.none))

pub returns-then-not-put_from-clause-lane : goal.returns-then-not-put_from-clause-lane
returns-then-not-put_from-clause-lane g c = c.put_from.ensures.lane

pub returns-then-not-put_from-clause-released : goal.returns-then-not-put_from-clause-released
returns-then-not-put_from-clause-released g c =
    let o = outgoing c.args.outlet.now.rear c.args.bypass.now in let p = c.put_from.ensures.puts in let stays = p.stays c.if-not-put_from.true in
    let items = stays.1 ∙ c.flush-batch.ensures.all in
    inr (
      full (length (items_put c.args.outlet.now.rear)) (λ less. sym c.if-not-put_from.true ∙ p.room less),
      same_outgoing (sent_back o) (outgoing c.put_from.new.self.rear c.refill.new.self)
          (ap (flat_map parcel_items) stays.0)
          (ap length stays.0)
          (c.refill.ensures.items ∙ items)
          (c.refill.ensures.pace ∙ (ap (λ l. refilled l (bypass_pace c.flush-batch.new.self)) items ∙ ap (λ (p : Pace). refilled o.bypass p) c.flush-batch.ensures.pace))
          (c.refill.ensures.qhimark ∙ c.flush-batch.ensures.qhimark),
    )

pub returns-then-not-put_from-clause-safe : goal.returns-then-not-put_from-clause-safe
returns-then-not-put_from-clause-safe g c = subst AreSafe (sym (c.refill.ensures.items ∙ ((c.put_from.ensures.puts.stays c.if-not-put_from.true).1 ∙ c.flush-batch.ensures.all))) c.requires.safe

pub returns-else-not-put_from-clause-lane : goal.returns-else-not-put_from-clause-lane
returns-else-not-put_from-clause-lane g c = c.put_from.ensures.lane

pub returns-else-not-put_from-clause-released : goal.returns-else-not-put_from-clause-released
returns-else-not-put_from-clause-released g c =
    let o = outgoing c.args.outlet.now.rear c.args.bypass.now in let put = c.put_from.ensures.puts.put c.if-not-put_from.false in
    inl (same_outgoing (sent o) (outgoing c.put_from.new.self.rear c.flush-batch.new.self)
    (put.0 ∙ ap (λ l. put_calls c.args.outlet.now.rear ++ l) c.flush-batch.ensures.all)
    put.1
    c.flush-batch.ensures.none c.flush-batch.ensures.pace c.flush-batch.ensures.qhimark)

pub returns-else-not-put_from-clause-safe : goal.returns-else-not-put_from-clause-safe
returns-else-not-put_from-clause-safe g c = subst AreSafe (sym c.flush-batch.ensures.none) (All-nil IsSafe)

pub array_drop-batch-requires : goal.array_drop-batch-requires
array_drop-batch-requires g c = in_places _ _ _ _ _ _ _ _ _ _ _ _ _ _ _ _ _ _ _ _ (bypass-batch (param 0 g.row.J) assumption)
