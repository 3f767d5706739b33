use Rattle.std.proofs.Common.{[], sym, length, ◌<◌, ◌≤◌, ◌∙◌, ap, get_or, subst}
use Rattle.rcu_world_processor.specs.Leaving.{IsCounted}
use Rattle.rcu_world_processor.specs.Views.{seen}
use Rattle.rcu_world.specs.Leaving.{HaveRoom}
use Rattle.rcu_world.proofs.Leaving.{all_at, exact_room, room_more, room_end}
use Rattle.rcu_world.proofs.Wholes.{if_ok_never}
use Rattle.rcu_world.proofs.end.find_rooms.Goals as goal

pub left-requires-send-J : goal.left-requires-send-J
left-requires-send-J g c κs within = c.type_bounds.send-J

pub left-requires-send-J-Receipt : goal.left-requires-send-J-Receipt
left-requires-send-J-Receipt g c κs within = c.type_bounds.send-J-Receipt

pub left-requires-after_bounds : goal.left-requires-after_bounds
left-requires-after_bounds g c κs within = (
  assumption,
  all_at (λ p. IsCounted (seen g.J.Job.key_of p)) c.args.processors.now.items c.loop-p.p-index c.p-item.result
      (subst (λ x. c.loop-p.p-index < length x) c.deref-p-items.ensures.value c.loop-p-test.true) (c.p-item.is ∙ ap (λ x. get_or x c.loop-p.p-index c.p-item.result) c.deref-p-items.ensures.value) c.requires,
)

pub loop-p-preserved : goal.loop-p-preserved
loop-p-preserved g c = rw c.in_ok-push.ensures.items (room_more g.J.Job.key_of c.args.processors.now.items c.loop-p.rooms.items c.loop-p.p-index c.p-item.result c.in_ok-with_capacity.field-0
    (subst (λ x. c.loop-p.p-index < length x) c.deref-p-items.ensures.value c.loop-p-test.true) (c.p-item.is ∙ ap (λ x. get_or x c.loop-p.p-index c.p-item.result) c.deref-p-items.ensures.value) c.in_ok-with_capacity.ensures.items (exact_room c.left.ensures c.in_ok-with_capacity.ensures.exact) c.loop-p.invariant)

pub returns : goal.returns
returns g c = room_end g.J.Job.key_of c.args.processors.now.items c.loop-p.rooms.items c.loop-p.p-index (subst (λ x. length x ≤ c.loop-p.p-index) c.deref-p-items.ensures.value c.loop-p-test.false) c.loop-p.invariant

pub offset_bounds-p-items-p-index : goal.offset_bounds-p-items-p-index
offset_bounds-p-items-p-index g c = c.loop-p.auto.p-index-end

pub bounds-p-items-p-index : goal.bounds-p-items-p-index
bounds-p-items-p-index g c = c.loop-p-test.true

pub returns-in_err-with_capacity : goal.returns-in_err-with_capacity
returns-in_err-with_capacity g c = if_ok_never _ _ c.from_residual.ensures

pub returns-in_err-push : goal.returns-in_err-push
returns-in_err-push g c = if_ok_never _ _ c.from_residual-in_err-push.ensures

pub loop-p-init : goal.loop-p-init
loop-p-init g c = subst (HaveRoom {R = g.row.J-Receipt.Denot} g.J.Job.key_of []) (sym c.new-rooms.ensures.items) tt
