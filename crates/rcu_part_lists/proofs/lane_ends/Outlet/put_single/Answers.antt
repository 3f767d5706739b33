use Rattle.std.proofs.Common.{[], length, refl, arith, ◌≡◌, ◌∙◌, sym}
use Rattle.std.proofs.lemmas.List.Elements.{All-nil, All-push}
use Rattle.rcu_lanes.specs.Ends.{items_put}
use Rattle.rcu_lists.specs.declared.parcel.Parcel.TheVariants.{One, Many}
use Rattle.rcu_part_lists.specs.Limits.{IsSafe}
use Rattle.rcu_part_lists.proofs.Releases.{parcel-put, rooms-enough}
use Rattle.rcu_part_lists.proofs.lane_ends.Outlet.put_single.Goals as goal

pub put-requires : goal.put-requires
put-requires g c = record { safe = All-push IsSafe [] c.args.callback (All-nil IsSafe) c.requires.safe; few = c.requires.few }

pub invariant_of-self : goal.invariant_of-self
invariant_of-self g c = let s = c.args.self.now in record {
  enough = rooms-enough c.put.result (items_put s.rear) (items_put c.put.new.self) (One c.args.callback) (length s.rooms.items) (length s.rooms.items) (omega arith) s.enough c.put.ensures.put c.put.ensures.room;
}

pub returns-in-Ok-clause-lane : goal.returns-in-Ok-clause-lane
returns-in-Ok-clause-lane g c = c.put.ensures.lane

pub returns-in-Err-One-clause-lane : goal.returns-in-Err-One-clause-lane
returns-in-Err-One-clause-lane g c = c.put.ensures.lane

pub returns-in-Ok-clause-room : goal.returns-in-Ok-clause-room
returns-in-Ok-clause-room g c = λ _. refl

pub returns-in-Ok-clause-put : goal.returns-in-Ok-clause-put
returns-in-Ok-clause-put g c = parcel-put (items_put c.args.self.now.rear) (items_put c.put.new.self) (One c.args.callback) c.in-Ok.ensures.put refl

pub unreachable-requires : goal.unreachable-requires
unreachable-requires g c = let e = c.in-Err-Many in let f : Many e.field-0-0 ≡ One c.args.callback = sym e.field-0-is ∙ e.ensures.put.0 in cc

pub unreachable-unreachable : goal.unreachable-unreachable
unreachable-unreachable g c = c.unreachable.result

pub returns-in-Err-One-clause-put : goal.returns-in-Err-One-clause-put
returns-in-Err-One-clause-put g c = let e = c.in-Err-One in let f : One e.back ≡ One c.args.callback = sym e.field-0-is ∙ e.ensures.put.0 in (cc, e.ensures.put.1)

pub returns-in-Err-One-clause-room : goal.returns-in-Err-One-clause-room
returns-in-Err-One-clause-room g c = c.in-Err-One.ensures.room
