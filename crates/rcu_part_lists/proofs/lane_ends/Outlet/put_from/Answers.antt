use Rattle.std.proofs.Common.{sym, ap, ◌∙◌, ◌++◌, refl, subst, length, true≢false, arith}
use Rattle.std.proofs.lemmas.Bool.{false≢true}
use Rattle.rcu_lanes.specs.Ends.{items_put}
use Rattle.rcu_lists.specs.Parcels.{parcel_items}
use Rattle.rcu_part_lists.specs.Lanes.{put_calls}
use Rattle.rcu_part_lists.specs.Limits.{AreFew, AreSafe}
use Rattle.rcu_part_lists.proofs.Releases.{parcel-put, rooms-enough}
use Rattle.rcu_part_lists.proofs.lane_ends.Outlet.put_from.Goals as goal

pub pack_from-requires : goal.pack_from-requires
pack_from-requires g c = assumption

pub put-requires : goal.put-requires
put-requires g c = let e = c.in-Some.ensures.packed.0 in record {
  safe = subst AreSafe (sym e) c.requires.safe;
  few = subst (λ l. AreFew (put_calls c.args.self.now.rear ++ l)) (sym e) c.requires.few;
}

pub invariant_of-self-2 : goal.invariant_of-self-2
invariant_of-self-2 g c = let s = c.args.self.now in record {
  enough = rooms-enough c.put.result (items_put s.rear) (items_put c.put.new.self) c.in-Some.parcel (length s.rooms.items) (length c.pack_from.new.rooms.items) c.pack_from.ensures.left s.enough c.put.ensures.put c.put.ensures.room;
}

pub load-requires : goal.load-requires
load-requires g c = (assumption, c.in-Some.ensures.packed.1)

pub returns-in-Ok-clause-lane : goal.returns-in-Ok-clause-lane
returns-in-Ok-clause-lane g c = c.put.ensures.lane

pub returns-in-Err-clause-lane : goal.returns-in-Err-clause-lane
returns-in-Err-clause-lane g c = c.put.ensures.lane

pub returns-in-Ok-clause-puts : goal.returns-in-Ok-clause-puts
returns-in-Ok-clause-puts g c = record {
  put = λ _. parcel-put (items_put c.args.self.now.rear) (items_put c.put.new.self) c.in-Some.parcel c.in-Ok.ensures.put c.in-Some.ensures.packed.0;
  left = λ _. c.in-Some.ensures.packed.1;
  stays = λ e. absurd (true≢false e);
  room = λ _. refl;
}

pub returns-in-Err-clause-puts : goal.returns-in-Err-clause-puts
returns-in-Err-clause-puts g c = let p = c.in-Err.ensures.put in record {
  put = λ e. absurd (false≢true e);
  left = λ e. absurd (false≢true e);
  stays = λ _. (p.1, c.load.ensures.items ∙ (ap parcel_items p.0 ∙ c.in-Some.ensures.packed.0));
  room = c.in-Err.ensures.room;
}

pub invariant_of-self : goal.invariant_of-self
invariant_of-self g c = record { enough = omega (arith, c.args.self.now.enough, ap length c.in_default.ensures.packed.1) }

pub returns-in_default-clause-lane : goal.returns-in_default-clause-lane
returns-in_default-clause-lane g c = refl

pub returns-in_default-clause-puts : goal.returns-in_default-clause-puts
returns-in_default-clause-puts g c = record {
  put = λ e. absurd (false≢true e);
  left = λ e. absurd (false≢true e);
  stays = λ _. (refl, c.in_default.ensures.packed.0);
  room = λ lt. absurd (omega (arith, lt, c.args.self.now.enough, ap length c.in_default.ensures.packed.1));
}
