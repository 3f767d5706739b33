use Rattle.std.proofs.Common.{rules, ◌∙◌, ◌++◌, ◌∷◌, [], ap, sym, Some}
use Rattle.rcu_world_law.specs.Releases.{Pace, pace_after_put}
use Rattle.rcu_world_processor.specs.Batches.{batches, law_pace, with_bypass}
use Rattle.rcu_world_processor.specs.Waits.{calls}
use Rattle.rcu_world_processor.proofs.Sizes.{held_fits, one_fits}
use Rattle.rcu_world_processor.proofs.bypass.release.Goals as goal

pub returns-in-Some-clause-pace : goal.returns-in-Some-clause-pace
returns-in-Some-clause-pace g c = record {
  after = λ x. ap law_pace c.restart.ensures.pace
      ∙ ap {B = Pace} (λ q. record { moment = Some c.in-Some.last; direct = 0; kept_moment = q.kept_moment; plain = q.plain }) (c.flush.ensures.pace.after x)
      ∙ ap (λ m. pace_after_put m (with_bypass g.J.Job.key_of c.args.bypass.now x)) (sym c.in-Some.is);
  qhimark = search rules;
}

pub returns-in-None-clause-pace : goal.returns-in-None-clause-pace
returns-in-None-clause-pace g c = record {
  after = λ x. c.flush.ensures.pace.after x ∙ ap (λ m. pace_after_put m (with_bypass g.J.Job.key_of c.args.bypass.now x)) (sym c.in-None.is);
  qhimark = search rules;
}

pub flush-requires-send-J : goal.flush-requires-send-J
flush-requires-send-J g c κs within = c.type_bounds.send-J

pub flush-requires-send-J-Receipt : goal.flush-requires-send-J-Receipt
flush-requires-send-J-Receipt g c κs within = c.type_bounds.send-J-Receipt

pub flush-requires-after_bounds : goal.flush-requires-after_bounds
flush-requires-after_bounds g c κs within = assumption

pub put_batch-requires-send-J : goal.put_batch-requires-send-J
put_batch-requires-send-J g c κs within = c.type_bounds.send-J

pub put_batch-requires-send-J-Receipt : goal.put_batch-requires-send-J-Receipt
put_batch-requires-send-J-Receipt g c κs within = c.type_bounds.send-J-Receipt

pub put_batch-requires-after_bounds : goal.put_batch-requires-after_bounds
put_batch-requires-after_bounds g c κs within = (held_fits g.row.J assumption, one_fits _ _ c.requires)

pub restart-requires : goal.restart-requires
restart-requires g c = assumption

pub returns-in-Some-clause-lane : goal.returns-in-Some-clause-lane
returns-in-Some-clause-lane g c = c.put_batch.ensures ∙ ap (λ b. batches g.J.Job.key_of c.args.lane.now.items ++ b ∷ []) c.flush.ensures.all

pub returns-in-Some-clause-none : goal.returns-in-Some-clause-none
returns-in-Some-clause-none g c = ap (calls g.J.Job.key_of) c.restart.ensures.items ∙ c.flush.ensures.none

pub returns-in-None-clause-lane : goal.returns-in-None-clause-lane
returns-in-None-clause-lane g c = c.put_batch.ensures ∙ ap (λ b. batches g.J.Job.key_of c.args.lane.now.items ++ b ∷ []) c.flush.ensures.all

pub returns-in-None-clause-none : goal.returns-in-None-clause-none
returns-in-None-clause-none g c = c.flush.ensures.none
