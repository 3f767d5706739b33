use Rattle.std.proofs.Common.{rules, ◌≤◌, ◌+◌, ◌∙◌, length, ap, sym, subst, vec_len, vec_capacity}
use Rattle.rcu_world_processor.proofs.Sizes.{held_fits, slots_fit}
use Rattle.rcu_world_processor.proofs.drain.take_bypass.Goals as goal

pub take_jobs-requires-after_bounds : goal.take_jobs-requires-after_bounds
take_jobs-requires-after_bounds g c κs within = (held_fits g.row.J assumption, subst (λ xs. vec_len c.args.jobs.now + length xs ≤ vec_capacity c.args.jobs.now) (sym c.flush-all.ensures.all) c.requires)

pub returns : goal.returns
returns g c = record {
  jobs = record {
    keys = search rules;
    len = c.take_jobs.ensures.jobs.len ∙ ap (λ xs. vec_len c.args.jobs.now + length xs) c.flush-all.ensures.all;
    capacity = search rules;
  };
}

pub flush-all-requires-send-J : goal.flush-all-requires-send-J
flush-all-requires-send-J g c κs within = c.type_bounds.send-J

pub flush-all-requires-send-J-Receipt : goal.flush-all-requires-send-J-Receipt
flush-all-requires-send-J-Receipt g c κs within = c.type_bounds.send-J-Receipt

pub flush-all-requires-after_bounds : goal.flush-all-requires-after_bounds
flush-all-requires-after_bounds g c κs within = (assumption, held_fits g.row.J assumption)

pub take_jobs-requires-send-J : goal.take_jobs-requires-send-J
take_jobs-requires-send-J g c κs within = c.type_bounds.send-J

pub take_jobs-requires-send-J-Receipt : goal.take_jobs-requires-send-J-Receipt
take_jobs-requires-send-J-Receipt g c κs within = c.type_bounds.send-J-Receipt

pub array_drop-all-requires : goal.array_drop-all-requires
array_drop-all-requires g c = slots_fit _ _ _ _ _ _ _ (held_fits g.row.J assumption)
