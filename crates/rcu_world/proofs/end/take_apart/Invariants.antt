use Rattle.std.proofs.Common.{◌≡◌, ◌+◌, ◌++◌, ◌≤◌, map, vec_len, vec_capacity}
use Rattle.rcu_world_processor.specs.Leaving.{left_keys}
use Rattle.rcu_world.specs.Leaving.{HaveRoom}
use Rattle.rcu_world_processor.specs.Views.{records_of}
use Rattle.rcu_world.specs.Views.{all_seen}
use Rattle.rcu_world.proofs.end.take_apart.Given as goal

abbrev pub invariant-loop-processors : goal.invariant-loop-processors
invariant-loop-processors g l = record {
  rooms : HaveRoom g.J.Job.key_of l.processors.items l.rooms.items;
  ran : l.ran.items ++ map records_of l.processors.items ≡ l.fn.ran.items ++ map records_of l.fn.processors.items;
  back : map (λ v. map g.J.Job.key_of v.items) l.back.items ++ map left_keys (all_seen g.J.Job.key_of l.processors.items)
      ≡ map (λ v. map g.J.Job.key_of v.items) l.fn.back.items ++ map left_keys (all_seen g.J.Job.key_of l.fn.processors.items);
  ran_room : vec_len l.ran + vec_len l.processors ≤ vec_capacity l.ran;
  back_room : vec_len l.back + vec_len l.processors ≤ vec_capacity l.back;
}

abbrev pub decreases-loop-processors : goal.decreases-loop-processors
decreases-loop-processors g l = vec_len l.processors
