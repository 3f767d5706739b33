use Rattle.std.proofs.Common.{ap, sym}
use Rattle.rcuo_replay.specs.Outcomes.{kind_of}
use Rattle.rcuo_replay.proofs.Answering.{call_made}
use Rattle.rcuo_replay.proofs.Verbs.{plain_kind}
use Rattle.rcuo_replay.proofs.commands.call_one.Goals as goal

pub returns-in-Lazy-clause-calls : goal.returns-in-Lazy-clause-calls
returns-in-Lazy-clause-calls g c =
    call_made g.J.Job.key_of c.args.verb c.args.moment c.args.job c.call_rcu_lazy.result c.args.processor.now c.call_rcu_lazy.new.self _ (sym (ap kind_of c.in-Lazy.is)) c.call_rcu_lazy.ensures.calls.ok c.call_rcu_lazy.ensures.calls.err c.call_rcu_lazy.ensures.calls.refused

pub returns-in_default : goal.returns-in_default
returns-in_default g c = record {
  calls = call_made g.J.Job.key_of c.args.verb c.args.moment c.args.job c.call_rcu.result c.args.processor.now c.call_rcu.new.self _ (sym (plain_kind c.args.verb c.in_default.not-Lazy)) c.call_rcu.ensures.calls.ok c.call_rcu.ensures.calls.err c.call_rcu.ensures.calls.refused;
  same = c.call_rcu.ensures.calls.same;
  sound = c.call_rcu.ensures.calls.sound;
}

pub call_rcu_lazy-requires-send-J : goal.call_rcu_lazy-requires-send-J
call_rcu_lazy-requires-send-J g c κs within = c.type_bounds.send-J

pub call_rcu_lazy-requires-send-J-Receipt : goal.call_rcu_lazy-requires-send-J-Receipt
call_rcu_lazy-requires-send-J-Receipt g c κs within = c.type_bounds.send-J-Receipt

pub call_rcu_lazy-requires-after_bounds : goal.call_rcu_lazy-requires-after_bounds
call_rcu_lazy-requires-after_bounds g c κs within = assumption

pub call_rcu-requires-send-J : goal.call_rcu-requires-send-J
call_rcu-requires-send-J g c κs within = c.type_bounds.send-J

pub call_rcu-requires-send-J-Receipt : goal.call_rcu-requires-send-J-Receipt
call_rcu-requires-send-J-Receipt g c κs within = c.type_bounds.send-J-Receipt

pub call_rcu-requires-after_bounds : goal.call_rcu-requires-after_bounds
call_rcu-requires-after_bounds g c κs within = assumption

pub returns-in-Lazy-clause-same : goal.returns-in-Lazy-clause-same
returns-in-Lazy-clause-same g c = c.call_rcu_lazy.ensures.calls.same

pub returns-in-Lazy-clause-sound : goal.returns-in-Lazy-clause-sound
returns-in-Lazy-clause-sound g c = c.call_rcu_lazy.ensures.calls.sound
