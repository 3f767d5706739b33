use Rattle.std.proofs.Common.{◌∙◌}
use Rattle.rcu_runtime.proofs.Drains.{never_refused, opened_for}
use Rattle.rcu_runtime.proofs.Wholes.{continues_again}
use Rattle.rcu_runtime.proofs.drain.Whole+AllParts+Processor+J+Group+J+Hand+J.shut_and_open.Goals as goal

pub returns-clause-shut : goal.returns-clause-shut
returns-clause-shut g c = opened_for c.shut.result c.in-Ok.barrier c.args.self.now c.shut.new.self c.barrier.new.self c.shut.ensures.shuts c.shut.ensures.shuts.continues.same c.in-Ok.ensures.opens c.in-Ok.ensures.opens.continues.same

pub shut-requires-send-J : goal.shut-requires-send-J
shut-requires-send-J g c κs within = c.type_bounds.send-J

pub shut-requires-send-J-Receipt : goal.shut-requires-send-J-Receipt
shut-requires-send-J-Receipt g c κs within = c.type_bounds.send-J-Receipt

pub shut-requires-after_bounds : goal.shut-requires-after_bounds
shut-requires-after_bounds g c κs within = assumption

pub barrier-requires-send-J : goal.barrier-requires-send-J
barrier-requires-send-J g c κs within = c.type_bounds.send-J

pub barrier-requires-send-J-Receipt : goal.barrier-requires-send-J-Receipt
barrier-requires-send-J-Receipt g c κs within = c.type_bounds.send-J-Receipt

pub barrier-requires-after_bounds : goal.barrier-requires-after_bounds
barrier-requires-after_bounds g c κs within = assumption

pub unreachable-requires : goal.unreachable-requires
unreachable-requires g c = never_refused c.in_default.field-0 c.shut.new.self c.barrier.new.self c.in_default.ensures.opens

pub returns-clause-begins : goal.returns-clause-begins
returns-clause-begins g c = record {
  finals = c.shut.result;
  shut = c.shut.new.self;
  shuts = c.shut.ensures.shuts;
  opens = c.in-Ok.ensures.opens;
  continues = continues_again c.args.self.now c.shut.new.self c.barrier.new.self c.shut.ensures.shuts.continues c.in-Ok.ensures.opens.continues;
  none = c.in-Ok.ensures.opens.none ∙ c.shut.ensures.shuts.none;
}
