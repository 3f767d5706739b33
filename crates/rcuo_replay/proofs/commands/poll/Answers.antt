use Rattle.std.proofs.Common.{refl, rules}
use Rattle.rcuo_replay.proofs.commands.poll.Goals as goal

pub returns-in-None-clause-line : goal.returns-in-None-clause-line
returns-in-None-clause-line c = record {
  does = (c.in-Some.barrier, c.in-Some.is, refl, c.in-None.ensures.polls);
  same = search rules;
}
