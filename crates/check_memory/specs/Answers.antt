-- What a scenario is told that a call answered.
use Rattle.rcu_jobs.specs.declared.answers.Refused.{Refused}
use Rattle.rcu_jobs.specs.declared.answers.Refused.TheVariants as refused
use Rattle.check_memory.specs.declared.machine.Answer.{Answer}
use Rattle.check_memory.specs.declared.machine.Answer.TheVariants as answer
use Rattle.check_memory.specs.declared.work.Work.{Work}

-- want of memory, with the key of the job that came back; or an answer that no call of the script has
abbrev pub refused_as : Refused Work → Answer
refused_as (refused.Memory job) = answer.Refused job.key
refused_as (refused.Limit job) = answer.Other
refused_as (refused.Closed job) = answer.Other
