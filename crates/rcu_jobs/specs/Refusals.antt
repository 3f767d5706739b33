-- The numbers of refusals: docs/specification/surface.md, "Refusals by number".
use Rattle.std.specs.Prelude.{ℕ}
use Rattle.rcu_jobs.specs.declared.answers.Refused.{Refused}
use Rattle.rcu_jobs.specs.declared.answers.Refused.TheVariants.{Limit, Memory, Closed}
use Rattle.rcu_jobs.specs.declared.answers.SwitchFault.{SwitchFault}
use Rattle.rcu_jobs.specs.declared.answers.SwitchFault.TheVariants.{NoProcessor, NotOffloadable}

abbrev pub number_of : {J : Type 0} → Refused J → ℕ
number_of (Limit job) = 4
number_of (Memory job) = 2
number_of (Closed job) = 3

abbrev pub job_of : {J : Type 0} → Refused J → J
job_of (Limit job) = job
job_of (Memory job) = job
job_of (Closed job) = job

abbrev pub switch_number : SwitchFault → ℕ
switch_number (NoProcessor p) = 6
switch_number (NotOffloadable p) = 5
