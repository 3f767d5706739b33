use Rattle.check_torture.proofs.one_run.close_all.Goals as goal

pub returns-in-Ok-clause-closes : goal.returns-in-Ok-clause-closes
returns-in-Ok-clause-closes c = c.in-Ok.ensures.closes c.requires.sound
