use Rattle.std.proofs.Common.{◌∙◌, length, subst, sym}
use Rattle.std.proofs.lemmas.List.{length-map}
use Rattle.rcu_world_law.specs.Law.{IsClosed}
use Rattle.rcu_world_law.proofs.Closing.{closed}
use Rattle.rcu_world.specs.Leaving.{AreHandedBack, AreRecorded, AreReported}
use Rattle.rcu_world_processor.specs.Views.{seen}
use Rattle.rcu_world.specs.Views.{state, all_seen}
use Rattle.rcu_world.proofs.Settling.{handed_back, recorded, runs_of}
use denote.Param.{param}
use Rattle.rcu_world.proofs.Fitting.{core_fits}
use Rattle.rcu_world.proofs.worlds.World.close.Goals as goal

pub returns-in-Ok-clause-closed : goal.returns-in-Ok-clause-closed
returns-in-Ok-clause-closed g c = subst (IsClosed (length (all_seen g.J.Job.key_of c.args.self.core.processors.items))) (sym c.into_closed.ensures.marks)
    (closed (state g.J.Job.key_of c.args.self.core) c.requires.fit.core c.requires.fit.no_back)

pub returns-in-Ok-clause-ran : goal.returns-in-Ok-clause-ran
returns-in-Ok-clause-ran g c = subst (λ h. AreRecorded g.J.Job.gives (length (all_seen g.J.Job.key_of c.args.self.core.processors.items)) h c.into_closed.result.1.ran.items) (sym c.into_closed.ensures.marks)
    (recorded g.J.Job.key_of c.args.self.core c.requires.fit.core g.J.Job.gives c.requires.given c.into_closed.result.1.ran.items c.into_closed.ensures.ran)

pub returns-in-Ok-clause-runs : goal.returns-in-Ok-clause-runs
returns-in-Ok-clause-runs g c = runs_of g.J.Job.key_of c.args.self.core c.requires.fit.core c.into_closed.result.1.ran.items c.into_closed.ensures.ran

pub returns-in-Ok-clause-back : goal.returns-in-Ok-clause-back
returns-in-Ok-clause-back g c = subst (λ h. AreHandedBack g.J.Job.key_of (length (all_seen g.J.Job.key_of c.args.self.core.processors.items)) h c.into_closed.result.1.back.items) (sym c.into_closed.ensures.marks)
    (handed_back g.J.Job.key_of c.args.self.core c.requires.fit.core c.requires.fit.no_back c.into_closed.result.1.back.items c.into_closed.ensures.back)

pub returns-in-Ok-clause-reports : goal.returns-in-Ok-clause-reports
returns-in-Ok-clause-reports g c = subst (λ n. AreReported n c.into_closed.result.0.items c.into_closed.result.1.reports.items)
    (c.args.self.core.processors.ok.0 ∙ sym (length-map c.args.self.core.processors.items (seen g.J.Job.key_of))) c.into_closed.ensures.reports

pub find_room-requires-send-J : goal.find_room-requires-send-J
find_room-requires-send-J g c κs within = c.type_bounds.send-J

pub find_room-requires-send-J-Receipt : goal.find_room-requires-send-J-Receipt
find_room-requires-send-J-Receipt g c κs within = c.type_bounds.send-J-Receipt

pub find_room-requires-after_bounds : goal.find_room-requires-after_bounds
find_room-requires-after_bounds g c κs within = (core_fits (param 0 g.row.J) (param 1 g.row.J-Receipt) assumption, c.requires.fit)

pub into_closed-requires-send-J : goal.into_closed-requires-send-J
into_closed-requires-send-J g c κs within = c.type_bounds.send-J

pub into_closed-requires-send-J-Receipt : goal.into_closed-requires-send-J-Receipt
into_closed-requires-send-J-Receipt g c κs within = c.type_bounds.send-J-Receipt

pub into_closed-requires-after_bounds : goal.into_closed-requires-after_bounds
into_closed-requires-after_bounds g c κs within = (core_fits (param 0 g.row.J) (param 1 g.row.J-Receipt) assumption, c.in-Ok.ensures)
