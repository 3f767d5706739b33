use Rattle.rcu_world.proofs.Leading.{shape_took, leads_event, length_took, seen_there}
use Rattle.std.proofs.Common.{refl, ◌≡◌, ◌<◌, ◌∙◌, ap, arith, length, subst, sym}
use Rattle.std.proofs.lemmas.List.{length-map}
use Rattle.rcu_world_law.specs.States.{cpu_at, has}
use Rattle.rcu_world_processor.specs.Views.{seen}
use Rattle.rcu_world.specs.Views.{state}
use Rattle.rcu_world.specs.declared.events.Event.TheVariants.{Accept}
use Rattle.rcu_world.specs.Turns.{IsAtRestBut}
use Rattle.rcu_world.proofs.Keeping.{answers_kept}
use Rattle.rcu_world.proofs.Refusing.{refused_shut}
use Rattle.rcu_world.proofs.Resting.{rest_accepted}
use Rattle.rcu_world.proofs.Sizes.{never, second_holds}
use denote.Param.{param}
use Rattle.rcu_world.proofs.Fitting.{core_fits, fits_there}
use Rattle.rcu_world.proofs.worlds.World.accept_call.Goals as goal

pub count-count-requires-after_bounds : goal.count-count-requires-after_bounds
count-count-requires-after_bounds g c κs within = fits_there (param 0 g.row.J) (param 1 g.row.J-Receipt) assumption

pub accept-requires-after_bounds : goal.accept-requires-after_bounds
accept-requires-after_bounds g c κs within = (core_fits (param 0 g.row.J) (param 1 g.row.J-Receipt) assumption, c.requires.world.fit)

pub returns-in-Done-clause-rest : goal.returns-in-Done-clause-rest
returns-in-Done-clause-rest g c = subst (IsAtRestBut c.args.cpu) (sym c.in-Done.ensures.answers.step.1) (rest_accepted _ c.args.cpu (g.J.Job.key_of c.args.job) c.requires.rest)

pub returns-in-Skipped-Some-clause-refused : goal.returns-in-Skipped-Some-clause-refused
returns-in-Skipped-Some-clause-refused g c =
    let l : c.args.cpu < length c.args.self.now.core.processors.items = subst (λ n. c.args.cpu < n) (length-map c.args.self.now.core.processors.items (seen g.J.Job.key_of)) c.requires.there in
    let e = c.count-count.ensures ∙ ap (λ x. x.count) (seen_there g.J.Job.key_of c.args.self.now.core c.args.cpu c.index.result.now l c.index.ensures) in
    (let j = c.in-Skipped-Some.ensures.answers.step.2 in cc, omega (arith, e))

pub returns-in-Memory-Some-clause-refused : goal.returns-in-Memory-Some-clause-refused
returns-in-Memory-Some-clause-refused g c = (let j = c.in-Memory-Some.ensures.answers.step.2 in cc, second_holds (has (state g.J.Job.key_of c.args.self.now.core) c.args.cpu) _ c.in-Memory-Some.ensures.answers.step.0)

pub returns-in-Skipped-Some-2-clause-refused : goal.returns-in-Skipped-Some-2-clause-refused
returns-in-Skipped-Some-2-clause-refused g c =
    let w = state g.J.Job.key_of c.args.self.now.core in
    let l : c.args.cpu < length c.args.self.now.core.processors.items = subst (λ n. c.args.cpu < n) (length-map c.args.self.now.core.processors.items (seen g.J.Job.key_of)) c.requires.there in
    let e : c.count-count.result ≡ (cpu_at w c.args.cpu).count = c.count-count.ensures ∙ ap (λ x. x.count) (seen_there g.J.Job.key_of c.args.self.now.core c.args.cpu c.index.result.now l c.index.ensures) in
    let b : (cpu_at w c.args.cpu).count < c.args.self.now.core.limit = omega (arith, e) in
    (let j = c.in-Skipped-Some-2.ensures-1.answers.step.2 in cc, omega (arith, b), refused_shut w c.args.cpu (g.J.Job.key_of c.args.job) c.requires.there c.requires.here b (c.requires.rest.each c.args.cpu).fresh c.in-Skipped-Some-2.ensures-1.answers.step.0)

pub index-requires : goal.index-requires
index-requires g c = omega (arith, subst (λ n. c.args.cpu < n) (length-map c.args.self.now.core.processors.items (seen g.J.Job.key_of)) c.requires.there, c.args.self.now.core.processors.ok.0)

pub returns-in-Done-clause-ready : goal.returns-in-Done-clause-ready
returns-in-Done-clause-ready g c = c.in-Done.ensures.ready refl

-- an answer of the accept hands the job back where it hands back anything
pub unreachable-requires : goal.unreachable-requires
unreachable-requires g c = let e = c.in-Skipped-None.ensures.answers.step.2 in cc

pub unreachable-requires-in-Memory-None : goal.unreachable-requires-in-Memory-None
unreachable-requires-in-Memory-None g c = let e = c.in-Memory-None.ensures.answers.step.2 in cc

pub returns-in-Skipped-Some-clause-same : goal.returns-in-Skipped-Some-clause-same
returns-in-Skipped-Some-clause-same g c = c.in-Skipped-Some.ensures.answers.step.1

pub returns-in-Skipped-Some-2-clause-same : goal.returns-in-Skipped-Some-2-clause-same
returns-in-Skipped-Some-2-clause-same g c = c.in-Skipped-Some-2.ensures-1.answers.step.1

pub returns-in-Memory-Some-clause-same : goal.returns-in-Memory-Some-clause-same
returns-in-Memory-Some-clause-same g c = c.in-Memory-Some.ensures.answers.step.1

pub returns-in-Done-clause-events : goal.returns-in-Done-clause-events
returns-in-Done-clause-events g c = leads_event _ _ _ c.in-Done.ensures.answers.step.0 c.in-Done.ensures.answers.step.1

-- an accept puts no list
pub returns-in-Due-clause-events : goal.returns-in-Due-clause-events
returns-in-Due-clause-events g c = never c.in-Due.ensures.answers.step.2

pub returns-in-Due-clause-ready : goal.returns-in-Due-clause-ready
returns-in-Due-clause-ready g c = never c.in-Due.ensures.answers.step.2

pub returns-in-Due-clause-rest : goal.returns-in-Due-clause-rest
returns-in-Due-clause-rest g c = never c.in-Due.ensures.answers.step.2

pub returns-in-Done-clause-keeps : goal.returns-in-Done-clause-keeps
returns-in-Done-clause-keeps g c = record {
  kept = record {
    fit = answers_kept g.J.Job.key_of _ (Accept c.args.cpu c.args.job) c.accept.result _ c.requires.world.fit c.accept.ensures.answers.step;
    given = c.accept.ensures.answers.given c.requires.world.given;
  };
  shape = shape_took g.J.Job.key_of _ (Accept c.args.cpu c.args.job) _ c.in-Done.ensures.answers.step.1;
  len = length_took g.J.Job.key_of _ (Accept c.args.cpu c.args.job) _ c.in-Done.ensures.answers.step.1;
}

pub returns-in-Skipped-Some-clause-keeps : goal.returns-in-Skipped-Some-clause-keeps
returns-in-Skipped-Some-clause-keeps g c = record {
  kept = record {
    fit = answers_kept g.J.Job.key_of _ (Accept c.args.cpu c.args.job) c.accept.result _ c.requires.world.fit c.accept.ensures.answers.step;
    given = c.accept.ensures.answers.given c.requires.world.given;
  };
  shape = ap (λ w. w.shape) c.in-Skipped-Some.ensures.answers.step.1;
  len = ap (λ w. length w.cpus) c.in-Skipped-Some.ensures.answers.step.1;
}

pub returns-in-Skipped-Some-2-clause-keeps : goal.returns-in-Skipped-Some-2-clause-keeps
returns-in-Skipped-Some-2-clause-keeps g c = record {
  kept = record {
    fit = answers_kept g.J.Job.key_of _ (Accept c.args.cpu c.args.job) c.accept.result _ c.requires.world.fit c.accept.ensures.answers.step;
    given = c.accept.ensures.answers.given c.requires.world.given;
  };
  shape = ap (λ w. w.shape) c.in-Skipped-Some-2.ensures-1.answers.step.1;
  len = ap (λ w. length w.cpus) c.in-Skipped-Some-2.ensures-1.answers.step.1;
}

pub returns-in-Memory-Some-clause-keeps : goal.returns-in-Memory-Some-clause-keeps
returns-in-Memory-Some-clause-keeps g c = record {
  kept = record {
    fit = answers_kept g.J.Job.key_of _ (Accept c.args.cpu c.args.job) c.accept.result _ c.requires.world.fit c.accept.ensures.answers.step;
    given = c.accept.ensures.answers.given c.requires.world.given;
  };
  shape = ap (λ w. w.shape) c.in-Memory-Some.ensures.answers.step.1;
  len = ap (λ w. length w.cpus) c.in-Memory-Some.ensures.answers.step.1;
}

pub returns-in-Due-clause-keeps : goal.returns-in-Due-clause-keeps
returns-in-Due-clause-keeps g c = never c.in-Due.ensures.answers.step.2
