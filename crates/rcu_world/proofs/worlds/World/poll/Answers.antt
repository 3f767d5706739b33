use Rattle.std.proofs.Common.{◌∙◌, ◌≡◌, true, ap, sym, refl, length, ◌++◌, ◌∷◌, []}
use Rattle.rcu_world_law.specs.Events.{is_enabled}
use Rattle.rcu_world_law.specs.Events.CoreEvent.{Pass}
use Rattle.rcu_world.proofs.Wholes.{on_err}
use Rattle.rcu_world_law.specs.declared.marks.Mark.TheVariants.{Passed}
use Rattle.rcu_world.specs.Polls.{turns_for}
use Rattle.rcu_world.specs.Turns.{upto, where_enabled}
use Rattle.rcu_world.specs.Views.{state}
use Rattle.rcu_world.proofs.Leading.{leads_then}
use Rattle.rcu_world.proofs.Passing.{passed_marks, passed_counts, passed_there}
use Rattle.rcu_world.proofs.Staying.{stays_by, stays_then}
use Rattle.rcu_world.proofs.worlds.World.poll.Goals as goal

pub returns-then-not-branch-clause-events : goal.returns-then-not-branch-clause-events
returns-then-not-branch-clause-events g c = leads_then (upto (turns_for c.args.barrier) (length (state g.J.Job.key_of c.args.self.now.core).cpus)) (where_enabled (Pass c.args.barrier)) _ _ _ c.see_all.ensures.events.leads c.in_ok-attempt.ensures.leads.1

pub returns-clause-events : goal.returns-clause-events
returns-clause-events g c = leads_then (upto (turns_for c.args.barrier) (length (state g.J.Job.key_of c.args.self.now.core).cpus)) (where_enabled (Pass c.args.barrier)) _ _ _ c.see_all.ensures.events.leads c.in_ok-attempt.ensures.leads.1

pub returns-clause-answer : goal.returns-clause-answer
returns-clause-answer g c =
    let h = sym c.in_ok-attempt.ensures.enabled ∙ c.if-not-branch.false in
    let l = c.in_ok-attempt.ensures.leads.1 in (
      passed_marks _ _ c.args.barrier h l ∙ ap (λ x. x ++ Passed c.args.barrier ∷ []) c.see_all.ensures.history,
      passed_counts _ _ c.args.barrier c.kept_counts-counts.result.n c.kept_counts-counts.result.counts c.in_ok-attempt.ensures.keeps.kept.fit.core h l c.kept_counts-counts.ensures.all c.kept_counts-counts.ensures.each,
    )

pub returns-in_err-attempt-clause-err_enabled : goal.returns-in_err-attempt-clause-err_enabled
returns-in_err-attempt-clause-err_enabled g c = on_err (is_enabled (state g.J.Job.key_of c.attempt.new.self.core) (Pass c.args.barrier) ≡ true) _
    (ap (λ w. is_enabled w (Pass c.args.barrier)) c.in_err-attempt.ensures.err ∙ c.in_err-attempt.ensures.err_enabled)

pub kept_counts-counts-requires-send-J : goal.kept_counts-counts-requires-send-J
kept_counts-counts-requires-send-J g c κs within = c.type_bounds.send-J

pub kept_counts-counts-requires-send-J-Receipt : goal.kept_counts-counts-requires-send-J-Receipt
kept_counts-counts-requires-send-J-Receipt g c κs within = c.type_bounds.send-J-Receipt

pub kept_counts-counts-requires-after_bounds : goal.kept_counts-counts-requires-after_bounds
kept_counts-counts-requires-after_bounds g c κs within =
    let h = sym c.in_ok-attempt.ensures.enabled ∙ c.if-not-branch.false in
    (assumption, (c.in_ok-attempt.ensures.keeps.kept.fit.few, passed_there _ _ c.args.barrier h c.in_ok-attempt.ensures.leads.1))

pub see_all-requires-send-J : goal.see_all-requires-send-J
see_all-requires-send-J g c κs within = c.type_bounds.send-J

pub see_all-requires-send-J-Receipt : goal.see_all-requires-send-J-Receipt
see_all-requires-send-J-Receipt g c κs within = c.type_bounds.send-J-Receipt

pub attempt-requires-send-J : goal.attempt-requires-send-J
attempt-requires-send-J g c κs within = c.type_bounds.send-J

pub attempt-requires-send-J-Receipt : goal.attempt-requires-send-J-Receipt
attempt-requires-send-J-Receipt g c κs within = c.type_bounds.send-J-Receipt

pub returns-in_err-attempt-clause-stays : goal.returns-in_err-attempt-clause-stays
returns-in_err-attempt-clause-stays g c = stays_then c.see_all.ensures.events.stays (stays_by c.attempt.ensures.keeps (c.attempt.ensures.rest refl))

pub returns-then-not-branch-clause-stays : goal.returns-then-not-branch-clause-stays
returns-then-not-branch-clause-stays g c = stays_then c.see_all.ensures.events.stays (stays_by c.attempt.ensures.keeps (c.attempt.ensures.rest refl))

pub returns-clause-stays : goal.returns-clause-stays
returns-clause-stays g c = stays_then c.see_all.ensures.events.stays (stays_by c.attempt.ensures.keeps (c.attempt.ensures.rest refl))
