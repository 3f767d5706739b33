use Rattle.std.proofs.Common.{◌∙◌, ap, refl, sym}
use Rattle.rcu_runtime.specs.Calls.{Polls}
use Rattle.rcu_runtime.proofs.Wholes.{leaves_all, steered_on, steered_whole}
use Rattle.rcu_parts.specs.OneOpen.{parts_board}
use Rattle.rcu_runtime.proofs.control.Whole+AllParts+Processor+J+Group+J+Hand+J.poll.Goals as goal

pub invariant_of-self : goal.invariant_of-self
invariant_of-self g c = steered_whole g.J.Job.key_of g.J.Job.gives c.self.inside.limit c.self.inside.parts c.poll.new.by c.poll.ensures.same c.self.invariant

pub returns-clause-ok : goal.returns-clause-ok
returns-clause-ok g c = steered_on (Polls c.args.barrier.now.counts c.poll.result) c.args.self.now c.self.inside.parts c.poll.new.by c.self.view_is c.poll.ensures.same c.self.invariant.close.one c.poll.ensures.polls

pub returns-then-barrier-processors-clause-err : goal.returns-then-barrier-processors-clause-err
returns-then-barrier-processors-clause-err g c = record { number = λ same. c.if-barrier-processors.true (same ∙ (ap (λ x. (parts_board x).processors) (sym c.self.view_is) ∙ sym c.processors.ensures.board)); leaves = leaves_all c.args.self.now c.args.self.now refl }

pub poll-requires : goal.poll-requires
poll-requires g c = record { «open» = sym (c.if-barrier-processors.false ∙ c.processors.ensures.board) }

pub returns-clause-number : goal.returns-clause-number
returns-clause-number g c = c.if-barrier-processors.false ∙ (c.processors.ensures.board ∙ ap (λ x. (parts_board x).processors) c.self.view_is)
