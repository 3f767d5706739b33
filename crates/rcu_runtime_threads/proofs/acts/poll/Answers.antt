use Rattle.std.proofs.Common.{◌∙◌, refl, sym}
use Rattle.rcu_runtime_threads.proofs.Steps.{works_itself, works_once}
use Rattle.rcu_runtime_threads.proofs.acts.poll.Goals as goal

pub processors-requires-send-J : goal.processors-requires-send-J
processors-requires-send-J g c κs within = c.type_bounds.send-J

pub processors-requires-send-J-Receipt : goal.processors-requires-send-J-Receipt
processors-requires-send-J-Receipt g c κs within = c.type_bounds.send-J-Receipt

pub processors-requires-after_bounds : goal.processors-requires-after_bounds
processors-requires-after_bounds g c κs within = assumption

pub poll-requires-room-W-ReadsTurns : goal.poll-requires-room-W-ReadsTurns
poll-requires-room-W-ReadsTurns g c κs within = assumption

pub returns-then-barrier-processors-clause-works : goal.returns-then-barrier-processors-clause-works
returns-then-barrier-processors-clause-works g c = works_itself g.J.Job.key_of g.J.Job.gives c.args.processor.now

pub returns-clause-works : goal.returns-clause-works
returns-clause-works g c = let e = c.poll.ensures.keeps in works_once g.J.Job.key_of g.J.Job.gives c.args.processor.now c.poll.new.by e.same e.sound e.keeps.count

pub returns-clause-does : goal.returns-clause-does
returns-clause-does g c = (c.poll.ensures.polls, c.poll.ensures.keeps.keeps)

pub returns-then-barrier-processors-clause-does : goal.returns-then-barrier-processors-clause-does
returns-then-barrier-processors-clause-does g c = (λ e. c.if-barrier-processors.true (e ∙ sym c.processors.ensures.board), refl)

pub poll-requires : goal.poll-requires
poll-requires g c = record { «open» = sym (c.if-barrier-processors.false ∙ c.processors.ensures.board) }
