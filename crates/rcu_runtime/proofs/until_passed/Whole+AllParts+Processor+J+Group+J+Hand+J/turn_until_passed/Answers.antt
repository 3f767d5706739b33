use Rattle.std.proofs.Common.{◌≡◌, ◌≤◌, ◌∙◌, Option, Some, None, arith, refl, subst}
use Rattle.rcu_jobs.specs.declared.Passed.{Passed}
use Rattle.rcu_runtime.specs.Calls.{OnControl, Polls}
use Rattle.rcu_runtime.proofs.Settles.{number_on, other_on, passed_by}
use Rattle.rcu_runtime.proofs.Waiting.{none_made, waited_none, waits_continue, waits_for, waits_more}
use Rattle.rcu_runtime.proofs.Wholes.{leaves_all}
use Rattle.rcu_runtime.proofs.until_passed.Whole+AllParts+Processor+J+Group+J+Hand+J.turn_until_passed.Goals as goal

pub loop-made-init : goal.loop-made-init
loop-made-init g c = record { waits = refl; own = λ some. absurd (omega (arith, some)) }

pub returns-in-Ok-Some-clause-passed : goal.returns-in-Ok-Some-clause-passed
returns-in-Ok-Some-clause-passed g c = passed_by c.args.barrier.now.counts c.in-Ok-Some.passed c.loop-made.self c.poll.new.self
    (subst (λ (o : Option Passed). OnControl (Polls c.args.barrier.now.counts o) c.loop-made.self c.poll.new.self) c.in-Ok-Some.field-0-is c.in-Ok-Some.ensures.ok)

pub returns-in-Err-clause-why : goal.returns-in-Err-clause-why
returns-in-Err-clause-why g c = other_on c.args.barrier.now.counts.n c.args.self.now c.loop-made.self (waits_continue c.args.moment c.loop-made._made c.args.barrier.now.counts c.args.self.now c.loop-made.self c.loop-made.invariant.waits) c.in-Err.ensures.err.number

pub loop-made-preserved : goal.loop-made-preserved
loop-made-preserved g c = record {
  waits = waits_more c.args.moment c.loop-made._made c.args.barrier.now.counts c.args.self.now c.loop-made.self c.poll.new.self c.turn_all.new.self c.turn_all.result c.loop-made.invariant.waits
      (subst (λ (o : Option Passed). OnControl (Polls c.args.barrier.now.counts o) c.loop-made.self c.poll.new.self) c.in-Ok-None.field-0-is c.in-Ok-None.ensures.ok) c.turn_all.ensures.turns;
  own = λ _. number_on c.args.barrier.now.counts.n c.args.self.now c.loop-made.self (waits_continue c.args.moment c.loop-made._made c.args.barrier.now.counts c.args.self.now c.loop-made.self c.loop-made.invariant.waits) c.in-Ok-None.ensures.number;
}

pub returns-in-Ok-Some-poll-clause-passed : goal.returns-in-Ok-Some-poll-clause-passed
returns-in-Ok-Some-poll-clause-passed g c = passed_by c.args.barrier.now.counts c.in-Ok-Some-poll.passed c.loop-made.self c.poll-2.new.self
    (subst (λ (o : Option Passed). OnControl (Polls c.args.barrier.now.counts o) c.loop-made.self c.poll-2.new.self) c.in-Ok-Some-poll.field-0-is c.in-Ok-Some-poll.ensures.ok)

pub returns-in-Ok-None-poll-clause-why : goal.returns-in-Ok-None-poll-clause-why
returns-in-Ok-None-poll-clause-why g c = number_on c.args.barrier.now.counts.n c.args.self.now c.loop-made.self (waits_continue c.args.moment c.loop-made._made c.args.barrier.now.counts c.args.self.now c.loop-made.self c.loop-made.invariant.waits) c.in-Ok-None-poll.ensures.number

pub returns-in-Err-poll-clause-why : goal.returns-in-Err-poll-clause-why
returns-in-Err-poll-clause-why g c = other_on c.args.barrier.now.counts.n c.args.self.now c.loop-made.self (waits_continue c.args.moment c.loop-made._made c.args.barrier.now.counts c.args.self.now c.loop-made.self c.loop-made.invariant.waits) c.in-Err-poll.ensures.err.number

pub poll-requires-send-J : goal.poll-requires-send-J
poll-requires-send-J g c κs within = c.type_bounds.send-J

pub poll-requires-send-J-Receipt : goal.poll-requires-send-J-Receipt
poll-requires-send-J-Receipt g c κs within = c.type_bounds.send-J-Receipt

pub poll-requires-after_bounds : goal.poll-requires-after_bounds
poll-requires-after_bounds g c κs within = assumption

pub turn_all-requires-send-J : goal.turn_all-requires-send-J
turn_all-requires-send-J g c κs within = c.type_bounds.send-J

pub turn_all-requires-send-J-Receipt : goal.turn_all-requires-send-J-Receipt
turn_all-requires-send-J-Receipt g c κs within = c.type_bounds.send-J-Receipt

pub turn_all-requires-after_bounds : goal.turn_all-requires-after_bounds
turn_all-requires-after_bounds g c κs within = assumption

pub poll-requires-2-send-J : goal.poll-requires-2-send-J
poll-requires-2-send-J g c κs within = c.type_bounds.send-J

pub poll-requires-2-send-J-Receipt : goal.poll-requires-2-send-J-Receipt
poll-requires-2-send-J-Receipt g c κs within = c.type_bounds.send-J-Receipt

pub poll-requires-2-after_bounds : goal.poll-requires-2-after_bounds
poll-requires-2-after_bounds g c κs within = assumption

pub returns-in-Ok-Some-clause-turns : goal.returns-in-Ok-Some-clause-turns
returns-in-Ok-Some-clause-turns g c = waits_for c.args.moment c.loop-made._made c.args.barrier.now.counts (λ n. n ≤ c.args.turns) (Some c.in-Ok-Some.passed) c.args.self.now c.loop-made.self c.poll.new.self (omega (arith, c.loop-made-test.true)) c.loop-made.invariant.waits
    (subst (λ (o : Option Passed). OnControl (Polls c.args.barrier.now.counts o) c.loop-made.self c.poll.new.self) c.in-Ok-Some.field-0-is c.in-Ok-Some.ensures.ok)

pub returns-in-Err-clause-turns : goal.returns-in-Err-clause-turns
returns-in-Err-clause-turns g c =
    let none = none_made c.loop-made._made c.loop-made.invariant.own (other_on c.args.barrier.now.counts.n c.args.self.now c.loop-made.self (waits_continue c.args.moment c.loop-made._made c.args.barrier.now.counts c.args.self.now c.loop-made.self c.loop-made.invariant.waits) c.in-Err.ensures.err.number) in
    leaves_all c.args.self.now c.poll.new.self (c.in-Err.ensures.err.leaves.stays ∙ waited_none c.args.moment c.loop-made._made c.args.barrier.now.counts c.args.self.now c.loop-made.self none c.loop-made.invariant.waits)

pub returns-in-Ok-Some-poll-clause-turns : goal.returns-in-Ok-Some-poll-clause-turns
returns-in-Ok-Some-poll-clause-turns g c = waits_for c.args.moment c.loop-made._made c.args.barrier.now.counts (λ n. n ≤ c.args.turns) (Some c.in-Ok-Some-poll.passed) c.args.self.now c.loop-made.self c.poll-2.new.self (omega (arith, c.loop-made-test.false, c.loop-made.auto._made-end)) c.loop-made.invariant.waits
    (subst (λ (o : Option Passed). OnControl (Polls c.args.barrier.now.counts o) c.loop-made.self c.poll-2.new.self) c.in-Ok-Some-poll.field-0-is c.in-Ok-Some-poll.ensures.ok)

pub returns-in-Ok-None-poll-clause-turns : goal.returns-in-Ok-None-poll-clause-turns
returns-in-Ok-None-poll-clause-turns g c = waits_for c.args.moment c.loop-made._made c.args.barrier.now.counts (λ n. n ≡ c.args.turns) None c.args.self.now c.loop-made.self c.poll-2.new.self (omega (arith, c.loop-made-test.false, c.loop-made.auto._made-end)) c.loop-made.invariant.waits
    (subst (λ (o : Option Passed). OnControl (Polls c.args.barrier.now.counts o) c.loop-made.self c.poll-2.new.self) c.in-Ok-None-poll.field-0-is c.in-Ok-None-poll.ensures.ok)

pub returns-in-Err-poll-clause-turns : goal.returns-in-Err-poll-clause-turns
returns-in-Err-poll-clause-turns g c =
    let none = none_made c.loop-made._made c.loop-made.invariant.own (other_on c.args.barrier.now.counts.n c.args.self.now c.loop-made.self (waits_continue c.args.moment c.loop-made._made c.args.barrier.now.counts c.args.self.now c.loop-made.self c.loop-made.invariant.waits) c.in-Err-poll.ensures.err.number) in
    leaves_all c.args.self.now c.poll-2.new.self (c.in-Err-poll.ensures.err.leaves.stays ∙ waited_none c.args.moment c.loop-made._made c.args.barrier.now.counts c.args.self.now c.loop-made.self none c.loop-made.invariant.waits)
