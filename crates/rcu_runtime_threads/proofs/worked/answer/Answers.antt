use Rattle.std.proofs.Common.{refl, rules, subst, sym}
use Rattle.rcu_runtime_threads.specs.Steers.{LooksIf}
use Rattle.rcu_runtime.proofs.Wholes.{continues_itself}
use Rattle.rcu_runtime_threads.proofs.Sends.{sent_as}
use Rattle.rcu_runtime_threads.proofs.worked.answer.Goals as goal

pub returns-then-not-has_begun-clause-continues : goal.returns-then-not-has_begun-clause-continues
returns-then-not-has_begun-clause-continues g c = continues_itself c.args.runtime

pub returns-then-is_settled-clause-drained : goal.returns-then-is_settled-clause-drained
returns-then-is_settled-clause-drained g c = λ asked. c.is_settled-is_settled.ensures.drained asked c.if-is_settled.true

pub returns-then-is_settled-clause-run : goal.returns-then-is_settled-clause-run
returns-then-is_settled-clause-run g c = λ asked. c.is_settled-is_settled.ensures.run asked c.if-is_settled.true

pub is_settled-is_settled-requires-send-J : goal.is_settled-is_settled-requires-send-J
is_settled-is_settled-requires-send-J g c κs within = c.type_bounds.send-J

pub is_settled-is_settled-requires-send-J-Receipt : goal.is_settled-is_settled-requires-send-J-Receipt
is_settled-is_settled-requires-send-J-Receipt g c κs within = sent_as 2 1 g.row.J-Receipt c.type_bounds.send-J-Receipt

pub is_settled-is_settled-requires-after_bounds : goal.is_settled-is_settled-requires-after_bounds
is_settled-is_settled-requires-after_bounds g c κs within = assumption

pub returns-then-not-has_begun-clause-fault : goal.returns-then-not-has_begun-clause-fault
returns-then-not-has_begun-clause-fault g c = search rules

pub returns-then-not-has_begun-clause-back : goal.returns-then-not-has_begun-clause-back
returns-then-not-has_begun-clause-back g c = refl

pub returns-then-not-has_begun-clause-ends : goal.returns-then-not-has_begun-clause-ends
returns-then-not-has_begun-clause-ends g c = refl

pub returns-then-is_settled-clause-continues : goal.returns-then-is_settled-clause-continues
returns-then-is_settled-clause-continues g c = c.is_settled-is_settled.ensures.continues

pub returns-then-is_settled-clause-workers : goal.returns-then-is_settled-clause-workers
returns-then-is_settled-clause-workers g c = (refl, refl)

pub returns-clause-continues : goal.returns-clause-continues
returns-clause-continues g c = c.is_settled-is_settled.ensures.continues

pub returns-clause-back : goal.returns-clause-back
returns-clause-back g c = refl

pub returns-clause-ends : goal.returns-clause-ends
returns-clause-ends g c = refl

pub returns-clause-fault : goal.returns-clause-fault
returns-clause-fault g c = (c.if-not-has_begun.false, λ e. absurd (let yes = c.is_settled-is_settled.ensures.at_once e in let no = c.if-is_settled.false in cc))

pub returns-then-not-has_begun-clause-looks_back : goal.returns-then-not-has_begun-clause-looks_back
returns-then-not-has_begun-clause-looks_back g c = subst (λ b. LooksIf b c.args.ending c.args.runtime c.args.runtime) (sym c.if-not-has_begun.true) refl

pub returns-then-is_settled-clause-begun : goal.returns-then-is_settled-clause-begun
returns-then-is_settled-clause-begun g c = c.if-not-has_begun.false

pub returns-then-is_settled-clause-looks : goal.returns-then-is_settled-clause-looks
returns-then-is_settled-clause-looks g c = c.is_settled-is_settled.ensures.looks

pub returns-clause-looks_back : goal.returns-clause-looks_back
returns-clause-looks_back g c = subst (λ b. LooksIf b c.args.ending c.args.runtime c.is_settled-is_settled.new.runtime) (sym c.if-not-has_begun.false) c.is_settled-is_settled.ensures.looks
