use Rattle.std.proofs.Common.{◌≡◌, ◌∙◌, ap, sym, subst, arith}
use Rattle.std.proofs.lemmas.Result.{on_ok_weaker}
use Rattle.std.specs.Mem.{FitsInMemory}
use Rattle.rcu_lists.specs.Batches.{batch_items, HasRoom}
use Rattle.rcu_lists.proofs.Outcomes.{on_err_so}
use Rattle.rcu_lists.proofs.Sizes.{in_first}
use Rattle.rcu_lists.specs.declared.batch.Batch.{Batch}
use Rattle.rcu_lists.specs.contracts.batch.Batch as row
use denote.Param.{param}
use Rattle.rcu_lists.proofs.batch.Batch.grow.Goals.{then-fewest-usual+in-Err, else-fewest-usual}
use Rattle.rcu_lists.proofs.batch.Batch.grow.Goals as goal

pub returns-clause-room : goal.returns-clause-room
returns-clause-room g c =
    let same : c.if-fewest-usual.self ≡ c.args.self.now = elim c.if-fewest-usual.branch [
      | then-fewest-usual+in-Err w ↦ w.self-is ∙ w.in-Err.ensures.refused
      | else-fewest-usual w ↦ w.self-is
    ] in λ k h. c.ask-2.ensures.room k (subst (λ (b : Batch g.row.J.Denot). HasRoom b k) (sym same) h)

pub returns-clause-refused : goal.returns-clause-refused
returns-clause-refused g c =
    let same : c.if-fewest-usual.self ≡ c.args.self.now = elim c.if-fewest-usual.branch [
      | then-fewest-usual+in-Err w ↦ w.self-is ∙ w.in-Err.ensures.refused
      | else-fewest-usual w ↦ w.self-is
    ] in on_err_so c.ask-2.result (λ e. e ∙ same) c.ask-2.ensures.refused

pub len-requires : goal.len-requires
len-requires g c = let h : FitsInMemory (row.the_row (param 0 g.row.J)) = assumption in in_first _ _ _ _ _ _ _ h

pub ask-requires : goal.ask-requires
ask-requires g c = assumption

pub returns-in-Ok-clause-items : goal.returns-in-Ok-clause-items
returns-in-Ok-clause-items g c = c.in-Ok.ensures.items

pub returns-in-Ok-clause-found : goal.returns-in-Ok-clause-found
returns-in-Ok-clause-found g c = let room = c.in-Ok.ensures.found in omega (arith, room, c.max-fewest.ensures, c.if-fewest-usual.true)

pub returns-in-Ok-clause-room : goal.returns-in-Ok-clause-room
returns-in-Ok-clause-room g c = c.in-Ok.ensures.room

pub ask-requires-2 : goal.ask-requires-2
ask-requires-2 g c = assumption

pub returns-clause-items : goal.returns-clause-items
returns-clause-items g c = c.ask-2.ensures.items ∙ elim c.if-fewest-usual.branch [
  | then-fewest-usual+in-Err w ↦ ap batch_items w.self-is ∙ w.in-Err.ensures.items
  | else-fewest-usual w ↦ ap batch_items w.self-is
]

pub returns-clause-found : goal.returns-clause-found
returns-clause-found g c = on_ok_weaker c.ask-2.result (λ room. omega (arith, room, c.max-fewest.ensures)) c.ask-2.ensures.found
