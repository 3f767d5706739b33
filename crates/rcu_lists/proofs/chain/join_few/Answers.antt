use Rattle.std.proofs.Common.{◌≡◌, ◌++◌, ◌∙◌, ap, sym, arith}
use Rattle.std.proofs.lemmas.Bool.{false≢true}
use Rattle.rcu_lists.specs.Batches.{batch_items}
use Rattle.rcu_lists.specs.Blocks.{blocks_items}
use Rattle.rcu_lists.proofs.Blocks.{blocks-more}
use Rattle.rcu_lists.proofs.chain.join_few.Goals as goal

pub returns-in-Ok-with_capacity-clause-joined : goal.returns-in-Ok-with_capacity-clause-joined
returns-in-Ok-with_capacity-clause-joined g c = λ _. let stays = c.join_last.ensures.refused c.if-join_last.false in
    let same : blocks_items c.reserve.new.self.items ≡ blocks_items c.args.blocks.now.items = ap blocks_items c.reserve.ensures.items ∙ stays.0 in
    let block = c.take_on.ensures.items ∙ ap (λ l. l ++ batch_items c.join_last.new.batch) c.in-Ok-with_capacity.ensures.none ∙ stays.1 in (
      ap blocks_items c.push_back_reserved.ensures.items ∙ blocks-more c.reserve.new.self.items c.take_on.new.self
          ∙ ap (λ l. blocks_items c.reserve.new.self.items ++ l) block ∙ ap (λ l. l ++ batch_items c.args.batch.now) same,
      c.take_on.ensures.left,
    )

pub returns-in-Err-with_capacity-clause-refused : goal.returns-in-Err-with_capacity-clause-refused
returns-in-Err-with_capacity-clause-refused g c = λ _. let stays = c.join_last.ensures.refused c.if-join_last.false in (ap blocks_items c.reserve.ensures.items ∙ stays.0, stays.1)

pub join_last-requires : goal.join_last-requires
join_last-requires g c = assumption

pub returns-then-join_last-clause-joined : goal.returns-then-join_last-clause-joined
returns-then-join_last-clause-joined g c = λ _. c.join_last.ensures.joined c.if-join_last.true

pub returns-then-join_last-clause-refused : goal.returns-then-join_last-clause-refused
returns-then-join_last-clause-refused g c = λ e. absurd (false≢true (sym e))

pub returns-in-Err-clause-joined : goal.returns-in-Err-clause-joined
returns-in-Err-clause-joined g c = λ e. absurd (false≢true e)

pub returns-in-Err-clause-refused : goal.returns-in-Err-clause-refused
returns-in-Err-clause-refused g c = λ _. let stays = c.join_last.ensures.refused c.if-join_last.false in (ap blocks_items c.reserve.ensures.items ∙ stays.0, stays.1)

pub len-number-requires : goal.len-number-requires
len-number-requires g c = assumption

pub take_on-requires : goal.take_on-requires
take_on-requires g c = (assumption, let room = c.in-Ok-with_capacity.ensures.room in omega (arith, room, c.max.ensures, c.len-number.ensures))

pub push_back_reserved-requires : goal.push_back_reserved-requires
push_back_reserved-requires g c = let room = c.in-Ok.ensures.ok in omega (arith, room)

pub returns-in-Ok-with_capacity-clause-refused : goal.returns-in-Ok-with_capacity-clause-refused
returns-in-Ok-with_capacity-clause-refused g c = λ e. absurd (false≢true (sym e))

pub returns-in-Err-with_capacity-clause-joined : goal.returns-in-Err-with_capacity-clause-joined
returns-in-Err-with_capacity-clause-joined g c = λ e. absurd (false≢true e)
