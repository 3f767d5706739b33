use Rattle.std.proofs.Common.{◌-◌, ◌∙◌, ap, refl, sym, arith, set}
use Rattle.std.proofs.lemmas.Bool.{false≢true}
use Rattle.std.proofs.lemmas.List.{set-get_or}
use Rattle.rcu_lists.specs.Batches.{batch_items}
use Rattle.rcu_lists.specs.Blocks.{blocks_items}
use Rattle.rcu_lists.proofs.Blocks.{blocks-longer}
use Rattle.rcu_lists.proofs.chain.join_last.Goals as goal

pub returns-clause-joined : goal.returns-clause-joined
returns-clause-joined g c = λ _. let blocks = c.args.blocks.now in let some = c.in-Some.ensures.variant.0 refl in
    (blocks-longer (blocks.len - 1) blocks.items c.in-Some.last.now c.take_on.new.self (batch_items c.args.batch.now) (omega (arith, some, blocks.ok.0)) c.in-Some.ensures.value c.take_on.ensures.items, c.take_on.ensures.left)

pub part_some-blocks : goal.part_some-blocks
part_some-blocks g c = (c.in-Some.is, refl)

pub part_none-blocks : goal.part_none-blocks
part_none-blocks g c = (c.in_default.is, refl)

pub returns-in_default-clause-joined : goal.returns-in_default-clause-joined
returns-in_default-clause-joined g c = λ e. absurd (false≢true e)

pub returns-in_default-clause-refused : goal.returns-in_default-clause-refused
returns-in_default-clause-refused g c = λ _. (refl, refl)

pub len-requires : goal.len-requires
len-requires g c = assumption

pub returns-then-room-len-clause-joined : goal.returns-then-room-len-clause-joined
returns-then-room-len-clause-joined g c = λ e. absurd (false≢true e)

pub returns-then-room-len-clause-refused : goal.returns-then-room-len-clause-refused
returns-then-room-len-clause-refused g c = λ _. let bs = c.args.blocks.now.items in let i = c.args.blocks.now.len - 1 in let last = c.in-Some.last.now in
    (ap (λ b. blocks_items (set bs i b)) c.in-Some.ensures.value ∙ ap blocks_items (set-get_or bs i last), refl)

pub take_on-requires : goal.take_on-requires
take_on-requires g c = (assumption, let room = c.room.ensures in omega (arith, room, c.if-room-len.false, c.len.ensures))

pub returns-clause-refused : goal.returns-clause-refused
returns-clause-refused g c = λ e. absurd (false≢true (sym e))
