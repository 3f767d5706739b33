use Rattle.std.proofs.Common.{◌++◌, ◌∙◌, take, drop, ap, arith, refl}
use Rattle.rcu_lists.specs.Blocks.{blocks_items}
use Rattle.rcu_lists.proofs.Outcomes.{on_err_said, on_ok_never}
use Rattle.rcu_lists.proofs.chain.fill_from.Goals as goal

pub move_few-requires : goal.move_few-requires
move_few-requires g c = let room = c.free_places.ensures.inline (c.free_places.ensures.items ∙ c.requires.none) in (assumption, (c.requires.few, omega (arith, room)))

pub load-requires : goal.load-requires
load-requires g c = (assumption, (c.load_first.ensures.refused c.if-load_first.false).0)

pub returns-clause-moved : goal.returns-clause-moved
returns-clause-moved g c = c.load.ensures.items ∙ c.move_first.ensures.moved ∙ ap (λ l. l ++ take c.args.number (blocks_items c.load_first.new.blocks.items)) c.in_ok-first.ensures.none
    ∙ ap (take c.args.number) (c.load_first.ensures.refused c.if-load_first.false).1

pub returns-clause-left : goal.returns-clause-left
returns-clause-left g c = c.move_first.ensures.left ∙ ap (drop c.args.number) (c.load_first.ensures.refused c.if-load_first.false).1

pub free_places-requires : goal.free_places-requires
free_places-requires g c = assumption

pub returns-then-number-le-INLINE_PLACES-clause-moved : goal.returns-then-number-le-INLINE_PLACES-clause-moved
returns-then-number-le-INLINE_PLACES-clause-moved g c = c.move_few.ensures.moved ∙ ap (λ l. l ++ take c.args.number (blocks_items c.args.blocks.now.items)) (c.free_places.ensures.items ∙ c.requires.none)

pub returns-then-number-le-INLINE_PLACES-clause-left : goal.returns-then-number-le-INLINE_PLACES-clause-left
returns-then-number-le-INLINE_PLACES-clause-left g c = c.move_few.ensures.left

pub returns-then-number-le-INLINE_PLACES-clause-inline : goal.returns-then-number-le-INLINE_PLACES-clause-inline
returns-then-number-le-INLINE_PLACES-clause-inline g c = λ _. refl

pub load_first-requires : goal.load_first-requires
load_first-requires g c = (assumption, c.requires.none)

pub returns-then-load_first-clause-moved : goal.returns-then-load_first-clause-moved
returns-then-load_first-clause-moved g c = (c.load_first.ensures.loaded c.if-load_first.true).0

pub returns-then-load_first-clause-left : goal.returns-then-load_first-clause-left
returns-then-load_first-clause-left g c = (c.load_first.ensures.loaded c.if-load_first.true).1

pub returns-then-load_first-clause-inline : goal.returns-then-load_first-clause-inline
returns-then-load_first-clause-inline g c = λ _. refl

pub returns-in_err-first-clause-moved : goal.returns-in_err-first-clause-moved
returns-in_err-first-clause-moved g c = on_ok_never c.from_residual.result _ c.from_residual.ensures

pub returns-in_err-first-clause-left : goal.returns-in_err-first-clause-left
returns-in_err-first-clause-left g c = on_ok_never c.from_residual.result _ c.from_residual.ensures

pub returns-in_err-first-clause-inline : goal.returns-in_err-first-clause-inline
returns-in_err-first-clause-inline g c = λ few. absurd (omega (arith, few, c.if-number-le-INLINE_PLACES.false))

pub returns-in_err-first-clause-refused : goal.returns-in_err-first-clause-refused
returns-in_err-first-clause-refused g c = let same = c.load_first.ensures.refused c.if-load_first.false in on_err_said c.from_residual.result _ (same.1, same.0)

pub move_first-requires-clause-few : goal.move_first-requires-clause-few
move_first-requires-clause-few g c = rw (c.load_first.ensures.refused c.if-load_first.false).1 c.requires.few

pub move_first-requires-clause-room : goal.move_first-requires-clause-room
move_first-requires-clause-room g c = c.in_ok-first.ensures.room

pub returns-clause-inline : goal.returns-clause-inline
returns-clause-inline g c = λ _. refl

pub returns-then-number-le-INLINE_PLACES-clause-refused : goal.returns-then-number-le-INLINE_PLACES-clause-refused
returns-then-number-le-INLINE_PLACES-clause-refused g c = tt

pub returns-then-load_first-clause-refused : goal.returns-then-load_first-clause-refused
returns-then-load_first-clause-refused g c = tt

pub returns-clause-refused : goal.returns-clause-refused
returns-clause-refused g c = tt
