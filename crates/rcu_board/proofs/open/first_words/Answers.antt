use Rattle.std.proofs.Common.{ℕ, List, ◌≡◌, ◌+◌, ◌∙◌, ◌∷◌, ◌++◌, [], ap, length, arith}
use Rattle.rcu_board.specs.Views.{first_from, first_word}
use Rattle.rcu_board.specs.Words.{words_of}
use Rattle.rcu_board.proofs.Opening.{first_more, first_none, first-long}
use Rattle.std.proofs.lemmas.Result.{IfOk-from_err}
use Rattle.rcu_board.proofs.open.first_words.Goals as goal

pub word_count-i-end-requires : goal.word_count-i-end-requires
word_count-i-end-requires c = let few = c.args.shape.now.within.some_processors in omega arith

pub loop-i-init : goal.loop-i-init
loop-i-init c = c.new-words.ensures.items ∙ first_none c.args.shape.now.offloadable

pub loop-i-preserved : goal.loop-i-preserved
loop-i-preserved c = let o = c.args.shape.now.offloadable in let from : c.loop-i.i ≡ 0 + c.loop-i.i = omega arith in
    c.in_ok-push.ensures.items ∙ ap (λ (x : ℕ). c.loop-i.words.items ++ x ∷ []) c.first_word.ensures
    ∙ ap (λ (l : List ℕ). l ++ first_word o c.loop-i.i ∷ []) c.loop-i.invariant
    ∙ ap (λ (k : ℕ). first_from o 0 c.loop-i.i ++ first_word o k ∷ []) from ∙ first_more o 0 c.loop-i.i

pub returns-clause-words : goal.returns-clause-words
returns-clause-words c = let n = c.args.shape.now.processors in let over = c.loop-i-test.false in let last = c.loop-i.auto.i-end in let many = c.word_count-i-end.ensures in
    let same : c.loop-i.i ≡ words_of n = omega arith in c.loop-i.invariant ∙ ap (first_from c.args.shape.now.offloadable 0) same

pub returns-clause-long : goal.returns-clause-long
returns-clause-long c = let n = c.args.shape.now.processors in let over = c.loop-i-test.false in let last = c.loop-i.auto.i-end in let many = c.word_count-i-end.ensures in
    let same : c.loop-i.i ≡ words_of n = omega arith in ap (λ (l : List ℕ). length l) c.loop-i.invariant ∙ first-long c.args.shape.now.offloadable 0 c.loop-i.i ∙ same

pub returns-in_err-push-clause-words : goal.returns-in_err-push-clause-words
returns-in_err-push-clause-words c = IfOk-from_err _ _ c.from_residual.ensures.0

pub returns-in_err-push-clause-long : goal.returns-in_err-push-clause-long
returns-in_err-push-clause-long c = IfOk-from_err _ _ c.from_residual.ensures.0
