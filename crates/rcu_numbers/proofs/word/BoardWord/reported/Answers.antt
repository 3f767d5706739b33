use Rattle.std.proofs.Common.{◌≡◌, ◌∙◌, sym, ap, arith}
use Rattle.std.specs.Prelude.{bit_and}
use Rattle.rcu_numbers.specs.Words.{mask_of, number_of, owes_of}
use Rattle.rcu_numbers.proofs.WordLaws.{clear_same, clear_other, clear_number, owes-mask}
use Rattle.rcu_numbers.proofs.word.BoardWord.reported.Goals as goal

pub returns-clause-number : goal.returns-clause-number
returns-clause-number c =
    ap (λ m. number_of (bit_and c.self.inside.bits m)) c.all_but.ensures
    ∙ clear_number c.self.inside.bits c.args.p c.requires (omega (arith, c.self.invariant))
    ∙ ap (λ b. b.seq) c.self.view_is

-- who owes after the report, by the bits of the word before it
pub returns-clause-cleared : goal.returns-clause-cleared
returns-clause-cleared c = λ e.
    let was : owes_of (mask_of (bit_and c.self.inside.bits c.all_but.result)) c.args.p ≡ 0 =
    owes-mask (bit_and c.self.inside.bits c.all_but.result) c.args.p c.requires
    ∙ ap (λ m. owes_of (bit_and c.self.inside.bits m) c.args.p) c.all_but.ensures
    ∙ clear_same c.self.inside.bits c.args.p c.requires in
    omega (arith, was, e)

pub returns-clause-others : goal.returns-clause-others
returns-clause-others c = λ q h n.
    let same : owes_of (mask_of (bit_and c.self.inside.bits c.all_but.result)) q ≡ owes_of c.args.self.mask q =
    owes-mask (bit_and c.self.inside.bits c.all_but.result) q h
    ∙ ap (λ m. owes_of (bit_and c.self.inside.bits m) q) c.all_but.ensures
    ∙ clear_other c.self.inside.bits c.args.p q c.requires h n
    ∙ sym (owes-mask c.self.inside.bits q h)
    ∙ ap (λ b. owes_of b.mask q) c.self.view_is in
    (λ e. sym same ∙ e, λ e. same ∙ e)
