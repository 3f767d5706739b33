use Rattle.std.proofs.Common.{◌<◌, ◌^◌, ◌==◌, rules, ap, sym, ◌∙◌}
use Rattle.rcu_world.proofs.Masks.{mask_of, mask_of_board, none_owed}
use Rattle.rcu_world.proofs.boards.Board.none_owes.Goals as goal

pub returns : goal.returns
returns c =
    let fits : c.self.inside.word.mask < 2 ^ 32 = search rules in
    ap (λ m. m == 0) (c.mask.ensures ∙ sym (mask_of_board c.self.inside.processors c.self.inside.word c.self.invariant fits) ∙ ap (λ b. mask_of b.owing) c.self.view_is)
    ∙ none_owed c.args.self.now.owing
