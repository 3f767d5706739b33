use Rattle.std.proofs.Common.{◌≡◌, ◌∙◌, ◌||◌, true, false, not, ap, sym}
use Rattle.std.specs.Prelude.{nat_lt}
use Rattle.rcu_world_law.specs.LabelledLists.{done_count}
use Rattle.rcu_world_law.specs.Lists.{is_nil}
use Rattle.rcu_world_law.proofs.Releases.{something_given}
use Rattle.rcu_world_processor.specs.Views.{seen}
use Rattle.rcu_world_processor.proofs.Sizes.{batch_fits}
use Rattle.rcu_world_processor.proofs.moves.WorldProcessor+J+J+Receipt.can_give.Goals as goal

pub returns : goal.returns
returns g c = let o = seen g.J.Job.key_of c.args.self.now in
    let f : not (is_nil o.out) ≡ false = ap not (sym c.is_spent.ensures ∙ c.if-not-is_spent.false) in
    ap (nat_lt 0) c.count_done.ensures ∙ sym (something_given c.args.blimit o c.requires ∙ ap (λ b. b || nat_lt 0 (done_count o.joined)) f)

pub is_spent-requires-after_bounds : goal.is_spent-requires-after_bounds
is_spent-requires-after_bounds g c κs within = batch_fits g.row.J g.row.J-Receipt assumption

pub returns-then-not-is_spent : goal.returns-then-not-is_spent
returns-then-not-is_spent g c = let o = seen g.J.Job.key_of c.args.self.now in
    let f : not (is_nil o.out) ≡ true = ap not (sym c.is_spent.ensures ∙ c.if-not-is_spent.true) in
    sym (something_given c.args.blimit o c.requires ∙ ap (λ b. b || nat_lt 0 (done_count o.joined)) f)
