use Rattle.std.proofs.Common.{◌≡◌, ◌∙◌, min, ap, sym, rules}
use Rattle.rcu_world_processor.specs.Views.{seen}
use Rattle.rcu_world_processor.proofs.Amounts.{given_done, given_out}
use Rattle.rcu_world_processor.proofs.Sizes.{batch_fits}
use Rattle.rcu_world_processor.proofs.counts.WorldProcessor+J+J+Receipt.given_len.Goals as goal

pub returns-then-is_spent : goal.returns-then-is_spent
returns-then-is_spent g c = let o = seen g.J.Job.key_of c.args.self.now in
    let m : c.min.result ≡ min c.args.blimit c.count_done.result = search rules in
    m ∙ ap (min c.args.blimit) c.count_done.ensures ∙ sym (given_done c.args.blimit o (sym c.is_spent.ensures ∙ c.if-is_spent.true))

pub returns : goal.returns
returns g c = let o = seen g.J.Job.key_of c.args.self.now in c.batch_len.ensures ∙ sym (given_out c.args.blimit o (sym c.is_spent.ensures ∙ c.if-is_spent.false))

pub is_spent-requires-after_bounds : goal.is_spent-requires-after_bounds
is_spent-requires-after_bounds g c κs within = batch_fits g.row.J g.row.J-Receipt assumption

pub batch_len-requires-after_bounds : goal.batch_len-requires-after_bounds
batch_len-requires-after_bounds g c κs within = batch_fits g.row.J g.row.J-Receipt assumption
