use Rattle.rcu_setup.specs.Numbers.{default_stride_of, whole_root}
use Rattle.rcu_setup.proofs.Roots.{is_whole_root}
use Rattle.rcu_setup.proofs.numbers.stride_of.Goals as goal

pub returns-clause-value : goal.returns-clause-value
unfolding default_stride_of
returns-clause-value c = c.default_stride.ensures.stride (whole_root c.args.n) (is_whole_root c.args.n)
