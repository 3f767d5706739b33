use Rattle.std.proofs.Common.{◌∙◌, refl}
use Rattle.rcu_lists.proofs.bypass.Bypass.is_late.Goals as goal

pub returns-clause-late : goal.returns-clause-late
returns-clause-late g c = c.is_late.ensures

pub returns-clause-empty : goal.returns-clause-empty
returns-clause-empty g c = λ e. let none = c.args.self.now.unmarked e in c.is_late.ensures ∙ rw (none.0, none.1) refl
