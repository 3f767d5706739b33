use Rattle.std.proofs.Common.{sym, ap, subst, ◌∙◌}
use Rattle.rcu_board.specs.Roles.{IsProcessor}
use Rattle.rcu_board.specs.declared.view.View.{View}
use Rattle.test_board.proofs.tests.accept_one.Goals as goal

pub accept-requires-clause-who : goal.accept-requires-clause-who
accept-requires-clause-who c = subst IsProcessor (sym c.requires.who) tt

pub accept-requires-clause-board : goal.accept-requires-clause-board
accept-requires-clause-board c = c.requires.board

pub accept-requires-clause-count : goal.accept-requires-clause-count
accept-requires-clause-count c = c.requires.count

pub accept-requires-clause-stamped : goal.accept-requires-clause-stamped
accept-requires-clause-stamped c = c.requires.stamped

pub look-requires : goal.look-requires
look-requires c = c.in-Some.ensures.same.table ∙ c.requires.board

pub returns-clause-same : goal.returns-clause-same
returns-clause-same c = let a = c.in-Some.ensures.same in let l = c.look.ensures.same in record {
  role = l.role ∙ a.role;
  table = l.table ∙ a.table;
  weight = l.weight ∙ a.weight;
}

pub returns-clause-rests : goal.returns-clause-rests
returns-clause-rests c = ap (λ (v : View). v.running) c.look.ensures.view ∙ ap (λ (v : View). v.running) c.in-Some.ensures.won ∙ c.requires.rests
