use Rattle.std.proofs.Common.{refl}
use Rattle.rcu_lists.specs.Bypasses.{bypass_items}
use Rattle.rcu_lists.specs.Release.{is_any}
use Rattle.rcu_part_lists.proofs.Releases.{some-in, none-in, other}
use Rattle.rcu_part_lists.proofs.sends.send_if_any.Goals as goal

pub returns-then-not-is_empty-clause-released : goal.returns-then-not-is_empty-clause-released
returns-then-not-is_empty-clause-released g c =
    let xs = bypass_items c.args.bypass.now in
    record { none = λ e. absurd (other (is_any xs) (some-in c.is_empty.result xs c.is_empty.ensures c.if-not-is_empty.true) e); some = λ _. c.send.ensures.released }

pub returns-else-not-is_empty-clause-released : goal.returns-else-not-is_empty-clause-released
returns-else-not-is_empty-clause-released g c =
    let xs = bypass_items c.args.bypass.now in
    record { none = λ _. refl; some = λ e. absurd (other (is_any xs) e (none-in c.is_empty.result xs c.is_empty.ensures c.if-not-is_empty.false)) }

pub is_empty-requires : goal.is_empty-requires
is_empty-requires g c = assumption

pub send-requires : goal.send-requires
send-requires g c = (assumption, (c.requires.safe, c.requires.few))

pub returns-then-not-is_empty-clause-safe : goal.returns-then-not-is_empty-clause-safe
returns-then-not-is_empty-clause-safe g c = c.send.ensures.safe

pub returns-else-not-is_empty-clause-safe : goal.returns-else-not-is_empty-clause-safe
returns-else-not-is_empty-clause-safe g c = c.requires.safe
