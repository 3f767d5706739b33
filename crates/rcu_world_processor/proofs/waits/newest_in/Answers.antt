use Rattle.std.proofs.Common.{◌≡◌, ◌∙◌, max, ap, sym, rules, None, Some}
use Rattle.rcu_lists.specs.Labels.{callbacks_of}
use Rattle.rcu_lists.specs.Segments.{labelled}
use Rattle.rcu_lists.specs.Stamps.{greater, newest_of}
use Rattle.rcu_world_processor.proofs.Waiting.{newest_as}
use Rattle.rcu_world_processor.proofs.waits.newest_in.Goals as goal

pub returns-in-None : goal.returns-in-None
returns-in-None g c = let e : newest_of (callbacks_of (labelled c.args.list.now)) ≡ None = search rules in
    ap (greater c.args.number) (sym e) ∙ sym (newest_as g.J.Job.key_of c.args.number (labelled c.args.list.now))

pub returns-in-Some : goal.returns-in-Some
returns-in-Some g c = let e : newest_of (callbacks_of (labelled c.args.list.now)) ≡ Some c.in-Some.stamp = search rules in
    let m : c.max.result ≡ max c.args.number c.in-Some.stamp = search rules in
    m ∙ ap (greater c.args.number) (sym e) ∙ sym (newest_as g.J.Job.key_of c.args.number (labelled c.args.list.now))
