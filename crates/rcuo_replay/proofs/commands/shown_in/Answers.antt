use Rattle.std.proofs.Common.{None, sym, subst, arith}
use Rattle.std.proofs.lemmas.List.{take_all}
use Rattle.std.proofs.lemmas.List.Elements.{All-more, All-same}
use Rattle.rcu_part_group.specs.Groups.{ShownFor, members_of}
use Rattle.rcu_part_group.specs.declared.group.Group.{Group}
use Rattle.rcuo_replay.proofs.commands.shown_in.Goals as goal

pub returns-in-Some : goal.returns-in-Some
returns-in-Some g c = (c.loop-place.place, c.index.result.now, omega arith, sym c.index.ensures, c.in-Some.ensures)

pub loop-place-preserved : goal.loop-place-preserved
loop-place-preserved g c =
    let none : Group g.row.J.Denot g.row.J-Receipt.Denot → Type 0 = λ x. ShownFor c.args.cpu None (members_of x.state) in
    All-more none c.args.groups.now.items c.loop-place.place c.index.result.now (omega arith) c.loop-place.invariant (subst none c.index.ensures c.in_default.ensures)

pub returns : goal.returns
returns g c = All-same (λ x. ShownFor c.args.cpu None (members_of x.state)) c.args.groups.now.items _ (sym (take_all c.loop-place.place c.args.groups.now.items (omega arith))) c.loop-place.invariant

pub lists-requires-send-J : goal.lists-requires-send-J
lists-requires-send-J g c κs within = c.type_bounds.send-J

pub lists-requires-send-J-Receipt : goal.lists-requires-send-J-Receipt
lists-requires-send-J-Receipt g c κs within = c.type_bounds.send-J-Receipt

pub lists-requires-after_bounds : goal.lists-requires-after_bounds
lists-requires-after_bounds g c κs within = assumption
