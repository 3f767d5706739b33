use Rattle.std.proofs.Common.{sym, ap, ◌∙◌, refl}
use Rattle.rcu_lists.specs.Batches.{batch_items}
use Rattle.rcu_lists.specs.Release.{is_due, held}
use Rattle.rcu_lists.proofs.Fills.{no-snoc}
use Rattle.rcu_lists.proofs.Rooms.{length-one_more}
use Rattle.rcu_lists.proofs.Sizes.{bypass-batch}
use denote.Param.{param}
use Rattle.rcu_lists.proofs.bypass.Bypass.hold.Goals as goal

pub invariant_of-self : goal.invariant_of-self
invariant_of-self g c = record {
  unmarked = λ e. absurd (no-snoc (batch_items c.args.self.now.held) c.args.callback (sym c.add.ensures.items ∙ e));
  marked = λ p l. absurd (c.hold.ensures.some p l);
  roomy = λ e. absurd (no-snoc (batch_items c.args.self.now.held) c.args.callback (sym c.add.ensures.items ∙ e));
}

pub returns-clause-due : goal.returns-clause-due
returns-clause-due g c = let s = c.args.self.now in
    c.hold.ensures.due ∙ ap (λ n. is_due c.args.moment c.args.kind s.pace n s.qhimark) (c.len-len.ensures ∙ length-one_more _ _ c.args.callback c.add.ensures.items)

pub returns-clause-pace : goal.returns-clause-pace
returns-clause-pace g c =
    c.hold.ensures.held ∙ ap (λ n. held c.args.moment c.args.kind c.args.self.now.pace n) (c.len-len.ensures ∙ length-one_more _ _ c.args.callback c.add.ensures.items)

pub returns-clause-room : goal.returns-clause-room
returns-clause-room g c = c.add.ensures.room

pub add-requires : goal.add-requires
add-requires g c = (bypass-batch (param 0 g.row.J) assumption, c.requires)

pub len-len-requires : goal.len-len-requires
len-len-requires g c = bypass-batch (param 0 g.row.J) assumption

pub returns-clause-items : goal.returns-clause-items
returns-clause-items g c = c.add.ensures.items

pub returns-clause-qhimark : goal.returns-clause-qhimark
returns-clause-qhimark g c = refl
