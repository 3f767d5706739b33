use Rattle.std.proofs.Common.{rules, ◌∙◌, ap, sym, arith, refl, subst}
use Rattle.rcu_world_law.specs.States.{State}
use Rattle.rcu_world_law.specs.Steps.{group_looks}
use Rattle.rcu_world_law.specs.Events.{each_cpu}
use Rattle.rcu_world.specs.Members.{AreLookable, group_step, is_any}
use Rattle.rcu_world.specs.Views.{state, all_seen}
use Rattle.rcu_world.proofs.Members.{any_same, each_same, lookable}
use denote.Param.{param}
use Rattle.rcu_world.proofs.Sizes.{processor_fits}
use Rattle.rcu_world.proofs.looks.Core+J+J+Receipt.look_group.Goals as goal

pub returns-then-not-has_member : goal.returns-then-not-has_member
returns-then-not-has_member g c = record {
  answers = record {
    step = (sym (any_same (state g.J.Job.key_of c.args.self.now) c.args.group is_any 0 (all_seen g.J.Job.key_of c.args.self.now.processors.items) (omega arith)) ∙ sym c.has_member.ensures ∙ c.if-not-has_member.true, refl, refl);
    given = λ a. a;
  };
}

pub returns : goal.returns
returns g c = record {
  answers = record {
    step = (
      sym (any_same (state g.J.Job.key_of c.args.self.now) c.args.group is_any 0 (all_seen g.J.Job.key_of c.args.self.now.processors.items) (omega arith)) ∙ sym c.has_member.ensures ∙ c.if-not-has_member.false,
      ap {B = State} (λ x. record (state g.J.Job.key_of c.args.self.now) { cpus = x })
          (c.look_members.ensures.looks ∙ ap (λ s. each_cpu (group_step c.args.self.now.offloadable.items c.args.self.now.stride c.args.group s) 0 (all_seen g.J.Job.key_of c.args.self.now.processors.items)) c.number-number.ensures
          ∙ each_same (state g.J.Job.key_of c.args.self.now) c.args.group (group_looks c.args.self.now.board.number) 0 (all_seen g.J.Job.key_of c.args.self.now.processors.items) (omega arith)),
      refl,
    );
    given = c.look_members.ensures.given c.args.self.now.qhimark;
  };
}

pub look_members-requires-send-J : goal.look_members-requires-send-J
look_members-requires-send-J g c κs within = c.type_bounds.send-J

pub look_members-requires-send-J-Receipt : goal.look_members-requires-send-J-Receipt
look_members-requires-send-J-Receipt g c κs within = c.type_bounds.send-J-Receipt

pub look_members-requires-after_bounds : goal.look_members-requires-after_bounds
look_members-requires-after_bounds g c κs within = (processor_fits (param 0 g.row.J) (param 1 g.row.J-Receipt) assumption, (c.requires.stride, subst (λ s. AreLookable s (all_seen g.J.Job.key_of c.args.self.now.processors.items)) (sym c.number-number.ensures) (lookable (state g.J.Job.key_of c.args.self.now) c.requires.core)))

pub has_member-requires-send-J : goal.has_member-requires-send-J
has_member-requires-send-J g c κs within = c.type_bounds.send-J

pub has_member-requires-send-J-Receipt : goal.has_member-requires-send-J-Receipt
has_member-requires-send-J-Receipt g c κs within = c.type_bounds.send-J-Receipt

pub has_member-requires-after_bounds : goal.has_member-requires-after_bounds
has_member-requires-after_bounds g c κs within = (processor_fits (param 0 g.row.J) (param 1 g.row.J-Receipt) assumption, c.requires.stride)
