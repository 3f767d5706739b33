use Rattle.std.proofs.Common.{rules, ◌∙◌, ap, sym, arith, refl}
use Rattle.rcu_world_law.specs.States.{State}
use Rattle.rcu_world_law.specs.Events.{most_wanted}
use Rattle.rcu_world_processor.specs.Members.{is_wanting, forgets}
use Rattle.rcu_world.specs.Views.{state, all_seen}
use Rattle.rcu_world.proofs.Members.{any_same, most_same, each_same}
use denote.Param.{param}
use Rattle.rcu_world.proofs.Sizes.{processor_fits}
use Rattle.rcu_world.proofs.looks.Core+J+J+Receipt.need_group.Goals as goal

pub returns-then-not-wants_member : goal.returns-then-not-wants_member
returns-then-not-wants_member g c = record {
  answers = record {
    step = (sym (any_same (state g.J.Job.key_of c.args.self.now) c.args.group is_wanting 0 (all_seen g.J.Job.key_of c.args.self.now.processors.items) (omega arith)) ∙ sym c.wants_member.ensures ∙ c.if-not-wants_member.true, refl, refl);
    given = λ a. a;
  };
}

pub returns : goal.returns
returns g c = record {
  answers = record {
    step = (
      sym (any_same (state g.J.Job.key_of c.args.self.now) c.args.group is_wanting 0 (all_seen g.J.Job.key_of c.args.self.now.processors.items) (omega arith)) ∙ sym c.wants_member.ensures ∙ c.if-not-wants_member.false,
      ap {B = State} (λ x. record (state g.J.Job.key_of c.args.self.now) { needed = x; cpus = all_seen g.J.Job.key_of c.forget_members.new.processors.items })
          (c.most_wanted-self.ensures ∙ most_same (state g.J.Job.key_of c.args.self.now) c.args.group c.args.self.now.needed 0 (all_seen g.J.Job.key_of c.args.self.now.processors.items) (omega arith))
          ∙ ap {B = State} (λ x. record (state g.J.Job.key_of c.args.self.now) { needed = most_wanted (state g.J.Job.key_of c.args.self.now) c.args.group c.args.self.now.needed 0 (all_seen g.J.Job.key_of c.args.self.now.processors.items); cpus = x })
          (c.forget_members.ensures.forgets ∙ each_same (state g.J.Job.key_of c.args.self.now) c.args.group forgets 0 (all_seen g.J.Job.key_of c.args.self.now.processors.items) (omega arith)),
      refl,
    );
    given = c.forget_members.ensures.given c.args.self.now.qhimark;
  };
}

pub wants_member-requires-send-J : goal.wants_member-requires-send-J
wants_member-requires-send-J g c κs within = c.type_bounds.send-J

pub wants_member-requires-send-J-Receipt : goal.wants_member-requires-send-J-Receipt
wants_member-requires-send-J-Receipt g c κs within = c.type_bounds.send-J-Receipt

pub wants_member-requires-after_bounds : goal.wants_member-requires-after_bounds
wants_member-requires-after_bounds g c κs within = (processor_fits (param 0 g.row.J) (param 1 g.row.J-Receipt) assumption, c.requires.stride)

pub most_wanted-self-requires-send-J : goal.most_wanted-self-requires-send-J
most_wanted-self-requires-send-J g c κs within = c.type_bounds.send-J

pub most_wanted-self-requires-send-J-Receipt : goal.most_wanted-self-requires-send-J-Receipt
most_wanted-self-requires-send-J-Receipt g c κs within = c.type_bounds.send-J-Receipt

pub most_wanted-self-requires-after_bounds : goal.most_wanted-self-requires-after_bounds
most_wanted-self-requires-after_bounds g c κs within = (processor_fits (param 0 g.row.J) (param 1 g.row.J-Receipt) assumption, c.requires.stride)

pub forget_members-requires-send-J : goal.forget_members-requires-send-J
forget_members-requires-send-J g c κs within = c.type_bounds.send-J

pub forget_members-requires-send-J-Receipt : goal.forget_members-requires-send-J-Receipt
forget_members-requires-send-J-Receipt g c κs within = c.type_bounds.send-J-Receipt

pub forget_members-requires-after_bounds : goal.forget_members-requires-after_bounds
forget_members-requires-after_bounds g c κs within = (processor_fits (param 0 g.row.J) (param 1 g.row.J-Receipt) assumption, c.requires.stride)
