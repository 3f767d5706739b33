use Rattle.std.proofs.Common.{refl, ◌<◌, ◌≡◌, length, arith, subst, sym, ap, ◌∙◌, drop, take, ◌+◌, ◌++◌, set, cond}
use Rattle.std.proofs.lemmas.List.{length-set, drop-set-lt, length-map, map-set}
use Rattle.rcu_world_law.specs.Steps.{group_looks}
use Rattle.rcu_world_law.specs.Events.{each_cpu}
use Rattle.rcu_world.specs.Members.{group_step}
use Rattle.rcu_world_processor.specs.Views.{seen, AreGiven}
use Rattle.rcu_world.specs.Views.{all_seen}
use Rattle.rcu_world.proofs.Seen.{seen_at, kept_at}
use Rattle.rcu_world.proofs.Members.{each_more, lookable_at, drop_again}
use Rattle.rcu_world.proofs.Ends.{each_end}
use Rattle.rcu_world.proofs.groups.look_members.Goals as goal

pub look_as-requires-send-J : goal.look_as-requires-send-J
look_as-requires-send-J g c κs within = c.type_bounds.send-J

pub look_as-requires-send-J-Receipt : goal.look_as-requires-send-J-Receipt
look_as-requires-send-J-Receipt g c κs within = c.type_bounds.send-J-Receipt

pub look_as-requires-after_bounds : goal.look_as-requires-after_bounds
look_as-requires-after_bounds g c κs within =
    let l : c.loop-i.i < length c.loop-i.processors.items = omega arith in
    let f = lookable_at c.args.number c.loop-i.i (all_seen g.J.Job.key_of c.args.processors.now.items) (all_seen g.J.Job.key_of c.loop-i.processors.items) (seen g.J.Job.key_of c.index_mut-p.result.now) c.requires.fits
    (subst (λ n. c.loop-i.i < n) (sym (length-map c.loop-i.processors.items (seen g.J.Job.key_of))) l)
    (length-map c.loop-i.processors.items (seen g.J.Job.key_of) ∙ c.loop-i.invariant.len ∙ sym (length-map c.args.processors.now.items (seen g.J.Job.key_of)))
    (seen_at g.J.Job.key_of c.loop-i.processors.items c.loop-i.i c.index_mut-p.result.now l c.index_mut-p.ensures.value) c.loop-i.invariant.rest in
    (assumption, (f.small, f.may))

pub loop-i-preserved : goal.loop-i-preserved
loop-i-preserved g c =
    let l : c.loop-i.i < length c.loop-i.processors.items = omega arith in
    let k : c.loop-i.i < length (all_seen g.J.Job.key_of c.loop-i.processors.items) = subst (λ n. c.loop-i.i < n) (sym (length-map c.loop-i.processors.items (seen g.J.Job.key_of))) l in
    let s : seen g.J.Job.key_of c.look_as.new.self ≡ group_step c.args.offloadable.now.items c.args.stride c.args.group c.args.number c.loop-i.i (seen g.J.Job.key_of c.index_mut-p.result.now) =
    c.look_as.ensures.step.made ∙ ap (λ b. cond b (group_looks c.args.number (seen g.J.Job.key_of c.index_mut-p.result.now)) (seen g.J.Job.key_of c.index_mut-p.result.now)) c.is_member_of-member.ensures in
    let m : set (all_seen g.J.Job.key_of c.loop-i.processors.items) c.loop-i.i (seen g.J.Job.key_of c.look_as.new.self) ≡ all_seen g.J.Job.key_of (set c.loop-i.processors.items c.loop-i.i c.look_as.new.self) = sym (map-set (seen g.J.Job.key_of) c.loop-i.processors.items c.loop-i.i c.look_as.new.self) in
    record {
      done = subst (λ x. each_cpu (group_step c.args.offloadable.now.items c.args.stride c.args.group c.args.number) 0 (all_seen g.J.Job.key_of c.args.processors.now.items)
          ≡ take (c.loop-i.i + 1) x ++ each_cpu (group_step c.args.offloadable.now.items c.args.stride c.args.group c.args.number) (c.loop-i.i + 1) (drop (c.loop-i.i + 1) x)) m
          (each_more (group_step c.args.offloadable.now.items c.args.stride c.args.group c.args.number) c.loop-i.i _ (all_seen g.J.Job.key_of c.loop-i.processors.items) (seen g.J.Job.key_of c.index_mut-p.result.now) (seen g.J.Job.key_of c.look_as.new.self) k
          (seen_at g.J.Job.key_of c.loop-i.processors.items c.loop-i.i c.index_mut-p.result.now l c.index_mut-p.ensures.value) s c.loop-i.invariant.done);
      rest = subst (λ x. drop (c.loop-i.i + 1) x ≡ drop (c.loop-i.i + 1) (all_seen g.J.Job.key_of c.args.processors.now.items)) m
          (drop-set-lt (c.loop-i.i + 1) (all_seen g.J.Job.key_of c.loop-i.processors.items) c.loop-i.i (seen g.J.Job.key_of c.look_as.new.self) (omega arith) ∙ drop_again c.loop-i.i _ _ c.loop-i.invariant.rest);
      len = length-set c.loop-i.processors.items c.loop-i.i c.look_as.new.self ∙ c.loop-i.invariant.len;
      given = λ mark a. kept_at (AreGiven g.J.Job.gives mark) c.loop-i.processors.items c.loop-i.i c.index_mut-p.result.now c.look_as.new.self l c.index_mut-p.ensures.value (c.look_as.ensures.step.given mark) (c.loop-i.invariant.given mark a);
    }

pub returns-clause-looks : goal.returns-clause-looks
returns-clause-looks g c = each_end (group_step c.args.offloadable.now.items c.args.stride c.args.group c.args.number) c.loop-i.i _ (all_seen g.J.Job.key_of c.loop-i.processors.items) (omega (arith, length-map c.loop-i.processors.items (seen g.J.Job.key_of))) c.loop-i.invariant.done

pub loop-i-init : goal.loop-i-init
loop-i-init g c = record { done = refl; rest = refl; len = refl; given = λ mark a. a }

pub is_member_of-member-requires : goal.is_member_of-member-requires
is_member_of-member-requires g c = c.requires.stride

pub index_mut-p-requires : goal.index_mut-p-requires
index_mut-p-requires g c = subst (λ n. c.loop-i.i < n) (c.len-i-end.ensures ∙ c.args.processors.now.ok.0 ∙ sym c.loop-i.invariant.len ∙ sym c.loop-i.processors.ok.0) c.loop-i-test.true

pub returns-clause-given : goal.returns-clause-given
returns-clause-given g c = c.loop-i.invariant.given
