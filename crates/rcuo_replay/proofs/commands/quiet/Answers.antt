use Rattle.std.proofs.Common.{◌<◌, inl, inr, refl, subst}
use Rattle.rcuo_replay.specs.Presences.{IsSoundPresence, SamePresence}
use Rattle.rcuo_replay.proofs.Answering.{is_past, is_there}
use Rattle.rcuo_replay.proofs.Presences.{same_presence}
use Rattle.rcuo_replay.proofs.commands.quiet.Goals as goal
use Rattle.rcu_lemmas.proofs.Zips.{zip_same}
use Rattle.rcu_lemmas.proofs.Changed.{all_changed, zip_changed}

pub index_mut-requires : goal.index_mut-requires
index_mut-requires g c = subst (λ n. c.args.cpu < n) c.len.ensures c.if-place-len.false

pub quiet_here-requires-send-J : goal.quiet_here-requires-send-J
quiet_here-requires-send-J g c κs within = c.type_bounds.send-J

pub quiet_here-requires-send-J-Receipt : goal.quiet_here-requires-send-J-Receipt
quiet_here-requires-send-J-Receipt g c κs within = c.type_bounds.send-J-Receipt

pub quiet_here-requires-after_bounds : goal.quiet_here-requires-after_bounds
quiet_here-requires-after_bounds g c κs within = assumption

pub returns-then-place-len : goal.returns-then-place-len
returns-then-place-len g c = record {
  line = record {
    does = inl (is_past c.args.processors.now.items c.args.cpu _ _ c.len.ensures c.args.processors.now.ok.0 c.if-place-len.true, c.no_such.ensures, refl);
    same = zip_same SamePresence same_presence c.args.processors.now.items;
    sound = λ all. all;
  };
}

pub returns : goal.returns
returns g c = record {
  line = record {
    does = inr (record { x = c.index_mut.result.now; y = c.quiet_here.new.processor; there = is_there c.args.processors.now.items c.args.cpu _ _ c.len.ensures c.args.processors.now.ok.0 c.if-place-len.false; old = c.index_mut.ensures.value; new = refl; by = c.quiet_here.ensures.line });
    same = zip_changed SamePresence same_presence c.args.processors.now.items c.args.cpu c.index_mut.result.now c.quiet_here.new.processor (is_there c.args.processors.now.items c.args.cpu _ _ c.len.ensures c.args.processors.now.ok.0 c.if-place-len.false) c.index_mut.ensures.value c.quiet_here.ensures.kept.same;
    sound = all_changed (IsSoundPresence g.J.Job.key_of g.J.Job.gives) c.args.processors.now.items c.args.cpu c.index_mut.result.now c.quiet_here.new.processor (is_there c.args.processors.now.items c.args.cpu _ _ c.len.ensures c.args.processors.now.ok.0 c.if-place-len.false) c.index_mut.ensures.value c.quiet_here.ensures.kept.sound;
  };
}
