use Rattle.std.proofs.Common.{◌<◌, ◌≤◌, arith, inl, inr, refl, subst, sym}
use Rattle.std.specs.List.{All, AllZip}
use Rattle.std.specs.Vec.{vec_capacity, vec_len}
use Rattle.rcuo_replay.specs.Presences.{IsSoundPresence, SamePresence}
use Rattle.rcuo_replay.proofs.Answering.{is_past, is_there}
use Rattle.rcuo_replay.proofs.Presences.{put_in_place, same_presence}
use Rattle.rcuo_replay.proofs.commands.come_back.Goals as goal
use Rattle.rcu_lemmas.proofs.Zips.{zip_same}
use Rattle.rcu_lemmas.proofs.Changed.{all_changed, zip_changed}

pub put_back-requires-after_bounds : goal.put_back-requires-after_bounds
put_back-requires-after_bounds g c κs within =
    let within_all : c.args.cpu ≤ vec_len c.remove.new.self = omega (arith, c.len.ensures, c.if-place-len.false, c.remove.ensures.len) in
    let has_room : vec_len c.remove.new.self < vec_capacity c.remove.new.self = omega (arith, c.remove.ensures.len, c.remove.ensures.capacity, c.args.processors.now.ok.1) in
    (assumption, (assumption, (within_all, has_room)))

pub returns-then-place-len : goal.returns-then-place-len
returns-then-place-len g c = record {
  line = record {
    does = inl (is_past c.args.processors.now.items c.args.cpu _ _ c.len.ensures c.args.processors.now.ok.0 c.if-place-len.true, c.no_such.ensures, refl);
    same = zip_same SamePresence same_presence c.args.processors.now.items;
    sound = λ all. all;
  };
}

pub returns : goal.returns
returns g c = record {
  line = record {
    does = let there = is_there c.args.processors.now.items c.args.cpu _ _ c.len.ensures c.args.processors.now.ok.0 c.if-place-len.false in
        inr (record { x = c.remove.result; y = c.return_one-processor.result.0; there = there; old = c.remove.ensures.value; new = put_in_place c.args.processors.now.items c.remove.new.self.items c.put_back.new.processors.items c.args.cpu c.return_one-processor.result.0 there c.remove.ensures.items c.put_back.ensures; by = c.return_one-processor.ensures.line });
    same = let there = is_there c.args.processors.now.items c.args.cpu _ _ c.len.ensures c.args.processors.now.ok.0 c.if-place-len.false in
        subst (AllZip SamePresence c.args.processors.now.items) (sym (put_in_place c.args.processors.now.items c.remove.new.self.items c.put_back.new.processors.items c.args.cpu c.return_one-processor.result.0 there c.remove.ensures.items c.put_back.ensures))
        (zip_changed SamePresence same_presence c.args.processors.now.items c.args.cpu c.remove.result c.return_one-processor.result.0 there c.remove.ensures.value c.return_one-processor.ensures.kept.same);
    sound = let there = is_there c.args.processors.now.items c.args.cpu _ _ c.len.ensures c.args.processors.now.ok.0 c.if-place-len.false in
        λ all. subst (All (IsSoundPresence g.J.Job.key_of g.J.Job.gives)) (sym (put_in_place c.args.processors.now.items c.remove.new.self.items c.put_back.new.processors.items c.args.cpu c.return_one-processor.result.0 there c.remove.ensures.items c.put_back.ensures))
        (all_changed (IsSoundPresence g.J.Job.key_of g.J.Job.gives) c.args.processors.now.items c.args.cpu c.remove.result c.return_one-processor.result.0 there c.remove.ensures.value c.return_one-processor.ensures.kept.sound all);
  };
}

pub return_one-processor-requires-send-J : goal.return_one-processor-requires-send-J
return_one-processor-requires-send-J g c κs within = c.type_bounds.send-J

pub return_one-processor-requires-after_bounds : goal.return_one-processor-requires-after_bounds
return_one-processor-requires-after_bounds g c κs within = assumption

pub put_back-requires-send-J : goal.put_back-requires-send-J
put_back-requires-send-J g c κs within = c.type_bounds.send-J

pub put_back-requires-send-J-Receipt : goal.put_back-requires-send-J-Receipt
put_back-requires-send-J-Receipt g c κs within = c.type_bounds.send-J-Receipt

pub return_one-processor-requires-send-J-Receipt : goal.return_one-processor-requires-send-J-Receipt
return_one-processor-requires-send-J-Receipt g c κs within = c.type_bounds.send-J-Receipt
