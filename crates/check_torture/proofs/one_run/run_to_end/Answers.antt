use Rattle.check_torture.proofs.Ending.{all_same, all_sound}
use Rattle.check_torture.proofs.one_run.run_to_end.Goals as goal

pub close_all-requires-clause-parts : goal.close_all-requires-clause-parts
close_all-requires-clause-parts g c = let old = c.args.parts in let new = c.in_ok-ended.ended.parts in c.same_parts.ensures.one old new (all_same old new c.in_ok-ended.ensures) c.requires.parts

pub close_all-requires-clause-sound : goal.close_all-requires-clause-sound
close_all-requires-clause-sound g c = all_sound c.args.parts c.in_ok-ended.ended.parts c.in_ok-ended.ensures c.requires.sound

pub returns : goal.returns
returns g c = record {
  ended = c.in_ok-ended.ended.parts;
  same = all_same c.args.parts c.in_ok-ended.ended.parts c.in_ok-ended.ensures;
  closes = c.in_ok-closed.ensures.closes;
}
