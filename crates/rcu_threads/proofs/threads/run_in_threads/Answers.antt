use Rattle.std.proofs.Common.{map, rules}
use Rattle.rcu_threads.proofs.Ending.{all_have_run, all_same, all_sound, none_handed_back}
use Rattle.rcu_lists.proofs.Outcomes.{if_ok_never}
use Rattle.rcu_threads.proofs.threads.run_in_threads.Goals as goal

pub run_parts-requires-send-J : goal.run_parts-requires-send-J
run_parts-requires-send-J g c κs within = assumption

pub run_parts-requires-send-R : goal.run_parts-requires-send-R
run_parts-requires-send-R g c κs within = assumption

pub close-requires-send-J : goal.close-requires-send-J
close-requires-send-J g c κs within = assumption

pub close-requires-send-J-Receipt : goal.close-requires-send-J-Receipt
close-requires-send-J-Receipt g c κs within = search rules

pub run_parts-requires-clause-parts : goal.run_parts-requires-clause-parts
run_parts-requires-clause-parts g c κs within = (assumption, (assumption, (assumption, c.requires.parts)))

pub close-requires-clause-parts : goal.close-requires-clause-parts
close-requires-clause-parts g c κs within = let key_of = g.J.Job.key_of in let gives = g.J.Job.gives in let old = c.args.parts in let new = c.in_ok-ended.ended in let ran = c.in_ok-ended.ensures.ran in
    (assumption, (assumption, (assumption, c.same_parts.ensures.one old new (all_same key_of gives old new ran) c.requires.parts)))

pub returns-clause-closes : goal.returns-clause-closes
returns-clause-closes g c = record { ended = c.in_ok-ended.ended; same = all_same g.J.Job.key_of g.J.Job.gives c.args.parts c.in_ok-ended.ended c.in_ok-ended.ensures.ran; closes = c.in-Ok.ensures.closes (all_sound g.J.Job.key_of g.J.Job.gives c.args.parts c.in_ok-ended.ended c.in_ok-ended.ensures.ran c.requires.sound) }

pub returns-clause-ran : goal.returns-clause-ran
returns-clause-ran g c = λ unused. none_handed_back g.J.Job.key_of g.J.Job.gives c.args.parts c.in_ok-ended.ended c.in-Ok.closed c.in_ok-ended.ensures.ran unused (c.in-Ok.ensures.closes (all_sound g.J.Job.key_of g.J.Job.gives c.args.parts c.in_ok-ended.ended c.in_ok-ended.ensures.ran c.requires.sound))

pub returns-clause-all : goal.returns-clause-all
returns-clause-all g c = λ unused keep. all_have_run g.J.Job.key_of g.J.Job.gives c.args.parts c.in_ok-ended.ended c.in-Ok.closed c.args.jobs.items (map (λ own. own.items) c.in_ok-ended.answers.items) c.in_ok-ended.ensures.ran unused keep (c.in-Ok.ensures.closes (all_sound g.J.Job.key_of g.J.Job.gives c.args.parts c.in_ok-ended.ended c.in_ok-ended.ensures.ran c.requires.sound)) (c.in_ok-ended.ensures.answered unused)

pub returns-clause-refused : goal.returns-clause-refused
returns-clause-refused g c = λ unused. let key_of = g.J.Job.key_of in let gives = g.J.Job.gives in let old = c.args.parts in let new = c.in_ok-ended.ended in let ran = c.in_ok-ended.ensures.ran in record {
  ended = new;
  same = all_same key_of gives old new ran;
  closes = c.in-Ok.ensures.closes (all_sound key_of gives old new ran c.requires.sound);
  why = c.in_ok-ended.ensures.refused unused;
}

pub returns-in_err-ended-clause-closes : goal.returns-in_err-ended-clause-closes
returns-in_err-ended-clause-closes g c = if_ok_never _ _ c.from_residual.ensures

pub returns-in_err-ended-clause-ran : goal.returns-in_err-ended-clause-ran
returns-in_err-ended-clause-ran g c = λ unused. if_ok_never _ _ c.from_residual.ensures

pub returns-in_err-ended-clause-refused : goal.returns-in_err-ended-clause-refused
returns-in_err-ended-clause-refused g c = λ unused. if_ok_never _ _ c.from_residual.ensures

pub returns-in_err-ended-clause-all : goal.returns-in_err-ended-clause-all
returns-in_err-ended-clause-all g c = λ unused keep. if_ok_never _ _ c.from_residual.ensures

pub drop-requires-room-T-Destruct : goal.drop-requires-room-T-Destruct
drop-requires-room-T-Destruct g c κs within = assumption

pub drop-requires-in_default-3-room-T-Destruct : goal.drop-requires-in_default-3-room-T-Destruct
drop-requires-in_default-3-room-T-Destruct g c κs within = assumption

pub drop-requires-in_default-4-room-T-Destruct : goal.drop-requires-in_default-4-room-T-Destruct
drop-requires-in_default-4-room-T-Destruct g c κs within = assumption
