use Rattle.std.proofs.Common.{refl}
use Rattle.rcu_runtime_threads.proofs.Sends.{sent_as}
use Rattle.rcu_runtime_threads.proofs.Steps.{works_again, works_itself}
use Rattle.rcu_runtime_threads.proofs.post.run_post.Goals as goal

pub report_until_over-requires-after_bounds : goal.report_until_over-requires-after_bounds
report_until_over-requires-after_bounds g c κs within = assumption

pub returns : goal.returns
returns g c = record {
  processor = works_again g.J.Job.key_of g.J.Job.gives c.args.post.processor c.work-end.new.processor c.report_until_over.new.processor c.work-end.ensures.works c.report_until_over.ensures;
  name = c.work-end.ensures.name;
  unbegun = λ none. absurd (c.work-end.ensures.begun none);
  ended = λ _. c.work-end.ensures.ended;
}

pub returns-then-not-may_begin : goal.returns-then-not-may_begin
returns-then-not-may_begin g c = record { processor = works_itself g.J.Job.key_of g.J.Job.gives c.args.post.processor; name = refl; unbegun = λ _. (refl, refl); ended = λ begun. absurd (begun refl) }

pub work-end-requires-send-J : goal.work-end-requires-send-J
work-end-requires-send-J g c κs within = c.type_bounds.send-J

pub work-end-requires-send-W : goal.work-end-requires-send-W
work-end-requires-send-W g c κs within = c.type_bounds.send-W

pub work-end-requires-send-J-Receipt : goal.work-end-requires-send-J-Receipt
work-end-requires-send-J-Receipt g c κs within = c.type_bounds.send-J-Receipt

pub work-end-requires-after_bounds : goal.work-end-requires-after_bounds
work-end-requires-after_bounds g c κs within = assumption

pub report_until_over-requires-send-J : goal.report_until_over-requires-send-J
report_until_over-requires-send-J g c κs within = c.type_bounds.send-J

pub report_until_over-requires-send-J-Receipt : goal.report_until_over-requires-send-J-Receipt
report_until_over-requires-send-J-Receipt g c κs within = sent_as 3 2 g.row.J-Receipt c.type_bounds.send-J-Receipt
