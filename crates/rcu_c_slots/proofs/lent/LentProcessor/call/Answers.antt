use Rattle.std.proofs.Common.{is_some, ap, sym, ◌∙◌, refl}
use Rattle.rcu_jobs.specs.declared.answers.Refused.{Refused}
use Rattle.rcu_part_processor.specs.Accepting.{IsLimit}
use Rattle.rcu_part_processor.specs.InPlace.{IsAccepted, IsRefusedAs, KeepsAll}
use Rattle.rcu_c_slots.specs.declared.job.ForeignJob.{ForeignJob}
use Rattle.rcu_c_slots.proofs.Calling.{err_at, match_by, never_err, ok_at}
use Rattle.rcu_c_slots.proofs.Jobs.{job_sends, placed_cpu_fits, receipt_sends}
use Rattle.rcu_c_slots.proofs.lent.LentProcessor.call.Goals as goal

pub invariant_of-self : goal.invariant_of-self
invariant_of-self c = record { both = c.args.self.now.both ∙ sym (ap is_some c.call.ensures.calls.same.claimed) }

pub returns : goal.returns
returns c = let a = c.args in let e = c.call.ensures.calls in let s = a.self.now.processor.state in let t = c.call.new.self.state in let r = c.call.result in
    match_by r _ _
    (λ ticket is. record {
      kept = record { same = e.same; job = refl; sound = e.sound };
      accepts = ok_at r ticket (λ x. IsAccepted a.moment a.kind a.job.key a.job x s t) is e.ok;
      room = λ full. never_err r ticket is (e.full full).1;
      not_shut = λ shut. never_err r ticket is (e.closed shut);
    })
    (λ refused is. record {
      kept = record { same = e.same; job = refl; sound = e.sound };
      lists = err_at r refused (λ _. KeepsAll s t) is e.err;
      why = err_at r refused (λ x. IsRefusedAs a.job x s t) is e.refused;
      full = λ full. err_at r refused (λ (x : Refused ForeignJob). IsLimit x) is (e.full full).0;
    })

pub call-requires-send-J : goal.call-requires-send-J
call-requires-send-J c κs = job_sends

pub call-requires-send-J-Receipt : goal.call-requires-send-J-Receipt
call-requires-send-J-Receipt c κs = receipt_sends

pub call-requires-after_bounds : goal.call-requires-after_bounds
call-requires-after_bounds c κs = placed_cpu_fits
