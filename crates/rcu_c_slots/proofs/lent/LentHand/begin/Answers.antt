use Rattle.std.proofs.Common.{is_some, ap, sym, ◌∙◌, refl}
use Rattle.rcu_c_slots.proofs.Jobs.{job_sends, placed_hand_fits, receipt_sends}
use Rattle.rcu_c_slots.proofs.LentParts.{finishes_some, leaves_resting, none_if, hand_rests_in, some_if}
use Rattle.rcu_c_slots.proofs.lent.LentHand.begin.Goals as goal

pub returns-then-is_some : goal.returns-then-is_some
returns-then-is_some c = let k = some_if c.args.self.now.job (sym c.is_some.ensures ∙ c.if-is_some.true) in
    record { begins = finishes_some c.args.self.now.job _ _ k.0 k.1 (refl, refl); none = refl }

pub begin-requires : goal.begin-requires
begin-requires c = (job_sends, (receipt_sends, (placed_hand_fits, hand_rests_in c.args.self.now (none_if c.args.self.now.job (sym c.is_some.ensures ∙ c.if-is_some.false)))))

pub invariant_of-self : goal.invariant_of-self
invariant_of-self c = let s = c.args.self.now in let e = hand_rests_in s (none_if s.job (sym c.is_some.ensures ∙ c.if-is_some.false)) in
    record { both = sym (ap is_some (c.in-Ok.ensures.begins e).1) }

pub returns-in-Ok : goal.returns-in-Ok
returns-in-Ok c = let s = c.args.self.now in let none = none_if s.job (sym c.is_some.ensures ∙ c.if-is_some.false) in
    record { begins = leaves_resting s.job _ _ none (record { job_is = refl; begins = c.in-Ok.ensures.begins; keyed = c.in-Ok.ensures.keyed; sound = c.begin.ensures.sound }); none = tt }

pub invariant_of-self-in-Err-1 : goal.invariant_of-self-in-Err-1
invariant_of-self-in-Err-1 c = let s = c.args.self.now in let e = hand_rests_in s (none_if s.job (sym c.is_some.ensures ∙ c.if-is_some.false)) in
    record { both = s.both ∙ (ap is_some e ∙ sym (ap is_some (c.in-Err.ensures.stops e).0)) }

pub returns-in-Err : goal.returns-in-Err
returns-in-Err c = let s = c.args.self.now in let none = none_if s.job (sym c.is_some.ensures ∙ c.if-is_some.false) in
    record { begins = leaves_resting s.job _ _ none (record { job = none; stop = c.in-Err.stop; named = c.fault_of_stop.ensures; counts = c.in-Err.ensures.counts; stops = c.in-Err.ensures.stops; sound = c.begin.ensures.sound }); none = refl }
