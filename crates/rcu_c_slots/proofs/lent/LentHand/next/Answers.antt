use Rattle.std.proofs.Common.{◌≡◌, None, inr, is_some, ap, sym, refl}
use Rattle.rcu_c_slots.proofs.Jobs.{job_sends, placed_hand_fits, receipt_sends}
use Rattle.rcu_c_slots.proofs.LentParts.{finishes_some, hand_runs_in}
use Rattle.rcu_c_slots.proofs.lent.LentHand.next.Goals as goal

pub go_on-begins-requires : goal.go_on-begins-requires
go_on-begins-requires c = (job_sends, (receipt_sends, (placed_hand_fits, hand_runs_in c.args.self.now c.in-Some.ended c.in-Some.is)))

pub invariant_of-self : goal.invariant_of-self
invariant_of-self c = let w = c.in-Ok.ensures.goes_on in record { both = sym (ap is_some (w.begins w.rests).1) }

pub returns-in-Ok : goal.returns-in-Ok
returns-in-Ok c = let s = c.args.self.now in let w = c.in-Ok.ensures.goes_on in record {
  begins = inr (
    record { hand = record { state = w.between }; job = None; both = sym (ap is_some w.rests) },
    finishes_some s.job _ _ c.in-Some.ended c.in-Some.is (refl, record { rests = refl; finishes = w.finishes; sound = w.finishes_sound }),
    record { job_is = refl; begins = w.begins; keyed = c.in-Ok.ensures.keyed; sound = w.begins_sound },
  );
  none = tt;
}

pub invariant_of-self-in-Err : goal.invariant_of-self-in-Err
invariant_of-self-in-Err c = let w = c.in-Err.ensures.goes_on in record { both = sym (ap is_some (w.stops w.rests).0) }

pub returns-in-Err : goal.returns-in-Err
returns-in-Err c = let s = c.args.self.now in let w = c.in-Err.ensures.goes_on in record {
  begins = inr (
    record { hand = record { state = w.between }; job = None; both = sym (ap is_some w.rests) },
    finishes_some s.job _ _ c.in-Some.ended c.in-Some.is (refl, record { rests = refl; finishes = w.finishes; sound = w.finishes_sound }),
    record { job = refl; stop = c.in-Err.none; named = c.fault_of_stop.ensures; counts = c.in-Err.ensures.counts; stops = w.stops; sound = w.begins_sound },
  );
  none = refl;
}
