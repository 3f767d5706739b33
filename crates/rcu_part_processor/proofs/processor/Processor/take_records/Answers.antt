use Rattle.std.proofs.Common.{List, ap, sym, subst, refl}
use Rattle.rcu_board.proofs.Facts.{same_seat}
use Rattle.rcu_board.specs.Seats.{view}
use Rattle.rcu_jobs.specs.Records.{Given}
use Rattle.rcu_jobs.specs.declared.callback.Record.{Record}
use Rattle.rcu_part_lists.specs.ProcessorLists.{holding}
use Rattle.rcu_part_order.specs.Recorded.{Recorded}
use Rattle.rcu_part_processor.specs.Lawful.{IsLawful}
use Rattle.rcu_part_processor.proofs.processor.Processor.take_records.Goals as goal

pub invariant_of-self : goal.invariant_of-self
invariant_of-self g c = let s = c.args.self.now.state in record {
  here = s.here;
  role = s.role;
  there = s.there;
  bit = s.bit;
  local = s.local;
  small = s.small;
  since = s.since;
  lawful = subst (λ (rs : List (Record g.row.J-Receipt.Denot)). IsLawful s.cpu s.accepted (view s.seat) rs (holding s.lists)) (sym (ap (λ (r : Recorded g.row.J-Receipt.Denot). r.all) c.take.ensures.rest)) s.lawful;
}

pub returns-clause-same : goal.returns-clause-same
returns-clause-same g c = record { part = record { board = refl; seat = same_seat _ }; lane = refl; cpu = refl; offloadable = refl; limit = refl; blimit = refl; kept = ap (λ (r : Recorded g.row.J-Receipt.Denot). r.kept) c.take.ensures.rest }

pub returns-clause-only : goal.returns-clause-only
returns-clause-only g c = record { records = c.take.ensures.rest; view = refl; count = refl; lists = refl }

pub returns-clause-sound : goal.returns-clause-sound
returns-clause-sound g c = λ sound. record {
  keyed = sound.keyed;
  given = subst (λ (rs : List (Record g.row.J-Receipt.Denot)). Given g.J.Job.gives rs) (sym (ap (λ (r : Recorded g.row.J-Receipt.Denot). r.all) c.take.ensures.rest)) sound.given;
}

pub returns-clause-taken : goal.returns-clause-taken
returns-clause-taken g c = c.take.ensures.taken
