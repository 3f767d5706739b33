use Rattle.std.proofs.Common.{◌≡◌, sym, refl, List, None, subst}
use Rattle.rcu_part_hand.specs.contracts.hand.Hand as row
use Rattle.rcu_part_lists.proofs.Sizes.{in_struct}
use denote.Param.{param}
use Rattle.std.specs.Mem.{FitsInMemory}
use Rattle.rcu_part_lists.specs.Helds.{drawn_by, held_by}
use Rattle.rcu_part_hand.proofs.HandRuns.{fetched, hand_sound_drawn, stops_empty}
use Rattle.rcu_board.specs.Seats.{view}
use Rattle.rcu_jobs.specs.declared.callback.Callback.{Callback}
use Rattle.rcu_part_hand.specs.HandLaw.{IsLawfulHand}
use Rattle.rcu_board.proofs.Facts.{same_seat}
use Rattle.rcu_part_hand.proofs.hand.Hand.load.Goals as goal

pub returns-clause-none : goal.returns-clause-none
returns-clause-none g c = stops_empty c.fetch.result _ (λ some. (c.fetch.ensures.none some).1) c.fetch.ensures.stops

pub invariant_of-hand : goal.invariant_of-hand
invariant_of-hand g c = let s = c.args.self.now.state.hand in record { here = s.here; role = s.role }

pub invariant_of-self : goal.invariant_of-self
invariant_of-self g c = let s = c.args.self.now.state in record {
  lawful = subst (λ (cs : List (Callback g.row.J.Denot)). IsLawfulHand s.hand.cpu (view s.hand.seat) s.hand.ran.all.items cs) (sym c.fetch.ensures.taken) s.lawful;
}

pub fetch-requires : goal.fetch-requires
fetch-requires g c = let h : FitsInMemory (row.the_row (param 0 g.row.J) (param 1 g.row.J-Receipt)) = assumption in in_struct _ _ _ (in_struct _ _ _ (in_struct _ _ _ h))

pub returns-clause-loads : goal.returns-clause-loads
returns-clause-loads g c = record {
  does = let s = c.args.self.now.state in let e = c.fetch.ensures in
      let f = fetched (c.fetch.result ≡ None) (held_by s.hand.held) (held_by c.fetch.new.self) (drawn_by s.hand.held) (drawn_by c.fetch.new.self) e.held e.drawn in
      record { batch = f.0; drawn = f.1; held = f.2; only = f.3; view = refl; records = refl };
  same = record { part = record { board = refl; seat = same_seat _ }; lane = c.fetch.ensures.lane; cpu = refl; blimit = refl; kept = refl };
  sound = let s = c.args.self.now.state in let e = c.fetch.ensures in
      let f = fetched (c.fetch.result ≡ None) (held_by s.hand.held) (held_by c.fetch.new.self) (drawn_by s.hand.held) (drawn_by c.fetch.new.self) e.held e.drawn in
      hand_sound_drawn g.J.Job.key_of g.J.Job.gives (drawn_by s.hand.held) (drawn_by c.fetch.new.self) f.0 s.hand.ran.all.items f.1;
}
