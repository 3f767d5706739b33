use Rattle.std.proofs.Common.{◌≡◌, ℕ, List, [], ◌∷◌, ◌++◌, ◌∙◌, ap, sym, subst, refl}
use Rattle.std.specs.Arc.{arc_value}
use Rattle.std.specs.Mem.{FitsInMemory}
use denote.Param.{param}
use Rattle.rcu_board.proofs.Facts.{same_seat_again}
use Rattle.rcu_board.specs.Roles.{cpu_of_role, MayClaim}
use Rattle.rcu_board.specs.Seats.{view}
use Rattle.rcu_board.specs.Views.{sight}
use Rattle.rcu_board.specs.Words.{turns_word}
use Rattle.rcu_board.specs.declared.view.Claim.{Claim}
use Rattle.rcu_part_lists.proofs.Sizes.{in_struct}
use Rattle.rcu_part_lists.specs.Helds.{drawn_by, held_by, taken_by}
use Rattle.rcu_part_lists.specs.Lanes.{drawn_calls}
use Rattle.rcu_part_lists.specs.declared.hand.Held.{Held}
use Rattle.rcu_part_order.specs.Recorded.{and_ran, recorded}
use Rattle.rcu_part_steps.specs.Changes.{StepsOnly}
use Rattle.rcu_part_steps.proofs.Turning.{steps_more}
use Rattle.rcu_part_hand.specs.contracts.hand.Hand as row
use Rattle.rcu_part_hand.proofs.HandRuns.{all_as, kept_as, hand_kept, hand_ran, hand_sound_kept, hand_sound_ran, ran_one, ran_untaken}
use Rattle.rcu_part_hand.proofs.Standing.{same_lane, stands}
use Rattle.rcu_part_hand.proofs.hand.Hand.run_one.Goals as goal

pub claim_first-requires-after_bounds : goal.claim_first-requires-after_bounds
claim_first-requires-after_bounds g c κs within = let s = c.args.self.now.state in let h : FitsInMemory (row.the_row (param 0 g.row.J) (param 1 g.row.J-Receipt)) = assumption in (
  in_struct _ _ _ (in_struct _ _ _ (in_struct _ _ _ h)),
  (stands (arc_value s.hand.board) c.deref.result.now s.hand.seat c.deref.ensures s.hand.here, (subst MayClaim (sym s.hand.role) tt, (ap cpu_of_role s.hand.role, s.lawful.rests))),
)

pub invariant_of-hand : goal.invariant_of-hand
invariant_of-hand g c = let s = c.args.self.now.state.hand in let e = c.claim_first.ensures in record { here = e.same.table ∙ s.here; role = e.same.role ∙ s.role }

pub invariant_of-self : goal.invariant_of-self
invariant_of-self g c = let s = c.args.self.now.state in let e = c.claim_first.ensures in let t = c.in-Err.ensures.stops in record {
  lawful = hand_kept s.hand.cpu (view s.hand.seat) (view c.claim_first.new.seat) s.hand.ran.all.items _ (taken_by s.hand.held) (taken_by c.claim_first.new.held) t.keeps (all_as _ _ e.records) (ap (λ (h : Held g.row.J.Denot). taken_by h) t.held) s.lawful;
}

pub returns-in-Err : goal.returns-in-Err
returns-in-Err g c = let s = c.args.self.now.state in let e = c.claim_first.ensures in let t = c.in-Err.ensures.stops in record {
  runs = record {
    does = record {
      ran = tt;
      not = (t.tried, ran_untaken c.args.seen c.in-Err.stop s _ t e.records c.requires.seen, t.why _ refl refl t.held);
      counts = t.counts;
    };
    same = record { part = record { board = refl; seat = e.same }; lane = same_lane s.hand.held c.claim_first.new.held e.lane; cpu = refl; blimit = refl; kept = kept_as _ _ e.records };
    sound = hand_sound_kept g.J.Job.key_of g.J.Job.gives (drawn_by s.hand.held) (drawn_by c.claim_first.new.held) s.hand.ran.all.items c.claim_first.new.ran.all.items (ap (λ f. drawn_calls f) e.lane) (all_as _ _ e.records);
  };
}

pub run_claimed-record-requires-clause-board : goal.run_claimed-record-requires-clause-board
run_claimed-record-requires-clause-board g c κs within = let s = c.args.self.now.state in stands (arc_value s.hand.board) c.deref-in-Ok.result.now c.claim_first.new.seat c.deref-in-Ok.ensures (c.claim_first.ensures.same.table ∙ s.hand.here)

pub run_claimed-record-requires-clause-who : goal.run_claimed-record-requires-clause-who
run_claimed-record-requires-clause-who g c κs within = subst MayClaim (sym (c.claim_first.ensures.same.role ∙ c.args.self.now.state.hand.role)) tt

pub run_claimed-record-requires-clause-runs : goal.run_claimed-record-requires-clause-runs
run_claimed-record-requires-clause-runs g c κs within = let s = c.args.self.now.state in let e = c.claim_first.ensures in let w = c.in-Ok.ensures.takes.won in
    let at : ℕ → ℕ → List Claim = λ p x. record { cpu = p; number = c.in-Ok.callback.number; sight = x } ∷ [] in
    w.running ∙ (ap (λ (x : ℕ). at s.hand.cpu x) (sym w.sights) ∙ ap (λ (p : ℕ). at p (sight (view c.claim_first.new.seat))) (sym (ap cpu_of_role (e.same.role ∙ s.hand.role))))

pub run_claimed-record-requires-clause-small : goal.run_claimed-record-requires-clause-small
run_claimed-record-requires-clause-small g c κs within = c.in-Ok.ensures.takes.small

pub add-requires : goal.add-requires
add-requires g c = record { room = c.in-Ok.ensures.room }

pub invariant_of-hand-in-Ok : goal.invariant_of-hand-in-Ok
invariant_of-hand-in-Ok g c = let s = c.args.self.now.state.hand in let e = c.claim_first.ensures in let r = c.run_claimed-record.ensures in record { here = r.same.table ∙ (e.same.table ∙ s.here); role = r.same.role ∙ (e.same.role ∙ s.role) }

pub invariant_of-self-in-Ok : goal.invariant_of-self-in-Ok
invariant_of-self-in-Ok g c = let s = c.args.self.now.state in let e = c.claim_first.ensures in let t = c.in-Ok.ensures.takes in let r = c.run_claimed-record.ensures in record {
  lawful = hand_ran s.hand.cpu c.args.seen (view s.hand.seat) (view c.claim_first.new.seat) (view c.run_claimed-record.new.seat) s.hand.ran.all.items c.add.new.self.all.items (taken_by s.hand.held) (taken_by c.claim_first.new.held)
      c.in-Ok.callback c.run_claimed-record.result t.won r.ends c.requires.seen (all_as (recorded c.add.new.self) (and_ran (c.run_claimed-record.result ∷ []) (recorded s.hand.ran)) (c.add.ensures.added ∙ ap (and_ran (c.run_claimed-record.result ∷ [])) e.records)) t.taken r.record r.ready t.over s.lawful;
}

pub returns-in-Ok : goal.returns-in-Ok
returns-in-Ok g c = let s = c.args.self.now.state in let e = c.claim_first.ensures in let t = c.in-Ok.ensures.takes in let r = c.run_claimed-record.ensures in
    let drawn : drawn_by c.claim_first.new.held ≡ drawn_by s.hand.held = ap (λ f. drawn_calls f) e.lane in
    let added = c.add.ensures.added ∙ ap (and_ran (c.run_claimed-record.result ∷ [])) e.records in record {
      runs = record {
        does = record {
          ran = ran_one c.args.seen s _ c.in-Ok.callback c.run_claimed-record.result t.held drawn added r.record r.ready (r.ends.sights ∙ (t.won.sights ∙ c.requires.seen))
              (steps_more (turns_word s.hand.cpu) 1 1 (view s.hand.seat) (view c.claim_first.new.seat) (view c.run_claimed-record.new.seat) t.steps
              (subst (λ (p : ℕ). StepsOnly (turns_word p) 1 (view c.claim_first.new.seat) (view c.run_claimed-record.new.seat)) (ap cpu_of_role (e.same.role ∙ s.hand.role)) r.only));
          not = tt;
          counts = tt;
        };
        same = record { part = record { board = refl; seat = same_seat_again s.hand.seat c.claim_first.new.seat c.run_claimed-record.new.seat e.same r.same }; lane = same_lane s.hand.held c.claim_first.new.held e.lane; cpu = refl; blimit = refl; kept = kept_as (recorded c.add.new.self) (and_ran (c.run_claimed-record.result ∷ []) (recorded s.hand.ran)) added };
        sound = hand_sound_ran g.J.Job.key_of g.J.Job.gives (drawn_by s.hand.held) (drawn_by c.claim_first.new.held) (taken_by s.hand.held) (held_by c.claim_first.new.held) c.in-Ok.callback s.hand.ran.all.items c.add.new.self.all.items c.run_claimed-record.result
            (s.hand.held.order ∙ ap (λ l. taken_by s.hand.held ++ l) t.held) drawn (all_as (recorded c.add.new.self) (and_ran (c.run_claimed-record.result ∷ []) (recorded s.hand.ran)) added) r.given;
      };
    }
