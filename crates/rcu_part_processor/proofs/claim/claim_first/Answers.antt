use Rattle.std.proofs.Common.{◌≡◌, ℕ, ◌∙◌, ap, sym, subst, refl, arith}
use Rattle.rcu_board.proofs.Facts.{same_seat}
use Rattle.rcu_board.specs.Seats.{view}
use Rattle.rcu_board.specs.Views.{seen_at}
use Rattle.rcu_board.specs.Words.{turns_word}
use Rattle.rcu_board.specs.declared.view.View.{View}
use Rattle.rcu_jobs.specs.declared.Stop.TheVariants.{Limit, Empty, Turn, Memory}
use Rattle.rcu_jobs.specs.declared.callback.Callback.{Callback}
use Rattle.rcu_lists.specs.Labels.{count, is_done}
use Rattle.rcu_part_lists.specs.ProcessorLists.{holding}
use Rattle.rcu_part_lists.specs.declared.processor_lists.ProcessorLists.{ProcessorLists}
use Rattle.rcu_part_steps.specs.Changes.{Claims}
use Rattle.rcu_part_steps.proofs.Turning.{steps_none}
use Rattle.rcu_part_processor.proofs.TickRuns.{done_some, same_done}
use Rattle.rcu_part_processor.proofs.claim.claim_first.Goals as goal

pub first-requires : goal.first-requires
first-requires g c = assumption

pub try_claim-requires : goal.try_claim-requires
try_claim-requires g c = record { board = c.requires.board; who = c.requires.who; cpu = c.requires.cpu; rests = c.requires.rests; small = c.in-Some.ensures.safe.1 }

pub take-requires : goal.take-requires
take-requires g c = assumption

pub unreachable-requires : goal.unreachable-requires
unreachable-requires g c = let f = c.in-Some.ensures.first in done_some c.in-Some.first.now f.0 (holding c.args.lists.now).own f.1 c.in_default-take.ensures.taken.0

pub returns-in_default-clause-stops : goal.returns-in_default-clause-stops
returns-in_default-clause-stops g c = record {
  tried = 0;
  lists = refl;
  keeps = record { accepted = refl; fresh = refl; word = refl; claims = refl; running = refl };
  sight = refl;
  steps = steps_none _ _ _ refl;
  why = λ q cpu at same n. (ap (λ (l : ProcessorLists g.row.J.Denot). count is_done (holding l).own) same ∙ c.in_default.ensures.first, omega arith);
  counts = λ e. (let f : Empty ≡ Limit = e in cc);
}

pub returns-in_default-find_room-clause-stops : goal.returns-in_default-find_room-clause-stops
returns-in_default-find_room-clause-stops g c = let f = c.in-Some.ensures.first in record {
  tried = 0;
  lists = refl;
  keeps = record { accepted = refl; fresh = refl; word = refl; claims = refl; running = refl };
  sight = refl;
  steps = steps_none _ _ _ refl;
  why = λ q cpu at same n. (done_some c.in-Some.first.now f.0 (holding q.lists).own (ap (λ (l : ProcessorLists g.row.J.Denot). (holding l).own) same ∙ f.1), omega arith);
  counts = λ e. (let f : Memory ≡ Limit = e in cc);
}

pub returns-then-not-try_claim-clause-stops : goal.returns-then-not-try_claim-clause-stops
returns-then-not-try_claim-clause-stops g c = let f = c.in-Some.ensures.first in let e = c.if-not-try_claim.ensures in let l = e.lost refl in record {
  tried = 1;
  lists = refl;
  keeps = l.0;
  sight = l.1;
  steps = e.only;
  why = λ q cpu at same n. (
    refl,
    (
      c.in-Some.first.now,
      f.0,
      ap (λ (l : ProcessorLists g.row.J.Denot). (holding l).own) same ∙ f.1,
      λ is. l.2 (sym (ap (λ (v : View). seen_at v (turns_word c.args.cpu)) at) ∙ (ap (λ (p : ℕ). seen_at (view q.seat) (turns_word p)) (sym cpu) ∙ is)),
    ),
  );
  counts = λ e. (let f : Turn ≡ Limit = e in cc);
}

pub returns-clause-takes : goal.returns-clause-takes
returns-clause-takes g c =
    let v = view c.args.seat.now in let w = view c.try_claim.new.seat in let x = c.in-Some-take.callback in let f = c.in-Some.ensures.first in let t = c.in-Some-take.ensures in
    let first = same_done c.in-Some.first.now x f.0 (holding c.take.new.self).own (sym f.1 ∙ t.taken.0) in record {
      done = t.taken.0;
      others = t.taken.1;
      places = t.places;
      graced = t.graced;
      small = t.safe.1;
      won = subst (λ (y : Callback g.row.J.Denot). Claims c.args.cpu y.number v w) first (c.if-not-try_claim.ensures.won refl);
      steps = c.if-not-try_claim.ensures.only;
    }

pub returns-clause-room : goal.returns-clause-room
returns-clause-room g c = c.in-Ok.ensures.room

pub returns-in_default-clause-same : goal.returns-in_default-clause-same
returns-in_default-clause-same g c = same_seat _

pub returns-in_default-find_room-clause-same : goal.returns-in_default-find_room-clause-same
returns-in_default-find_room-clause-same g c = same_seat _

pub returns-clause-stops : goal.returns-clause-stops
returns-clause-stops g c = tt
