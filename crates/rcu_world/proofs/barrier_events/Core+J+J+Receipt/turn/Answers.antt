use Rattle.std.proofs.Common.{rules, ◌∙◌, ◌&&◌, ◌||◌, ◌*◌, None, false, not, sym, ap, arith, refl, set, get_or, nat_le}
use Rattle.rcu_world_law.specs.States.{Barrier, has}
use Rattle.rcu_world_law.specs.Lists.{is_none}
use Rattle.rcu_world_law.specs.States.{count_at}
use Rattle.rcu_world_law.specs.Steps.{sees_cpu}
use Rattle.rcu_world_law.specs.Lists.{value_or}
use Rattle.rcu_world.specs.Views.{state}
use Rattle.rcu_world.specs.Barrings.{barrier}
use Rattle.rcu_world.proofs.Seen.{barred, barrier_sizes, has_at, seen_at, absent}
use denote.Param.{param}
use Rattle.rcu_world.proofs.Sizes.{processor_fits, second_fails}
use Rattle.rcu_world.proofs.Barred.{unopened, has_passed, barrier_skipped}
use Rattle.rcu_world.proofs.barrier_events.Core+J+J+Receipt.turn.Goals as goal

pub see-requires-clause-counts : goal.see-requires-clause-counts
see-requires-clause-counts g c =
    let b = barrier_sizes g.J.Job.key_of c.args.self.now c.args.barrier c.index_mut-b.result.now c.requires.core (omega arith) c.index_mut-b.ensures.value in
    omega (arith, b.0)

pub see-requires-clause-seen : goal.see-requires-clause-seen
see-requires-clause-seen g c =
    let b = barrier_sizes g.J.Job.key_of c.args.self.now c.args.barrier c.index_mut-b.result.now c.requires.core (omega arith) c.index_mut-b.ensures.value in
    omega (arith, b.1)

pub returns : goal.returns
returns g c = record {
  answers = record {
    step = (
        let w = state g.J.Job.key_of c.args.self.now in
        let h = has_at g.J.Job.key_of c.args.self.now c.args.cpu (omega arith) in
        let n = c.turn-turn.ensures ∙ ap (λ x. x.turn) (seen_at g.J.Job.key_of c.args.self.now.processors.items c.args.cpu c.index.result.now (omega arith) c.index.ensures) in
        barred g.J.Job.key_of c.args.self.now c.args.barrier c.index_mut-b.result.now c.see.new.self (λ x. has w c.args.cpu && not (is_none (count_at x c.args.cpu))) (sees_cpu w c.args.cpu)
        c.args.self.now.history.items None (omega arith) c.index_mut-b.ensures.value c.if-b.false
        (ap (λ x. x && not (is_none (count_at (barrier c.index_mut-b.result.now) c.args.cpu))) h ∙ ap not (sym c.is_uncounted.ensures ∙ c.if-is_uncounted.false))
        (c.see.ensures ∙ ap {B = Barrier} (λ k. record (barrier c.index_mut-b.result.now) { seen = set c.index_mut-b.result.now.seen.items c.args.cpu (get_or c.index_mut-b.result.now.seen.items c.args.cpu false || nat_le (2 * value_or (count_at (barrier c.index_mut-b.result.now) c.args.cpu)) k) }) n) refl
        );
    given = λ a. a;
  };
}

pub turn-turn-requires-send-J : goal.turn-turn-requires-send-J
turn-turn-requires-send-J g c κs within = c.type_bounds.send-J

pub turn-turn-requires-send-J-Receipt : goal.turn-turn-requires-send-J-Receipt
turn-turn-requires-send-J-Receipt g c κs within = c.type_bounds.send-J-Receipt

pub turn-turn-requires-after_bounds : goal.turn-turn-requires-after_bounds
turn-turn-requires-after_bounds g c κs within = processor_fits (param 0 g.row.J) (param 1 g.row.J-Receipt) assumption

pub returns-then-j-len : goal.returns-then-j-len
returns-then-j-len g c = record {
  answers = record {
    step = (unopened g.J.Job.key_of c.args.self.now c.args.barrier _ (omega arith), refl, refl);
    given = λ a. a;
  };
}

pub returns-then-i-len : goal.returns-then-i-len
returns-then-i-len g c = record {
  answers = record {
    step = (second_fails _ _ (absent g.J.Job.key_of c.args.self.now c.args.cpu _ (omega arith)), refl, refl);
    given = λ a. a;
  };
}

pub returns-then-b : goal.returns-then-b
returns-then-b g c = record {
  answers = record {
    step = (
        let r = has_passed g.J.Job.key_of c.args.self.now c.args.barrier c.index_mut-b.result.now _ (omega arith) c.index_mut-b.ensures.value c.if-b.true in (r.0, r.1, refl)
        );
    given = λ a. a;
  };
}

pub returns-then-is_uncounted : goal.returns-then-is_uncounted
returns-then-is_uncounted g c = record {
  answers = record {
    step = (
        let r = barrier_skipped g.J.Job.key_of c.args.self.now c.args.barrier c.index_mut-b.result.now (λ x. has (state g.J.Job.key_of c.args.self.now) c.args.cpu && not (is_none (count_at x c.args.cpu))) (omega arith) c.index_mut-b.ensures.value (second_fails (has (state g.J.Job.key_of c.args.self.now) c.args.cpu) _ (ap not (sym c.is_uncounted.ensures ∙ c.if-is_uncounted.true))) in
        (r.0, r.1, refl)
        );
    given = λ a. a;
  };
}
