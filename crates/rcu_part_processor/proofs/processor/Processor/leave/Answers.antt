use Rattle.std.proofs.Common.{◌≡◌, true, false, ap, sym, ◌∙◌, refl, subst}
use Rattle.rcu_jobs.specs.Records.{Given}
use Rattle.rcu_part_lists.specs.Outgoing.{Outgoing}
use Rattle.rcu_part_lists.specs.ProcessorLists.{Holding, holding, passed_on, put_by}
use Rattle.rcu_part_order.specs.Recorded.{Recorded}
use Rattle.rcu_part_steps.specs.Places.{AreKeyed}
use Rattle.rcu_part_processor.specs.Processors.{lists_of}
use Rattle.rcu_part_processor.proofs.LeavingAfter.{left_after, same_left_after}
use Rattle.rcu_part_processor.proofs.Leaving.{all_put, batch_put, put_back}
use Rattle.rcu_part_processor.proofs.processor.Processor.leave.Goals as goal

pub empty_bypass-requires : goal.empty_bypass-requires
empty_bypass-requires g c = assumption

pub returns-then-not-empty_bypass-clause-stays : goal.returns-then-not-empty_bypass-clause-stays
returns-then-not-empty_bypass-clause-stays g c = let p = c.args.self.state in let q = c.empty_bypass.new.self.state in let e = c.if-not-empty_bypass.ensures in
    let back = put_back (lists_of p) (lists_of q) e.puts.does (λ none. (let f : false ≡ true = e.empty.1 none in cc)) in record {
      same = e.puts.same;
      view = e.view;
      count = e.puts.count;
      records = e.records;
      held = back.0;
      full = back.1;
      lists = back.2;
    }

pub returns-then-not-empty_bypass-clause-sound : goal.returns-then-not-empty_bypass-clause-sound
returns-then-not-empty_bypass-clause-sound g c = λ sound. (tt, c.if-not-empty_bypass.ensures.puts.sound sound)

pub go_away-requires-clause-empty : goal.go_away-requires-clause-empty
go_away-requires-clause-empty g c κs within = (assumption, (assumption, c.if-not-empty_bypass.ensures.empty.0 refl))

pub returns-clause-same : goal.returns-clause-same
returns-clause-same g c = same_left_after c.args.self.state c.empty_bypass.new.self.state c.go_away.result.state c.if-not-empty_bypass.ensures.puts.same c.go_away.ensures.same

pub returns-clause-away : goal.returns-clause-away
returns-clause-away g c = let e = c.if-not-empty_bypass.ensures in
    left_after c.args.self.state c.empty_bypass.new.self.state c.go_away.result.state e.puts.same.cpu e.view e.passed c.go_away.ensures.away

pub returns-clause-empty : goal.returns-clause-empty
returns-clause-empty g c = c.go_away.result.state.empty

pub returns-clause-keeps : goal.returns-clause-keeps
returns-clause-keeps g c = let p = c.args.self.state in let q = c.empty_bypass.new.self.state in let e = c.if-not-empty_bypass.ensures in let a = c.go_away.ensures in
    let lists = ap holding a.lists in record {
      count = a.count.0 ∙ e.puts.count;
      passed = a.count.1 ∙ e.passed;
      records = a.records ∙ e.records;
      put = ap put_by lists ∙ all_put (lists_of p) (lists_of q) e.puts.does (e.empty.0 refl);
      batch = ap (λ (h : Holding g.row.J.Denot). h.outgoing) lists ∙ batch_put (lists_of p) (lists_of q) e.puts.does (e.empty.0 refl);
      others = lists ∙ (e.puts.does.others ∙ ap (λ (o : Outgoing g.row.J.Denot). record (lists_of p) { outgoing = o }) (sym (ap (λ (h : Holding g.row.J.Denot). h.outgoing) lists)));
    }

pub returns-clause-sound : goal.returns-clause-sound
returns-clause-sound g c = λ sound. let s = c.if-not-empty_bypass.ensures.puts.sound sound in let a = c.go_away.ensures in (
  record {
    keyed = subst (λ (h : Holding g.row.J.Denot). AreKeyed g.J.Job.key_of (passed_on h)) (sym (ap holding a.lists)) s.keyed;
    given = subst (λ (rs : Recorded g.row.J-Receipt.Denot). Given g.J.Job.gives rs.all) (sym a.records) s.given;
  },
  tt,
)

pub go_away-requires-send-J : goal.go_away-requires-send-J
go_away-requires-send-J g c κs within = c.type_bounds.send-J

pub go_away-requires-send-J-Receipt : goal.go_away-requires-send-J-Receipt
go_away-requires-send-J-Receipt g c κs within = c.type_bounds.send-J-Receipt
