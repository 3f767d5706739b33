use Rattle.std.proofs.Common.{◌≡◌, true, false, rules, ap, ◌∙◌}
use Rattle.rcu_jobs.specs.Modes.{is_offloaded}
use Rattle.rcu_world_processor.proofs.Rooms.{on_ok, other, same_bypass}
use Rattle.rcu_world_processor.specs.Batches.{bypassed, law_pace, pace}
use Rattle.rcu_world_processor.specs.Waits.{calls, waits}
use Rattle.rcu_world_processor.specs.Views.{seen}
use Rattle.rcu_world_processor.proofs.Sizes.{bypass_fits}
use Rattle.rcu_world_processor.proofs.call.WorldProcessor+J+J+Receipt.reserve.Goals as goal

pub returns-then-is_offloaded-clause-room : goal.returns-then-is_offloaded-clause-room
returns-then-is_offloaded-clause-room g c =
    let e : is_offloaded c.args.self.now.mode ≡ true = search rules in
    on_ok c.reserve.result _ _ (λ r. ((λ _. r), λ f. absurd (other (is_offloaded c.args.self.now.mode) e f))) c.reserve.ensures.found

pub returns-else-is_offloaded-clause-room : goal.returns-else-is_offloaded-clause-room
returns-else-is_offloaded-clause-room g c =
    let e : is_offloaded c.args.self.now.mode ≡ false = search rules in
    on_ok c.reserve-else-is_offloaded.result _ _ (λ r. ((λ t. absurd (other (is_offloaded c.args.self.now.mode) t e)), λ _. r)) c.reserve-else-is_offloaded.ensures.found

pub reserve-requires : goal.reserve-requires
reserve-requires g c = bypass_fits g.row.J g.row.J-Receipt assumption

pub returns-then-is_offloaded-clause-same : goal.returns-then-is_offloaded-clause-same
returns-then-is_offloaded-clause-same g c = let k = g.J.Job.key_of in let o = seen k c.args.self.now in same_bypass o (bypassed k c.reserve.new.self) (pace c.reserve.new.self) (ap (calls k) c.reserve.ensures.same.items) (ap law_pace c.reserve.ensures.same.pace)

pub returns-then-is_offloaded-clause-given : goal.returns-then-is_offloaded-clause-given
returns-then-is_offloaded-clause-given g c = λ mark a. (a.0, c.reserve.ensures.same.qhimark ∙ a.1)

pub returns-else-is_offloaded-clause-same : goal.returns-else-is_offloaded-clause-same
returns-else-is_offloaded-clause-same g c = let k = g.J.Job.key_of in let o = seen k c.args.self.now in ap (λ ws. record o { own = waits k ws }) c.reserve-else-is_offloaded.ensures.same.list
