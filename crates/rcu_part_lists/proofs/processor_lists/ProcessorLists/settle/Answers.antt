use Rattle.std.proofs.Common.{◌≡◌, ◌<◌, ◌/◌, ◌∙◌, ap, sym, arith, refl}
use Rattle.std.proofs.lemmas.List.Elements.{All-weaker}
use Rattle.rcu_jobs.specs.declared.callback.Callback.{Callback}
use Rattle.rcu_part_lists.specs.Lanes.{put_calls}
use Rattle.rcu_jobs.specs.Modes.{is_offloaded, is_deoffloading, is_local}
use Rattle.rcu_part_lists.proofs.Switching.{settled-offloaded, settled-leaving, settled-local}
use Rattle.rcu_part_lists.specs.ProcessorLists.{holding}
use Rattle.rcu_part_lists.proofs.processor_lists.ProcessorLists.settle.Goals as goal

pub invariant_of-self : goal.invariant_of-self
invariant_of-self g c =
    let s = c.args.self.now in
    let o : is_offloaded c.settled-self.result ≡ is_offloaded s.mode = ap is_offloaded c.settled-self.ensures ∙ settled-offloaded s.left c.args.turn s.mode in
    record {
      bypassing = λ e. s.bypassing (sym o ∙ e);
      alone = λ e. s.alone (sym o ∙ e);
      safe = s.safe;
      own_safe = s.own_safe;
      few = s.few;
      aimed = s.aimed;
      before = λ e. s.before (settled-leaving s.left c.args.turn s.mode (ap is_deoffloading (sym c.settled-self.ensures) ∙ e));
    }

pub returns-clause-local : goal.returns-clause-local
returns-clause-local g c = λ o l.
    let s = c.args.self.now in
    let p = settled-local s.left c.args.turn s.mode o (ap is_local (sym c.settled-self.ensures) ∙ l) in
    All-weaker (λ (x : Callback g.row.J.Denot). x.number < s.left) (λ (x : Callback g.row.J.Denot). x.number < c.args.turn / 2) (λ x k. let q = p.1 in omega arith) (put_calls s.outlet.rear) (s.before p.0)

pub returns-clause-rear : goal.returns-clause-rear
returns-clause-rear g c = refl

pub returns-clause-settled : goal.returns-clause-settled
returns-clause-settled g c = let h = holding c.args.self.now in ap (λ m. record h { mode = m }) c.settled-self.ensures
