use Rattle.std.proofs.Common.{◌≡◌, false, inl, inr, ap, sym, ◌∙◌, List, subst, true, refl}
use Rattle.std.proofs.lemmas.Bool.{false≢true}
use Rattle.rcu_jobs.specs.declared.modes.Mode.TheVariants.{Offloading, Offloaded}
use Rattle.rcu_lists.specs.Labels.{Labelled, callbacks_of}
use Rattle.rcu_lists.specs.Segments.{labelled, advanced_by}
use Rattle.rcu_part_lists.specs.Aims.{AreAimed}
use Rattle.rcu_part_lists.specs.ProcessorLists.{Pours, holding}
use Rattle.rcu_jobs.specs.Modes.{is_offloaded}
use Rattle.rcu_part_lists.specs.Outgoing.{Outgoing, outgoing}
use Rattle.rcu_part_lists.specs.Limits.{AreFew, AreSafe}
use Rattle.rcu_part_lists.proofs.Holdings.{all-of-none, aimed-none, poured-passes, same-held}
use Rattle.rcu_part_lists.proofs.Releases.{other}
use denote.Param.{param}
use Rattle.rcu_part_lists.proofs.Sizes.{processor_lists-bypass}
use Rattle.rcu_part_lists.proofs.processor_lists.ProcessorLists.turn_on.Goals as goal

pub invariant_of-self : goal.invariant_of-self
invariant_of-self g c =
    let s = c.args.self.now in
    let e = c.pour_out.ensures.moved c.if-pour_out.true in
    record {
      bypassing = λ _. e;
      alone = λ f. absurd (false≢true (sym f));
      safe = c.pour_out.ensures.safe;
      own_safe = all-of-none (labelled c.pour_out.new.own) e;
      few = subst AreFew (sym (poured-passes (outgoing s.outlet.rear s.bypass) (outgoing c.pour_out.new.outlet.rear c.pour_out.new.bypass) (labelled s.own) (labelled c.pour_out.new.own) e (c.pour_out.ensures.released c.if-pour_out.true))) s.few;
      aimed = aimed-none (advanced_by c.pour_out.new.own) (labelled c.pour_out.new.own) e;
      before = λ f. absurd (false≢true f);
    }

pub invariant_of-self-else-pour_out : goal.invariant_of-self-else-pour_out
invariant_of-self-else-pour_out g c =
    let s = c.args.self.now in
    let off : is_offloaded s.mode ≡ false = sym c.is_offloaded.ensures ∙ c.if-is_offloaded.false in
    let e = c.pour_out.ensures.refused c.if-pour_out.false in
    record {
      bypassing = λ f. absurd (false≢true f);
      alone = λ _. ap (λ (x : Outgoing g.row.J.Denot). x.bypass) e.1 ∙ s.alone off;
      safe = c.pour_out.ensures.safe;
      own_safe = subst (λ (ws : List (Labelled g.row.J.Denot)). AreSafe (callbacks_of ws)) (sym e.0) s.own_safe;
      few = subst AreFew (sym (same-held (outgoing s.outlet.rear s.bypass) (outgoing c.pour_out.new.outlet.rear c.pour_out.new.bypass) (labelled s.own) (labelled c.pour_out.new.own) e.0 e.1)) s.few;
      aimed = subst (λ n. AreAimed n (labelled c.pour_out.new.own)) (sym c.pour_out.ensures.advanced) (subst (AreAimed (advanced_by s.own)) (sym e.0) s.aimed);
      before = λ f. absurd (false≢true f);
    }

pub returns-then-pour_out-clause-on : goal.returns-then-pour_out-clause-on
returns-then-pour_out-clause-on g c =
    let s = c.args.self.now in
    let off : is_offloaded s.mode ≡ false = sym c.is_offloaded.ensures ∙ c.if-is_offloaded.false in
    let h = holding s in
    let n = outgoing c.pour_out.new.outlet.rear c.pour_out.new.bypass in
    let pours : Pours h (record h { mode = Offloaded; own = labelled c.pour_out.new.own; advanced = advanced_by c.pour_out.new.own; outgoing = n }) = record {
      outgoing = c.pour_out.ensures.released c.if-pour_out.true;
      others = ap (λ k. record h { mode = Offloaded; own = labelled c.pour_out.new.own; advanced = k; outgoing = n }) c.pour_out.ensures.advanced
          ∙ ap (λ (ws : List (Labelled g.row.J.Denot)). record h { mode = Offloaded; own = ws; outgoing = n }) (c.pour_out.ensures.moved c.if-pour_out.true);
    } in
    record { stays = λ e. absurd (other (is_offloaded s.mode) e off); leads = λ _. inl pours; fits = λ _ _. pours }

pub returns-else-pour_out-clause-on : goal.returns-else-pour_out-clause-on
returns-else-pour_out-clause-on g c =
    let s = c.args.self.now in
    let off : is_offloaded s.mode ≡ false = sym c.is_offloaded.ensures ∙ c.if-is_offloaded.false in
    let h = holding s in
    let e = c.pour_out.ensures.refused c.if-pour_out.false in
    record {
      stays = λ f. absurd (other (is_offloaded s.mode) f off);
      leads = λ _. inr (ap (λ k. record h { mode = Offloading; own = labelled c.pour_out.new.own; advanced = k; outgoing = outgoing c.pour_out.new.outlet.rear c.pour_out.new.bypass }) c.pour_out.ensures.advanced
          ∙ (ap (λ (ws : List (Labelled g.row.J.Denot)). record h { mode = Offloading; own = ws; outgoing = outgoing c.pour_out.new.outlet.rear c.pour_out.new.bypass }) e.0
          ∙ ap (λ (x : Outgoing g.row.J.Denot). record h { mode = Offloading; outgoing = x }) e.1));
      fits = λ _ few. absurd (false≢true (sym c.if-pour_out.false ∙ c.pour_out.ensures.fits (s.alone off) few));
    }

pub returns-then-pour_out-clause-places : goal.returns-then-pour_out-clause-places
returns-then-pour_out-clause-places g c =
    let s = c.args.self.now in
    poured-passes (outgoing s.outlet.rear s.bypass) (outgoing c.pour_out.new.outlet.rear c.pour_out.new.bypass) (labelled s.own) (labelled c.pour_out.new.own) (c.pour_out.ensures.moved c.if-pour_out.true) (c.pour_out.ensures.released c.if-pour_out.true)

pub returns-else-pour_out-clause-places : goal.returns-else-pour_out-clause-places
returns-else-pour_out-clause-places g c =
    let s = c.args.self.now in
    let e = c.pour_out.ensures.refused c.if-pour_out.false in
    same-held (outgoing s.outlet.rear s.bypass) (outgoing c.pour_out.new.outlet.rear c.pour_out.new.bypass) (labelled s.own) (labelled c.pour_out.new.own) e.0 e.1

pub pour_out-requires : goal.pour_out-requires
pour_out-requires g c = let s = c.args.self.now in
    let h = processor_lists-bypass (param 0 g.row.J) assumption in
    (h, (s.own_safe, (s.safe, s.few)))

pub returns-then-is_offloaded-clause-lane : goal.returns-then-is_offloaded-clause-lane
returns-then-is_offloaded-clause-lane g c = refl

pub returns-then-is_offloaded-clause-advanced : goal.returns-then-is_offloaded-clause-advanced
returns-then-is_offloaded-clause-advanced g c = refl

pub returns-then-is_offloaded-clause-on : goal.returns-then-is_offloaded-clause-on
returns-then-is_offloaded-clause-on g c = let s = c.args.self.now in let on : is_offloaded s.mode ≡ true = sym c.is_offloaded.ensures ∙ c.if-is_offloaded.true in
    record { stays = λ _. refl; leads = λ off. absurd (other (is_offloaded s.mode) on off); fits = λ off _. absurd (other (is_offloaded s.mode) on off) }

pub returns-then-is_offloaded-clause-places : goal.returns-then-is_offloaded-clause-places
returns-then-is_offloaded-clause-places g c = refl

pub returns-then-pour_out-clause-lane : goal.returns-then-pour_out-clause-lane
returns-then-pour_out-clause-lane g c = c.pour_out.ensures.lane

pub returns-then-pour_out-clause-advanced : goal.returns-then-pour_out-clause-advanced
returns-then-pour_out-clause-advanced g c = c.pour_out.ensures.advanced

pub returns-else-pour_out-clause-lane : goal.returns-else-pour_out-clause-lane
returns-else-pour_out-clause-lane g c = c.pour_out.ensures.lane

pub returns-else-pour_out-clause-advanced : goal.returns-else-pour_out-clause-advanced
returns-else-pour_out-clause-advanced g c = c.pour_out.ensures.advanced
