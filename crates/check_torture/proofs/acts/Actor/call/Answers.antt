use Rattle.std.proofs.Common.{◌≡◌, ◌+◌, ◌∙◌, ap, arith, length, subst, sym}
use Rattle.std.proofs.lemmas.List.{length_push}
use Rattle.check_torture.proofs.Keeping.{keeps_again, keeps_one}
use Rattle.check_torture.proofs.acts.Actor.call.Goals as goal
use Rattle.check_torture.specs.Acts.{CallsAs}

pub returns-in-Ok-call_as-clause-goes_on : goal.returns-in-Ok-call_as-clause-goes_on
returns-in-Ok-call_as-clause-goes_on c =
    let one = c.in-Ok-call_as.ensures.accepted in
    let more : length c.push_reserved.new.self.items ≡ length c.args.self.now.keys.items + 1 =
    ap length c.push_reserved.ensures.items ∙ length_push _ _ ∙ ap (λ items. length items + 1) c.reserve.ensures.items in
    keeps_again _ _ _ _ _ _ (keeps_one _ _ _ _ one.same one.sound (omega (arith, one.pace)) more) c.accepted.ensures.beside.goes_on

pub returns-in-Ok-call_as-clause-accepted : goal.returns-in-Ok-call_as-clause-accepted
returns-in-Ok-call_as-clause-accepted c = λ is.
    ap (λ keys. length keys.items) c.accepted.ensures.beside.keys
    ∙ (ap length c.push_reserved.ensures.items ∙ length_push _ _ ∙ ap (λ items. length items + 1) c.reserve.ensures.items)

pub returns-in-Ok-call_as-clause-once : goal.returns-in-Ok-call_as-clause-once
returns-in-Ok-call_as-clause-once c = λ is. record {
  kind = _;
  ticket = _;
  accepts = subst (CallsAs _ _ _ _ c.args.self.now.processor) (sym c.accepted.ensures.stays) c.in-Ok-call_as.ensures.kind;
  counted = c.accepted.ensures.counted;
}
