use Rattle.std.proofs.Common.{rules, ◌∙◌, sym, arith, refl, Some, ap, ◌++◌, ◌∷◌, []}
use Rattle.rcu_world_law.specs.declared.marks.Mark.TheVariants.{Ran}
use Rattle.rcu_world_law.specs.Steps.{can_claim, claims, claimed}
use Rattle.rcu_world.proofs.Seen.{fits_at, held_fits_at, stepped, refused, given_at, absent, skipped}
use denote.Param.{param}
use Rattle.rcu_world.proofs.Sizes.{processor_fits, turn_small}
use Rattle.rcu_world.proofs.claims.Core+J+J+Receipt.claim.Goals as goal

pub returns-in-Err-claim : goal.returns-in-Err-claim
returns-in-Err-claim g c = record {
  answers = record {
    step = (
        let r = refused g.J.Job.key_of c.args.self.now c.args.cpu c.index_mut-p.result.now c.claim.new.self (can_claim c.args.by) c.reserve.new.self.items
        (omega arith) c.index_mut-p.ensures.value (sym c.can_claim.ensures ∙ c.if-not-can_claim.false) c.in-Err-claim.ensures.step.err c.reserve.ensures.items in
        (r.0, r.1, refl, refl)
        );
    given = given_at g.J.Job.gives c.args.self.now c.args.cpu c.index_mut-p.result.now c.claim.new.self (omega arith) c.index_mut-p.ensures.value c.in-Err-claim.ensures.step.given;
  };
}

pub returns-in-Ok-claim : goal.returns-in-Ok-claim
returns-in-Ok-claim g c = record {
  answers = record {
    step = stepped g.J.Job.key_of c.args.self.now c.args.cpu c.index_mut-p.result.now c.claim.new.self (can_claim c.args.by) (claims c.args.by) (λ x. Some (Ran c.args.cpu (claimed c.args.by x).key)) c.push_reserved.new.self.items
        (omega arith) c.index_mut-p.ensures.value (sym c.can_claim.ensures ∙ c.if-not-can_claim.false) c.in-Ok-claim.ensures.step.ok
        (c.push_reserved.ensures.items ∙ ap (λ h. h ++ Ran c.args.cpu c.in-Ok-claim.key ∷ []) c.reserve.ensures.items ∙ ap (λ k. c.args.self.now.history.items ++ Ran c.args.cpu k ∷ []) c.in-Ok-claim.ensures.key);
    given = given_at g.J.Job.gives c.args.self.now c.args.cpu c.index_mut-p.result.now c.claim.new.self (omega arith) c.index_mut-p.ensures.value c.in-Ok-claim.ensures.step.given;
  };
}

pub can_claim-requires-send-J : goal.can_claim-requires-send-J
can_claim-requires-send-J g c κs within = c.type_bounds.send-J

pub can_claim-requires-send-J-Receipt : goal.can_claim-requires-send-J-Receipt
can_claim-requires-send-J-Receipt g c κs within = c.type_bounds.send-J-Receipt

pub can_claim-requires-after_bounds : goal.can_claim-requires-after_bounds
can_claim-requires-after_bounds g c κs within = (processor_fits (param 0 g.row.J) (param 1 g.row.J-Receipt) assumption, held_fits_at g.J.Job.key_of c.args.self.now c.args.cpu c.index_mut-p.result.now c.requires.core (omega arith) c.index_mut-p.ensures.value)

pub claim-requires-send-J : goal.claim-requires-send-J
claim-requires-send-J g c κs within = c.type_bounds.send-J

pub claim-requires-send-J-Receipt : goal.claim-requires-send-J-Receipt
claim-requires-send-J-Receipt g c κs within = c.type_bounds.send-J-Receipt

pub claim-requires-after_bounds : goal.claim-requires-after_bounds
claim-requires-after_bounds g c κs within =
    let t = fits_at g.J.Job.key_of c.args.self.now c.args.cpu c.index_mut-p.result.now c.requires (omega arith) c.index_mut-p.ensures.value in
    (processor_fits (param 0 g.row.J) (param 1 g.row.J-Receipt) assumption, (sym c.can_claim.ensures ∙ c.if-not-can_claim.false, turn_small t.0))

pub returns-then-i-len : goal.returns-then-i-len
returns-then-i-len g c = record {
  answers = record {
    step = (absent g.J.Job.key_of c.args.self.now c.args.cpu _ (omega arith), refl, refl);
    given = λ a. a;
  };
}

pub returns-then-not-can_claim : goal.returns-then-not-can_claim
returns-then-not-can_claim g c = record {
  answers = record {
    step = (
        let r = skipped g.J.Job.key_of c.args.self.now c.args.cpu c.index_mut-p.result.now (can_claim c.args.by) (omega arith) c.index_mut-p.ensures.value (sym c.can_claim.ensures ∙ c.if-not-can_claim.true) in
        (r.0, r.1, refl)
        );
    given = given_at g.J.Job.gives c.args.self.now c.args.cpu c.index_mut-p.result.now c.index_mut-p.result.now (omega arith) c.index_mut-p.ensures.value (λ mark a. a);
  };
}

pub returns-in-Err : goal.returns-in-Err
returns-in-Err g c = record {
  answers = record {
    step = (
        let r = refused g.J.Job.key_of c.args.self.now c.args.cpu c.index_mut-p.result.now c.index_mut-p.result.now (can_claim c.args.by) c.reserve.new.self.items (omega arith) c.index_mut-p.ensures.value (sym c.can_claim.ensures ∙ c.if-not-can_claim.false) refl c.reserve.ensures.items in
        (r.0, r.1, refl, refl)
        );
    given = given_at g.J.Job.gives c.args.self.now c.args.cpu c.index_mut-p.result.now c.index_mut-p.result.now (omega arith) c.index_mut-p.ensures.value (λ mark a. a);
  };
}
