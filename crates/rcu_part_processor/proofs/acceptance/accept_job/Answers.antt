use Rattle.std.proofs.Common.{◌≡◌, true, false, ℕ, ◌+◌, ◌*◌, ◌≤◌, [], ◌∷◌, ◌++◌, length, ◌∙◌, ap, sym, subst, refl, arith}
use Rattle.rcu_board.specs.Plays.{looked, accepted}
use Rattle.rcu_board.specs.Seats.{view}
use Rattle.rcu_board.specs.Words.{accepts_word}
use Rattle.rcu_board.proofs.Facts.{same_seat}
use Rattle.rcu_part_lists.specs.ProcessorLists.{Holding, holding, Takes, passed_on}
use Rattle.rcu_jobs.specs.declared.callback.Callback.{Callback}
use Rattle.rcu_part_steps.specs.Changes.{Enters}
use Rattle.rcu_part_steps.specs.Places.{AreKeyed}
use Rattle.rcu_part_processor.specs.Lawful.{HasPlaces, StaysLocal}
use Rattle.rcu_part_processor.proofs.Bounds.{is_safe_call, below_isnt}
use Rattle.rcu_part_processor.proofs.Keeping.{places_by_enters, places_by_keeps}
use Rattle.rcu_part_processor.proofs.Standing.{same_lane}
use Rattle.rcu_part_processor.proofs.Taking.{keyed_taken, takes_local, takes_more, takes_up}
use Rattle.rcu_part_processor.proofs.acceptance.accept_job.Goals as goal

pub place-requires : goal.place-requires
place-requires g c = (
  assumption,
  (
    c.in-Ok.ensures.found,
    is_safe_call c.in-Some.stamp c.args.accepted.now c.args.request.limit (length (passed_on (holding c.reserve.new.self))) c.in-Some.ensures.stamp.1 c.if-number-limit.false c.requires.small.1
        (subst (λ (h : Holding g.row.J.Denot). length (passed_on h) ≤ c.args.accepted.now) (sym c.in-Ok.ensures.same) c.requires.few),
  ),
)

pub returns-clause-places : goal.returns-clause-places
returns-clause-places g c claimed has =
    let r = c.args.request in let n = c.args.accepted.now in let e = c.in-Some.ensures in let v = view c.args.seat.now in let w = view c.accept_and_stamp.new.seat in
    let x : Callback g.row.J.Denot = record { cpu = r.cpu; number = n; key = c.key-key.result; stamp = c.in-Some.stamp; job = r.job } in
    let h = holding c.args.lists.now in let h' = holding c.place.new.self in
    let takes : Takes r.moment r.kind x h h' = subst (λ (o : Holding g.row.J.Denot). Takes r.moment r.kind x o h') c.in-Ok.ensures.same c.place.ensures.takes in
    let all : passed_on h' ≡ passed_on h ++ x ∷ [] = c.place.ensures.places ∙ ap (λ (o : Holding g.row.J.Denot). passed_on o ++ x ∷ []) c.in-Ok.ensures.same in
    let more = takes_more r.moment r.kind x h h' takes in
    let enters : Enters x.key x.stamp v w = e.enters in
    places_by_enters n _ v w claimed h h' more.0 x refl enters (e.same.later c.args.board.now c.requires.board) more.1 all more.2 (λ k. takes_up r.moment r.kind x h h' k takes) has

pub returns-clause-local : goal.returns-clause-local
returns-clause-local g c offloadable =
    let r = c.args.request in let h = holding c.args.lists.now in let h' = holding c.place.new.self in
    let x : Callback g.row.J.Denot = record { cpu = r.cpu; number = c.args.accepted.now; key = c.key-key.result; stamp = c.in-Some.stamp; job = r.job } in
    takes_local r.moment r.kind x h h' offloadable (subst (λ (o : Holding g.row.J.Denot). Takes r.moment r.kind x o h') c.in-Ok.ensures.same c.place.ensures.takes)

pub returns-clause-keyed : goal.returns-clause-keyed
returns-clause-keyed g c =
    let r = c.args.request in
    let x : Callback g.row.J.Denot = record { cpu = r.cpu; number = c.args.accepted.now; key = c.key-key.result; stamp = c.in-Some.stamp; job = r.job } in
    keyed_taken g.J.Job.key_of (passed_on (holding c.args.lists.now)) (passed_on (holding c.place.new.self)) x (sym c.key-key.ensures)
    (c.place.ensures.places ∙ ap (λ (o : Holding g.row.J.Denot). passed_on o ++ x ∷ []) c.in-Ok.ensures.same)

pub returns-clause-ok : goal.returns-clause-ok
returns-clause-ok g c =
    let r = c.args.request in let n = c.args.accepted.now in let e = c.in-Some.ensures in
    let at : ℕ → ℕ → Callback g.row.J.Denot = λ key stamp. record { cpu = r.cpu; number = n; key = key; stamp = stamp; job = r.job } in
    let h = holding c.args.lists.now in let h' = holding c.place.new.self in
    let takes : Takes r.moment r.kind (at c.key-key.result c.in-Some.stamp) h h' = subst (λ (o : Holding g.row.J.Denot). Takes r.moment r.kind (at c.key-key.result c.in-Some.stamp) o h') c.in-Ok.ensures.same c.place.ensures.takes in record {
      stamp = c.in-Some.stamp;
      cpu = refl;
      number = refl;
      count = refl;
      steps = e.view ∙ ap (λ (k : ℕ). looked c.in-Some.stamp (accepted (accepts_word r.cpu) (2 * n + 2) k (view c.args.seat.now))) c.key-key.ensures;
      takes = subst (λ (x : Callback g.row.J.Denot). Takes r.moment r.kind x h h') (ap (λ (k : ℕ). at k c.in-Some.stamp) c.key-key.ensures) takes;
      records = refl;
    }

pub returns-clause-claims : goal.returns-clause-claims
returns-clause-claims g c = let e = c.in-Some.ensures.enters in (e.claims, e.running)

pub returns-clause-word : goal.returns-clause-word
returns-clause-word g c = c.in-Some.ensures.enters.word

pub returns-in_default-accept_and_stamp-clause-word : goal.returns-in_default-accept_and_stamp-clause-word
returns-in_default-accept_and_stamp-clause-word g c = c.in_default-accept_and_stamp.ensures.keeps.word

pub returns-clause-full : goal.returns-clause-full
returns-clause-full g c = λ full. absurd (below_isnt c.args.accepted.now c.args.request.limit c.if-number-limit.false full)

pub returns-then-number-limit-clause-err : goal.returns-then-number-limit-clause-err
returns-then-number-limit-clause-err g c = record { count = refl; lists = refl; records = refl }

pub returns-then-number-limit-clause-refused : goal.returns-then-number-limit-clause-refused
returns-then-number-limit-clause-refused g c = let small = c.requires.small in let most = c.if-number-limit.true in (refl, omega arith, refl)

pub returns-in_default-clause-err : goal.returns-in_default-clause-err
returns-in_default-clause-err g c = record { count = refl; lists = c.in_default.ensures.same; records = refl }

pub returns-in_default-clause-refused : goal.returns-in_default-clause-refused
returns-in_default-clause-refused g c = let e = c.in_default.ensures in (
  refl,
  refl,
  record { full = λ ready. (let z : false ≡ true = e.had ready in cc); some = λ offloaded none. (let z : false ≡ true = e.none offloaded none in cc) },
)

pub returns-in_default-clause-full : goal.returns-in_default-clause-full
returns-in_default-clause-full g c = λ full. absurd (below_isnt c.args.accepted.now c.args.request.limit c.if-number-limit.false full)

pub returns-in_default-clause-places : goal.returns-in_default-clause-places
returns-in_default-clause-places g c claimed has = subst (λ (h : Holding g.row.J.Denot). HasPlaces c.args.accepted.now (view c.args.seat.now) claimed h) (sym c.in_default.ensures.same) has

pub returns-in_default-clause-local : goal.returns-in_default-clause-local
returns-in_default-clause-local g c offloadable local = subst (λ (h : Holding g.row.J.Denot). StaysLocal offloadable h) (sym c.in_default.ensures.same) local

pub returns-in_default-clause-keyed : goal.returns-in_default-clause-keyed
returns-in_default-clause-keyed g c keyed = subst (λ (h : Holding g.row.J.Denot). AreKeyed g.J.Job.key_of (passed_on h)) (sym c.in_default.ensures.same) keyed

pub accept_and_stamp-requires-clause-small : goal.accept_and_stamp-requires-clause-small
accept_and_stamp-requires-clause-small g c = let small = c.requires.small in let low = c.if-number-limit.false in omega arith

pub returns-in_default-accept_and_stamp-clause-err : goal.returns-in_default-accept_and_stamp-clause-err
returns-in_default-accept_and_stamp-clause-err g c = record { count = refl; lists = c.in-Ok.ensures.same; records = refl }

pub returns-in_default-accept_and_stamp-clause-refused : goal.returns-in_default-accept_and_stamp-clause-refused
returns-in_default-accept_and_stamp-clause-refused g c = (refl, c.in_default-accept_and_stamp.ensures.shut)

pub returns-in_default-accept_and_stamp-clause-full : goal.returns-in_default-accept_and_stamp-clause-full
returns-in_default-accept_and_stamp-clause-full g c = λ full. absurd (below_isnt c.args.accepted.now c.args.request.limit c.if-number-limit.false full)

pub returns-in_default-accept_and_stamp-clause-claims : goal.returns-in_default-accept_and_stamp-clause-claims
returns-in_default-accept_and_stamp-clause-claims g c = let k = c.in_default-accept_and_stamp.ensures.keeps in (k.claims, k.running)

pub returns-in_default-accept_and_stamp-clause-places : goal.returns-in_default-accept_and_stamp-clause-places
returns-in_default-accept_and_stamp-clause-places g c claimed has = let e = c.in_default-accept_and_stamp.ensures in
    subst (λ (h : Holding g.row.J.Denot). HasPlaces c.args.accepted.now (view c.accept_and_stamp.new.seat) claimed h) (sym c.in-Ok.ensures.same)
    (places_by_keeps c.args.accepted.now _ (view c.args.seat.now) (view c.accept_and_stamp.new.seat) claimed (holding c.args.lists.now) e.keeps (e.same.later c.args.board.now c.requires.board) has)

pub returns-in_default-accept_and_stamp-clause-local : goal.returns-in_default-accept_and_stamp-clause-local
returns-in_default-accept_and_stamp-clause-local g c offloadable local = subst (λ (h : Holding g.row.J.Denot). StaysLocal offloadable h) (sym c.in-Ok.ensures.same) local

pub returns-in_default-accept_and_stamp-clause-keyed : goal.returns-in_default-accept_and_stamp-clause-keyed
returns-in_default-accept_and_stamp-clause-keyed g c keyed = subst (λ (h : Holding g.row.J.Denot). AreKeyed g.J.Job.key_of (passed_on h)) (sym c.in-Ok.ensures.same) keyed

pub returns-then-number-limit-clause-closed : goal.returns-then-number-limit-clause-closed
returns-then-number-limit-clause-closed g c = λ _. refl

pub returns-then-number-limit-clause-full : goal.returns-then-number-limit-clause-full
returns-then-number-limit-clause-full g c = λ _. (tt, refl)

pub returns-then-number-limit-clause-small : goal.returns-then-number-limit-clause-small
returns-then-number-limit-clause-small g c = c.requires.small.0

pub returns-then-number-limit-clause-word : goal.returns-then-number-limit-clause-word
returns-then-number-limit-clause-word g c = refl

pub returns-then-number-limit-clause-claims : goal.returns-then-number-limit-clause-claims
returns-then-number-limit-clause-claims g c = (refl, refl)

pub returns-then-number-limit-clause-places : goal.returns-then-number-limit-clause-places
returns-then-number-limit-clause-places g c = λ _ has. has

pub returns-then-number-limit-clause-local : goal.returns-then-number-limit-clause-local
returns-then-number-limit-clause-local g c = λ _ local. local

pub returns-then-number-limit-clause-keyed : goal.returns-then-number-limit-clause-keyed
returns-then-number-limit-clause-keyed g c = λ keyed. keyed

pub reserve-requires : goal.reserve-requires
reserve-requires g c = assumption

pub returns-in_default-clause-closed : goal.returns-in_default-clause-closed
returns-in_default-clause-closed g c = λ _. refl

pub returns-in_default-clause-small : goal.returns-in_default-clause-small
returns-in_default-clause-small g c = c.requires.small.0

pub returns-in_default-clause-word : goal.returns-in_default-clause-word
returns-in_default-clause-word g c = refl

pub returns-in_default-clause-claims : goal.returns-in_default-clause-claims
returns-in_default-clause-claims g c = (refl, refl)

pub accept_and_stamp-requires-clause-board : goal.accept_and_stamp-requires-clause-board
accept_and_stamp-requires-clause-board g c = c.requires.board

pub accept_and_stamp-requires-clause-role : goal.accept_and_stamp-requires-clause-role
accept_and_stamp-requires-clause-role g c = c.requires.role

pub accept_and_stamp-requires-clause-count : goal.accept_and_stamp-requires-clause-count
accept_and_stamp-requires-clause-count g c = c.requires.counted

pub accept_and_stamp-requires-clause-stamped : goal.accept_and_stamp-requires-clause-stamped
accept_and_stamp-requires-clause-stamped g c = c.requires.stamped

pub returns-in_default-accept_and_stamp-clause-closed : goal.returns-in_default-accept_and_stamp-clause-closed
returns-in_default-accept_and_stamp-clause-closed g c = λ _. refl

pub returns-in_default-accept_and_stamp-clause-small : goal.returns-in_default-accept_and_stamp-clause-small
returns-in_default-accept_and_stamp-clause-small g c = c.requires.small.0

pub overflow_add-accepted : goal.overflow_add-accepted
overflow_add-accepted g c = let small = c.requires.small in let low = c.if-number-limit.false in omega arith

pub returns-clause-closed : goal.returns-clause-closed
returns-clause-closed g c = λ shut. sym (c.in-Some.ensures.closed shut)

pub returns-clause-small : goal.returns-clause-small
returns-clause-small g c = let low = c.if-number-limit.false in omega arith

pub returns-then-number-limit-clause-same : goal.returns-then-number-limit-clause-same
returns-then-number-limit-clause-same g c = (same_seat c.args.seat.now, refl)

pub returns-in_default-clause-same : goal.returns-in_default-clause-same
returns-in_default-clause-same g c = (same_seat c.args.seat.now, same_lane c.args.lists.now c.reserve.new.self c.in_default.ensures.rear)

pub returns-in_default-accept_and_stamp-clause-same : goal.returns-in_default-accept_and_stamp-clause-same
returns-in_default-accept_and_stamp-clause-same g c = (c.in_default-accept_and_stamp.ensures.same, same_lane c.args.lists.now c.reserve.new.self c.in-Ok.ensures.rear)

pub returns-clause-same : goal.returns-clause-same
returns-clause-same g c = (c.in-Some.ensures.same, c.place.ensures.lane ∙ same_lane c.args.lists.now c.reserve.new.self c.in-Ok.ensures.rear)
