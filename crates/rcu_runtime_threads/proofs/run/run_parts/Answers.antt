use Rattle.std.proofs.Common.{◌≡◌, ◌≢◌, ◌∙◌, Some, ap, map, subst, sym, vec_len, arith}
use mir.Syntax.{of_param}
use Rattle.std.specs.List.{AllZip, slice_get}
use Rattle.rcu_runtime_threads.specs.Crews.{HasBegun, HasEnded}
use Rattle.rcu_runtime_threads.specs.Rooms.{AreHalvesFor}
use Rattle.rcu_runtime_threads.specs.Stays.{GroupStays, HandStays}
use Rattle.rcu_runtime_threads.specs.Steps.{PostWorks, ProcessorWorks}
use Rattle.rcu_runtime_threads.proofs.Crews.{as_many, ended_at, joined_all, joined_one, unbegun_at, zip_length, zip_mapped}
use Rattle.rcu_runtime_threads.specs.declared.worker.WorkerEnd.TheVariants.{NotBegun}
use Rattle.rcu_runtime_threads.proofs.run.run_parts.Goals as goal
use Rattle.rcu_part_control.specs.Parts.{SameDriver}
use Rattle.rcu_lemmas.proofs.Zips.{zip_map, zip_weaker}

pub returns-clause-parts : goal.returns-clause-parts
returns-clause-parts g c = let key_of = g.J.Job.key_of in let gives = g.J.Job.gives in let name_of = g.W.Worker.name_of in let ends_as = g.W.Worker.ends_as in let parts = c.args.parts in
    let posts = joined_all (λ t. t.promise.0.value) (PostWorks key_of gives name_of ends_as) (λ t q. PostWorks key_of gives name_of ends_as t.promise.0.value q) (λ t q k. k) c.pair-posts.result.items c.start_posts-posts.result.started.items c.join_all-posts.result.items c.start_posts-posts.ensures c.join_all-posts.ensures in
    let kept = zip_weaker (PostWorks key_of gives name_of ends_as) (λ p q. ProcessorWorks key_of gives p.processor q.processor) (λ p q w. w.processor) c.pair-posts.result.items c.join_all-posts.result.items posts in
    let works = zip_mapped (λ p. p.processor) (ProcessorWorks key_of gives) c.pair-posts.result.items c.join_all-posts.result.items kept in record {
      control = c.oversee-has_begun.ensures.same;
      driver = joined_one (λ t. t.promise.0.value) SameDriver (λ t q. SameDriver t.promise.0.value q) (λ t q k. k) parts.driver c.start_driver-driver.result c.join-driver.result c.start_driver-driver.ensures c.join-driver.ensures;
      processors = subst (λ ps. AllZip (ProcessorWorks key_of gives) ps c.part-processors.result.processors.items) c.pair-posts.ensures.processors (subst (AllZip (ProcessorWorks key_of gives) (map (λ p. p.processor) c.pair-posts.result.items)) (sym c.part-processors.ensures.processors) works);
      groups = joined_all (λ t. t.promise.0.value) GroupStays (λ t q. GroupStays t.promise.0.value q) (λ t q k. k) parts.groups.items c.start_groups-groups.result.started.items c.join_all-groups.result.items c.start_groups-groups.ensures c.join_all-groups.ensures;
      hands = joined_all (λ t. t.promise.0.value) (HandStays key_of gives) (λ t q. HandStays key_of gives t.promise.0.value q) (λ t q k. k) parts.hands.items c.start_hands-hands.result.started.items c.join_all-hands.result.items c.start_hands-hands.ensures c.join_all-hands.ensures;
    }

pub returns-clause-control : goal.returns-clause-control
returns-clause-control g c = c.oversee-has_begun.ensures.oversees

pub pair-posts-requires-room-P-Destruct : goal.pair-posts-requires-room-P-Destruct
pair-posts-requires-room-P-Destruct g c κs within = assumption

pub pair-posts-requires-clause-many : goal.pair-posts-requires-clause-many
pair-posts-requires-clause-many g c = c.requires.many

pub pair-posts-requires-clause-room : goal.pair-posts-requires-clause-room
pair-posts-requires-clause-room g c = c.requires.posts

pub start_groups-groups-requires-send-J : goal.start_groups-groups-requires-send-J
start_groups-groups-requires-send-J g c κs within = record { owned = c.type_bounds.send-J.owned; leaving = c.type_bounds.send-J.leaving }

pub start_groups-groups-requires-send-R : goal.start_groups-groups-requires-send-R
start_groups-groups-requires-send-R g c κs within = record { owned = c.type_bounds.send-R.owned; leaving = c.type_bounds.send-R.leaving }

pub start_groups-groups-requires-send-S : goal.start_groups-groups-requires-send-S
start_groups-groups-requires-send-S g c κs within = record { owned = c.type_bounds.send-S.owned; leaving = λ k. c.type_bounds.send-S.leaving (λ _. k (of_param 2)) }

pub start_groups-groups-requires-after_bounds : goal.start_groups-groups-requires-after_bounds
start_groups-groups-requires-after_bounds g c κs within = let room = c.requires.others.0 in (assumption, omega (arith, room))

pub start_hands-hands-requires-send-J : goal.start_hands-hands-requires-send-J
start_hands-hands-requires-send-J g c κs within = record { owned = c.type_bounds.send-J.owned; leaving = c.type_bounds.send-J.leaving }

pub start_hands-hands-requires-send-R : goal.start_hands-hands-requires-send-R
start_hands-hands-requires-send-R g c κs within = record { owned = c.type_bounds.send-R.owned; leaving = c.type_bounds.send-R.leaving }

pub start_hands-hands-requires-send-S : goal.start_hands-hands-requires-send-S
start_hands-hands-requires-send-S g c κs within = record { owned = c.type_bounds.send-S.owned; leaving = λ k. c.type_bounds.send-S.leaving (λ _. k (of_param 2)) }

pub start_hands-hands-requires-after_bounds : goal.start_hands-hands-requires-after_bounds
start_hands-hands-requires-after_bounds g c κs within = let room = c.requires.others.1 in (assumption, omega (arith, room))

pub start_posts-posts-requires-send-J : goal.start_posts-posts-requires-send-J
start_posts-posts-requires-send-J g c κs within = record { owned = c.type_bounds.send-J.owned; leaving = c.type_bounds.send-J.leaving }

pub start_posts-posts-requires-send-W : goal.start_posts-posts-requires-send-W
start_posts-posts-requires-send-W g c κs within = record { owned = c.type_bounds.send-W.owned; leaving = c.type_bounds.send-W.leaving }

pub start_posts-posts-requires-send-R : goal.start_posts-posts-requires-send-R
start_posts-posts-requires-send-R g c κs within = record { owned = c.type_bounds.send-R.owned; leaving = c.type_bounds.send-R.leaving }

pub start_posts-posts-requires-send-S : goal.start_posts-posts-requires-send-S
start_posts-posts-requires-send-S g c κs within = record { owned = c.type_bounds.send-S.owned; leaving = c.type_bounds.send-S.leaving }

pub start_posts-posts-requires-after_bounds : goal.start_posts-posts-requires-after_bounds
start_posts-posts-requires-after_bounds g c κs within =
    let many = as_many (λ p. p.processor) c.pair-posts.result.items c.args.parts.processors.items c.pair-posts.ensures.processors in let posts = c.pair-posts.result.ok.0 in let parts = c.args.parts.processors.ok.0 in let room = c.requires.at_posts in (assumption, omega (arith, many, posts, parts, room))

pub join_all-groups-requires-room-P-Promise : goal.join_all-groups-requires-room-P-Promise
join_all-groups-requires-room-P-Promise g c κs within = assumption

pub join_all-groups-requires-room-T-Destruct : goal.join_all-groups-requires-room-T-Destruct
join_all-groups-requires-room-T-Destruct g c κs within = assumption

pub join_all-hands-requires-room-P-Promise : goal.join_all-hands-requires-room-P-Promise
join_all-hands-requires-room-P-Promise g c κs within = assumption

pub join_all-hands-requires-room-T-Destruct : goal.join_all-hands-requires-room-T-Destruct
join_all-hands-requires-room-T-Destruct g c κs within = assumption

pub join_all-posts-requires-room-P-Promise : goal.join_all-posts-requires-room-P-Promise
join_all-posts-requires-room-P-Promise g c κs within = assumption

pub join_all-posts-requires-room-T-Destruct : goal.join_all-posts-requires-room-T-Destruct
join_all-posts-requires-room-T-Destruct g c κs within = assumption

pub part-processors-requires-room-P-Destruct : goal.part-processors-requires-room-P-Destruct
part-processors-requires-room-P-Destruct g c κs within = assumption

pub part-processors-requires : goal.part-processors-requires
part-processors-requires g c =
    let key_of = g.J.Job.key_of in let gives = g.J.Job.gives in let name_of = g.W.Worker.name_of in let ends_as = g.W.Worker.ends_as in
    let many = as_many (λ p. p.processor) c.pair-posts.result.items c.args.parts.processors.items c.pair-posts.ensures.processors in let posts = c.pair-posts.result.ok.0 in let parts = c.args.parts.processors.ok.0 in
    let begun = zip_length (HasBegun (λ t. t.promise.0.value) (PostWorks key_of gives name_of ends_as)) c.pair-posts.result.items c.start_posts-posts.result.started.items c.start_posts-posts.ensures in
    let ended = zip_length (HasEnded (λ t q. PostWorks key_of gives name_of ends_as t.promise.0.value q)) c.start_posts-posts.result.started.items c.join_all-posts.result.items c.join_all-posts.ensures in
    let joined = c.join_all-posts.result.ok.0 in
    let same : vec_len c.args.parts.processors ≡ vec_len c.join_all-posts.result = omega (arith, many, parts, begun, ended, joined) in
    subst (λ n. AreHalvesFor n c.args.rooms.halves) same c.requires.halves

pub returns-clause-workers : goal.returns-clause-workers
returns-clause-workers g c =
    let key_of = g.J.Job.key_of in let gives = g.J.Job.gives in let name_of = g.W.Worker.name_of in let ends_as = g.W.Worker.ends_as in let posts = c.join_all-posts.result in
    let paired = as_many (λ p. p.worker) c.pair-posts.result.items c.args.workers.items c.pair-posts.ensures.workers in let many = c.args.workers.ok.0 in
    let begun = zip_length (HasBegun (λ t. t.promise.0.value) (PostWorks key_of gives name_of ends_as)) c.pair-posts.result.items c.start_posts-posts.result.started.items c.start_posts-posts.ensures in
    let ended = zip_length (HasEnded (λ t q. PostWorks key_of gives name_of ends_as t.promise.0.value q)) c.start_posts-posts.result.started.items posts.items c.join_all-posts.ensures in
    let workers = as_many (λ p. p.worker) posts.items c.part-processors.result.workers.items (sym c.part-processors.ensures.workers) in let back = c.part-processors.result.workers.ok.0 in
    let ends = as_many (λ p. p.end) posts.items c.part-processors.result.ends.items (sym c.part-processors.ensures.ends) in let said = c.part-processors.result.ends.ok.0 in record {
      workers = omega (arith, many, paired, begun, ended, workers, back);
      ends = omega (arith, many, paired, begun, ended, ends, said);
    }

pub returns-clause-unbegun : goal.returns-clause-unbegun
returns-clause-unbegun g c = let key_of = g.J.Job.key_of in let gives = g.J.Job.gives in let name_of = g.W.Worker.name_of in let ends_as = g.W.Worker.ends_as in let paired = c.pair-posts.result.items in let joined = c.join_all-posts.result.items in
    let posts = joined_all (λ t. t.promise.0.value) (PostWorks key_of gives name_of ends_as) (λ t q. PostWorks key_of gives name_of ends_as t.promise.0.value q) (λ t q k. k) paired c.start_posts-posts.result.started.items joined c.start_posts-posts.ensures c.join_all-posts.ensures in
    let rests = zip_weaker (PostWorks key_of gives name_of ends_as) (λ p q. q.end ≡ NotBegun → q.worker ≡ p.worker) (λ p q w none. (w.unbegun none).1) paired joined posts in
    λ k none. ap (λ xs. slice_get xs k) c.part-processors.ensures.workers
    ∙ (unbegun_at paired joined rests k (subst (λ xs. slice_get xs k ≡ Some NotBegun) c.part-processors.ensures.ends none) ∙ ap (λ xs. slice_get xs k) c.pair-posts.ensures.workers)

pub returns-clause-ended : goal.returns-clause-ended
returns-clause-ended g c = let key_of = g.J.Job.key_of in let gives = g.J.Job.gives in let name_of = g.W.Worker.name_of in let ends_as = g.W.Worker.ends_as in let paired = c.pair-posts.result.items in let joined = c.join_all-posts.result.items in
    let posts = joined_all (λ t. t.promise.0.value) (PostWorks key_of gives name_of ends_as) (λ t q. PostWorks key_of gives name_of ends_as t.promise.0.value q) (λ t q k. k) paired c.start_posts-posts.result.started.items joined c.start_posts-posts.ensures c.join_all-posts.ensures in
    let says = zip_weaker (PostWorks key_of gives name_of ends_as) (λ p q. q.end ≢ NotBegun → ends_as q.end q.worker) (λ p q w. w.ended) paired joined posts in
    λ k w e is ends begun. ended_at ends_as paired joined says k w e (subst (λ xs. slice_get xs k ≡ Some w) c.part-processors.ensures.workers is) (subst (λ xs. slice_get xs k ≡ Some e) c.part-processors.ensures.ends ends) begun

pub returns-clause-names : goal.returns-clause-names
returns-clause-names g c = let key_of = g.J.Job.key_of in let gives = g.J.Job.gives in let name_of = g.W.Worker.name_of in let ends_as = g.W.Worker.ends_as in let paired = c.pair-posts.result.items in let joined = c.join_all-posts.result.items in
    let posts = joined_all (λ t. t.promise.0.value) (PostWorks key_of gives name_of ends_as) (λ t q. PostWorks key_of gives name_of ends_as t.promise.0.value q) (λ t q k. k) paired c.start_posts-posts.result.started.items joined c.start_posts-posts.ensures c.join_all-posts.ensures in
    let same = zip_weaker (PostWorks key_of gives name_of ends_as) (λ p q. name_of q.worker ≡ name_of p.worker) (λ p q w. w.name) paired joined posts in
    let named = zip_map (λ v w. name_of w ≡ name_of v) name_of (λ v w e. e) (map (λ p. p.worker) paired) (map (λ q. q.worker) joined) (zip_mapped (λ p. p.worker) (λ v w. name_of w ≡ name_of v) paired joined same) in
    ap (λ ws. map name_of ws) c.part-processors.ensures.workers ∙ (named ∙ ap (λ ws. map name_of ws) c.pair-posts.ensures.workers)
