use Rattle.std.proofs.lemmas.Result.{IfOk-at_ok, MatchResult-at_ok}
use Rattle.rcu_part_threads.specs.Parts.{GroupStays, HandStays}
use Rattle.rcu_part_threads.proofs.Tickets.{driver_kept}
use Rattle.rcu_part_threads.proofs.Zips.{zip_kept}
use Rattle.check_torture.specs.Ends.{CpuKeeps}
use Rattle.check_torture.specs.Retired.{IsVersion, version_of}
use Rattle.check_torture.proofs.one_run.run_parts.Goals as goal

pub returns : goal.returns
returns g c = let parts = c.args.parts in
    -- what each of the four gave
    let driver = MatchResult-at_ok _ _ _ c.unwrap-driver.ensures c.join_driver-driver.ensures in
    let groups = IfOk-at_ok _ c.unwrap-groups.ensures c.join_all-groups.ensures.whole in
    let groups_kept = IfOk-at_ok _ c.unwrap-groups.ensures c.join_all-groups.ensures.kept in
    let hands = IfOk-at_ok _ c.unwrap-hands.ensures c.join_all-hands.ensures.whole in
    let hands_kept = IfOk-at_ok _ c.unwrap-hands.ensures c.join_all-hands.ensures.kept in
    let actors = IfOk-at_ok _ c.unwrap-processors.ensures c.join_actors-parted.ensures.whole in
    let actors_kept = IfOk-at_ok _ c.unwrap-processors.ensures c.join_actors-parted.ensures.kept in
    record {
      control = c.lead-control.ensures;
      driver = driver_kept (λ t. t.promise.0.value) c.start_driver-driver.result parts.driver c.unwrap-driver.result c.start_driver-driver.ensures driver;
      groups = zip_kept (λ t. t.promise.0.value) (λ t q. GroupStays t.promise.0.value q) GroupStays (λ t q kept. kept) parts.groups.items c.start_groups-groups.result.threads.items c.unwrap-groups.result.items (c.start_groups-groups.ensures groups) groups_kept;
      hands = zip_kept (λ t. t.promise.0.value) (λ t q. HandStays version_of IsVersion t.promise.0.value q) (HandStays version_of IsVersion) (λ t q kept. kept) parts.hands.items c.start_hands-hands.result.threads.items c.unwrap-hands.result.items (c.start_hands-hands.ensures hands) hands_kept;
      processors = zip_kept (λ t. t.promise.0.value) (λ t q. CpuKeeps t.promise.0.value q) CpuKeeps (λ t q kept. kept) parts.processors.items c.start_actors-actors.result.threads.items c.unwrap-processors.result.processors.items (c.start_actors-actors.ensures actors) actors_kept;
    }
