-- A processor, as the law sees it
use Rattle.std.specs.Prelude.{◌≡◌, ℕ, map, Option, Some, None}
use Rattle.std.specs.Global.{Vec}
use Rattle.rcu_jobs.specs.declared.Callback.{Callback}
use Rattle.rcu_jobs.specs.declared.Record.{Record}
use Rattle.rcu_jobs.specs.Records.{Given}
use Rattle.rcu_world_law.specs.Calls.{Call}
use Rattle.rcu_world_law.specs.States.{Cpu, Run, run_of}
use Rattle.rcu_lists.specs.Bypasses.{bypass_qhimark}
use Rattle.rcu_world_processor.specs.declared.processor.WorldProcessor.{WorldProcessor}
use Rattle.rcu_world_processor.specs.Waits.{call, waiting}
use Rattle.rcu_world_processor.specs.Batches.{batch, batches, bypassed, pace}

-- a record without its receipt
abbrev pub run : {R : Type 0} → Record R → Run
run r = run_of r.number r.key r.stamp r.ready

module _ {J : Type 0} (key_of : J → ℕ) where
  abbrev pub fresh_call : Option (Callback J) → Option Call
  fresh_call None = None
  fresh_call (Some c) = Some (call key_of c)

  abbrev pub seen : {R : Type 0} → WorldProcessor J R → Cpu
  seen c = record {
    fresh = fresh_call c.fresh;
    own = waiting key_of c.own;
    bypass = bypassed key_of c.bypass;
    lane = batches key_of c.lane.items;
    drawn = batch key_of c.drawn;
    joined = waiting key_of c.joined;
    out = batch key_of c.out;
    done_lane = batches key_of c.done_lane.items;
    held = batch key_of c.held;
    runs = map run c.records.items;
    shut = c.shut;
    count = c.count;
    turn = c.turn;
    asked = c.asked;
    running = c.running;
    sight = c.sight;
    hand_sight = c.hand_sight;
    wanted = c.wanted;
    group_wanted = c.group_wanted;
    mode = c.mode;
    left = c.left;
    moment = (pace c.bypass).moment;
    direct = (pace c.bypass).direct;
    kept_moment = (pace c.bypass).kept_moment;
    plain = (pace c.bypass).plain;
    urged = c.urged;
    away = c.away;
  }

-- the records of what ran
abbrev pub records_of : {J R : Type 0} → WorldProcessor J R → Vec (Record R)
records_of c = c.records

-- the length at which its bypass list is released
abbrev pub mark_of : {J R : Type 0} → WorldProcessor J R → ℕ
mark_of c = bypass_qhimark c.bypass

-- What the law doesn't see: the receipts are as the relation wants them, and the bypass list is released at this length.
abbrev pub AreGiven : {J R : Type 0} → (ℕ → R → Type 0) → ℕ → WorldProcessor J R → Type 0
AreGiven gives qhimark c = Given gives c.records.items × (mark_of c ≡ qhimark)

-- what the law doesn't see stays so
abbrev pub KeepsGiven : {J R : Type 0} → (ℕ → R → Type 0) → WorldProcessor J R → WorldProcessor J R → Type 0
KeepsGiven gives old new = (mark : ℕ) → AreGiven gives mark old → AreGiven gives mark new
