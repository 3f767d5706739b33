-- A runtime stays whole: one processor more, one part more.
use Rattle.std.proofs.Common.{◌≡◌, ℕ, zero, suc, ◌+◌, ◌<◌, ◌≤◌, List, [], ◌∷◌, length, get_or, set, sum_by, All, Option, arith, refl, subst, sym, ap, ◌∙◌}
use Rattle.std.proofs.lemmas.List.Sums.{sum_by-cons, sum_by-set}
use Rattle.std.specs.List.{AllZip}
use Rattle.std.specs.Vec.{with_item}
use Rattle.rcu_board.specs.declared.board.Board.{Board}
use Rattle.rcu_board.proofs.Stepping.{same_again, same_part}
use Rattle.rcu_part_control.specs.Parts.{SameControl, SameDriver}
use Rattle.rcu_part_control.specs.declared.control.Control.{Control}
use Rattle.rcu_part_control.specs.declared.driver.Driver.{Driver}
use Rattle.rcu_part_group.proofs.GroupTurns.{same_group, same_group_again}
use Rattle.rcu_part_group.specs.Groups.{SameGroup}
use Rattle.rcu_part_group.specs.declared.group.Group.{Group}
use Rattle.rcu_part_hand.proofs.HandRuns.{same_hand, same_hand_again}
use Rattle.rcu_part_hand.specs.Hands.{IsSoundHand, SameHand}
use Rattle.rcu_part_hand.specs.declared.hand.Hand.{Hand}
use Rattle.rcu_part_processor.proofs.TickRuns.{same_processor, same_processor_again}
use Rattle.rcu_part_processor.specs.Processors.{IsSound, SameProcessor}
use Rattle.rcu_part_processor.specs.declared.processor.Processor.{Processor}
use Rattle.rcu_part_processor.specs.declared.processor.ProcessorState.{ProcessorState}
use Rattle.rcu_parts.proofs.Draining.{stays_drained}
use Rattle.rcu_parts.proofs.KeptWhole.{whole_stays}
use Rattle.rcu_parts.proofs.StaySame.{stay_same}
use Rattle.rcu_parts.specs.OneOpen.{AreOfOneOpen, AreProcessorsFrom, AreSoundParts, Parts, groups_in, hands_in, parts_board, processors_in}
use Rattle.rcu_parts.specs.SameParts.{AreSameParts}
use Rattle.rcu_runtime.specs.Calls.{IsProcessor, LeavesAll, OnControl, OnProcessor, ReportsOnce}
use Rattle.rcu_runtime.specs.Passing.{KeepsProcessor, PassesGroup, PassesHand, PassesTick}
use Rattle.rcu_runtime.specs.Runtimes.{Continues, IsWhole, accepted_in}
use Rattle.rcu_runtime.specs.Turns.{GroupTurns, HandTurns, ReportsAndTicks, Ticks}
use Rattle.rcu_jobs.specs.declared.turns.Ticked.{Ticked}
use Rattle.rcu_runtime.proofs.Changing.{all_along}
use Rattle.rcu_lemmas.proofs.Zips.{zip_again, zip_same, zip_weaker}
use Rattle.rcu_lemmas.proofs.Changed.{all_changed, zip_changed}

pub control_itself : (c : Control) → SameControl c c
control_itself c = same_part _ _

pub driver_itself : (d : Driver) → SameDriver d d
driver_itself d = same_part _ _

control_along : (c d : Control) → d ≡ c → SameControl c d
control_along c d e = subst (SameControl c) (sym e) (control_itself c)

driver_along : (d e : Driver) → e ≡ d → SameDriver d e
driver_along d e is = subst (SameDriver d) (sym is) (driver_itself d)

module _ {J R : Type 0} where
  abbrev SameCpu : Processor J R → Processor J R → Type 0
  SameCpu p q = SameProcessor p.state q.state

  abbrev SameOfGroup : Group J R → Group J R → Type 0
  SameOfGroup g h = SameGroup g.state h.state

  abbrev SameOfHand : Hand J R → Hand J R → Type 0
  SameOfHand h i = SameHand h.state i.state

  pub processors_itself : (ps : List (Processor J R)) → AllZip SameCpu ps ps
  processors_itself ps = zip_same SameCpu (λ p. same_processor p.state) ps

  pub groups_itself : (gs : List (Group J R)) → AllZip SameOfGroup gs gs
  groups_itself gs = zip_same SameOfGroup (λ g. same_group g.state) gs

  pub hands_itself : (hs : List (Hand J R)) → AllZip SameOfHand hs hs
  hands_itself hs = zip_same SameOfHand (λ h. same_hand h.state) hs

  -- ---- the laws

  pub continues_itself : (parts : Parts J R) → Continues parts parts
  continues_itself parts = record {
    same = record {
      control = control_itself parts.control;
      driver = driver_itself parts.driver;
      processors = processors_itself (processors_in parts);
      groups = groups_itself (groups_in parts);
      hands = hands_itself (hands_in parts);
    };
    accepted = omega arith;
    drained = λ d. d;
  }

  pub continues_again : (old between new : Parts J R) → Continues old between → Continues between new → Continues old new
  continues_again old between new a b = record {
    same = record {
      control = same_again _ _ _ _ _ _ a.same.control b.same.control;
      driver = same_again _ _ _ _ _ _ a.same.driver b.same.driver;
      processors = zip_again SameCpu (λ p q r. same_processor_again p.state q.state r.state) (processors_in old) (processors_in between) (processors_in new) a.same.processors b.same.processors;
      groups = zip_again SameOfGroup (λ p q r. same_group_again p.state q.state r.state) (groups_in old) (groups_in between) (groups_in new) a.same.groups b.same.groups;
      hands = zip_again SameOfHand (λ p q r. same_hand_again p.state q.state r.state) (hands_in old) (hands_in between) (hands_in new) a.same.hands b.same.hands;
    };
    accepted = omega (arith, a.accepted, b.accepted);
    drained = λ d. b.drained (a.drained d);
  }

  -- the same parts, which have accepted no less
  continues_same : (old new : Parts J R) → AreOfOneOpen old → AreSameParts old new → accepted_in old ≤ accepted_in new → Continues old new
  continues_same old new one same more = record { same = same; accepted = more; drained = λ d. (d.0, stays_drained d.0 old new same one d.1) }

  pub continues_along : (old new : Parts J R) → new ≡ old → Continues old new
  continues_along old new e = subst (Continues old) (sym e) (continues_itself old)

  -- nothing changed
  pub leaves_all : (old new : Parts J R) → new ≡ old → LeavesAll old new
  leaves_all old new e = record { stays = e; continues = continues_along old new e; none = ap (λ (x : Parts J R). accepted_in x) e }

  -- ---- what a runtime keeps

  module _ (key_of : J → ℕ) (gives : ℕ → R → Type 0) where
    pub whole_kept : (limit : ℕ) (old new : Parts J R) → AreSameParts old new → (AreSoundParts key_of gives old → AreSoundParts key_of gives new) → IsWhole key_of gives limit old → IsWhole key_of gives limit new
    whole_kept limit old new same sound whole = record {
      close = record { one = stay_same old new same whole.close.one; sound = sound whole.close.sound; keep = whole_stays old new same whole.close.keep };
      limits = all_along (λ (p : Processor J R). p.state.limit ≡ limit) SameCpu (λ p q s e. s.limit ∙ e) (processors_in old) (processors_in new) same.processors whole.limits;
    }

  -- ---- one processor

  -- This processor stands for that one, and all other parts are as they were.
  pub record Changes (k : ℕ) (p q : Processor J R) (old new : Parts J R) : Type 0 where
    pub there : k < length (processors_in old)
    pub is : p ≡ get_or (processors_in old) k p
    pub processors : processors_in new ≡ set (processors_in old) k q
    pub groups : new.groups ≡ old.groups
    pub hands : new.hands ≡ old.hands
    pub driver : new.driver ≡ old.driver
    pub control : new.control ≡ old.control

  -- the k-th from n on has the number n + k
  cpu_from : (n : ℕ) (b : Board) (ps : List (Processor J R)) (k : ℕ) (p : Processor J R) → AreProcessorsFrom n b ps → k < length ps → p ≡ get_or ps k p → p.state.cpu ≡ n + k
  unfolding AreProcessorsFrom
  cpu_from n b [] k p h there is = absurd (omega (arith, there))
  cpu_from n b (x ∷ ps) zero p h there is = let e = ap (λ (y : Processor J R). y.state.cpu) is in omega (arith, e, h.1)
  cpu_from n b (x ∷ ps) (suc k) p h there is = let e = cpu_from (suc n) b ps k p h.2 (omega (arith, there)) is in omega (arith, e)

  pub is_processor : (k : ℕ) (parts : Parts J R) (p : Processor J R) → AreOfOneOpen parts → k < length (processors_in parts) → p ≡ get_or (processors_in parts) k p → IsProcessor k parts p
  is_processor k parts p one there is = record { there = there; is = is; cpu = let e = cpu_from 0 (parts_board parts) (processors_in parts) k p one.processors there is in omega (arith, e) }

  module _ (k : ℕ) (p q : Processor J R) (old new : Parts J R) (c : Changes k p q old new) where
    pub same_changed : SameProcessor p.state q.state → AreSameParts old new
    same_changed same = record {
      control = control_along old.control new.control c.control;
      driver = driver_along old.driver new.driver c.driver;
      processors = subst (AllZip SameCpu (processors_in old)) (sym c.processors) (zip_changed SameCpu (λ x. same_processor x.state) (processors_in old) k p q c.there c.is same);
      groups = subst (λ gs. AllZip SameOfGroup (groups_in old) gs.items) (sym c.groups) (groups_itself (groups_in old));
      hands = subst (λ hs. AllZip SameOfHand (hands_in old) hs.items) (sym c.hands) (hands_itself (hands_in old));
    }

    -- what the processor accepted is all that was accepted more
    pub accepted_changed : accepted_in new + p.state.accepted ≡ accepted_in old + q.state.accepted
    accepted_changed =
        let new_is = ap (λ (ps : List (Processor J R)). sum_by (λ x. x.state.accepted) ps) c.processors in
        let sum = sum_by-set (λ (x : Processor J R). x.state.accepted) (processors_in old) k q p c.there in
        let here = ap (λ (x : Processor J R). x.state.accepted) c.is in
        omega (arith, new_is, sum, here)

    continues_changed : SameProcessor p.state q.state → p.state.accepted ≤ q.state.accepted → AreOfOneOpen old → Continues old new
    continues_changed same more one = continues_same old new one (same_changed same) (omega (arith, accepted_changed, more))

    pub whole_changed : (key_of : J → ℕ) (gives : ℕ → R → Type 0) (limit : ℕ) → SameProcessor p.state q.state → (IsSound key_of gives p.state → IsSound key_of gives q.state)
        → IsWhole key_of gives limit old → IsWhole key_of gives limit new
    whole_changed key_of gives limit same sound whole = whole_kept key_of gives limit old new (same_changed same)
        (λ s. record {
          processors = subst (All (λ x. IsSound key_of gives x.state)) (sym c.processors) (all_changed (λ x. IsSound key_of gives x.state) (processors_in old) k p q c.there c.is sound s.processors);
          hands = subst (λ hs. All (λ h. IsSoundHand key_of gives h.state) hs.items) (sym c.hands) s.hands;
        }) whole

    pub on_processor : (Does : ProcessorState J R → ProcessorState J R → Type 0) → AreOfOneOpen old → SameProcessor p.state q.state → p.state.accepted ≤ q.state.accepted → Does p.state q.state → OnProcessor k Does old new
    on_processor Does one same more does = record {
      before = p;
      after = q;
      is = is_processor k old p one c.there c.is;
      does = does;
      processors = c.processors;
      groups = c.groups;
      hands = c.hands;
      driver = c.driver;
      control = c.control;
      continues = continues_changed same more one;
    }

  -- ---- a call of one processor, in the words of the code: the parts are seen as `old`

  abbrev pub with_processor : Parts J R → ℕ → Processor J R → Parts J R
  with_processor parts k q = record parts { processors = with_item parts.processors k q }

  module _ (old parts : Parts J R) (seen : parts ≡ old) (k n : ℕ) (p q : Processor J R) (there : k < n) (many : n ≡ length (processors_in old)) (is : p ≡ get_or (processors_in parts) k p) where
    in_place : k < length (processors_in parts)
    in_place = let long = ap (λ (x : Parts J R). length (processors_in x)) seen in omega (arith, there, many, long)

    changes : Changes k p q parts (with_processor parts k q)
    changes = record { there = in_place; is = is; processors = refl; groups = refl; hands = refl; driver = refl; control = refl }

    pub called_whole : (key_of : J → ℕ) (gives : ℕ → R → Type 0) (limit : ℕ) → SameProcessor p.state q.state → (IsSound key_of gives p.state → IsSound key_of gives q.state)
        → IsWhole key_of gives limit parts → IsWhole key_of gives limit (with_processor parts k q)
    called_whole key_of gives limit same sound whole = whole_changed k p q parts (with_processor parts k q) changes key_of gives limit same sound whole

    pub called_on : (Does : ProcessorState J R → ProcessorState J R → Type 0) → AreOfOneOpen parts → SameProcessor p.state q.state → p.state.accepted ≤ q.state.accepted → Does p.state q.state → OnProcessor k Does old (with_processor parts k q)
    called_on Does one same more does = subst (λ (x : Parts J R). OnProcessor k Does x (with_processor parts k q)) seen (on_processor k p q parts (with_processor parts k q) changes Does one same more does)

    pub called_accepted : accepted_in (with_processor parts k q) + p.state.accepted ≡ accepted_in old + q.state.accepted
    called_accepted = subst (λ (x : Parts J R). accepted_in (with_processor parts k q) + p.state.accepted ≡ accepted_in x + q.state.accepted) seen (accepted_changed k p q parts (with_processor parts k q) changes)

    pub called_count : q.state.accepted ≡ p.state.accepted → accepted_in (with_processor parts k q) ≡ accepted_in old
    called_count same = omega (arith, called_accepted, same)

  -- ---- a call of control or the driver

  abbrev pub with_control : Parts J R → Control → Parts J R
  with_control parts d = record parts { control = d }

  steered_same : (parts : Parts J R) (d : Control) → SameControl parts.control d → AreSameParts parts (with_control parts d)
  steered_same parts d same = record { control = same; driver = driver_itself parts.driver; processors = processors_itself (processors_in parts); groups = groups_itself (groups_in parts); hands = hands_itself (hands_in parts) }

  pub steered_whole : (key_of : J → ℕ) (gives : ℕ → R → Type 0) (limit : ℕ) (parts : Parts J R) (d : Control) → SameControl parts.control d → IsWhole key_of gives limit parts → IsWhole key_of gives limit (with_control parts d)
  steered_whole key_of gives limit parts d same whole = whole_kept key_of gives limit parts (with_control parts d) (steered_same parts d same) (λ s. record { processors = s.processors; hands = s.hands }) whole

  pub steered_on : (Does : Control → Control → Type 0) (old parts : Parts J R) (d : Control) → parts ≡ old → SameControl parts.control d → AreOfOneOpen parts → Does parts.control d → OnControl Does old (with_control parts d)
  steered_on Does old parts d seen same one does = subst (λ (x : Parts J R). OnControl Does x (with_control parts d)) seen
      (record { does = does; processors = refl; groups = refl; hands = refl; driver = refl; continues = continues_same parts (with_control parts d) one (steered_same parts d same) (omega arith); none = refl })

  -- ---- turns

  module _ (key_of : J → ℕ) (gives : ℕ → R → Type 0) where
    -- what a turn leaves of a processor, and of a hand
    pub record CpuStays (p q : Processor J R) : Type 0 where
      pub keeps : KeepsProcessor key_of gives p q
      pub count : q.state.accepted ≡ p.state.accepted

    pub record HandStays (h i : Hand J R) : Type 0 where
      pub same : SameHand h.state i.state
      pub sound : IsSoundHand key_of gives h.state → IsSoundHand key_of gives i.state

    pub cpus_stay : (moment : ℕ) (ps qs : List (Processor J R)) → AllZip (PassesTick key_of gives moment) ps qs → AllZip CpuStays ps qs
    cpus_stay moment ps qs z = zip_weaker (PassesTick key_of gives moment) CpuStays (λ p q t. record { keeps = t.keeps; count = t.count }) ps qs z

    pub cpus_itself : (ps : List (Processor J R)) → AllZip CpuStays ps ps
    cpus_itself ps = zip_same CpuStays (λ p. record { keeps = record { same = same_processor p.state; sound = λ s. s }; count = refl }) ps

    pub hands_stay : (hs is : List (Hand J R)) → AllZip (PassesHand key_of gives) hs is → AllZip HandStays hs is
    hands_stay hs is z = zip_weaker (PassesHand key_of gives) HandStays (λ h i t. record { same = t.same; sound = t.sound }) hs is z

    pub all_hands_itself : (hs : List (Hand J R)) → AllZip HandStays hs hs
    all_hands_itself hs = zip_same HandStays (λ h. record { same = same_hand h.state; sound = λ s. s }) hs

    pub groups_stay : (gs hs : List (Group J R)) → AllZip PassesGroup gs hs → AllZip SameOfGroup gs hs
    groups_stay gs hs z = zip_weaker PassesGroup SameOfGroup (λ g h t. t.same) gs hs z

    -- what turns leave of all parts
    pub record Turned (old new : Parts J R) : Type 0 where
      pub processors : AllZip CpuStays (processors_in old) (processors_in new)
      pub groups : AllZip SameOfGroup (groups_in old) (groups_in new)
      pub hands : AllZip HandStays (hands_in old) (hands_in new)
      pub driver : SameDriver old.driver new.driver
      pub control : new.control ≡ old.control

    turned_same : (old new : Parts J R) → Turned old new → AreSameParts old new
    turned_same old new t = record {
      control = control_along old.control new.control t.control;
      driver = t.driver;
      processors = zip_weaker CpuStays SameCpu (λ p q s. s.keeps.same) (processors_in old) (processors_in new) t.processors;
      groups = t.groups;
      hands = zip_weaker HandStays SameOfHand (λ h i s. s.same) (hands_in old) (hands_in new) t.hands;
    }

    counts_stay : (ps qs : List (Processor J R)) → AllZip CpuStays ps qs → sum_by (λ p. p.state.accepted) qs ≡ sum_by (λ p. p.state.accepted) ps
    counts_stay [] [] z = refl
    counts_stay [] (q ∷ qs) z = absurd z
    counts_stay (p ∷ ps) [] z = absurd z
    counts_stay (p ∷ ps) (q ∷ qs) z = omega (arith, z.0.count, counts_stay ps qs z.1, sum_by-cons (λ (x : Processor J R). x.state.accepted) p ps, sum_by-cons (λ (x : Processor J R). x.state.accepted) q qs)

    pub turned_whole : (limit : ℕ) (old new : Parts J R) → Turned old new → IsWhole key_of gives limit old → IsWhole key_of gives limit new
    turned_whole limit old new t whole = whole_kept key_of gives limit old new (turned_same old new t)
        (λ s. record {
          processors = all_along (λ (p : Processor J R). IsSound key_of gives p.state) CpuStays (λ p q k. k.keeps.sound) (processors_in old) (processors_in new) t.processors s.processors;
          hands = all_along (λ (h : Hand J R). IsSoundHand key_of gives h.state) HandStays (λ h i k. k.sound) (hands_in old) (hands_in new) t.hands s.hands;
        }) whole

    pub turned_count : (old new : Parts J R) → Turned old new → accepted_in new ≡ accepted_in old
    turned_count old new t = counts_stay (processors_in old) (processors_in new) t.processors

    pub turned_continues : (old new : Parts J R) → Turned old new → AreOfOneOpen old → Continues old new
    turned_continues old new t one = continues_same old new one (turned_same old new t) (let count = turned_count old new t in omega (arith, count))

-- ---- what stands for lists of turns

module _ {J R : Type 0} where
  pub ticks_of : (key_of : J → ℕ) (gives : ℕ → R → Type 0) (moment : ℕ) (ps qs : List (Processor J R)) → AllZip (PassesTick key_of gives moment) ps qs → AllZip (ReportsAndTicks moment) ps qs
  ticks_of key_of gives moment ps qs z = zip_weaker (PassesTick key_of gives moment) (ReportsAndTicks moment) (λ p q t. t.turns) ps qs z

  pub group_turns_of : (gs hs : List (Group J R)) → AllZip PassesGroup gs hs → AllZip GroupTurns gs hs
  group_turns_of gs hs z = zip_weaker PassesGroup GroupTurns (λ g h t. t.turns) gs hs z

  pub hand_turns_of : (key_of : J → ℕ) (gives : ℕ → R → Type 0) (hs is : List (Hand J R)) → AllZip (PassesHand key_of gives) hs is → AllZip HandTurns hs is
  hand_turns_of key_of gives hs is z = zip_weaker (PassesHand key_of gives) HandTurns (λ h i t. t.turns) hs is z

  -- a report and then a tick
  pub ticked : (key_of : J → ℕ) (gives : ℕ → R → Type 0) (moment : ℕ) (p between q : Processor J R) (counted : Option ℕ) (answer : Ticked) → SameProcessor p.state between.state
      → (IsSound key_of gives p.state → IsSound key_of gives between.state) → ReportsOnce counted p.state between.state → SameProcessor between.state q.state
      → (IsSound key_of gives between.state → IsSound key_of gives q.state) → q.state.accepted ≡ between.state.accepted → Ticks moment answer between.state q.state → PassesTick key_of gives moment p q
  ticked key_of gives moment p between q counted answer same sound reports same' sound' count ticks = record {
    keeps = record { same = same_processor_again p.state between.state q.state same same'; sound = λ s. sound' (sound s) };
    count = count ∙ reports.keeps.count;
    turns = record { between = between; counted = counted; ticked = answer; reports = reports; ticks = ticks };
  }
