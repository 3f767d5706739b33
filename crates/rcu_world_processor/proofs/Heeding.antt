-- How a processor heeds what is asked, by whether a switch can be made
use Rattle.std.proofs.Common.{◌≡◌, Bool, true, false, not, ◌&&◌, ◌||◌, List, [], ◌++◌, map, refl, ap, sym, ◌∙◌}
use Rattle.rcu_world_law.specs.Calls.{Call}
use Rattle.rcu_world_law.specs.LabelledLists.{Labelled, call_of}
use Rattle.rcu_world_law.specs.Lists.{is_nil}
use Rattle.rcu_world_law.specs.Releases.{Pace}
use Rattle.rcu_jobs.specs.Modes.{is_offloaded, is_offloading}
use Rattle.rcu_world_law.specs.States.{Cpu}
use Rattle.rcu_world_law.specs.Steps.{heeds, heeds_mode, leaves, pours, with_pace}
use Rattle.rcu_jobs.specs.declared.modes.Mode.{Mode}
use Rattle.rcu_jobs.specs.declared.modes.Mode.TheVariants.{Local, Offloading, Offloaded, Deoffloading}
use Rattle.std.specs.Prelude.{if◌then◌else◌}
use Rattle.rcu_world_processor.specs.Turns.{is_switching}

pub pours_as : (c : Cpu) (ws : List Labelled) (xs : List Call) (p : Pace) → ws ≡ [] → xs ≡ c.bypass ++ map call_of c.own
    → p ≡ record { moment = c.moment; direct = c.direct; kept_moment = c.kept_moment; plain = not (is_nil c.own) || c.plain } → with_pace p (record c { own = ws; bypass = xs; mode = Offloaded }) ≡ pours c
pours_as c ws xs p e f h = rw (e, f, h) refl

poured_in : (m : Mode) (c : Cpu) → is_offloaded m ≡ false → pours c ≡ heeds_mode true true m c
poured_in Local c o = refl
poured_in Offloading c o = refl
poured_in Deoffloading c o = refl
poured_in Offloaded c o = absurd cc

pub heeds_poured : (c : Cpu) → is_offloaded c.mode ≡ false → c.asked ≡ true → pours c ≡ heeds true c
heeds_poured c o a = poured_in c.mode c o ∙ ap (λ b. heeds_mode b true c.mode c) (sym a)

waiting_in : (m : Mode) (c : Cpu) → c.mode ≡ m → is_offloaded m ≡ false → record c { mode = Offloading } ≡ heeds_mode true false m c
waiting_in Local c e o = refl
waiting_in Offloading c e o = ap {B = Cpu} (λ m. record c { mode = m }) (sym e)
waiting_in Deoffloading c e o = refl
waiting_in Offloaded c e o = absurd cc

pub heeds_waiting : (c : Cpu) → is_offloaded c.mode ≡ false → c.asked ≡ true → record c { mode = Offloading } ≡ heeds false c
heeds_waiting c o a = waiting_in c.mode c refl o ∙ ap (λ b. heeds_mode b false c.mode c) (sym a)

not_false : (b : Bool) → not b ≡ true → b ≡ false
not_false true e = absurd cc
not_false false e = refl

pub switching_on : (c : Cpu) → is_switching c ≡ true → c.asked ≡ true → is_offloaded c.mode ≡ false
switching_on c s a = not_false (is_offloaded c.mode) (rw a at s)

nothing_in : (a b : Bool) (m : Mode) (c : Cpu) → is_nil c.bypass ≡ b → (if a then not (is_offloaded m) else (is_offloading m || (is_offloaded m && b))) ≡ false → c ≡ heeds_mode a true m c
nothing_in true b Local c n e = absurd cc
nothing_in true b Offloading c n e = absurd cc
nothing_in true b Deoffloading c n e = absurd cc
nothing_in true b Offloaded c n e = refl
nothing_in false b Local c n e = refl
nothing_in false b Offloading c n e = absurd cc
nothing_in false b Deoffloading c n e = refl
nothing_in false true Offloaded c n e = absurd cc
nothing_in false false Offloaded c n e = rw n refl

pub heeds_nothing : (c : Cpu) → is_switching c ≡ false → c ≡ heeds true c
heeds_nothing c e = nothing_in c.asked (is_nil c.bypass) c.mode c refl e

leaving_in : (b : Bool) (m : Mode) (c : Cpu) → is_nil c.bypass ≡ b → (is_offloading m || (is_offloaded m && b)) ≡ true → leaves c ≡ heeds_mode false true m c
leaving_in b Local c n e = absurd cc
leaving_in b Offloading c n e = refl
leaving_in b Deoffloading c n e = absurd cc
leaving_in true Offloaded c n e = rw n refl
leaving_in false Offloaded c n e = absurd cc

pub heeds_leaving : (c : Cpu) → is_switching c ≡ true → c.asked ≡ false → leaves c ≡ heeds true c
heeds_leaving c e a = leaving_in (is_nil c.bypass) c.mode c refl (rw a at e) ∙ ap (λ b. heeds_mode b true c.mode c) (sym a)
