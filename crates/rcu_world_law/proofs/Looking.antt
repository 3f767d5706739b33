-- Look, LookGroup, Need of a group and Urge keep the invariant: a look leaves the callbacks where they are, and no label is earlier than the stamp allows.
use Rattle.std.proofs.Common.{◌≡◌, ℕ, ◌<◌, List, [], ◌++◌, length, map, refl, ap, arith, Bool, None, true, false, cond}
use Rattle.std.proofs.lemmas.Bool.{and_parts, ltb-true}
use Rattle.rcu_world_law.specs.declared.marks.Mark.{Mark}
use Rattle.rcu_world_law.specs.LabelledLists.{Labelled, call_of, looked}
use Rattle.rcu_world_law.specs.States.{State, Cpu, cpu_at, has, is_member}
use Rattle.rcu_world_law.specs.Steps.{looks, group_looks}
use Rattle.rcu_world_law.specs.declared.who.Who.TheVariants as who
use Rattle.rcu_world_law.proofs.Offloaded.{still_offloaded}
use Rattle.rcu_world_law.proofs.Looks.{labelled_looked, own_stamps, joined_stamps, calls_looked}
use Rattle.rcu_world_law.specs.Events.{is_enabled, after, most_wanted}
use Rattle.rcu_world_law.specs.Events.CoreEvent.{Look, LookGroup, Need, Urge}
use Rattle.rcu_world_law.specs.Invariant.{IsCpu, IsCore}
use Rattle.rcu_world_law.specs.Places.{flattened}
use Rattle.rcu_world_law.proofs.Frames.{core_with_cpu, core_with_all, cpu_moved}

looked_nil : (s : ℕ) (ws : List Labelled) → ws ≡ [] → looked s ws ≡ []
looked_nil s ws e = ap (looked s) e

look_cpu : (n : ℕ) (h : List Mark) (s limit p : ℕ) (c : Cpu) → IsCpu n h s limit p c → IsCpu n h s limit p (looks s c)
look_cpu n h s limit p c i = cpu_moved n h s limit p c (looks s c)
    (ap (λ x. c.held ++ (flattened c.done_lane ++ (c.out ++ (map call_of c.joined ++ (c.drawn ++ (flattened c.lane ++ (c.bypass ++ x))))))) (calls_looked s c.own))
    refl refl refl refl refl refl (labelled_looked c.sight s c.own i.timely.sight (own_stamps n h p s c i.timely.stamped) i.lists.0, i.lists.1)
    (record { own = λ x. looked_nil s c.own (i.one_list.own x); bypass = i.one_list.bypass }) i.kinds i.offloaded (omega arith) i.timely.hand_sight i

pub look_kept : (w : State) (p : ℕ) → IsCore w → is_enabled w (Look p) ≡ true → IsCore (after w (Look p))
look_kept w p k e =
    let l : p < length w.cpus = ltb-true p (length w.cpus) (and_parts (has w p) _ e).0 in
    core_with_cpu w p (looks w.number (cpu_at w p)) k l (look_cpu (length w.cpus) w.history w.number w.shape.limit p (cpu_at w p) (k.cpu p l))

-- the group
group_look_cpu : (n : ℕ) (h : List Mark) (s limit p : ℕ) (c : Cpu) → IsCpu n h s limit p c → IsCpu n h s limit p (group_looks s c)
group_look_cpu n h s limit p c i = cpu_moved n h s limit p c (group_looks s c)
    (ap (λ x. c.held ++ (flattened c.done_lane ++ (c.out ++ (x ++ (c.drawn ++ (flattened c.lane ++ (c.bypass ++ map call_of c.own))))))) (calls_looked s c.joined))
    refl refl refl refl refl refl (i.lists.0, labelled_looked s s c.joined (omega arith) (joined_stamps n h p s c i.timely.stamped) i.lists.1) (record { own = i.one_list.own; bypass = i.one_list.bypass }) i.kinds (still_offloaded c (group_looks s c) (ap (λ x. c.held ++ (flattened c.done_lane ++ (c.out ++ (x ++ (c.drawn ++ (flattened c.lane ++ (c.bypass ++ map call_of c.own))))))) (calls_looked s c.joined)) refl i.offloaded) i.timely.sight i.timely.hand_sight i

chosen_cpu : (n : ℕ) (h : List Mark) (s limit p : ℕ) (b : Bool) (c d : Cpu) → IsCpu n h s limit p d → IsCpu n h s limit p c → IsCpu n h s limit p (cond b d c)
chosen_cpu n h s limit p true c d i j = i
chosen_cpu n h s limit p false c d i j = j

pub look_group_kept : (w : State) (g : ℕ) → IsCore w → is_enabled w (LookGroup g) ≡ true → IsCore (after w (LookGroup g))
look_group_kept w g k e = core_with_all w (λ p c. cond (is_member w g p) (group_looks w.number c) c) w.needed k
    (λ p c i. chosen_cpu (length w.cpus) w.history w.number w.shape.limit p (is_member w g p) c (group_looks w.number c) (group_look_cpu (length w.cpus) w.history w.number w.shape.limit p c i) i)

forgets_cpu : (n : ℕ) (h : List Mark) (s limit p : ℕ) (c : Cpu) → IsCpu n h s limit p c → IsCpu n h s limit p (record c { group_wanted = None })
forgets_cpu n h s limit p c i = cpu_moved n h s limit p c (record c { group_wanted = None }) refl refl refl refl refl refl refl i.lists
    (record { own = i.one_list.own; bypass = i.one_list.bypass }) i.kinds i.offloaded i.timely.sight i.timely.hand_sight i

pub need_group_kept : (w : State) (g : ℕ) → IsCore w → is_enabled w (Need (who.Group g)) ≡ true → IsCore (after w (Need (who.Group g)))
need_group_kept w g k e = core_with_all w (λ p c. cond (is_member w g p) (record c { group_wanted = None }) c) (most_wanted w g w.needed 0 w.cpus) k
    (λ p c i. chosen_cpu (length w.cpus) w.history w.number w.shape.limit p (is_member w g p) c (record c { group_wanted = None }) (forgets_cpu (length w.cpus) w.history w.number w.shape.limit p c i) i)

urged_cpu : (n : ℕ) (h : List Mark) (s limit p : ℕ) (c : Cpu) → IsCpu n h s limit p c → IsCpu n h s limit p (record c { urged = true })
urged_cpu n h s limit p c i = cpu_moved n h s limit p c (record c { urged = true }) refl refl refl refl refl refl refl i.lists
    (record { own = i.one_list.own; bypass = i.one_list.bypass }) i.kinds i.offloaded i.timely.sight i.timely.hand_sight i

pub urge_kept : (w : State) → IsCore w → is_enabled w Urge ≡ true → IsCore (after w Urge)
urge_kept w k e = core_with_all w (λ p c. record c { urged = true }) w.needed k (λ p c i. urged_cpu (length w.cpus) w.history w.number w.shape.limit p c i)
