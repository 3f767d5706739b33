-- Each event keeps the invariant, so every list of events does.
use Rattle.std.proofs.Common.{◌≡◌, List, [], ◌∷◌, length, refl, ◌∙◌, Bool, true, false, cond}
use Rattle.std.proofs.lemmas.List.{length-set}
use Rattle.rcu_world_law.specs.States.{State}
use Rattle.rcu_world_law.specs.Events.{CoreEvent, is_enabled, after, happens, run}
use Rattle.rcu_world_law.specs.Events.CoreEvent.{Accept, Stamp, Put, Report, Start, End, Look, LookGroup, LookHand, Need, Draw, Join, Give, Fetch, Claim, Finish, Ask, Heed, Settle, Open, Count, Turn, Pass, Shut as Shutting, Urge, Hear, Leave, Return, Meet}
use Rattle.rcu_world_law.specs.Invariant.{IsCore}
use Rattle.rcu_world_law.proofs.Frames.{length_each}
use Rattle.rcu_world_law.proofs.Accepting.{accept_kept, stamp_kept}
use Rattle.rcu_world_law.proofs.Boarding.{report_kept, meet_kept, start_kept, end_kept, finish_kept, shut_kept}
use Rattle.rcu_world_law.proofs.Moving.{put_kept, draw_kept, join_kept, give_kept, fetch_kept, look_hand_kept, ask_kept, hear_kept, leave_kept, return_kept, need_own_kept, heed_kept, settle_kept}
use Rattle.rcu_world_law.proofs.Looking.{look_kept, look_group_kept, need_group_kept, urge_kept}
use Rattle.rcu_world_law.proofs.Claiming.{claim_kept}
use Rattle.rcu_world_law.proofs.Barring.{open_kept, count_kept, turn_kept, pass_kept}
use Rattle.rcu_world_law.specs.declared.who.Who.TheVariants as who

pub after_kept : (w : State) (m : CoreEvent) → IsCore w → is_enabled w m ≡ true → IsCore (after w m)
after_kept w (Accept p key) k e = accept_kept w p key k e
after_kept w (Stamp p m lazy) k e = stamp_kept w p m lazy k e
after_kept w (Put p m) k e = put_kept w p m k e
after_kept w (Report p) k e = report_kept w p k e
after_kept w Start k e = start_kept w k e
after_kept w End k e = end_kept w k e
after_kept w (Look p) k e = look_kept w p k e
after_kept w (LookGroup g) k e = look_group_kept w g k e
after_kept w (LookHand p) k e = look_hand_kept w p k e
after_kept w (Need (who.Cpu p)) k e = need_own_kept w p k e
after_kept w (Need (who.Group g)) k e = need_group_kept w g k e
after_kept w (Draw p) k e = draw_kept w p k e
after_kept w (Join p) k e = join_kept w p k e
after_kept w (Give p) k e = give_kept w p k e
after_kept w (Fetch p) k e = fetch_kept w p k e
after_kept w (Claim p by) k e = claim_kept w p by k e
after_kept w (Finish p by) k e = finish_kept w p by k e
after_kept w (Ask p on) k e = ask_kept w p on k e
after_kept w (Heed p poured) k e = heed_kept w p poured k e
after_kept w (Settle p) k e = settle_kept w p k e
after_kept w (Open b) k e = open_kept w b k e
after_kept w (Count b p) k e = count_kept w b p k e
after_kept w (Turn b p) k e = turn_kept w b p k e
after_kept w (Pass b) k e = pass_kept w b k e
after_kept w (Shutting p) k e = shut_kept w p k e
after_kept w Urge k e = urge_kept w k e
after_kept w (Hear p) k e = hear_kept w p k e
after_kept w (Leave p) k e = leave_kept w p k e
after_kept w (Return p) k e = return_kept w p k e
after_kept w (Meet p) k e = meet_kept w p k e

happens_cases : (w : State) (m : CoreEvent) (b : Bool) → is_enabled w m ≡ b → IsCore w → IsCore (cond b (after w m) w)
happens_cases w m true e k = after_kept w m k e
happens_cases w m false e k = k

pub happens_kept : (w : State) (m : CoreEvent) → IsCore w → IsCore (happens w m)
happens_kept w m k = happens_cases w m (is_enabled w m) refl k

pub run_kept : (ms : List CoreEvent) (w : State) → IsCore w → IsCore (run ms w)
run_kept [] w k = k
run_kept (m ∷ ms) w k = run_kept ms (happens w m) (happens_kept w m k)

-- the number of processors stays
pub length_after : (w : State) (m : CoreEvent) → length (after w m).cpus ≡ length w.cpus
length_after w (Accept p key) = length-set w.cpus p _
length_after w (Stamp p m lazy) = length-set w.cpus p _
length_after w (Put p m) = length-set w.cpus p _
length_after w (Report p) = refl
length_after w Start = refl
length_after w End = refl
length_after w (Look p) = length-set w.cpus p _
length_after w (LookGroup g) = length_each _ 0 w.cpus
length_after w (LookHand p) = length-set w.cpus p _
length_after w (Need (who.Cpu p)) = length-set w.cpus p _
length_after w (Need (who.Group g)) = length_each _ 0 w.cpus
length_after w (Draw p) = length-set w.cpus p _
length_after w (Join p) = length-set w.cpus p _
length_after w (Give p) = length-set w.cpus p _
length_after w (Fetch p) = length-set w.cpus p _
length_after w (Claim p by) = length-set w.cpus p _
length_after w (Finish p by) = length-set w.cpus p _
length_after w (Ask p on) = length-set w.cpus p _
length_after w (Heed p poured) = length-set w.cpus p _
length_after w (Settle p) = length-set w.cpus p _
length_after w (Open b) = refl
length_after w (Count b p) = refl
length_after w (Turn b p) = refl
length_after w (Pass b) = refl
length_after w (Shutting p) = length-set w.cpus p _
length_after w Urge = length_each _ 0 w.cpus
length_after w (Hear p) = length-set w.cpus p _
length_after w (Leave p) = length-set w.cpus p _
length_after w (Return p) = length-set w.cpus p _
length_after w (Meet p) = refl

length_cases : (w : State) (m : CoreEvent) (b : Bool) → length (cond b (after w m) w).cpus ≡ length w.cpus
length_cases w m true = length_after w m
length_cases w m false = refl

pub length_run : (ms : List CoreEvent) (w : State) → length (run ms w).cpus ≡ length w.cpus
length_run [] w = refl
length_run (m ∷ ms) w = length_run ms (happens w m) ∙ length_cases w m (is_enabled w m)
