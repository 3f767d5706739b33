-- No event hands a callback back.
use Rattle.std.proofs.Common.{◌≡◌, ℕ, List, [], ◌∷◌, refl, sym, subst, Bool, Option, Some, None, inl, inr, true, false, cond}
use Rattle.rcu_world_law.specs.declared.marks.Mark.{Mark}
use Rattle.rcu_world_law.specs.declared.marks.Mark.TheVariants.{Reported, Back}
use Rattle.rcu_world_law.specs.States.{State, added, owes}
use Rattle.rcu_world_law.specs.Events.{CoreEvent, is_enabled, does, mark_of, after, happens, run}
use Rattle.rcu_world_law.specs.Events.CoreEvent.{Accept, Stamp, Put, Report, Start, End, Look, LookGroup, LookHand, Need, Draw, Join, Give, Fetch, Claim, Finish, Ask, Heed, Settle, Open, Count, Turn, Pass, Shut as Shutting, Urge, Hear, Leave, Return, Meet}
use Rattle.rcu_world_law.proofs.Ends.{get_cases}
use Rattle.rcu_world_law.specs.Law.{HasNoBack}
use Rattle.rcu_world_law.specs.declared.who.Who.TheVariants as who

-- events add no Back
abbrev IsEventMark : Option Mark → Type 0
IsEventMark None = Unit {0}
IsEventMark (Some m) = (p key : ℕ) → m ≡ Back p key → ⊥

report_mark : (p : ℕ) (b : Bool) → IsEventMark (cond b (Some (Reported p)) None)
report_mark p true = λ q key e. cc
report_mark p false = tt

event_mark : (w : State) (m : CoreEvent) → IsEventMark (mark_of w m)
event_mark w (Accept p key) = λ q x e. cc
event_mark w (Stamp p m lazy) = tt
event_mark w (Put p m) = tt
event_mark w (Report p) = report_mark p (owes w p)
event_mark w Start = tt
event_mark w End = tt
event_mark w (Look p) = tt
event_mark w (LookGroup g) = tt
event_mark w (LookHand p) = tt
event_mark w (Need n) = tt
event_mark w (Draw p) = tt
event_mark w (Join p) = tt
event_mark w (Give p) = tt
event_mark w (Fetch p) = tt
event_mark w (Claim p by) = λ q x e. cc
event_mark w (Finish p by) = tt
event_mark w (Ask p on) = tt
event_mark w (Heed p poured) = tt
event_mark w (Settle p) = tt
event_mark w (Open b) = λ q x e. cc
event_mark w (Count b p) = tt
event_mark w (Turn b p) = tt
event_mark w (Pass b) = λ q x e. cc
event_mark w (Shutting p) = λ q x e. cc
event_mark w Urge = tt
event_mark w (Hear p) = tt
event_mark w (Leave p) = tt
event_mark w (Return p) = tt
event_mark w (Meet p) = λ q x e. cc

no_back_added : (h : List Mark) (m : Option Mark) → IsEventMark m → HasNoBack h → HasNoBack (added h m)
no_back_added h None e u = u
no_back_added h (Some m) e u = record { none = λ p i key s. elim (get_cases h m (Back p key) i s) [ inl v ↦ u.none p i key v.1 | inr v ↦ e p key v.1 ] }

does_history : (w : State) (m : CoreEvent) → (does w m).history ≡ w.history
does_history w (Accept p key) = refl
does_history w (Stamp p m lazy) = refl
does_history w (Put p m) = refl
does_history w (Report p) = refl
does_history w Start = refl
does_history w End = refl
does_history w (Look p) = refl
does_history w (LookGroup g) = refl
does_history w (LookHand p) = refl
does_history w (Need (who.Cpu p)) = refl
does_history w (Need (who.Group g)) = refl
does_history w (Draw p) = refl
does_history w (Join p) = refl
does_history w (Give p) = refl
does_history w (Fetch p) = refl
does_history w (Claim p by) = refl
does_history w (Finish p by) = refl
does_history w (Ask p on) = refl
does_history w (Heed p poured) = refl
does_history w (Settle p) = refl
does_history w (Open b) = refl
does_history w (Count b p) = refl
does_history w (Turn b p) = refl
does_history w (Pass b) = refl
does_history w (Shutting p) = refl
does_history w Urge = refl
does_history w (Hear p) = refl
does_history w (Leave p) = refl
does_history w (Return p) = refl
does_history w (Meet p) = refl

pub no_back_after : (w : State) (m : CoreEvent) → HasNoBack w.history → HasNoBack (after w m).history
no_back_after w m u = subst (λ h. HasNoBack (added h (mark_of w m))) (sym (does_history w m)) (no_back_added w.history (mark_of w m) (event_mark w m) u)

no_back_cases : (w : State) (m : CoreEvent) (b : Bool) → HasNoBack w.history → HasNoBack (cond b (after w m) w).history
no_back_cases w m true u = no_back_after w m u
no_back_cases w m false u = u

pub no_back_run : (ms : List CoreEvent) (w : State) → HasNoBack w.history → HasNoBack (run ms w).history
no_back_run [] w u = u
no_back_run (m ∷ ms) w u = no_back_run ms (happens w m) (no_back_cases w m (is_enabled w m) u)
