-- Answers keep what always holds
use Rattle.std.proofs.Common.{◌≡◌, ℕ, ◌≤◌, Bool, true, false, None, ap, subst, sym, refl, ◌∙◌, List, [], ◌∷◌, ◌++◌}
use Rattle.rcu_world.specs.declared.events.Event.{Event}
use Rattle.rcu_world.specs.declared.events.Answer.{Answer}
use Rattle.rcu_world.specs.declared.events.Answer.TheVariants as answers
use Rattle.rcu_world.specs.Events.{Answers, Becomes, core_event, Runs}
use Rattle.rcu_world.specs.declared.events.Event.TheVariants as events
use Rattle.rcu_world_law.specs.declared.who.Who.TheVariants as who
use Rattle.rcu_world_law.specs.Events.{CoreEvent, is_enabled, after}
use Rattle.rcu_world_law.specs.Events.CoreEvent.{Accept, Stamp, Put, Report, Start, End, Look, LookGroup, LookHand, Need, Draw, Join, Give, Fetch, Claim, Finish, Ask, Heed, Settle, Open, Count, Turn, Pass, Shut, Urge, Hear, Leave, Return, Meet}
use Rattle.rcu_jobs.specs.Modes.{is_offloaded}
use Rattle.rcu_world_law.specs.States.{State, cpu_at}
use Rattle.rcu_world_law.specs.declared.who.Side.TheVariants.{Local}
use Rattle.rcu_world_law.proofs.Schedules.{offloaded_claims_nothing}
use Rattle.rcu_world_law.specs.Invariant.{IsCore}
use Rattle.rcu_world.specs.Worlds.{IsFit}
use Rattle.rcu_world_law.proofs.Keeping.{after_kept}
use Rattle.rcu_world_law.proofs.Keeping.{length_after}
use Rattle.rcu_world_law.proofs.NoBack.{no_back_after}

-- an event becomes what one event of the machine does
pub becomes_with : {J : Type 0} (key_of : J → ℕ) (old : State) (e : Event J) (new : State) → Becomes key_of old e new → (poured : Bool) × (new ≡ after old (core_event key_of poured e))
becomes_with key_of old (events.Accept p job) new s = (true, s)
becomes_with key_of old (events.Stamp p m lazy) new s = (true, s)
becomes_with key_of old (events.Put p m) new s = (true, s)
becomes_with key_of old (events.Report p) new s = (true, s)
becomes_with key_of old events.Start new s = (true, s)
becomes_with key_of old events.End new s = (true, s)
becomes_with key_of old (events.Look p) new s = (true, s)
becomes_with key_of old (events.LookGroup g) new s = (true, s)
becomes_with key_of old (events.LookHand p) new s = (true, s)
becomes_with key_of old (events.Need who) new s = (true, s)
becomes_with key_of old (events.Draw p) new s = (true, s)
becomes_with key_of old (events.Join p) new s = (true, s)
becomes_with key_of old (events.Give p) new s = (true, s)
becomes_with key_of old (events.Fetch p) new s = (true, s)
becomes_with key_of old (events.Claim p by) new s = (true, s)
becomes_with key_of old (events.Finish p by) new s = (true, s)
becomes_with key_of old (events.Ask p on) new s = (true, s)
becomes_with key_of old (events.Heed p) new s = s
becomes_with key_of old (events.Settle p) new s = (true, s)
becomes_with key_of old (events.Open b) new s = (true, s)
becomes_with key_of old (events.Count b p) new s = (true, s)
becomes_with key_of old (events.Turn b p) new s = (true, s)
becomes_with key_of old (events.Pass b) new s = (true, s)
becomes_with key_of old (events.Shut p) new s = (true, s)
becomes_with key_of old events.Urge new s = (true, s)
becomes_with key_of old (events.Hear p) new s = (true, s)
becomes_with key_of old (events.Leave p) new s = (true, s)
becomes_with key_of old (events.Return p) new s = (true, s)
becomes_with key_of old (events.Meet p) new s = (true, s)

-- whether there is room to pour doesn't matter to whether an event is enabled
pub enabled_with : {J : Type 0} (key_of : J → ℕ) (old : State) (poured : Bool) (e : Event J) → {b : Bool} → is_enabled old (core_event key_of true e) ≡ b → is_enabled old (core_event key_of poured e) ≡ b
enabled_with key_of old poured (events.Accept p job) h = h
enabled_with key_of old poured (events.Stamp p m lazy) h = h
enabled_with key_of old poured (events.Put p m) h = h
enabled_with key_of old poured (events.Report p) h = h
enabled_with key_of old poured events.Start h = h
enabled_with key_of old poured events.End h = h
enabled_with key_of old poured (events.Look p) h = h
enabled_with key_of old poured (events.LookGroup g) h = h
enabled_with key_of old poured (events.LookHand p) h = h
enabled_with key_of old poured (events.Need who) h = h
enabled_with key_of old poured (events.Draw p) h = h
enabled_with key_of old poured (events.Join p) h = h
enabled_with key_of old poured (events.Give p) h = h
enabled_with key_of old poured (events.Fetch p) h = h
enabled_with key_of old poured (events.Claim p by) h = h
enabled_with key_of old poured (events.Finish p by) h = h
enabled_with key_of old poured (events.Ask p on) h = h
enabled_with key_of old poured (events.Heed p) h = h
enabled_with key_of old poured (events.Settle p) h = h
enabled_with key_of old poured (events.Open b) h = h
enabled_with key_of old poured (events.Count b p) h = h
enabled_with key_of old poured (events.Turn b p) h = h
enabled_with key_of old poured (events.Pass b) h = h
enabled_with key_of old poured (events.Shut p) h = h
enabled_with key_of old poured events.Urge h = h
enabled_with key_of old poured (events.Hear p) h = h
enabled_with key_of old poured (events.Leave p) h = h
enabled_with key_of old poured (events.Return p) h = h
enabled_with key_of old poured (events.Meet p) h = h

-- no event changes the shape
pub shape_after : (w : State) (e : CoreEvent) → (after w e).shape ≡ w.shape
shape_after w (Accept p key) = refl
shape_after w (Stamp p m lazy) = refl
shape_after w (Put p m) = refl
shape_after w (Report p) = refl
shape_after w Start = refl
shape_after w End = refl
shape_after w (Look p) = refl
shape_after w (LookGroup g) = refl
shape_after w (LookHand p) = refl
shape_after w (Need (who.Cpu p)) = refl
shape_after w (Need (who.Group g)) = refl
shape_after w (Draw p) = refl
shape_after w (Join p) = refl
shape_after w (Give p) = refl
shape_after w (Fetch p) = refl
shape_after w (Claim p by) = refl
shape_after w (Finish p by) = refl
shape_after w (Ask p on) = refl
shape_after w (Heed p poured) = refl
shape_after w (Settle p) = refl
shape_after w (Open b) = refl
shape_after w (Count b p) = refl
shape_after w (Turn b p) = refl
shape_after w (Pass b) = refl
shape_after w (Shut p) = refl
shape_after w Urge = refl
shape_after w (Hear p) = refl
shape_after w (Leave p) = refl
shape_after w (Return p) = refl
shape_after w (Meet p) = refl

pub fit_after : (w : State) (e : CoreEvent) → IsFit w → is_enabled w e ≡ true → IsFit (after w e)
fit_after w e k h = record {
  core = after_kept w e k.core h;
  stride = subst (λ x. 1 ≤ x.stride) (sym (shape_after w e)) k.stride;
  blimit = subst (λ x. 1 ≤ x.blimit) (sym (shape_after w e)) k.blimit;
  limit = subst (λ x. x.limit ≤ 1000000) (sym (shape_after w e)) k.limit;
  few = subst (λ n. n ≤ 32) (sym (length_after w e)) k.few;
  no_back = no_back_after w e k.no_back;
}

fit_becomes : {J : Type 0} (key_of : J → ℕ) (old : State) (e : Event J) (new : State) → IsFit old → is_enabled old (core_event key_of true e) ≡ true → Becomes key_of old e new → IsFit new
fit_becomes key_of old e new k h s =
    let b = becomes_with key_of old e new s in
    subst IsFit (sym b.1) (fit_after old (core_event key_of b.0 e) k (enabled_with key_of old b.0 e h))

pub answers_kept : {J : Type 0} (key_of : J → ℕ) (old : State) (e : Event J) (a : Answer J) (new : State) → IsFit old → Answers key_of old e a new → IsFit new
answers_kept key_of old e answers.Done new k s = fit_becomes key_of old e new k s.0 s.1
answers_kept key_of old e answers.Due new k s = fit_becomes key_of old e new k s.0 s.1
answers_kept key_of old e (answers.Skipped job) new k s = subst IsFit (sym s.1) k
answers_kept key_of old e (answers.Memory job) new k s = subst IsFit (sym s.1) k

-- a run goes on by one step
pub runs_step : {J : Type 0} (key_of : J → ℕ) (old mid : State) (es : List (Event J)) (xs : List (Answer J)) (e : Event J) (a : Answer J) (new : State)
    → Runs key_of old es xs mid → Answers key_of mid e a new → Runs key_of old (es ++ e ∷ []) (xs ++ a ∷ []) new
runs_step key_of old mid [] [] e a new r s = (new, subst (λ w. Answers key_of w e a new) r s, refl)
runs_step key_of old mid (f ∷ es) (x ∷ xs) e a new r s = (r.0, r.1, runs_step key_of r.0 mid es xs e a new r.2 s)
runs_step key_of old mid [] (x ∷ xs) e a new r s = absurd r
runs_step key_of old mid (f ∷ es) [] e a new r s = absurd r

-- nothing is claimed by an Offloaded processor
no_claim : {A : Type 0} (b : Bool) → b ≡ false → b ≡ true → A
no_claim b f t = let x : false ≡ true = sym f ∙ t in absurd cc

skipped_claim : {J : Type 0} (key_of : J → ℕ) (old new : State) (a : Answer J) (p : ℕ) → is_enabled old (Claim p Local) ≡ false → Answers key_of old (events.Claim p Local) a new → a ≡ answers.Skipped None
skipped_claim key_of old new answers.Done p f h = no_claim (is_enabled old (Claim p Local)) f h.0
skipped_claim key_of old new answers.Due p f h = no_claim (is_enabled old (Claim p Local)) f h.0
skipped_claim key_of old new (answers.Skipped job) p f h = ap answers.Skipped h.2
skipped_claim key_of old new (answers.Memory job) p f h = no_claim (is_enabled old (Claim p Local)) f h.0

pub skipped_local : {J : Type 0} (key_of : J → ℕ) (old new : State) (e : Event J) (a : Answer J) (p : ℕ) → IsCore old → is_offloaded (cpu_at old p).mode ≡ true → e ≡ events.Claim p Local → Answers key_of old e a new → a ≡ answers.Skipped None
skipped_local key_of old new e a p k o s h = skipped_claim key_of old new a p (offloaded_claims_nothing old p k o) (subst (λ x. Answers key_of old x a new) s h)
