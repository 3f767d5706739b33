-- The stages of a tick
use Rattle.std.proofs.Common.{◌≡◌, ℕ, ◌<◌, Bool, true, false, cond, ◌&&◌, None, Option, [], length, get_or, ap, sym, ◌∙◌, subst, refl}
use Rattle.std.proofs.lemmas.Bool.{lt-ltb}
use Rattle.rcu_world_law.specs.Releases.{releases_in_tick, moment_of_tick}
use Rattle.rcu_jobs.specs.Modes.{is_offloaded}
use Rattle.rcu_world_law.specs.States.{State, cpu_at, has, is_offloadable}
use Rattle.rcu_world_law.specs.Events.CoreEvent.{Hear, Put, Heed, Settle}
use Rattle.rcu_world_processor.specs.Turns.{is_switching}
use Rattle.rcu_world.specs.Turns.{Leads, Rooms, where_enabled, and_then, put_in_tick, release_events, put_after_pouring, switch_events, offloadable_events}
use Rattle.rcu_world.proofs.Leading.{leads_then, chosen, not_chosen, where_true, where_false}

module _ (p : ℕ) where
  pub release_skipped : (moment : ℕ) (urged : Bool) (old mid : State) → urged ≡ (cpu_at old p).urged → Leads old (where_enabled (Hear p) old) mid
      → releases_in_tick urged moment (cpu_at mid p) ≡ false → (room : Bool) × Leads old (release_events p moment room old) mid
  release_skipped moment urged old mid u l r = (
    true,
    leads_then (where_enabled (Hear p)) (put_in_tick p moment (cpu_at old p).urged true) old mid mid l
        (not_chosen (releases_in_tick (cpu_at old p).urged moment (cpu_at mid p)) _ mid mid (ap (λ b. releases_in_tick b moment (cpu_at mid p)) (sym u) ∙ r) refl),
  )

  pub release_put : (moment : ℕ) (urged : Bool) (late : Option ℕ) (room : Bool) (old mid new : State) → urged ≡ (cpu_at old p).urged → Leads old (where_enabled (Hear p) old) mid
      → releases_in_tick urged moment (cpu_at mid p) ≡ true → late ≡ moment_of_tick moment (cpu_at mid p) → Leads mid (cond room (where_enabled (Put p late) mid) []) new
      → (room : Bool) × Leads old (release_events p moment room old) new
  release_put moment urged late room old mid new u l r m n = (
    room,
    leads_then (where_enabled (Hear p)) (put_in_tick p moment (cpu_at old p).urged room) old mid new l
        (chosen (releases_in_tick (cpu_at old p).urged moment (cpu_at mid p)) room _ mid new (ap (λ b. releases_in_tick b moment (cpu_at mid p)) (sym u) ∙ r)
        (subst (λ x. Leads mid (cond room (where_enabled (Put p x) mid) []) new) m n)),
  )

  pub switch_heeded : (poured : Bool) (old mid : State) → is_switching (cpu_at old p) ≡ true → Leads old (where_enabled (Heed p poured) old) mid → is_offloaded (cpu_at mid p).mode ≡ false
      → (pour : Bool) × (room : Bool) × Leads old (switch_events p pour room old) mid
  switch_heeded poured old mid s l o = (
    poured,
    true,
    where_true (is_switching (cpu_at old p)) _ old mid s
        (leads_then (where_enabled (Heed p poured)) (put_after_pouring p true) old mid mid l (not_chosen (is_offloaded (cpu_at mid p).mode) _ mid mid o refl)),
  )

  pub switch_put : (poured room : Bool) (old mid new : State) → is_switching (cpu_at old p) ≡ true → Leads old (where_enabled (Heed p poured) old) mid → is_offloaded (cpu_at mid p).mode ≡ true
      → Leads mid (cond room (where_enabled (Put p None) mid) []) new → (pour : Bool) × (room : Bool) × Leads old (switch_events p pour room old) new
  switch_put poured room old mid new s l o n = (
    poured,
    room,
    where_true (is_switching (cpu_at old p)) _ old new s
        (leads_then (where_enabled (Heed p poured)) (put_after_pouring p room) old mid new l (chosen (is_offloaded (cpu_at mid p).mode) room _ mid new o n)),
  )

  and_no : (b c : Bool) → c ≡ false → (b && c) ≡ false
  and_no true c e = e
  and_no false c e = refl

  pub not_offloadable : (moment : ℕ) (b : Bool) (w : State) → b ≡ get_or w.shape.offloadable p false → b ≡ false → (rooms : Rooms) × Leads w (offloadable_events p moment rooms w) w
  not_offloadable moment b w e f = (
    record { put = true; pour = true; put_again = true },
    where_false (is_offloadable w p) _ w w (and_no (has w p) (get_or w.shape.offloadable p false) (sym e ∙ f)) refl,
  )

  pub offloadable_stages : (moment : ℕ) (b : Bool) (a x y z : State) → b ≡ get_or a.shape.offloadable p false → b ≡ true → p < length a.cpus
      → (room : Bool) × Leads a (release_events p moment room a) x → (pour : Bool) × (room : Bool) × Leads x (switch_events p pour room x) y → Leads y (where_enabled (Settle p) y) z
      → (rooms : Rooms) × Leads a (offloadable_events p moment rooms a) z
  offloadable_stages moment b a x y z e f l r s t = (
    record { put = r.0; pour = s.0; put_again = s.1 },
    where_true (is_offloadable a p) _ a z (ap (λ h. h && get_or a.shape.offloadable p false) (lt-ltb p (length a.cpus) l) ∙ sym e ∙ f)
        (leads_then (release_events p moment r.0) (and_then (switch_events p s.0 s.1) (where_enabled (Settle p))) a x z r.1
        (leads_then (switch_events p s.0 s.1) (where_enabled (Settle p)) x y z s.2 t)),
  )
