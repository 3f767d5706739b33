-- `group_turn`. docs/specification/rules.md, "The calls, step by step". Several lists of events may be those of a turn, as no turn can know beforehand which growths find room.
use Rattle.std.specs.Prelude.{ℕ, ◌≡◌, ◌+◌, Bool, true, false, if◌then◌else◌, List, [], ◌∷◌, ◌++◌, length, ◌⊎◌, zero, suc}
use Rattle.rcu_world_law.specs.declared.who.Who.TheVariants as who
use Rattle.rcu_world_law.specs.Lists.{first_batch}
use Rattle.rcu_world_law.specs.States.{State, cpu_at, is_member}
use Rattle.rcu_world_law.specs.Steps.{given}
use Rattle.rcu_world_law.specs.Events.{CoreEvent, is_enabled, happens, run}
use Rattle.rcu_world_law.specs.Events.CoreEvent.{Draw, Join, Give, LookGroup, Need}
use Rattle.rcu_world.specs.Turns.{Leads, and_then, where_enabled}

-- the events of F, and then those of G, from where they led
abbrev pub Then : (F G : State → List CoreEvent → Type 0) → State → List CoreEvent → Type 0
Then F G w es = (xs : List CoreEvent) × (ys : List CoreEvent) × (es ≡ xs ++ ys) × F w xs × G (run xs w) ys

-- the events of F for the first n processors, in rising order
unfoldable pub Upto : (ℕ → State → List CoreEvent → Type 0) → ℕ → State → List CoreEvent → Type 0
Upto F zero w es = es ≡ []
Upto F (suc n) w es = Then (Upto F n) (F n) w es

-- the one where the test holds, else the other
abbrev pub Where : Bool → Type 0 → Type 0 → Type 0
Where true A B = A
Where false A B = B

-- an event, where it is enabled and there is room
abbrev pub WhereRoom : CoreEvent → State → List CoreEvent → Type 0
WhereRoom e w es = (room : Bool) × (es ≡ (if room then where_enabled e w else []))

-- A batch is drawn, and joins the member's list.
abbrev pub draw_and_join : ℕ → State → List CoreEvent
draw_and_join p = and_then (where_enabled (Draw p)) (where_enabled (Join p))

-- Up to n batches: until the lane is empty, or there is no room for a drawn one, which waits
unfoldable pub Draws : ℕ → ℕ → State → List CoreEvent → Type 0
Draws p zero w es = es ≡ []
Draws p (suc n) w es = Where (is_enabled w (Draw p)) ((es ≡ Draw p ∷ []) ⊎ Then (λ v xs. xs ≡ draw_and_join p v) (Draws p n) w es) (es ≡ [])

abbrev pub most_batches : ℕ
most_batches = 64

-- a member: a batch that waits joins first
abbrev pub Takes : ℕ → ℕ → State → List CoreEvent → Type 0
Takes g p w es = Where (is_member w g p) (Then (WhereRoom (Join p)) (Draws p most_batches) w es) (es ≡ [])

-- one look, and one Need where some accelerate answered true
abbrev pub look_group_events : ℕ → State → List CoreEvent
look_group_events g = and_then (where_enabled (LookGroup g)) (where_enabled (Need (who.Group g)))

abbrev pub Gives : ℕ → ℕ → State → List CoreEvent → Type 0
Gives g p w es = Where (is_member w g p) (WhereRoom (Give p) w es) (es ≡ [])

-- a turn of group g, of n processors
abbrev pub IsGroupTurn : ℕ → ℕ → State → List CoreEvent → Type 0
IsGroupTurn g n = Then (Upto (Takes g) n) (Then (λ w es. es ≡ look_group_events g w) (Upto (Gives g) n))

-- how many callbacks the Draw events of a list draw, and the Give events put
abbrev pub drawn_by : State → CoreEvent → ℕ
drawn_by w (Draw p) = length (first_batch (cpu_at w p).lane)
drawn_by w e = 0

abbrev pub given_by : State → CoreEvent → ℕ
given_by w (Give p) = length (given w.shape.blimit (cpu_at w p))
given_by w e = 0

unfoldable pub summed : (State → CoreEvent → ℕ) → State → List CoreEvent → ℕ
summed f w [] = 0
summed f w (e ∷ es) = f w e + summed f (happens w e) es

-- A call's part: events of F lead from one state to another, and draw and put so many callbacks.
pub record Made (F : State → List CoreEvent → Type 0) (old new : State) (took gave : ℕ) : Type 0 where
  pub events : List CoreEvent
  pub allowed : F old events
  pub leads : Leads old events new
  pub drawn : took ≡ summed drawn_by old events
  pub put : gave ≡ summed given_by old events

-- how many callbacks wait in batches of the members of group g, of the first n processors
unfoldable pub waiting_upto : ℕ → ℕ → State → ℕ
waiting_upto g zero w = 0
waiting_upto g (suc n) w = waiting_upto g n w + (if is_member w g n then length (cpu_at w n).drawn + length (cpu_at w n).out else 0)
