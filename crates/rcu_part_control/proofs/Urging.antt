-- The steps of an urge, one after another.
use Rattle.std.proofs.Common.{◌≡◌, ◌≢◌, ℕ, zero, suc, ◌+◌, ◌*◌, ◌<◌, ap, sym, ◌∙◌, refl, subst, arith}
use Rattle.std.specs.Prelude.{bit_or}
use Rattle.rcu_board.specs.Frames.{KeepsLists, Untouched}
use Rattle.rcu_board.specs.Plays.{urged}
use Rattle.rcu_board.specs.Views.{seen_at}
use Rattle.rcu_board.specs.Words.{urges_of, urges_word, urge_bits}
use Rattle.rcu_board.specs.declared.view.View.{View}
use Rattle.rcu_board.proofs.Stepping.{untouched, untouched_again}
use Rattle.rcu_part_control.specs.Barriers.{Urges, UrgesFirst, UrgesOne}

pub urges_none : (n : ℕ) (v : View) → UrgesFirst n 0 v v
unfolding UrgesFirst
urges_none n v = refl

more_urges : (n k : ℕ) (v u w : View) → UrgesFirst n k v u → UrgesOne n k u w → UrgesFirst n (suc k) v w
unfolding UrgesFirst
more_urges n k v u w before one = (u, before, one)

pub urges_next : (n k : ℕ) (v u w : View) → UrgesFirst n k v u → UrgesOne n k u w → UrgesFirst n (k + 1) v w
urges_next n k v u w before one = let e : suc k ≡ k + 1 = omega arith in subst (λ (j : ℕ). UrgesFirst n j v w) e (more_urges n k v u w before one)

same_lists : (v w : View) → w ≡ v → KeepsLists v w
same_lists v w e = record { own = ap (λ (u : View). u.own) e; claims = ap (λ (u : View). u.claims) e; running = ap (λ (u : View). u.running) e }

urge_lists : (i x y : ℕ) (v w : View) → w ≡ urged i x y v → KeepsLists v w
urge_lists i x y v w e = record { own = ap (λ (u : View). u.own) e; claims = ap (λ (u : View). u.claims) e; running = ap (λ (u : View). u.running) e }

lists_again : (u v w : View) → KeepsLists u v → KeepsLists v w → KeepsLists u w
lists_again u v w a b = record { own = b.own ∙ a.own; claims = b.claims ∙ a.claims; running = b.running ∙ a.running }

-- nothing but sights and tallies changes
urges_lists : (n k : ℕ) (v w : View) → UrgesFirst n k v w → KeepsLists v w
unfolding UrgesFirst
urges_lists n zero v w e = same_lists v w e
urges_lists n (suc k) v w e = let i = urges_word n k in let x = seen_at w i in
    lists_again v e.0 w (urges_lists n k v e.0 e.1) (urge_lists i x (bit_or x (urge_bits n k)) e.0 w e.2)

pub all_urged_lists : (n : ℕ) (v w : View) → Urges n v w → KeepsLists v w
all_urged_lists n v w e = urges_lists n (urges_of n) v w e

urge_leaves : (i x y j : ℕ) (v w : View) → j ≢ i → w ≡ urged i x y v → Untouched j v w
urge_leaves i x y j v w ne e = subst (λ (u : View). Untouched j v u) (sym e) (let o = untouched i j x v ne in record { seen = o.seen; steps = o.steps })

same_there : (j : ℕ) (v w : View) → w ≡ v → Untouched j v w
same_there j v w e = subst (λ (u : View). Untouched j v u) (sym e) record { seen = refl; steps = refl }

-- no other word changes
urges_leave : (n k j : ℕ) (v w : View) → ((i : ℕ) → j ≢ urges_word n i) → UrgesFirst n k v w → Untouched j v w
unfolding UrgesFirst
urges_leave n zero j v w ne e = same_there j v w e
urges_leave n (suc k) j v w ne e = let i = urges_word n k in let x = seen_at w i in
    untouched_again j v e.0 w (urges_leave n k j v e.0 ne e.1) (urge_leaves i x (bit_or x (urge_bits n k)) j e.0 w (ne k) e.2)

pub all_urged_leave : (n j : ℕ) (v w : View) → j < 3 + 4 * n → Urges n v w → Untouched j v w
all_urged_leave n j v w low e = urges_leave n (urges_of n) j v w (λ i same. absurd (omega (arith, same, low))) e
