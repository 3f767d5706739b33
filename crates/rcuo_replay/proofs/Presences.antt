-- Processors that are here or away, as they leave and come back.
use Rattle.std.proofs.Common.{◌≡◌, ◌∙◌, ℕ, zero, suc, ◌<◌, List, [], ◌∷◌, length, set, ap, arith, refl, subst, sym}
use Rattle.std.specs.List.{insert, remove}
use Rattle.rcu_board.proofs.Stepping.{same_again, same_part}
use Rattle.rcu_part_processor.specs.Processors.{IsSound, SameProcessor}
use Rattle.rcu_part_processor.specs.Running.{Identity, IsSamePart}
use Rattle.rcu_part_processor.specs.declared.processor.Processor.{Processor}
use Rattle.rcuo_replay.specs.Presences.{KeepsPresence, SamePresence, ScriptProcessor, presence_identity}
use Rattle.rcuo_replay.specs.Outcomes.{WhileHere}
use Rattle.rcuo_replay.specs.declared.presence.Presence.TheVariants.{Here}
use Rattle.rcuo_script.specs.declared.lines.Line.{Line}
use Rattle.rcuo_script.specs.declared.lines.Verb.{Verb}

module _ {J : Type 0} where
  pub same_identity : (i : Identity J) → IsSamePart i i
  same_identity i = record { part = same_part i.board i.seat; lane = refl; cpu = refl; offloadable = refl; limit = refl; blimit = refl; kept = refl }

  pub same_identity_again : (i j k : Identity J) → IsSamePart i j → IsSamePart j k → IsSamePart i k
  same_identity_again i j k a b = record {
    part = same_again _ _ _ _ _ _ a.part b.part;
    lane = b.lane ∙ a.lane;
    cpu = b.cpu ∙ a.cpu;
    offloadable = b.offloadable ∙ a.offloadable;
    limit = b.limit ∙ a.limit;
    blimit = b.blimit ∙ a.blimit;
    kept = b.kept ∙ a.kept;
  }

module _ {J R : Type 0} where
  pub same_presence : (x : ScriptProcessor J R) → SamePresence x x
  same_presence x = same_identity (presence_identity x)

  pub same_presence_again : (x y z : ScriptProcessor J R) → SamePresence x y → SamePresence y z → SamePresence x z
  same_presence_again x y z a b = same_identity_again (presence_identity x) (presence_identity y) (presence_identity z) a b

module _ {J R : Type 0} (key_of : J → ℕ) (gives : ℕ → R → Type 0) where
  keeps_none : (x : ScriptProcessor J R) → KeepsPresence key_of gives x x
  keeps_none x = record { same = same_presence x; sound = λ s. s }

  pub keeps_same : (x y : ScriptProcessor J R) → x ≡ y → KeepsPresence key_of gives x y
  keeps_same x y same = subst (KeepsPresence key_of gives x) same (keeps_none x)

  -- a processor that is here, and is here still
  pub keeps_here : (p q : Processor J R) → SameProcessor p.state q.state → (IsSound key_of gives p.state → IsSound key_of gives q.state) → KeepsPresence key_of gives (Here p) (Here q)
  keeps_here p q s f = record { same = record { part = s.part; lane = s.lane; cpu = s.cpu; offloadable = s.offloadable; limit = s.limit; blimit = s.blimit; kept = s.kept }; sound = f }

  pub keeps_one : (x : ScriptProcessor J R) (p q : Processor J R) → x ≡ Here p → SameProcessor p.state q.state → (IsSound key_of gives p.state → IsSound key_of gives q.state) → KeepsPresence key_of gives x (Here q)
  keeps_one x p q was s f = subst (λ z. KeepsPresence key_of gives z (Here q)) (sym was) (keeps_here p q s f)

module _ {J R : Type 0} (v : Verb) (cpu : ℕ) (l : Line) (Does : Processor J R → Processor J R → Type 0) where
  -- a command of a processor that is here
  pub while_here : (x y : ScriptProcessor J R) (p q : Processor J R) → x ≡ Here p → y ≡ Here q → Does p q → WhileHere v cpu l Does x y
  while_here x y p q was is does = subst (λ z. WhileHere v cpu l Does z y) (sym was) (q, is, does)

-- an item that is taken out, and another that is put into its place
put_again : {X : Type 0} (xs : List X) (k : ℕ) (y : X) → k < length xs → insert (remove xs k) k y ≡ set xs k y
put_again [] k y there = absurd (let z : ⊥ = omega (arith, there) in z)
put_again (x ∷ xs) zero y there = refl
put_again (x ∷ xs) (suc k) y there = ap (λ l. x ∷ l) (put_again xs k y (omega (arith, there)))

pub put_in_place : {X : Type 0} (xs others ys : List X) (k : ℕ) (y : X) → k < length xs → others ≡ remove xs k → ys ≡ insert others k y → ys ≡ set xs k y
put_in_place xs others ys k y there out put = put ∙ (ap (λ l. insert l k y) out ∙ put_again xs k y there)
