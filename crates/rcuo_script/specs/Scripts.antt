-- What a whole script prints: docs/specification/program.md, "replay"
use Rattle.std.specs.Prelude.{List, ℕ, [], ◌∷◌, ◌++◌, Option, None, option_to_list}
use Rattle.std.specs.Io.KnownBytes.{Appends}
use Rattle.rcu_setup.specs.declared.line.Command.{Command}

-- What was written is a text of which P holds.
abbrev pub Writes : (old new : Option (List ℕ)) → (List ℕ → Type 0) → Type 0
Writes old new P = (text : List ℕ) × P text × Appends old new text

-- What commands print one after another, from a runtime `start` with no barrier open, where `prints` says what one prints: the
-- commands, the jobs of the calls among them, the text, and the runtime and the open barrier that are there after them.
pub data PrintsAll {S B J : Type 0} (prints : S → Option B → Command → Option J → List ℕ → S → Option B → Type 0) (start : S) : List Command → List J → List ℕ → S → Option B → Type 0 where
  none : PrintsAll prints start [] [] [] start None
  more : {commands : List Command} {jobs : List J} {text line : List ℕ} {old new : S} {opened still : Option B} {command : Command} {job : Option J}
      → PrintsAll prints start commands jobs text old opened → prints old opened command job line new still
      → PrintsAll prints start (commands ++ command ∷ []) (jobs ++ option_to_list job) (text ++ line) new still

-- all of a script's commands, with all of the jobs, whichever barrier is open in the end
abbrev pub PrintsScript : {S B J : Type 0} → (S → Option B → Command → Option J → List ℕ → S → Option B → Type 0) → (start end : S) → List Command → List J → List ℕ → Type 0
PrintsScript {S} {B} prints start end commands jobs text = (still : Option B) × PrintsAll prints start commands jobs text end still
