-- Lines of a script: docs/specification/tables.md, "Script commands and what they print".
use Rattle.std.specs.Prelude.{ℕ, Bool, true, false, option_map, List, [], ◌∷◌, Option, Some, None, Result, if◌then◌else◌, codes, string_bytes}
use Rattle.std.specs.Str.{bytes_eq}
use Rattle.rcu_setup.specs.Words.{◌>>=◌, parts, number, hop, is_name}
use Rattle.rcu_setup.specs.Faults.{Fault, bad_line, or_fault}
use Rattle.rcu_setup.specs.declared.line.CallWords.{CallWords}
use Rattle.rcu_setup.specs.declared.line.Command.{Command}
use Rattle.rcu_setup.specs.declared.line.Command.TheVariants as command

-- what `call` and `lazy` say: P M NAME HOP
pub record Call : Type 0 where
  pub cpu : ℕ
  pub moment : ℕ
  pub name : List ℕ
  pub hop : ℕ

-- the words of a call, as the code has them
abbrev pub call_view : CallWords → Call
call_view c = record { cpu = c.cpu; moment = c.moment; name = c.name.now; hop = c.hop }

-- a line of a script
pub data Line : Type 0 where
  call : Call → Line
  lazy : Call → Line
  quiet : ℕ → Line
  tick : ℕ → ℕ → Line
  driver : Line
  group : ℕ → Line
  hand : ℕ → Line
  offload : ℕ → Line
  deoffload : ℕ → Line
  leave : ℕ → Line
  return : ℕ → Line
  barrier : Line
  poll : Line
  shut : Line
  show : Line

-- what a command stands for
abbrev pub line_of : Command → Line
line_of (command.Call cpu moment name hop) = call (record { cpu = cpu; moment = moment; name = string_bytes name; hop = hop })
line_of (command.Lazy cpu moment name hop) = lazy (record { cpu = cpu; moment = moment; name = string_bytes name; hop = hop })
line_of (command.Quiet cpu) = quiet cpu
line_of (command.Tick cpu moment) = tick cpu moment
line_of command.Driver = driver
line_of (command.Group g) = group g
line_of (command.Hand cpu) = hand cpu
line_of (command.Offload cpu) = offload cpu
line_of (command.Deoffload cpu) = deoffload cpu
line_of (command.Leave cpu) = leave cpu
line_of (command.Return cpu) = return cpu
line_of command.Barrier = barrier
line_of command.Poll = poll
line_of command.Shut = shut
line_of command.Show = show

-- the word is this text
abbrev pub is : List ℕ → List ℕ → Line → Option Line → Option Line
is word text line others = if bytes_eq word text then Some line else others

-- one word
unfoldable pub bare : List ℕ → Option Line
bare word = is word (codes "driver") driver (is word (codes "barrier") barrier (is word (codes "poll") poll (is word (codes "shut") shut (is word (codes "show") show None))))

-- a word and P or G
unfoldable pub placed : List ℕ → ℕ → Option Line
placed word p = is word (codes "quiet") (quiet p) (is word (codes "group") (group p) (is word (codes "hand") (hand p) (is word (codes "offload") (offload p) (is word (codes "deoffload") (deoffload p) (is word (codes "leave") (leave p) (is word (codes "return") (return p) None))))))

-- P M NAME HOP
unfoldable pub call_of : List ℕ → List ℕ → List ℕ → List ℕ → Option Call
call_of p m name h =
    number 2 p >>= (λ cpu. number 18 m >>= (λ moment. hop h >>= (λ n.
    if is_name name then Some (record { cpu = cpu; moment = moment; name = name; hop = n }) else None)))

-- `tick` P M
unfoldable pub tick_of : List ℕ → List ℕ → List ℕ → Option Line
tick_of word p m = if bytes_eq word (codes "tick") then number 2 p >>= (λ cpu. number 18 m >>= (λ moment. Some (tick cpu moment))) else None

-- a call, which is lazy or not
abbrev pub call_line : Bool → Call → Line
call_line lazily c = if lazily then lazy c else call c

-- the words of a line, each separated from the next by one space
abbrev pub words_line : List (List ℕ) → Option Line
words_line (word ∷ []) = bare word
words_line (word ∷ p ∷ []) = number 2 p >>= placed word
words_line (word ∷ p ∷ m ∷ []) = tick_of word p m
words_line (word ∷ p ∷ m ∷ name ∷ h ∷ []) =
    if bytes_eq word (codes "call") then option_map (call_line false) (call_of p m name h)
    else if bytes_eq word (codes "lazy") then option_map (call_line true) (call_of p m name h)
    else None
words_line _ = None

-- what is there, or the fault that line 1 is bad
abbrev pub or_bad_line : {A : Type 0} → Option A → Result A Fault
or_bad_line = or_fault (bad_line 1)

-- the line that a text says
abbrev pub script_line_of : List ℕ → Result Line Fault
script_line_of text = or_bad_line (words_line (parts 32 text))
