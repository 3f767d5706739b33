-- What an answer says: docs/specification/tables.md, "Fault lines".
use Rattle.std.specs.Prelude.{◌≡◌, ◌++◌, ℕ, List, Option, Some, None, Result, Ok, Err, IfSome, string_bytes, codes}
use Rattle.std.specs.Fmt.{decimal}
use Rattle.rcu_setup.specs.declared.fault.Key.{Key}
use Rattle.rcu_setup.specs.declared.fault.Key.TheVariants as key
use Rattle.rcu_setup.specs.declared.fault.SetupFault.{SetupFault}
use Rattle.rcu_setup.specs.declared.fault.SetupFault.TheVariants as fault

-- the faults, but for want of memory
pub data Fault : Type 0 where
  not_toml : Fault
  unknown_key : List ℕ → Fault
  missing_processors : Fault
  wrong_kind : Key → Fault
  out_of_range : Key → Fault
  bad_list : Fault
  reversed : ℕ → ℕ → Fault
  no_processor : ℕ → Fault
  bad_line : ℕ → Fault
  bad_route : ℕ → Fault

-- a fault that names something wrong in the text; none for want of memory
abbrev pub named : SetupFault → Option Fault
named fault.Memory = None
named fault.NotToml = Some not_toml
named (fault.UnknownKey key) = Some (unknown_key (string_bytes key))
named fault.MissingProcessors = Some missing_processors
named (fault.WrongKind key) = Some (wrong_kind key)
named (fault.OutOfRange key) = Some (out_of_range key)
named fault.BadList = Some bad_list
named (fault.Reversed a b) = Some (reversed a b)
named (fault.NoProcessor p) = Some (no_processor p)
named (fault.BadLine i) = Some (bad_line i)
named (fault.BadRoute i) = Some (bad_route i)

-- The answer, seen by view, is this one, unless memory ran out.
abbrev pub Gives : {X Y : Type 0} → (X → Y) → Result X SetupFault → Result Y Fault → Type 0
Gives view (Ok x) answer = answer ≡ Ok (view x)
Gives view (Err e) answer = IfSome (named e) (λ f. answer ≡ Err f)

-- what follows an answer that is no fault
infixl 10 ◌>>◌
abbrev pub ◌>>◌ : {A B : Type 0} → Result A Fault → (A → Result B Fault) → Result B Fault
(Ok x) >> f = f x
(Err e) >> f = Err e

-- what is there, or a fault
abbrev pub or_fault : {A : Type 0} → Fault → Option A → Result A Fault
or_fault f None = Err f
or_fault f (Some x) = Ok x

-- a key as it is written
abbrev pub key_name : Key → List ℕ
key_name key.Processors = codes "processors"
key_name key.Nocbs = codes "nocbs"
key_name key.Stride = codes "stride"
key_name key.Blimit = codes "blimit"
key_name key.Qhimark = codes "qhimark"
key_name key.Limit = codes "limit"
key_name key.Routes = codes "routes"
key_name key.Script = codes "script"
key_name key.Calls = codes "calls"

-- what the line of a fault says after the word `fault`
abbrev pub setup_fault_text : SetupFault → List ℕ
setup_fault_text fault.Memory = codes "2: no memory"
setup_fault_text fault.NotToml = codes "10: not a TOML document"
setup_fault_text (fault.UnknownKey k) = codes "11: unknown key " ++ string_bytes k
setup_fault_text fault.MissingProcessors = codes "12: missing key processors"
setup_fault_text (fault.WrongKind k) = codes "13: wrong kind of " ++ key_name k
setup_fault_text (fault.OutOfRange k) = codes "14: " ++ (key_name k ++ codes " is out of range")
setup_fault_text fault.BadList = codes "15: bad list"
setup_fault_text (fault.Reversed a b) = codes "16: reversed range " ++ (decimal a ++ (codes "-" ++ decimal b))
setup_fault_text (fault.NoProcessor p) = codes "17: no processor " ++ decimal p
setup_fault_text (fault.BadLine i) = codes "18: bad line " ++ decimal i
setup_fault_text (fault.BadRoute i) = codes "18: bad route " ++ decimal i
