-- What the words of the command line name: docs/specification/program.md, "Command line".
use Rattle.std.specs.Prelude.{◌≡◌, ℕ, ◌∷◌, [], List, codes, true, ◌*◌, count_by, ⊤}
use Rattle.rcuo_script.specs.Calls.{is_call}
use Rattle.rcuo_script.specs.Reading.{IsFaultOf}
use Rattle.rcu_setup.specs.Words.{Route}
use Rattle.rcu_setup.specs.declared.setup.Setup.{Setup}
use Rattle.rcuo_script.specs.Routes.{routes_of_calls, routes_of_rounds}
use Rattle.rcuo_plan.specs.declared.plan.Refusal.{Refusal}
use Rattle.rcuo_plan.specs.declared.plan.Refusal.TheVariants as refusal
use Rattle.rcuo_plan.specs.declared.plan.Subcommand.{Subcommand}
use Rattle.rcuo_plan.specs.declared.plan.Subcommand.TheVariants as subcommand
use Rattle.clap.specs.Words.{App, new_app, with_subcommand}

-- the words were refused
abbrev pub RefusesWords : Refusal → Type 0
RefusesWords (refusal.Words e) = Unit {0}
RefusesWords refusal.NoText = Unit {0}
RefusesWords (refusal.Fault f) = ⊥

-- the fault that is named, if the words were taken, is that of these bytes
abbrev pub NamesFaultOf : List ℕ → Refusal → Type 0
NamesFaultOf bytes (refusal.Words e) = ⊤
NamesFaultOf bytes refusal.NoText = ⊤
NamesFaultOf bytes (refusal.Fault f) = IsFaultOf bytes f

-- the word that names a subcommand
abbrev pub word_of : Subcommand → List ℕ
word_of subcommand.Replay = codes "replay"
word_of subcommand.Threads = codes "threads"

-- the words are the one word of the subcommand
abbrev pub Names : List (List ℕ) → Subcommand → Type 0
Names words s = words ≡ word_of s ∷ []

-- the command line of the program: a subcommand is required, and there are no options but those of help and version
abbrev pub rcuo_top : App
rcuo_top = record (new_app (codes "rcuo")) { top = record (new_app (codes "rcuo")).top { no_binary_name = true; subcommand_required = true; has_version = true } }

abbrev pub rcuo : App
rcuo = with_subcommand (with_subcommand rcuo_top (new_app (codes "replay")).top) (new_app (codes "threads")).top

-- how many jobs a run takes: in `replay` one for each call line, in `threads` so many for each processor
abbrev pub jobs_for : Subcommand → Setup → ℕ
jobs_for subcommand.Replay setup = count_by is_call setup.script.items
jobs_for subcommand.Threads setup = setup.calls * setup.shape.processors

-- the route that each of those calls sets in the next version
abbrev pub calls_for : Subcommand → Setup → List Route
calls_for subcommand.Replay setup = routes_of_calls setup.script.items
calls_for subcommand.Threads setup = routes_of_rounds setup.shape.processors setup.calls
