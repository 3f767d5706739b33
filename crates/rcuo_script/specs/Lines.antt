-- The lines of `replay`: docs/specification/tables.md, "Script commands and what they print".
use Rattle.std.specs.Prelude.{ℕ, Bool, List, ◌++◌, codes, string_bytes}
use Rattle.std.specs.Fmt.{decimal}
use Rattle.rcu_jobs.specs.declared.answers.Closed.{Closed}
use Rattle.rcu_jobs.specs.declared.turns.Lists.{Lists}
use Rattle.rcu_status.specs.Line.{line_text as shown_text}
use Rattle.rcu_status.specs.Totals.{reports_text, totals_text}
use Rattle.rcu_jobs.specs.declared.turns.DriverTurn.{DriverTurn}
use Rattle.rcu_jobs.specs.declared.turns.DriverTurn.TheVariants as turn
use Rattle.rcuo_script.specs.declared.lines.Verb.{Verb}
use Rattle.rcuo_script.specs.declared.lines.Verb.TheVariants as verb
use Rattle.rcuo_script.specs.declared.lines.Line.{Line}
use Rattle.rcuo_script.specs.declared.lines.Line.TheVariants as line

abbrev pub verb_text : Verb → List ℕ
verb_text verb.Call = codes "call"
verb_text verb.Lazy = codes "lazy"
verb_text verb.Quiet = codes "quiet"
verb_text verb.Tick = codes "tick"
verb_text verb.Group = codes "group"
verb_text verb.Hand = codes "hand"
verb_text verb.Offload = codes "offload"
verb_text verb.Deoffload = codes "deoffload"
verb_text verb.Leave = codes "leave"
verb_text verb.Return = codes "return"

abbrev pub driver_text : DriverTurn → List ℕ
driver_text turn.Idle = codes "idle"
driver_text (turn.Started s) = codes "started " ++ decimal s
driver_text (turn.Ended s) = codes "ended " ++ decimal s
driver_text (turn.Waits processor) = codes "waits"
driver_text turn.Spent = codes "spent"

-- a line without its line feed
abbrev pub line_text : Line → List ℕ
line_text (line.Number v cpu number) = verb_text v ++ (codes " " ++ (decimal cpu ++ (codes " number " ++ decimal number)))
line_text (line.Refused v place refusal) = verb_text v ++ (codes " " ++ (decimal place ++ (codes " refused " ++ decimal refusal)))
line_text (line.Counted cpu seq) = codes "quiet " ++ (decimal cpu ++ (codes " counted " ++ decimal seq))
line_text (line.Nothing cpu) = codes "quiet " ++ (decimal cpu ++ codes " nothing")
line_text (line.Ran v cpu n) = verb_text v ++ (codes " " ++ (decimal cpu ++ (codes " ran " ++ decimal n)))
line_text (line.Driver t) = codes "driver " ++ driver_text t
line_text (line.Group group took gave) = codes "group " ++ (decimal group ++ (codes " took " ++ (decimal took ++ (codes " gave " ++ decimal gave))))
line_text (line.Asked v cpu) = verb_text v ++ (codes " " ++ (decimal cpu ++ codes " asked"))
line_text (line.Left cpu) = codes "leave " ++ (decimal cpu ++ codes " away")
line_text (line.Returned cpu) = codes "return " ++ (decimal cpu ++ codes " back")
line_text line.Opened = codes "barrier opened"
line_text line.Passed = codes "barrier passed"
line_text line.Waits = codes "barrier waits"
line_text line.NoBarrier = codes "barrier none"
line_text (line.Shut counts) = codes "shut " ++ string_bytes counts

-- the line of a list, which `show` prints
unfoldable pub lists_line : ℕ → Lists → List ℕ
lists_line = shown_text

-- the totals at the end of a run, of what was closed, with the line of the reports where it is asked for
abbrev pub whole_totals : {J : Type 0} → Bool → Closed J ℕ → List ℕ
whole_totals reports closed = totals_text 0 closed.ran.items closed.back.items ++ reports_text reports closed.reports.items
