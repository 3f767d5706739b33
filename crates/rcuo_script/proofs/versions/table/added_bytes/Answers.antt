use Rattle.std.proofs.Common.{◌∙◌, sym}
use Rattle.rcuo_script.proofs.Budget.{adds_none, adds_one}
use Rattle.rcuo_script.proofs.versions.table.added_bytes.Goals as goal

pub returns-then-contains_key : goal.returns-then-contains_key
returns-then-contains_key c hop = adds_none c.args.name.now hop c.args.version.now.entries (sym c.contains_key.ensures ∙ c.if-contains_key.true)

pub returns-else-contains_key : goal.returns-else-contains_key
returns-else-contains_key c hop = adds_one c.args.name.now hop c.args.version.now.entries (sym c.contains_key.ensures ∙ c.if-contains_key.false)
