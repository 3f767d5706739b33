-- The whole setup, in the order of tests of docs/specification/tables.md, "Order of tests".
use Rattle.std.specs.Prelude.{ℕ, nat_lt, List, [], length, Result, Ok, Err, if◌then◌else◌, codes, min}
use Rattle.toml.specs.Data.{Members, get_member}
use Rattle.toml.specs.Parse.{parse_document}
use Rattle.rcu_setup.specs.Words.{Route}
use Rattle.rcu_setup.specs.Faults.{Fault, not_toml, or_fault, ◌>>◌}
use Rattle.rcu_setup.specs.Line.{Line}
use Rattle.rcu_setup.specs.Keys.{known}
use Rattle.rcu_setup.specs.Numbers.{Numbers, shape_of, shape_view, whole_or}
use Rattle.rcu_setup.specs.Arrays.{lines_of, lines_view, routes_of, routes_view, texts_or_none}
use Rattle.rcu_setup.specs.declared.fault.Key.TheVariants as key
use Rattle.rcu_setup.specs.declared.setup.Setup.{Setup}

pub record Plan : Type 0 where
  pub numbers : Numbers
  pub calls : ℕ
  pub routes : List Route
  pub script : List Line

-- what a setup of the code stands for
abbrev pub setup_view : Setup → Plan
setup_view s = record { numbers = shape_view s.shape; calls = s.calls; routes = routes_view s.routes; script = lines_view s.script }

-- a document's top table: unknown keys, `processors`, then the keys in order, for each its kind, its range, its grammar
unfoldable pub table_setup : Members → Result Plan Fault
table_setup table =
    known table >> (λ _.
    shape_of table >> (λ numbers.
    texts_or_none key.Routes 64 (get_member (codes "routes") table) >> (λ route_texts.
    routes_of 1 [] route_texts >> (λ routes.
    texts_or_none key.Script 50000 (get_member (codes "script") table) >> (λ script_texts.
    lines_of 1 [] script_texts >> (λ script.
    whole_or key.Calls 0 (min numbers.limit 1000) (Ok 0) (get_member (codes "calls") table) >> (λ calls.
    Ok (record { numbers = numbers; calls = calls; routes = routes; script = script }))))))))

-- a TOML document of at most 1048576 bytes
abbrev pub setup_of : List ℕ → Result Plan Fault
setup_of text =
    if nat_lt 1048576 (length text) then Err not_toml
    else (or_fault not_toml (parse_document text) >> table_setup)
