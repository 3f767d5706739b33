use Rattle.std.proofs.Common.{rules, ◌≡◌, List, ℕ, ◌<◌, length, arith, true, Err, nat_lt, ap, sym, subst, inl, ◌∙◌}
use Rattle.std.proofs.lemmas.Option.{IfSome_then}
use Rattle.std.proofs.lemmas.Bool.Decides.{nat_tests}
use Rattle.rcu_setup.specs.Setup.{setup_of, setup_view}
use Rattle.rcu_setup.specs.Faults.{named, not_toml}
use Rattle.std.specs.Str.{IsUtf8}
use Rattle.rcuo_script.proofs.Whole.{no_text, whole, whole_fault}
use Rattle.rcuo_script.proofs.setup.setup_of.Goals as goal

too_long : (xs : List ℕ) → 1048576 < length xs → setup_of xs ≡ Err not_toml
too_long xs h = let t : nat_lt 1048576 (length xs) ≡ true = grind (arith, nat_tests) in rw t

pub returns-in-Ok-read_setup-clause-exact : goal.returns-in-Ok-read_setup-clause-exact
returns-in-Ok-read_setup-clause-exact g c =
    let text_is : c.in-Ok.text.now ≡ c.as_slice.result.now = search rules in
    IfSome_then (g.R.Read.remaining c.args.reader.now) c.in_ok-bytes.ensures.whole (λ bytes is. whole 1048576 setup_of not_toml too_long bytes (setup_view c.in-Ok-read_setup.setup) (ap setup_of (sym (text_is ∙ c.as_slice.ensures.value ∙ is)) ∙ c.in-Ok-read_setup.ensures))

pub returns-in_default-clause-fault : goal.returns-in_default-clause-fault
returns-in_default-clause-fault g c =
    IfSome_then (g.R.Read.remaining c.args.reader.now) c.in_ok-bytes.ensures.whole (λ bytes is. no_text 1048576 setup_of not_toml too_long bytes (λ text. c.in_default.ensures.cases.0 (subst IsUtf8 (sym (c.as_slice.ensures.value ∙ is)) text)))

pub returns-clause-fault : goal.returns-clause-fault
returns-clause-fault g c =
    let text_is : c.in-Ok.text.now ≡ c.as_slice.result.now = search rules in
    IfSome_then (g.R.Read.remaining c.args.reader.now) c.in_ok-bytes.ensures.whole (λ bytes is. IfSome_then (named c.in-Err.fault) c.in-Err.ensures (λ it e. inl (whole_fault 1048576 setup_of not_toml too_long bytes it (ap setup_of (sym (text_is ∙ c.as_slice.ensures.value ∙ is)) ∙ e))))
