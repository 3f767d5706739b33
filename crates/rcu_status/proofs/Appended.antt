-- What stands behind a text once another was put there.
use Rattle.std.proofs.Common.{◌≡◌, ℕ, List, ◌++◌, Result, Ok, Err, IfOk, IsOkAnd, String, Global, string_bytes, ap, ◌∙◌}

pub appended : {E : Type 0} (made : Result (String Global) E) (old new more : List ℕ) → IsOkAnd made (λ s. new ≡ old ++ string_bytes s) → IfOk made (λ s. string_bytes s ≡ more) → new ≡ old ++ more
appended (Ok s) old new more behind is = behind ∙ ap (λ text. old ++ text) is
appended (Err e) old new more behind is = absurd behind
