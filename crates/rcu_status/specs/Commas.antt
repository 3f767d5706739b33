-- Numbers with commas between them: docs/specification/tables.md, `shut C0,C1,..` and `reports R0,R1,..`.
use Rattle.std.specs.Prelude.{ℕ, List, [], ◌∷◌, ◌++◌, codes}
use Rattle.std.specs.Fmt.{decimal}

-- each number after a comma
abbrev pub after_commas : List ℕ → List ℕ
after_commas [] = []
after_commas (n ∷ more) = codes "," ++ (decimal n ++ after_commas more)

abbrev pub with_commas : List ℕ → List ℕ
with_commas [] = []
with_commas (n ∷ more) = decimal n ++ after_commas more
