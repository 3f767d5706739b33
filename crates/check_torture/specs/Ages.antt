-- The words that say what has become of a version.
use Rattle.std.specs.Prelude.{ℕ}
use Rattle.check_torture.specs.declared.versions.Age.{Age}
use Rattle.check_torture.specs.declared.versions.Age.TheVariants.{Current, Freed, Removed}

abbrev pub word_of : Age → ℕ
word_of Current = 0
word_of Removed = 1
word_of Freed = 2
