-- What the job that frees a version promises.
use Rattle.std.specs.Prelude.{◌≡◌, ℕ}
use Rattle.check_torture.specs.declared.retire.Retire.{Retire}

-- the key of the job: the version
abbrev pub version_of : Retire → ℕ
version_of job = job.version

-- the receipt is the version
abbrev pub IsVersion : ℕ → ℕ → Type 0
IsVersion version receipt = receipt ≡ version
