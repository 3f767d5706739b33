-- What the jobs of a picture promise: each answers its key.
use Rattle.std.specs.Prelude.{◌≡◌, ℕ}
use Rattle.rcuo_picture.specs.declared.runs.KeyJob.{KeyJob}

abbrev pub key_in : KeyJob → ℕ
key_in job = job.key

abbrev pub IsKey : ℕ → ℕ → Type 0
IsKey key receipt = receipt ≡ key
