-- What the receipt of a job says: docs/specification/rows.md, "Want of memory and hostile input".
use Rattle.std.specs.Prelude.{◌≡◌, ℕ, ◌+◌, ◌*◌, ◌%◌, ◌^◌}
use Rattle.check_memory.specs.declared.work.Work.{Work}

abbrev pub key_of_work : Work → ℕ
key_of_work job = job.key

-- the receipt is the key
abbrev pub IsOwnKey : ℕ → ℕ → Type 0
IsOwnKey key receipt = receipt ≡ key

-- the key of this callback of a processor
abbrev pub callback_key : ℕ → ℕ → ℕ
callback_key cpu number = (cpu * 1000000 % 2 ^ 64 + number) % 2 ^ 64
