-- What the receipt of a job says.
use Rattle.std.specs.Prelude.{◌≡◌, ℕ}
use Rattle.test_parts.specs.declared.two_steps.echo.Echo.{Echo}

abbrev pub key_of_echo : Echo → ℕ
key_of_echo job = job.key

-- the receipt is the key
abbrev pub IsOwnKey : ℕ → ℕ → Type 0
IsOwnKey key receipt = receipt ≡ key
