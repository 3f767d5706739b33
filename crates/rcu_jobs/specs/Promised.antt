-- What a boxed job promises of its receipt.
use Rattle.std.specs.Prelude.{◌≡◌, ℕ, ◌%◌, ◌<◌}

-- the receipt is the key's rest by the modulus; the modulus 0 promises nothing
abbrev pub Promised : ℕ → ℕ → ℕ → Type 0
Promised modulus key receipt = 0 < modulus → receipt ≡ key % modulus
