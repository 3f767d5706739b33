-- A callback without its job (`docs/specification/rules.md`, "Callbacks and stamps").
use Rattle.std.specs.Prelude.{ℕ}

pub record Call : Type 0 where
  -- 0, 1, 2, .. in the order of acceptance on its processor
  pub number : ℕ
  -- the key of its job
  pub key : ℕ
  -- the sequence number that was seen right after its acceptance
  pub stamp : ℕ
