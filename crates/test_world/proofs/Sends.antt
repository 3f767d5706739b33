-- What may be sent as one type parameter may be sent as another: a callee counts its own.
use Rattle.std.proofs.Common.{ℕ}
use denote.Param.{param}
use denote.Param.Send.{IsSend}
use denote.RattleType.{RattleType}
use mir.Syntax.{of_param}

pub sent_as : (n m : ℕ) (R : RattleType) → IsSend (param n R) → IsSend (param m R)
sent_as n m R s = record { owned = s.owned; leaving = λ k. s.leaving (λ _. k (of_param m)) }
