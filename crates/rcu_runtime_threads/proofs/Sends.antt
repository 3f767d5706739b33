-- What a thread is given may be sent there.
use Rattle.std.proofs.Common.{ℕ, Bool, true, false}
use denote.Exit.{if_kept, unseen}
use denote.Param.{param}
use denote.Param.Send.{IsSend, Quiet}
use denote.RattleType.{RattleType}
use mir.Syntax.{of_param}

-- what leaves nothing behind either way
pub quiet_either : {D : Type 0} (b : Bool) → Quiet (if_kept b (unseen {D = D}) (unseen {D = D}))
quiet_either true = λ x w. search
quiet_either false = λ x w. search

-- what may be sent as one parameter may be sent as another: a callee counts its own
pub sent_as : (n m : ℕ) (R : RattleType) → IsSend (param n R) → IsSend (param m R)
sent_as n m R s = record { owned = s.owned; leaving = λ k. s.leaving (λ _. k (of_param m)) }
