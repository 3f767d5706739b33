use Rattle.std.proofs.Common.{◌≡◌, ℕ, ◌^◌, ◌<◌, ◌↔◌, Result, Ok, Err, IfOk}
use Rattle.std.specs.Int.{bit_at}
use Rattle.rcu_setup.specs.Faults.{Gives}
use Rattle.rcu_setup.specs.List.{cpu_list_of, IsNamed}
use Rattle.rcu_setup.specs.declared.fault.SetupFault.{SetupFault}
use Rattle.rcu_setup.proofs.Masks.{bits-list, below-list}
use Rattle.rcu_setup.proofs.list.cpu_list.Goals as goal

bits : (n : ℕ) (text : _) (r : Result ℕ SetupFault) → Gives (λ m. m) r (cpu_list_of n text) → IfOk r (λ m. (p : ℕ) → (bit_at m p ≡ 1) ↔ IsNamed n text p)
bits n text (Ok m) h = bits-list n m text h
bits n text (Err e) h = tt

within : (n : ℕ) (text : _) (r : Result ℕ SetupFault) → Gives (λ m. m) r (cpu_list_of n text) → IfOk r (λ m. m < 2 ^ n)
within n text (Ok m) h = below-list n m text h
within n text (Err e) h = tt

pub returns-clause-bits : goal.returns-clause-bits
returns-clause-bits c = bits c.args.n c.args.text.now c.cpu_mask.result c.cpu_mask.ensures.answer

pub returns-clause-within : goal.returns-clause-within
returns-clause-within c = within c.args.n c.args.text.now c.cpu_mask.result c.cpu_mask.ensures.answer
