-- A call has a job, and no other command has one.
use Rattle.std.proofs.Common.{◌≡◌, Bool, true, false, Option, Some, None, ◌∙◌, ap, sym, true≢false}
use Rattle.std.specs.Option.{is_some}
use Rattle.rcu_setup.specs.declared.line.Command.{Command}
use Rattle.rcuo_script.specs.Calls.{is_call}

module _ {J : Type 0} (job : Option J) (command : Command) (agree : is_some job ≡ is_call command) where
  pub job_missing : job ≡ None → is_call command ≡ true → ⊥
  job_missing none call = true≢false (sym call ∙ sym agree ∙ ap is_some none)

  pub job_over : (j : J) → job ≡ Some j → is_call command ≡ false → ⊥
  job_over j some call = true≢false (sym (ap is_some some) ∙ agree ∙ call)
