-- What a verb that isn't this one says.
use Rattle.std.proofs.Common.{◌≡◌, ◌≢◌, refl}
use Rattle.rcu_lists.specs.declared.pace.Kind.TheVariants.{Plain}
use Rattle.rcuo_script.specs.declared.lines.Verb.{Verb}
use Rattle.rcuo_script.specs.declared.lines.Verb.TheVariants as verb
use Rattle.rcuo_replay.specs.Outcomes.{asked_by, kind_of}

pub plain_kind : (v : Verb) → v ≢ verb.Lazy → kind_of v ≡ Plain
plain_kind verb.Call n = refl
plain_kind verb.Lazy n = absurd (n refl)
plain_kind verb.Quiet n = refl
plain_kind verb.Tick n = refl
plain_kind verb.Group n = refl
plain_kind verb.Hand n = refl
plain_kind verb.Offload n = refl
plain_kind verb.Deoffload n = refl
plain_kind verb.Leave n = refl
plain_kind verb.Return n = refl

pub asked_off : (v : Verb) → v ≢ verb.Offload → asked_by v ≡ 0
asked_off verb.Call n = refl
asked_off verb.Lazy n = refl
asked_off verb.Quiet n = refl
asked_off verb.Tick n = refl
asked_off verb.Group n = refl
asked_off verb.Hand n = refl
asked_off verb.Offload n = absurd (n refl)
asked_off verb.Deoffload n = refl
asked_off verb.Leave n = refl
asked_off verb.Return n = refl
