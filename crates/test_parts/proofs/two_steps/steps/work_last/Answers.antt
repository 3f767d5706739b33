use Rattle.std.proofs.Common.{◌≡◌, ℕ, List, [], ◌∷◌, ◌++◌, append-nil, sym, ◌∙◌, subst}
use Rattle.std.specs.List.{All, AllZip}
use Rattle.rcu_part_processor.proofs.TickRuns.{same_processor}
use Rattle.rcu_part_processor.specs.Processors.{IsSound, SameProcessor}
use Rattle.rcu_part_processor.specs.declared.processor.Processor.{Processor}
use Rattle.rcu_parts.proofs.StaySame.{zip_append}
use Rattle.test_parts.specs.Echoes.{IsOwnKey, key_of_echo}
use Rattle.test_parts.specs.declared.two_steps.echo.Echo.{Echo}
use Rattle.test_parts.proofs.Zipped.{all_kept}
use Rattle.test_parts.proofs.two_steps.steps.work_last.Goals as goal
use Rattle.rcu_lemmas.proofs.Zips.{zip_same}

abbrev Cpu : Type 0
Cpu = Processor Echo ℕ

abbrev Same : Cpu → Cpu → Type 0
Same p q = SameProcessor p.state q.state

abbrev Sound : Cpu → Type 0
Sound p = IsSound key_of_echo IsOwnKey p.state

-- the last of a list was changed
changed_last : (S : Cpu → Cpu → Type 0) → ((p : Cpu) → S p p) → (old rest new : List Cpu) (p q : Cpu) → old ≡ rest ++ p ∷ [] → new ≡ rest ++ q ∷ [] → S p q → AllZip S old new
changed_last S same old rest new p q was is step = subst (λ (xs : List Cpu). AllZip S xs new) (sym was) (subst (λ (ys : List Cpu). AllZip S (rest ++ p ∷ []) ys) (sym is)
    (zip_append S rest (p ∷ []) rest (q ∷ []) (zip_same S same rest) (step, tt)))

pub returns-in_default-clause-same : goal.returns-in_default-clause-same
returns-in_default-clause-same c = subst (λ (ys : List Cpu). AllZip Same c.args.processors.now.items ys) (c.in_default.ensures.items ∙ append-nil c.pop.new.self.items) (zip_same Same (λ p. same_processor p.state) c.args.processors.now.items)

pub returns-in_default-clause-sound : goal.returns-in_default-clause-sound
returns-in_default-clause-sound c = λ sound. subst (λ (ys : List Cpu). All Sound ys) (c.in_default.ensures.items ∙ append-nil c.pop.new.self.items) sound

pub returns-clause-same : goal.returns-clause-same
returns-clause-same c = changed_last Same (λ p. same_processor p.state) c.args.processors.now.items c.pop.new.self.items c.push_reserved.new.self.items c.in-Some.processor c.work.result c.in-Some.ensures.items c.push_reserved.ensures.items c.work.ensures.same

pub returns-clause-driver : goal.returns-clause-driver
returns-clause-driver c = c.work.ensures.driver

pub returns-clause-sound : goal.returns-clause-sound
returns-clause-sound c = all_kept Sound c.args.processors.now.items c.push_reserved.new.self.items
    (changed_last (λ p q. Sound p → Sound q) (λ p sound. sound) c.args.processors.now.items c.pop.new.self.items c.push_reserved.new.self.items c.in-Some.processor c.work.result c.in-Some.ensures.items c.push_reserved.ensures.items c.work.ensures.sound)
