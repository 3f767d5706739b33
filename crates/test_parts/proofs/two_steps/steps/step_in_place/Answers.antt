use Rattle.std.proofs.Common.{◌∙◌, rules}
use Rattle.rcu_part_processor.specs.InPlace.{IsSoundInPlace, resting, running}
use Rattle.rcu_part_processor.proofs.Claiming.{same_in_two_steps}
use Rattle.test_parts.specs.Echoes.{IsOwnKey, key_of_echo}
use Rattle.test_parts.proofs.Placed.{processor_same, processor_sound}
use Rattle.test_parts.proofs.two_steps.steps.step_in_place.Goals as goal

pub begin-requires : goal.begin-requires
begin-requires c = (search rules, (search rules, (search rules, c.new-place.ensures.rests)))

pub into_processor-requires : goal.into_processor-requires
into_processor-requires c = (search rules, (search rules, (search rules, (search rules, (c.in-Err.ensures.stops c.new-place.ensures.rests).0))))

pub returns-in-Err-clause-same : goal.returns-in-Err-clause-same
returns-in-Err-clause-same c = let r = c.new-place.ensures.rests in let b = c.in-Err.ensures.stops r in
    processor_same (c.new-place.ensures.same r) (c.into_processor.ensures.same b.0) b.1

pub returns-in-Err-clause-sound : goal.returns-in-Err-clause-sound
returns-in-Err-clause-sound c = let r = c.new-place.ensures.rests in let b = c.in-Err.ensures.stops r in
    processor_sound key_of_echo IsOwnKey (c.new-place.ensures.same r) (c.into_processor.ensures.same b.0) (λ sound. let s = c.begin.ensures.sound (record { keyed = sound.keyed; given = sound.given }) in record { keyed = s.keyed; given = s.given })

pub finish-requires : goal.finish-requires
finish-requires c = let b = c.in-Ok.ensures.begins c.new-place.ensures.rests in (search rules, (search rules, (search rules, λ none. (let f = b.1 in cc))))

pub into_processor-requires-in-Ok-clause-rests : goal.into_processor-requires-in-Ok-clause-rests
into_processor-requires-in-Ok-clause-rests c κs = let b = c.in-Ok.ensures.begins c.new-place.ensures.rests in (search rules, (search rules, (c.finish.ensures.finishes b.0 b.1).0))

pub returns-in-Ok-clause-same : goal.returns-in-Ok-clause-same
returns-in-Ok-clause-same c = let r = c.new-place.ensures.rests in let b = c.in-Ok.ensures.begins r in let d = c.finish.ensures.finishes b.0 b.1 in
    processor_same (c.new-place.ensures.same r) (c.into_processor-in-Ok.ensures.same d.0) (same_in_two_steps (resting c.new-place.result.state r) (running c.begin.new.self.state b.0 b.1) (resting c.finish.new.self.state d.0) b.2 d.1)

pub returns-in-Ok-clause-sound : goal.returns-in-Ok-clause-sound
returns-in-Ok-clause-sound c = let r = c.new-place.ensures.rests in let b = c.in-Ok.ensures.begins r in let d = c.finish.ensures.finishes b.0 b.1 in
    processor_sound key_of_echo IsOwnKey (c.new-place.ensures.same r) (c.into_processor-in-Ok.ensures.same d.0)
    (λ sound. let x : IsSoundInPlace key_of_echo IsOwnKey c.new-place.result.state = record { keyed = sound.keyed; given = sound.given } in let s = c.finish.ensures.sound (λ k e. c.run-receipt.ensures ∙ c.in-Ok.ensures.keyed x k e) (c.begin.ensures.sound x) in record { keyed = s.keyed; given = s.given })
