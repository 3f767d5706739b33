use Rattle.rcu_c_slots.specs.Processors.{HasKey, foreign_key}
use Rattle.rcu_parts_law.proofs.Lawful.{sound_answer}
use Rattle.rcu_c_law.proofs.every_history_of_slots.Goals as goal

pub returns : goal.returns
returns g = record {
  closed = λ old new counts history owes c agrees. sound_answer foreign_key HasKey c.parts c.comes_to.closed counts history (owes.first c.opening c.parts c.held).0 c.comes_to.closes agrees;
  again = λ old new counts history owes c agrees. sound_answer foreign_key HasKey c.closing.parts c.comes_to.closed counts history (owes c.had.0 c.closing c.had.1 c.had.2).0 c.comes_to.closes agrees;
}
