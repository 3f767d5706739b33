use Rattle.std.proofs.Common.{ℕ, ◌-◌, ◌/◌, ◌∙◌, sym, arith}
use Rattle.rcu_numbers.specs.Words.{owes_of}
use Rattle.rcu_numbers.proofs.WordLaws.{owes-lt}
use Rattle.rcu_board.specs.Words.{cpu_of}
use Rattle.rcu_board.proofs.Asks.{asks_at}
use Rattle.rcu_board.proofs.Bits.{bit_value}
use Rattle.rcu_board.proofs.Opening.{first_ask}
use Rattle.rcu_board.proofs.open.first_word.Goals as goal

pub returns : goal.returns
returns c = let o = c.args.offloadable.now in let i = c.args.i in let high = c.if-i-le4.false in let fourth = c.if-i-ne1.false in
    c.from.ensures ∙ bit_value c.has.result (owes_of o (cpu_of i)) (owes-lt o (cpu_of i)) c.has.ensures ∙ sym (first_ask o i (asks_at i (omega arith) (omega arith)))
