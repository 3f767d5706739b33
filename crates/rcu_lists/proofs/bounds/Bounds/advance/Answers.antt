use Rattle.rcu_lists.proofs.Cuts.{advance-none, advance-wait, advance-all}
use Rattle.rcu_lists.proofs.bounds.Bounds.advance.Goals.{then-self-seq-2, else-self-seq-2}
use Rattle.rcu_lists.proofs.bounds.Bounds.advance.Goals as goal

pub returns-then-self-seq-clause-list : goal.returns-then-self-seq-clause-list
returns-then-self-seq-clause-list g c = λ cs le. let s = c.args.self.now in
    advance-none c.args.seq s.wait_number s.ready_number s.done s.wait s.ready cs c.if-self-seq.true s.rising le

pub returns-clause-list : goal.returns-clause-list
returns-clause-list g c = λ cs le. let s = c.args.self.now in elim c.if-self-seq-2.branch [
  | then-self-seq-2 w ↦ rw w.self-is (advance-wait c.args.seq s.wait_number s.ready_number s.done s.wait s.ready cs c.if-self-seq.false w.if-self-seq-2.true le)
  | else-self-seq-2 w ↦ rw w.self-is (advance-all c.args.seq s.wait_number s.ready_number s.done s.wait s.ready cs c.if-self-seq.false w.if-self-seq-2.false le)
]

pub invariant_of-self : goal.invariant_of-self
invariant_of-self g c = let b = c.args.self.now in record { counted = b.counted; filled = b.filled; single = b.single; rising = b.rising }

pub returns-then-self-seq-clause-within : goal.returns-then-self-seq-clause-within
returns-then-self-seq-clause-within g c = λ _ within. within
