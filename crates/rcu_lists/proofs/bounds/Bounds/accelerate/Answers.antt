use Rattle.std.proofs.Common.{◌≡◌, ◌<◌, ◌-◌, ◌≤◌, ◌+◌, ◌∙◌, length, sym, arith, refl}
use Rattle.rcu_lists.proofs.Cuts.{no-first, no-second}
use Rattle.rcu_lists.proofs.Counts.{no-second-number, accelerate-full, accelerate-first, accelerate-second, carries-none, carries-first, carries-second}
use Rattle.rcu_lists.proofs.bounds.Bounds.accelerate.Goals.{else-self-gt0-via-then-self-gt0+else-self-seq, else-self-gt0-via-else-self-gt0, else-self-gt0-2-via-then-self-gt0-2+else-self-seq-2, else-self-gt0-2-via-else-self-gt0-2}
use Rattle.rcu_lists.proofs.bounds.Bounds.accelerate.Goals as goal

-- two lesser numbers are there
pub returns-then-self-seq-clause-list : goal.returns-then-self-seq-clause-list
returns-then-self-seq-clause-list g c = λ cs len. let s = c.args.self.now in
    let le : s.done + s.wait + s.ready ≤ length cs = omega (arith, len, c.requires.within) in
    accelerate-full c.args.seq s.wait_number s.ready_number s.done s.wait s.ready cs le (λ e. (s.filled e).0) s.rising c.if-self-gt0.true c.if-self-seq.true

pub returns-then-self-seq-clause-carried : goal.returns-then-self-seq-clause-carried
returns-then-self-seq-clause-carried g c = λ cs len. let s = c.args.self.now in
    let le : s.done + s.wait + s.ready ≤ length cs = omega (arith, len, c.requires.within) in
    sym (carries-none c.args.seq s.wait_number s.ready_number s.done s.wait s.ready cs le (λ p. let r = s.rising c.if-self-gt0.true in omega arith) (λ p. c.if-self-seq.true))

-- nothing is after wait
pub returns-then-later-eq0-clause-list : goal.returns-then-later-eq0-clause-list
returns-then-later-eq0-clause-list g c = λ cs len. let s = c.args.self.now in
    let le : s.done + s.wait + s.ready ≤ length cs = omega (arith, len, c.requires.within) in
    let no_ready : s.ready ≡ 0 = omega arith in
    no-second s.wait_number s.ready_number c.args.seq s.done s.wait s.ready (length cs - s.done - s.wait) cs no_ready (omega arith)
    ∙ accelerate-second c.args.seq s.wait_number s.ready_number s.done s.wait s.ready cs le (λ e. (s.filled e).0) s.rising (λ p. omega arith)

pub returns-then-later-eq0-clause-carried : goal.returns-then-later-eq0-clause-carried
returns-then-later-eq0-clause-carried g c = λ cs len. let s = c.args.self.now in
    let le : s.done + s.wait + s.ready ≤ length cs = omega (arith, len, c.requires.within) in
    let no_ready : s.ready ≡ 0 = omega arith in
    sym (carries-none c.args.seq s.wait_number s.ready_number s.done s.wait s.ready cs le (λ p. c.if-self-seq-2.true) (λ p. omega arith))

-- nothing is after done
pub returns-then-not_done-eq0-clause-list : goal.returns-then-not_done-eq0-clause-list
returns-then-not_done-eq0-clause-list g c = λ cs len. let s = c.args.self.now in
    let le : s.done + s.wait + s.ready ≤ length cs = omega (arith, len, c.requires.within) in
    let no_wait : s.wait ≡ 0 = omega arith in
    let no_ready : s.ready ≡ 0 = omega arith in
    no-first s.wait_number s.ready_number c.args.seq s.done s.wait s.ready (length cs - s.done) cs no_wait no_ready (omega arith)
    ∙ accelerate-first c.args.seq s.wait_number s.ready_number s.done s.wait s.ready cs le (λ p. omega arith) no_ready

pub returns-then-not_done-eq0-clause-carried : goal.returns-then-not_done-eq0-clause-carried
returns-then-not_done-eq0-clause-carried g c = λ cs len. let s = c.args.self.now in
    let le : s.done + s.wait + s.ready ≤ length cs = omega (arith, len, c.requires.within) in
    let no_wait : s.wait ≡ 0 = omega arith in
    let no_ready : s.ready ≡ 0 = omega arith in
    sym (carries-none c.args.seq s.wait_number s.ready_number s.done s.wait s.ready cs le (λ p. omega arith) (λ p. omega arith))

-- the later ones join next-ready
pub returns-else-later-eq0-clause-list : goal.returns-else-later-eq0-clause-list
returns-else-later-eq0-clause-list g c = λ cs len. let s = c.args.self.now in
    let le : s.done + s.wait + s.ready ≤ length cs = omega (arith, len, c.requires.within) in
    let full : 0 < s.ready → s.ready_number ≡ c.args.seq = λ p. let top = c.requires.ready in elim c.else-self-gt0.branch [
      | else-self-gt0-via-then-self-gt0+else-self-seq w ↦ omega arith
      | else-self-gt0-via-else-self-gt0 w ↦ omega arith
    ] in
    rw (sym len) (accelerate-second c.args.seq s.wait_number s.ready_number s.done s.wait s.ready cs le (λ e. (s.filled e).0) s.rising full)

pub returns-else-later-eq0-clause-carried : goal.returns-else-later-eq0-clause-carried
returns-else-later-eq0-clause-carried g c = λ cs len. let s = c.args.self.now in
    let le : s.done + s.wait + s.ready ≤ length cs = omega (arith, len, c.requires.within) in
    rw (sym len) (sym (carries-second c.args.seq s.wait_number s.done s.wait (length cs - s.done - s.wait) cs (omega arith) (omega arith)))

-- the later ones join wait
pub returns-else-not_done-eq0-clause-list : goal.returns-else-not_done-eq0-clause-list
returns-else-not_done-eq0-clause-list g c = λ cs len. let s = c.args.self.now in
    let le : s.done + s.wait + s.ready ≤ length cs = omega (arith, len, c.requires.within) in
    let same : 0 < s.wait → s.wait_number ≡ c.args.seq = λ p. let top = c.requires.wait in elim c.else-self-gt0-2.branch [
      | else-self-gt0-2-via-then-self-gt0-2+else-self-seq-2 w ↦ omega arith
      | else-self-gt0-2-via-else-self-gt0-2 w ↦ omega arith
    ] in
    let no_ready : s.ready ≡ 0 = no-second-number c.args.seq s.wait_number s.ready_number s.wait s.ready (λ e. (s.filled e).0) s.rising same (λ _. c.requires.ready) in
    rw (sym len) (accelerate-first c.args.seq s.wait_number s.ready_number s.done s.wait s.ready cs le same no_ready)

pub returns-else-not_done-eq0-clause-carried : goal.returns-else-not_done-eq0-clause-carried
returns-else-not_done-eq0-clause-carried g c = λ cs len. let s = c.args.self.now in
    let le : s.done + s.wait + s.ready ≤ length cs = omega (arith, len, c.requires.within) in
    rw (sym len) (sym (carries-first c.args.seq 0 s.done (length cs - s.done) 0 cs (omega arith) (omega arith)))

pub returns-then-self-seq-clause-within : goal.returns-then-self-seq-clause-within
returns-then-self-seq-clause-within g c = c.requires.within

pub returns-then-later-eq0-clause-within : goal.returns-then-later-eq0-clause-within
returns-then-later-eq0-clause-within g c = c.requires.within

pub returns-then-not_done-eq0-clause-within : goal.returns-then-not_done-eq0-clause-within
returns-then-not_done-eq0-clause-within g c = c.requires.within

pub returns-then-self-seq-clause-advanced : goal.returns-then-self-seq-clause-advanced
returns-then-self-seq-clause-advanced g c = refl

pub returns-then-later-eq0-clause-advanced : goal.returns-then-later-eq0-clause-advanced
returns-then-later-eq0-clause-advanced g c = refl

pub returns-then-not_done-eq0-clause-advanced : goal.returns-then-not_done-eq0-clause-advanced
returns-then-not_done-eq0-clause-advanced g c = refl

pub returns-else-later-eq0-clause-advanced : goal.returns-else-later-eq0-clause-advanced
returns-else-later-eq0-clause-advanced g c = refl

pub returns-else-not_done-eq0-clause-advanced : goal.returns-else-not_done-eq0-clause-advanced
returns-else-not_done-eq0-clause-advanced g c = refl
