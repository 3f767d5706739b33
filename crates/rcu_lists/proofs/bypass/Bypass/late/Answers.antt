use Rattle.std.proofs.Common.{◌≡◌, ◌∙◌, ℕ, true, false, refl, sym}
use Rattle.rcu_lists.specs.Release.{is_late, restarted, ticked}
use Rattle.rcu_lists.specs.declared.pace.Pace.{Pace}
use Rattle.rcu_lists.proofs.bypass.Bypass.late.Goals as goal

if-late : (moment : ℕ) (p : Pace) → is_late moment p ≡ true → restarted moment p ≡ ticked moment p
if-late moment p e = rw e refl

if-not-late : (moment : ℕ) (p : Pace) → is_late moment p ≡ false → p ≡ ticked moment p
if-not-late moment p e = rw e refl

pub is_late-late-requires : goal.is_late-late-requires
is_late-late-requires g c = assumption

pub restart-requires : goal.restart-requires
restart-requires g c = assumption

pub returns-then-late-clause-room : goal.returns-then-late-clause-room
returns-then-late-clause-room g c = c.restart.ensures.room

pub returns-then-late-clause-late : goal.returns-then-late-clause-late
returns-then-late-clause-late g c = c.is_late-late.ensures.late

pub returns-then-late-clause-pace : goal.returns-then-late-clause-pace
returns-then-late-clause-pace g c = c.restart.ensures.pace ∙ if-late c.args.moment c.args.self.now.pace (sym c.is_late-late.ensures.late ∙ c.if-late.true)

pub returns-else-late-clause-late : goal.returns-else-late-clause-late
returns-else-late-clause-late g c = c.is_late-late.ensures.late

pub returns-else-late-clause-pace : goal.returns-else-late-clause-pace
returns-else-late-clause-pace g c = if-not-late c.args.moment c.args.self.now.pace (sym c.is_late-late.ensures.late ∙ c.if-late.false)

pub returns-else-late-clause-empty : goal.returns-else-late-clause-empty
returns-else-late-clause-empty g c = c.is_late-late.ensures.empty

pub returns-then-late-clause-empty : goal.returns-then-late-clause-empty
returns-then-late-clause-empty g c = c.is_late-late.ensures.empty

pub returns-then-late-clause-items : goal.returns-then-late-clause-items
returns-then-late-clause-items g c = c.restart.ensures.items

pub returns-then-late-clause-qhimark : goal.returns-then-late-clause-qhimark
returns-then-late-clause-qhimark g c = c.restart.ensures.qhimark

pub returns-else-late-clause-items : goal.returns-else-late-clause-items
returns-else-late-clause-items g c = refl

pub returns-else-late-clause-qhimark : goal.returns-else-late-clause-qhimark
returns-else-late-clause-qhimark g c = refl

pub returns-else-late-clause-room : goal.returns-else-late-clause-room
returns-else-late-clause-room g c = λ _ room. room
