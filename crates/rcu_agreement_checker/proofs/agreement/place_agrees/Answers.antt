use Rattle.std.proofs.Common.{refl}
use Rattle.rcu_world_law.specs.declared.marks.Mark.TheVariants.{Accepted, Reported, Ran, Opened, Passed, Shut, Back}
use Rattle.rcu_world_checker.proofs.Deciding.{stands_at}
use Rattle.rcu_agreement_checker.specs.Known.{all_counts, all_known}
use Rattle.rcu_agreement_checker.proofs.Agreeing.{agrees_by}
use Rattle.rcu_agreement_checker.proofs.agreement.place_agrees.Goals as goal

pub returns-in-Accepted : goal.returns-in-Accepted
returns-in-Accepted c =
    let m = Accepted c.in-Accepted.p c.in-Accepted.field-1 in
    let stands = stands_at c.args.history.now c.args.place (Accepted 0 0) m c.requires.place c.in-Accepted.is in
    (λ e. agrees_by (all_known c.args.accounts.now) (all_counts c.args.counts.now) c.args.history.now c.args.place m stands (c.is_stamped.ensures.0 e), λ a. c.is_stamped.ensures.1 (a.is m stands))

pub returns-in-Ran : goal.returns-in-Ran
returns-in-Ran c =
    let m = Ran c.in-Ran.p c.in-Ran.field-1 in
    let stands = stands_at c.args.history.now c.args.place (Accepted 0 0) m c.requires.place c.in-Ran.is in
    (λ e. agrees_by (all_known c.args.accounts.now) (all_counts c.args.counts.now) c.args.history.now c.args.place m stands (c.is_seen.ensures.0 e), λ a. c.is_seen.ensures.1 (a.is m stands))

pub returns-in-Opened : goal.returns-in-Opened
returns-in-Opened c =
    let m = Opened c.in-Opened.b in
    let stands = stands_at c.args.history.now c.args.place (Accepted 0 0) m c.requires.place c.in-Opened.is in
    (λ e. agrees_by (all_known c.args.accounts.now) (all_counts c.args.counts.now) c.args.history.now c.args.place m stands (c.opens_at.ensures.0 e), λ a. c.opens_at.ensures.1 (a.is m stands))

pub returns-in-Passed : goal.returns-in-Passed
returns-in-Passed c =
    let m = Passed c.in-Passed.b in
    let stands = stands_at c.args.history.now c.args.place (Accepted 0 0) m c.requires.place c.in-Passed.is in
    (λ e. agrees_by (all_known c.args.accounts.now) (all_counts c.args.counts.now) c.args.history.now c.args.place m stands (c.passes_at.ensures.0 e), λ a. c.passes_at.ensures.1 (a.is m stands))

pub returns-in-Shut : goal.returns-in-Shut
returns-in-Shut c =
    let m = Shut c.in-Shut.p in
    let stands = stands_at c.args.history.now c.args.place (Accepted 0 0) m c.requires.place c.in-Shut.is in
    (λ e. agrees_by (all_known c.args.accounts.now) (all_counts c.args.counts.now) c.args.history.now c.args.place m stands (c.is_shut_at.ensures.0 e), λ a. c.is_shut_at.ensures.1 (a.is m stands))

pub returns-in-Back : goal.returns-in-Back
returns-in-Back c =
    let m = Back c.in-Back.p c.in-Back.field-1 in
    let stands = stands_at c.args.history.now c.args.place (Accepted 0 0) m c.requires.place c.in-Back.is in
    (λ e. agrees_by (all_known c.args.accounts.now) (all_counts c.args.counts.now) c.args.history.now c.args.place m stands (c.has_shut.ensures.0 e), λ a. c.has_shut.ensures.1 (a.is m stands))

pub returns-in-Reported : goal.returns-in-Reported
returns-in-Reported c =
    let m = Reported c.in-Reported.field-0 in
    let stands = stands_at c.args.history.now c.args.place (Accepted 0 0) m c.requires.place c.in-Reported.is in
    (λ e. agrees_by (all_known c.args.accounts.now) (all_counts c.args.counts.now) c.args.history.now c.args.place m stands tt, λ a. refl)
