use Rattle.std.proofs.Common.{◌≡◌, ℕ, ◌+◌, length, sym, ap, ◌∙◌, arith}
use Rattle.rcu_part_order.specs.Recorded.{gone_as, recorded}
use Rattle.rcu_part_order.specs.declared.recorded.Kept.{Kept}
use Rattle.rcu_part_order.proofs.Keeping.{left_length, none_gone, none_takeable}
use Rattle.rcu_part_order.proofs.recorded.Records.take.Goals as goal

pub returns-in-Whole : goal.returns-in-Whole
returns-in-Whole g c =
    let s = c.args.self.now in
    record {
      taken = c.new.ensures.items ∙ sym (none_takeable s.kept s.left.items c.in-Whole.is);
      rest = ap (λ (n : ℕ). record (recorded s) { gone = n }) (sym (none_gone s.kept s.gone (length s.all.items) c.in-Whole.is));
    }

pub returns-in-Rest-clause-rest : goal.returns-in-Rest-clause-rest
returns-in-Rest-clause-rest g c =
    let s = c.args.self.now in
    let e : s.gone + c.len.result ≡ length s.all.items = omega (arith, c.len.ensures, s.left.ok.0, left_length s.gone s.all.items s.left.items s.rest) in
    ap (λ (n : ℕ). record (recorded s) { gone = n }) (e ∙ sym (ap (λ (k : Kept). gone_as k s.gone (length s.all.items)) c.in-Rest.is))
