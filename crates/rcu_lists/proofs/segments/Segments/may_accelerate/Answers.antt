use Rattle.std.proofs.Common.{◌≡◌, max, rules, arith}
use Rattle.std.proofs.lemmas.Bool.{leb-true}
use Rattle.rcu_lists.proofs.Counts.{may-iff}
use Rattle.rcu_lists.proofs.segments.Segments.may_accelerate.Goals as goal

pub returns-then-greatest-seq : goal.returns-then-greatest-seq
returns-then-greatest-seq g c = let s = c.args.self.now in
    let top : c.max-greatest.result ≡ max s.bounds.wait_number s.bounds.ready_number = search rules in
    let iff = may-iff c.args.seq s.bounds.wait_number s.bounds.ready_number s.bounds.done s.bounds.wait s.bounds.ready s.list.items s.within (λ e. (s.bounds.filled e).1) s.bounds.single in
    let served = rw c.newest.ensures at c.is_served.ensures in
    ((λ e. iff.0 (omega arith, omega arith, served.0 e)), (λ h. served.1 (iff.1 h).2))

pub returns-else-greatest-seq : goal.returns-else-greatest-seq
returns-else-greatest-seq g c = let s = c.args.self.now in
    let top : c.max-greatest.result ≡ max s.bounds.wait_number s.bounds.ready_number = search rules in
    let iff = may-iff c.args.seq s.bounds.wait_number s.bounds.ready_number s.bounds.done s.bounds.wait s.bounds.ready s.list.items s.within (λ e. (s.bounds.filled e).1) s.bounds.single in
    ((λ e. absurd (let le = leb-true c.max-greatest.result c.args.seq e in omega arith)), (λ h. absurd (let p = (iff.1 h).0 in let q = (iff.1 h).1 in omega arith)))
