-- What is seen of one processor of a runtime.
use Rattle.std.proofs.Common.{◌≡◌, ℕ, ◌+◌, ◌-◌, ◌<◌, ◌≤◌, ◌∙◌, Result, Ok, Err, IsErr, length, get_or, All, arith, ap, subst, sym, refl}
use Rattle.std.specs.Prelude.{IsErrAnd}
use Rattle.std.proofs.lemmas.List.Elements.{All-get_or}
use Rattle.std.specs.Vec.{vec_len}
use Rattle.rcu_part_processor.specs.declared.processor.Processor.{Processor}
use Rattle.rcu_parts.specs.OneOpen.{AreOfOneOpen, Parts, processors_in}
use Rattle.rcu_runtime.specs.Calls.{AnswersOf, FindsNone, IsNone, OfProcessor}
use Rattle.rcu_runtime.specs.declared.fault.NoProcessor.{NoProcessor}
use Rattle.rcu_runtime.proofs.Wholes.{is_processor, leaves_all}

module _ {J R : Type 0} where
  pub of_processor : (old parts : Parts J R) → parts ≡ old → (k n : ℕ) (p : Processor J R) → k < n → n ≡ length (processors_in old) → p ≡ get_or (processors_in parts) k p → AreOfOneOpen parts → OfProcessor k (λ q. q ≡ p) old
  of_processor old parts seen k n p there many is one =
      let long = ap (λ (x : Parts J R). length (processors_in x)) seen in
      subst (λ (x : Parts J R). OfProcessor k (λ q. q ≡ p) x) seen (record { processor = p; is = is_processor k parts p one (omega (arith, there, many, long)) is; holds = refl })

  pub of_weaker : (P Q : Processor J R → Type 0) (k : ℕ) (parts : Parts J R) → ((q : Processor J R) → P q → Q q) → OfProcessor k P parts → OfProcessor k Q parts
  of_weaker P Q k parts f o = record { processor = o.processor; is = o.is; holds = f o.processor o.holds }

  -- a processor has the limit of its runtime
  limit_at : (old parts : Parts J R) → parts ≡ old → (k limit : ℕ) (x : Processor J R) → All (λ p. p.state.limit ≡ limit) (processors_in parts) → (o : OfProcessor k (λ q. q ≡ x) old) → o.processor.state.limit ≡ limit
  limit_at old parts seen k limit x limits o =
      let p = o.processor in
      let all : All (λ (y : Processor J R). y.state.limit ≡ limit) (processors_in old) = subst (λ (y : Parts J R). All (λ p. p.state.limit ≡ limit) (processors_in y)) seen limits in
      ap (λ (y : Processor J R). y.state.limit) o.is.is ∙ All-get_or (λ (y : Processor J R). y.state.limit ≡ limit) (processors_in old) k p o.is.there all

  -- so it has accepted no more than that
  pub within_limit : (old parts : Parts J R) → parts ≡ old → (k limit n : ℕ) (x : Processor J R) → All (λ p. p.state.limit ≡ limit) (processors_in parts) → n ≡ x.state.accepted → OfProcessor k (λ q. q ≡ x) old → n ≤ limit
  within_limit old parts seen k limit n x limits count o =
      let at = limit_at old parts seen k limit x limits o in
      let few = o.processor.state.small in
      let same = ap (λ (y : Processor J R). y.state.accepted) o.holds in
      omega (arith, at, few, same, count)

  -- and how many it still accepts is known
  pub left_of : (old parts : Parts J R) → parts ≡ old → (k limit n : ℕ) (x : Processor J R) → All (λ p. p.state.limit ≡ limit) (processors_in parts) → n ≡ x.state.accepted → OfProcessor k (λ q. q ≡ x) old
      → OfProcessor k (λ q. limit - n + q.state.accepted ≡ q.state.limit) old
  left_of old parts seen k limit n x limits count o =
      let at = limit_at old parts seen k limit x limits o in
      let few = o.processor.state.small in
      let same = ap (λ (y : Processor J R). y.state.accepted) o.holds in
      record { processor = o.processor; is = o.is; holds = omega (arith, at, few, same, count) }

  -- ---- how many processors there are, where the parts are seen as `old`

  pub as_many : (old parts : Parts J R) → parts ≡ old → (n : ℕ) → n ≡ vec_len parts.processors → n ≡ length (processors_in old)
  as_many old parts seen n many = many ∙ (parts.processors.ok.0 ∙ ap (λ (x : Parts J R). length (processors_in x)) seen)

  pub in_vec : (old parts : Parts J R) → parts ≡ old → (k n : ℕ) → k < n → n ≡ length (processors_in old) → k < vec_len parts.processors
  in_vec old parts seen k n there many =
      let long = ap (λ (x : Parts J R). length (processors_in x)) seen in
      omega (arith, there, many, long, parts.processors.ok.0)

  -- a number from there on is that of none
  pub is_none : (parts : Parts J R) (k n : ℕ) → n ≤ k → n ≡ length (processors_in parts) → IsNone k (record { cpu = k }) parts
  is_none parts k n low many = record { named = refl; none = subst (λ (m : ℕ). m ≤ k) many low }

  pub finds_none : (parts : Parts J R) (k n : ℕ) → n ≤ k → n ≡ length (processors_in parts) → FindsNone k (record { cpu = k }) parts parts
  finds_none parts k n low many = record { is = is_none parts k n low many; leaves = leaves_all parts parts refl }

  -- the fault of a look that `?` hands on
  pub none_answers : {A : Type 0} (r : Result A NoProcessor) (e : NoProcessor) (k : ℕ) (Says : A → Processor J R → Type 0) (parts : Parts J R) → IsErr r × IsErrAnd r (λ x. x ≡ e) → IsNone k e parts → AnswersOf k r Says parts
  none_answers (Ok x) e k Says parts is none = absurd (let z = is.0 in cc)
  none_answers (Err x) e k Says parts is none = subst (λ fault. IsNone k fault parts) (sym is.1) none
