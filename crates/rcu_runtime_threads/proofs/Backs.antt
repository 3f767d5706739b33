-- What comes back of a run, by its answer.
use Rattle.std.proofs.Common.{◌≡◌, ◌∙◌, ap, subst, sym, ℕ, Bool, List, Result, Ok, Err, IfErr, Some}
use Rattle.std.specs.Prelude.{IfOk, MatchResult, [], slice_get, vec_len}
use Rattle.std.specs.declared.alloc.Global.{Global}
use Rattle.std.specs.declared.vec.Vec.{Vec}
use Rattle.rcu_parts.specs.OneOpen.{Parts}
use Rattle.rcu_runtime.proofs.Wholes.{continues_again}
use Rattle.rcu_runtime.specs.Runtimes.{Continues}
use Rattle.rcu_runtime_threads.specs.Faults.{ComesBack, HaveEnded, IsEarly, IsLate, IsWhy}
use Rattle.rcu_runtime_threads.specs.Runs.{ComeBack, KeepsUnbegun}
use Rattle.rcu_runtime_threads.specs.Says.{AreSameWorkers, HaveEndedAs}
use Rattle.rcu_runtime_threads.specs.declared.run.Ending.{Ending}
use Rattle.rcu_runtime_threads.specs.declared.worker.WorkerEnd.{WorkerEnd}
use Rattle.rcu_runtime_threads.specs.declared.worker.WorkerEnd.TheVariants.{NotBegun}
use Rattle.rcu_runtime_threads.specs.declared.fault.WorkersFault.{WorkersFault}
use Rattle.rcu_runtime_threads.specs.declared.fault.WorkersFault.TheVariants.{Memory, OtherNumber, NoThread, NotDrained}

module _ {J R : Type 0} where
  pub continues_either : {A B : Type 0} (f : A → Parts J R) (g : B → Parts J R) (old between : Parts J R) → Continues old between → (r : Result A B)
      → MatchResult r (λ a. Continues between (f a)) (λ b. Continues between (g b)) → MatchResult r (λ a. Continues old (f a)) (λ b. Continues old (g b))
  continues_either f g old between c (Ok a) m = continues_again old between (f a) c m
  continues_either f g old between c (Err b) m = continues_again old between (g b) c m

  pub early_back : {W : Type 0} (n m : ℕ) (fault : WorkersFault) (old new : Parts J R) (workers back : List W) → IsEarly n m fault → new ≡ old → back ≡ workers → ComesBack fault old new workers back
  early_back n m Memory old new workers back e same all = (same, all)
  early_back n m (OtherNumber a b) old new workers back e same all = (same, all)
  early_back n m NoThread old new workers back e same all = absurd e
  early_back n m NotDrained old new workers back e same all = absurd e

  pub late_back : {W : Type 0} (has_begun : Bool) (ending : Ending) (fault : WorkersFault) (old new : Parts J R) (workers back : List W) → IsLate has_begun ending fault → ComesBack fault old new workers back
  late_back has_begun ending Memory old new workers back e = absurd e
  late_back has_begun ending (OtherNumber a b) old new workers back e = absurd e
  late_back has_begun ending NoThread old new workers back e = tt
  late_back has_begun ending NotDrained old new workers back e = tt

-- why a run wasn't made, early or late, and how many ends come back
pub early_why : (n m : ℕ) (ending : Ending) (fault : WorkersFault) → IsEarly n m fault → IsWhy n m ending fault
early_why n m ending Memory e = e
early_why n m ending (OtherNumber a b) e = e
early_why n m ending NoThread e = absurd e
early_why n m ending NotDrained e = absurd e

pub late_why : (n m : ℕ) (has_begun : Bool) (ending : Ending) (fault : WorkersFault) → m ≡ n → IsLate has_begun ending fault → IsWhy n m ending fault
late_why n m has_begun ending Memory same e = absurd e
late_why n m has_begun ending (OtherNumber a b) same e = absurd e
late_why n m has_begun ending NoThread same e = same
late_why n m has_begun ending NotDrained same e = (same, e.1)

pub early_ends : (n m many : ℕ) (fault : WorkersFault) (ends : Vec WorkerEnd Global) → IsEarly n m fault → ends.items ≡ [] → HaveEnded fault many ends.items
early_ends n m many Memory ends e none = none
early_ends n m many (OtherNumber a b) ends e none = none
early_ends n m many NoThread ends e none = absurd e
early_ends n m many NotDrained ends e none = absurd e

pub late_ends : (many : ℕ) (has_begun : Bool) (ending : Ending) (fault : WorkersFault) (ends : Vec WorkerEnd Global) → IsLate has_begun ending fault → vec_len ends ≡ many → HaveEnded fault many ends.items
late_ends many has_begun ending Memory ends e same = absurd e
late_ends many has_begun ending (OtherNumber a b) ends e same = absurd e
late_ends many has_begun ending NoThread ends e same = sym ends.ok.0 ∙ same
late_ends many has_begun ending NotDrained ends e same = sym ends.ok.0 ∙ same

pub if_ok : {A B : Type 0} (P : Type 0) → P → (r : Result A B) → IfOk r (λ _. P)
if_ok P p (Ok a) = p
if_ok P p (Err b) = tt

pub if_err_both : {A B : Type 0} (P Q S : B → Type 0) → ((b : B) → P b → Q b → S b) → (r : Result A B) → IfErr r P → IfErr r Q → IfErr r S
if_err_both P Q S f (Ok a) p q = p
if_err_both P Q S f (Err b) p q = f b p q

pub if_err : {A B : Type 0} (P Q : B → Type 0) → ((b : B) → P b → Q b) → (r : Result A B) → IfErr r P → IfErr r Q
if_err P Q f (Ok a) p = p
if_err P Q f (Err b) p = f b p

module _ {A B W : Type 0} (workers left : Vec W Global) (ends : Vec WorkerEnd Global) (came : ComeBack workers left ends) where
  -- what a run left is what comes back, so as many workers do
  pub all_come_back : (f : A → Vec W Global) (g : A → Vec WorkerEnd Global) (r : Result A B) → IfOk r (λ a. (f a ≡ left) × (g a ≡ ends)) → IfOk r (λ a. ComeBack workers (f a) (g a))
  all_come_back f g (Ok a) same = record { workers = ap (λ v. vec_len v) same.0 ∙ came.workers; ends = ap (λ v. vec_len v) same.1 ∙ came.ends }
  all_come_back f g (Err b) same = same

  pub as_many_back : (f : B → Vec W Global) (r : Result A B) → IfErr r (λ b. f b ≡ left) → IfErr r (λ b. vec_len (f b) ≡ vec_len workers)
  as_many_back f (Ok a) same = same
  as_many_back f (Err b) same = ap (λ v. vec_len v) same ∙ came.workers

-- what a run left is what comes back, so a worker that made no step is as it was
kept_by : {W : Type 0} (workers left now : Vec W Global) (ends said : Vec WorkerEnd Global) → KeepsUnbegun workers left ends → now ≡ left → said ≡ ends → KeepsUnbegun workers now said
kept_by workers left now ends said kept same told = λ k none. ap (λ v. slice_get v.items k) same ∙ kept k (subst (λ v. slice_get v.items k ≡ Some NotBegun) told none)

module _ {A B W : Type 0} (workers left : Vec W Global) (ends : Vec WorkerEnd Global) (kept : KeepsUnbegun workers left ends) where
  pub unbegun_come : (f : A → Vec W Global) (g : A → Vec WorkerEnd Global) (r : Result A B) → IfOk r (λ a. (f a ≡ left) × (g a ≡ ends)) → IfOk r (λ a. KeepsUnbegun workers (f a) (g a))
  unbegun_come f g (Ok a) same = kept_by workers left (f a) ends (g a) kept same.0 same.1
  unbegun_come f g (Err b) same = same

  pub unbegun_back : (f : B → Vec W Global) (g : B → Vec WorkerEnd Global) (r : Result A B) → IfErr r (λ b. f b ≡ left) → IfErr r (λ b. g b ≡ ends) → IfErr r (λ b. KeepsUnbegun workers (f b) (g b))
  unbegun_back f g r same told = if_err_both (λ b. f b ≡ left) (λ b. g b ≡ ends) (λ b. KeepsUnbegun workers (f b) (g b)) (λ b s t. kept_by workers left (f b) ends (g b) kept s t) r same told

module _ {A B W : Type 0} (name_of : W → ℕ) (workers left : Vec W Global) (same : AreSameWorkers name_of workers left) where
  pub named_come : {X : Type 0} (f : A → Vec W Global) (g : A → X) (x : X) (r : Result A B) → IfOk r (λ a. (f a ≡ left) × (g a ≡ x)) → IfOk r (λ a. AreSameWorkers name_of workers (f a))
  named_come f g x (Ok a) is = subst (AreSameWorkers name_of workers) (sym is.0) same
  named_come f g x (Err b) is = is

  pub named_back : (f : B → Vec W Global) (r : Result A B) → IfErr r (λ b. f b ≡ left) → IfErr r (λ b. AreSameWorkers name_of workers (f b))
  named_back f (Ok a) is = is
  named_back f (Err b) is = subst (AreSameWorkers name_of workers) (sym is) same

-- and so is how each ended
said_by : {W : Type 0} (ends_as : WorkerEnd → W → Type 0) (left now : Vec W Global) (ends said : Vec WorkerEnd Global) → HaveEndedAs ends_as left ends → now ≡ left → said ≡ ends → HaveEndedAs ends_as now said
said_by ends_as left now ends said have same told = subst (λ v. HaveEndedAs ends_as v said) (sym same) (subst (HaveEndedAs ends_as left) (sym told) have)

-- where no end is said, of none
pub none_ended : {W : Type 0} (ends_as : WorkerEnd → W → Type 0) (workers : Vec W Global) (ends : Vec WorkerEnd Global) → ends.items ≡ [] → HaveEndedAs ends_as workers ends
none_ended ends_as workers ends none = λ k w e is said begun. absurd (let h : slice_get [] k ≡ Some e = subst (λ l. slice_get l k ≡ Some e) none said in cc)

module _ {A B W : Type 0} (ends_as : WorkerEnd → W → Type 0) (left : Vec W Global) (ends : Vec WorkerEnd Global) (have : HaveEndedAs ends_as left ends) where
  pub ended_come : (f : A → Vec W Global) (g : A → Vec WorkerEnd Global) (r : Result A B) → IfOk r (λ a. (f a ≡ left) × (g a ≡ ends)) → IfOk r (λ a. HaveEndedAs ends_as (f a) (g a))
  ended_come f g (Ok a) same = said_by ends_as left (f a) ends (g a) have same.0 same.1
  ended_come f g (Err b) same = same

  pub ended_back : (f : B → Vec W Global) (g : B → Vec WorkerEnd Global) (r : Result A B) → IfErr r (λ b. f b ≡ left) → IfErr r (λ b. g b ≡ ends) → IfErr r (λ b. HaveEndedAs ends_as (f b) (g b))
  ended_back f g r same told = if_err_both (λ b. f b ≡ left) (λ b. g b ≡ ends) (λ b. HaveEndedAs ends_as (f b) (g b)) (λ b s t. said_by ends_as left (f b) ends (g b) have s t) r same told
