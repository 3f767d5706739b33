-- What one word that names a subcommand is taken as.
use Rattle.std.proofs.Common.{◌≡◌, ◌≢◌, [], ◌∷◌, ◌∙◌, true, refl, ap, arith, subst, sym, codes, get_or, unwrap_or, List, Option, None, Some}
use Rattle.std.specs.Option.{option_map}
use Rattle.clap.specs.Matches.{subcommand_name_of}
use Rattle.clap.specs.Simple.{HasMatchesOf, is_simple, subcommand_of}
use Rattle.clap.specs.Words.{App, Text, takes}
use Rattle.clap.specs.declared.parser.matches.ArgMatches.{ArgMatches}
use Rattle.clap.proofs.OnLiterals.{clap_on_literals}
use Rattle.rcuo_plan.specs.declared.plan.Subcommand.{Subcommand}
use Rattle.rcuo_plan.specs.declared.plan.Subcommand.TheVariants as subcommand
use Rattle.rcuo_plan.specs.Plan.{Names, rcuo, word_of}

pub is_taken : (s : Subcommand) → takes rcuo (word_of s ∷ []) ≡ true
unfolding clap_on_literals
is_taken subcommand.Replay = refl
is_taken subcommand.Threads = refl

simple : is_simple rcuo ≡ true
unfolding clap_on_literals
simple = refl

entered : (s : Subcommand) → option_map (λ p. p.0) (subcommand_of rcuo (word_of s ∷ [])) ≡ Some (word_of s)
unfolding clap_on_literals
entered subcommand.Replay = refl
entered subcommand.Threads = refl

mapped : {A B C : Type 0} (f : A → B) (g : B → C) (o : Option A) → option_map (λ a. g (f a)) o ≡ option_map g (option_map f o)
mapped f g None = refl
mapped f g (Some a) = refl

-- the subcommand that the matches of one word name
is_entered : (s : Subcommand) (m : ArgMatches) → HasMatchesOf rcuo (word_of s ∷ []) m → subcommand_name_of m ≡ Some (word_of s)
is_entered s m h = mapped _ (λ p. p.0) _ ∙ (ap (option_map (λ p. p.0)) (h simple).1 ∙ entered s)

entered_both : (s : Subcommand) (m : ArgMatches) (a : App) (words : List Text) → a ≡ rcuo → Names words s → HasMatchesOf a words m → subcommand_name_of m ≡ Some (word_of s)
entered_both s m a words app named h = is_entered s m (subst (λ x. HasMatchesOf x (word_of s ∷ []) m) app (subst (λ ws. HasMatchesOf a ws m) named h))

-- one word names one subcommand
threads_alone : (s : Subcommand) → word_of s ≡ codes "threads" → subcommand.Threads ≡ s
threads_alone subcommand.Replay e = absurd (let f : 114 ≡ 116 = ap (λ l. get_or l 0 0) e in let z : ⊥ = omega (arith, f) in z)
threads_alone subcommand.Threads e = refl

replay_else : (s : Subcommand) → word_of s ≢ codes "threads" → subcommand.Replay ≡ s
replay_else subcommand.Replay n = refl
replay_else subcommand.Threads n = absurd (n refl)

pub is_threads : (s : Subcommand) (m : ArgMatches) (a : App) (words : List Text) → a ≡ rcuo → Names words s → HasMatchesOf a words m → subcommand_name_of m ≡ Some (codes "threads") → subcommand.Threads ≡ s
is_threads s m a words app named h is = threads_alone s (ap (λ o. unwrap_or o []) (sym (entered_both s m a words app named h) ∙ is))

pub is_replay : (s : Subcommand) (m : ArgMatches) (a : App) (words : List Text) → a ≡ rcuo → Names words s → HasMatchesOf a words m → subcommand_name_of m ≢ Some (codes "threads") → subcommand.Replay ≡ s
is_replay s m a words app named h not = replay_else s (λ e. not (entered_both s m a words app named h ∙ ap Some e))
