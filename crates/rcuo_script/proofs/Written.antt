-- What writers add.
use Rattle.std.proofs.Common.{ℕ, List, ◌++◌, [], Option, Some, None, append_assoc, append-nil, ap, ◌∙◌, sym}
use Rattle.std.specs.Io.KnownBytes.{Appends}

pub Appends-append : (a b c : Option (List ℕ)) (xs ys : List ℕ) → Appends a b xs → Appends b c ys → Appends a c (xs ++ ys)
Appends-append None b c xs ys h k = tt
Appends-append (Some us) None c xs ys h k = absurd h
Appends-append (Some us) (Some bs) None xs ys h k = absurd k
Appends-append (Some us) (Some bs) (Some cs) xs ys h k = k ∙ ap (λ l. l ++ ys) h ∙ append_assoc us xs ys

pub Appends-none : (a : Option (List ℕ)) → Appends a a []
Appends-none None = tt
Appends-none (Some us) = sym (append-nil us)
