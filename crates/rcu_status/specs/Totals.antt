-- The totals at the end of a run: docs/specification/tables.md, "Totals".
use Rattle.std.specs.Prelude.{ℕ, ◌+◌, Bool, List, [], ◌∷◌, ◌++◌, length, codes, sum_by, Vec, if◌then◌else◌}
use Rattle.std.specs.Fmt.{decimal}
use Rattle.std.specs.declared.alloc.Global.{Global}
use Rattle.rcu_jobs.specs.declared.callback.Record.{Record}
use Rattle.rcu_status.specs.Commas.{with_commas}

-- the receipts of the records, added up
abbrev pub receipts_of : List (Record ℕ) → ℕ
receipts_of = sum_by (λ r. r.receipt)

-- cpu P ran R back B routes X
abbrev pub total_text : ℕ → ℕ → ℕ → ℕ → List ℕ
total_text p ran back routes =
    codes "cpu " ++ (decimal p ++ (codes " ran " ++ (decimal ran ++ (codes " back " ++ (decimal back ++ (codes " routes " ++ (decimal routes ++ codes "\n")))))))

-- a line for each processor from p on, of the records of what ran and of the jobs that were handed back
abbrev pub totals_text : {J : Type 0} → ℕ → List (Vec (Record ℕ) Global) → List (Vec J Global) → List ℕ
totals_text p [] backs = []
totals_text p (ran ∷ rans) [] = []
totals_text p (ran ∷ rans) (back ∷ backs) = total_text p (length ran.items) (length back.items) (receipts_of ran.items) ++ totals_text (p + 1) rans backs

-- reports R0,R1,.. where it is asked for
abbrev pub reports_text : Bool → List ℕ → List ℕ
reports_text wanted reports = if wanted then codes "reports " ++ (with_commas reports ++ codes "\n") else []
