-- The line of counters.
use Rattle.std.specs.Prelude.{ℕ, ◌+◌, List, ◌++◌, codes}
use Rattle.std.specs.Fmt.{decimal}
use Rattle.check_torture.specs.declared.counters.Counters.{Counters}

-- callbacks C lazy L ran R back B refused F
abbrev pub calls_text : Counters → List ℕ
calls_text c =
    codes "callbacks " ++ (decimal c.callbacks ++ (codes " lazy " ++ (decimal c.lazy ++ (codes " ran " ++ (decimal c.ran
    ++ (codes " back " ++ (decimal c.back ++ (codes " refused " ++ decimal c.refused))))))))

-- sections S current C removed R freed F
abbrev pub sections_text : Counters → List ℕ
sections_text c =
    codes "sections " ++ (decimal (c.current + c.removed + c.freed) ++ (codes " current " ++ (decimal c.current
    ++ (codes " removed " ++ (decimal c.removed ++ (codes " freed " ++ decimal c.freed))))))

-- barriers B tickets T passed P drained D
abbrev pub barriers_text : Counters → List ℕ
barriers_text c =
    codes "barriers " ++ (decimal c.barriers ++ (codes " tickets " ++ (decimal c.tickets ++ (codes " passed " ++ (decimal c.passed
    ++ (codes " drained " ++ decimal c.drained))))))

-- BARRIERS switches S reports R leaves L histories H
abbrev pub others_text : Counters → List ℕ
others_text c = barriers_text c ++ (codes " switches " ++ (decimal c.switches ++ (codes " reports " ++ (decimal c.reports ++ (codes " leaves " ++ (decimal c.leaves
    ++ (codes " histories " ++ decimal c.histories)))))))

-- runs R CALLS SECTIONS OTHERS errors E
abbrev pub line_text : ℕ → Counters → ℕ → List ℕ
line_text runs c errors =
    codes "runs " ++ (decimal runs ++ (codes " " ++ (calls_text c ++ (codes " " ++ (sections_text c ++ (codes " " ++ (others_text c
    ++ (codes " errors " ++ (decimal errors ++ codes "\n")))))))))
