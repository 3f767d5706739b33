-- The lines of `show`: docs/specification/tables.md, "Lines of `show`". All numbers are decimal, with no leading zeros.
use Rattle.std.specs.Prelude.{ℕ, List, ◌++◌, slice_index, codes}
use Rattle.std.specs.Fmt.{decimal}
use Rattle.rcu_jobs.specs.declared.modes.Mode.{Mode}
use Rattle.rcu_jobs.specs.declared.modes.Mode.TheVariants as mode
use Rattle.rcu_jobs.specs.declared.turns.Lists.{Lists}
use Rattle.rcu_jobs.specs.declared.turns.Lists.TheVariants as lists

-- MODE
abbrev pub mode_name : Mode → List ℕ
mode_name mode.Local = codes "Local"
mode_name mode.Offloading = codes "Offloading"
mode_name mode.Offloaded = codes "Offloaded"
mode_name mode.Deoffloading = codes "Deoffloading"

-- W@X
abbrev pub wait_text : ℕ → ℕ → List ℕ
wait_text length number = decimal length ++ (codes "@" ++ decimal number)

-- done D wait W@X ready R@Y next N
abbrev pub segments_text : List ℕ → List ℕ → List ℕ
segments_text lengths numbers =
    codes "done " ++ (decimal (slice_index lengths 0)
    ++ (codes " wait " ++ (wait_text (slice_index lengths 1) (slice_index numbers 0)
    ++ (codes " ready " ++ (wait_text (slice_index lengths 2) (slice_index numbers 1)
    ++ (codes " next " ++ decimal (slice_index lengths 3)))))))

-- cpu P MODE accepted A bypass B SEGMENTS, or group of P SEGMENTS
abbrev pub line_text : ℕ → Lists → List ℕ
line_text p (lists.Cpu m accepted bypass lengths numbers) =
    codes "cpu " ++ (decimal p ++ (codes " " ++ (mode_name m ++ (codes " accepted " ++ (decimal accepted
    ++ (codes " bypass " ++ (decimal bypass ++ (codes " " ++ (segments_text lengths numbers ++ codes "\n")))))))))
line_text p (lists.Folk lengths numbers) = codes "group of " ++ (decimal p ++ (codes " " ++ (segments_text lengths numbers ++ codes "\n")))
