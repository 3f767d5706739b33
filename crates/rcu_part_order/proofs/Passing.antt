-- How the places of a group's part change
use Rattle.std.proofs.Common.{List, [], ◌++◌, sym, ap, ◌∙◌, append_assoc, append-nil}
use Rattle.rcu_part_order.specs.Places.{Numbered}
use Rattle.rcu_part_order.specs.Passing.{Passed}

pub passed_draws : (drawn put out list batch : List Numbered) → Passed drawn put out list [] → Passed (drawn ++ batch) put out list batch
passed_draws drawn put out list batch h =
    ap (λ l. l ++ batch) (h ∙ ap (λ l. put ++ (out ++ l)) (append-nil list))
    ∙ append_assoc put (out ++ list) batch ∙ ap (λ l. put ++ l) (append_assoc out list batch)

pub passed_joins : (drawn put out list waiting : List Numbered) → Passed drawn put out list waiting → Passed drawn put out (list ++ waiting) []
passed_joins drawn put out list waiting h = h ∙ ap (λ l. put ++ (out ++ l)) (sym (append-nil (list ++ waiting)))

pub passed_takes : (drawn put batch list waiting : List Numbered) → Passed drawn put [] (batch ++ list) waiting → Passed drawn put batch list waiting
passed_takes drawn put batch list waiting h = h ∙ ap (λ l. put ++ l) (append_assoc batch list waiting)

pub passed_puts : (drawn put out list waiting : List Numbered) → Passed drawn put out list waiting → Passed drawn (put ++ out) [] list waiting
passed_puts drawn put out list waiting h = h ∙ sym (append_assoc put out (list ++ waiting))
