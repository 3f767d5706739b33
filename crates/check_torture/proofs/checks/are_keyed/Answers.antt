use Rattle.std.proofs.Common.{rules}
use Rattle.check_torture.proofs.Keyed.{all_keyed}
use Rattle.check_torture.proofs.checks.are_keyed.Goals as goal

pub returns-then-are_of_records : goal.returns-then-are_of_records
returns-then-are_of_records c is =
    let split = c.split_at.ensures in
    all_keyed c.args.keys.now c.split_at.result.0.now c.split_at.result.1.now c.args.records.now c.args.jobs.now
    split.by_index.0 split.front_len (search rules) (search rules) (search rules)
