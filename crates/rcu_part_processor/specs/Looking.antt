-- What a processor keeps that only looks at the words of others, as it does for a barrier.
use Rattle.std.specs.Prelude.{ℕ}
use Rattle.std.proofs.Common.{◌∙◌, refl}
use Rattle.rcu_board.proofs.Stepping.{same_again, same_part}
use Rattle.rcu_part_processor.specs.Calls.{KeepsAll}
use Rattle.rcu_part_processor.specs.Processors.{IsSound, SameProcessor, board_of}
use Rattle.rcu_part_processor.specs.declared.processor.ProcessorState.{ProcessorState}

-- It is the same processor, has accepted nothing, holds the callbacks and the records that it held, and is as sound as it was.
pub record OnlyLooks {J R : Type 0} (key_of : J → ℕ) (gives : ℕ → R → Type 0) (p q : ProcessorState J R) : Type 0 where
  pub same : SameProcessor p q
  pub keeps : KeepsAll p q
  pub sound : IsSound key_of gives p → IsSound key_of gives q

module _ {J R : Type 0} (key_of : J → ℕ) (gives : ℕ → R → Type 0) where
  pub looks_none : (p : ProcessorState J R) → OnlyLooks key_of gives p p
  looks_none p = record {
    same = record { part = same_part (board_of p) p.seat; lane = refl; cpu = refl; offloadable = refl; limit = refl; blimit = refl; kept = refl };
    keeps = record { count = refl; lists = refl; records = refl };
    sound = λ sound. sound;
  }

  -- over two calls
  pub looks_again : (p q r : ProcessorState J R) → OnlyLooks key_of gives p q → OnlyLooks key_of gives q r → OnlyLooks key_of gives p r
  looks_again p q r a b = record {
    same = record {
      part = same_again _ _ _ _ _ _ a.same.part b.same.part;
      lane = b.same.lane ∙ a.same.lane;
      cpu = b.same.cpu ∙ a.same.cpu;
      offloadable = b.same.offloadable ∙ a.same.offloadable;
      limit = b.same.limit ∙ a.same.limit;
      blimit = b.same.blimit ∙ a.same.blimit;
      kept = b.same.kept ∙ a.same.kept;
    };
    keeps = record { count = b.keeps.count ∙ a.keeps.count; lists = b.keeps.lists ∙ a.keeps.lists; records = b.keeps.records ∙ a.keeps.records };
    sound = λ sound. b.sound (a.sound sound);
  }
