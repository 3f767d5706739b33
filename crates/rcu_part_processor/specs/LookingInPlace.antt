-- What a processor in place keeps that only looks at the words of others, as it does for a barrier.
use Rattle.std.specs.Prelude.{ℕ}
use Rattle.std.proofs.Common.{◌∙◌, refl}
use Rattle.rcu_board.proofs.Stepping.{same_again, same_part}
use Rattle.rcu_part_processor.specs.InPlace.{IsSoundInPlace, KeepsAll, SameInPlace, board_in}
use Rattle.rcu_part_processor.specs.declared.in_place.ProcessorInPlaceState.{ProcessorInPlaceState}

-- It is the same processor, with the same claim if one runs, has accepted nothing, holds the callbacks and the records that it
-- held, and is as sound as it was.
pub record OnlyLooksInPlace {J R : Type 0} (key_of : J → ℕ) (gives : ℕ → R → Type 0) (p q : ProcessorInPlaceState J R) : Type 0 where
  pub same : SameInPlace p q
  pub keeps : KeepsAll p q
  pub sound : IsSoundInPlace key_of gives p → IsSoundInPlace key_of gives q

module _ {J R : Type 0} (key_of : J → ℕ) (gives : ℕ → R → Type 0) where
  pub looks_none_in_place : (p : ProcessorInPlaceState J R) → OnlyLooksInPlace key_of gives p p
  looks_none_in_place p = record {
    same = record { part = record { part = same_part (board_in p) p.seat; lane = refl; cpu = refl; offloadable = refl; limit = refl; blimit = refl; kept = refl }; claimed = refl };
    keeps = record { count = refl; lists = refl; records = refl };
    sound = λ sound. sound;
  }

  -- over two calls
  pub looks_again_in_place : (p q r : ProcessorInPlaceState J R) → OnlyLooksInPlace key_of gives p q → OnlyLooksInPlace key_of gives q r → OnlyLooksInPlace key_of gives p r
  looks_again_in_place p q r a b = record {
    same = record {
      part = record {
        part = same_again _ _ _ _ _ _ a.same.part.part b.same.part.part;
        lane = b.same.part.lane ∙ a.same.part.lane;
        cpu = b.same.part.cpu ∙ a.same.part.cpu;
        offloadable = b.same.part.offloadable ∙ a.same.part.offloadable;
        limit = b.same.part.limit ∙ a.same.part.limit;
        blimit = b.same.part.blimit ∙ a.same.part.blimit;
        kept = b.same.part.kept ∙ a.same.part.kept;
      };
      claimed = b.same.claimed ∙ a.same.claimed;
    };
    keeps = record { count = b.keeps.count ∙ a.keeps.count; lists = b.keeps.lists ∙ a.keeps.lists; records = b.keeps.records ∙ a.keeps.records };
    sound = λ sound. b.sound (a.sound sound);
  }
