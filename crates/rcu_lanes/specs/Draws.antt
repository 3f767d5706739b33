-- What clauses say of the answer to a draw.
use Rattle.rcu_lanes.specs.declared.ends.Draw.{Draw}
use Rattle.rcu_lanes.specs.declared.ends.Draw.TheVariants.{Got, Empty, Again}

module _ {T : Type 0} where
  -- a fact of the item that was drawn, or one where none was
  abbrev pub MatchDraw : Draw T → (T → Type 0) → Type 0 → Type 0
  MatchDraw (Got item) got none = got item
  MatchDraw Empty got none = none
  MatchDraw Again got none = none

  -- a fact of the item that was drawn
  abbrev pub IfGot : Draw T → (T → Type 0) → Type 0
  IfGot (Got item) got = got item
  IfGot Empty got = Unit {0}
  IfGot Again got = Unit {0}
