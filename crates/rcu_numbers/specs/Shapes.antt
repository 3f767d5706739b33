-- What a shape of the running parts says.
use Rattle.std.specs.Prelude.{◌≡◌}
use Rattle.rcu_numbers.specs.declared.shape.Shape.{Shape}
use Rattle.rcu_numbers.specs.declared.parts_shape.PartsShape.{PartsShape}

-- the same shape, for the running parts
pub record IsShapeOf (s : Shape) (p : PartsShape) : Type 0 where
  pub processors : p.processors ≡ s.processors
  pub offloadable : p.offloadable ≡ s.offloadable
  pub stride : p.stride ≡ s.stride
  pub blimit : p.blimit ≡ s.blimit
  pub qhimark : p.qhimark ≡ s.qhimark
  pub limit : p.limit ≡ s.limit
