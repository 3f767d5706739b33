-- The keys that make the shape: docs/specification/tables.md, "Order of tests", and docs/specification/rules.md, "Limits".
use Rattle.std.specs.Prelude.{ℕ, ◌+◌, ◌*◌, ◌/◌, ◌&&◌, nat_le, List, Option, Some, None, Result, Ok, Err, if◌then◌else◌, codes, pos, negsuc, ℤ, zero, suc}
use Rattle.rcu_numbers.specs.declared.shape.TheConstants.{DEFAULT_BLIMIT, DEFAULT_LIMIT, DEFAULT_QHIMARK, MOST_CALLBACKS, MOST_PROCESSORS}
use Rattle.toml.specs.Data.{Data, string, integer, Members, get_member}
use Rattle.rcu_numbers.specs.declared.shape.Shape.{Shape}
use Rattle.rcu_setup.specs.Faults.{Fault, missing_processors, wrong_kind, out_of_range, ◌>>◌}
use Rattle.rcu_setup.specs.List.{cpu_list_of}
use Rattle.rcu_setup.specs.declared.fault.Key.{Key}
use Rattle.rcu_setup.specs.declared.fault.Key.TheVariants as key

-- ---- one key

abbrev pub whole : Key → ℕ → ℕ → ℤ → Result ℕ Fault
whole k least most (pos n) = if nat_le least n && nat_le n most then Ok n else Err (out_of_range k)
whole k least most (negsuc n) = Err (out_of_range k)

-- an integer from least to most: its kind, then its range
abbrev pub whole_in : Key → ℕ → ℕ → Data → Result ℕ Fault
whole_in k least most (integer z) = whole k least most z
whole_in k least most _ = Err (wrong_kind k)

-- the same, or another answer where the key is absent
unfoldable pub whole_or : Key → ℕ → ℕ → Result ℕ Fault → Option Data → Result ℕ Fault
whole_or k least most other None = other
whole_or k least most other (Some d) = whole_in k least most d

abbrev pub text_in : Key → Data → Result (List ℕ) Fault
text_in k (string s) = Ok s
text_in k _ = Err (wrong_kind k)

-- the mask of a CPU list, among n processors
unfoldable pub nocbs_of : ℕ → Option Data → Result ℕ Fault
nocbs_of n None = Ok 0
nocbs_of n (Some d) = text_in key.Nocbs d >> cpu_list_of n

-- ---- the default stride

-- the greatest number whose square is at most n
abbrev pub whole_root : ℕ → ℕ
whole_root zero = zero
whole_root (suc n) = if nat_le ((whole_root n + 1) * (whole_root n + 1)) (suc n) then whole_root n + 1 else whole_root n

unfoldable pub default_stride_of : ℕ → ℕ
default_stride_of n = n / whole_root n

-- ---- the shape

pub record Numbers : Type 0 where
  pub processors : ℕ
  pub offloadable : ℕ
  pub stride : ℕ
  pub blimit : ℕ
  pub qhimark : ℕ
  pub limit : ℕ

-- the numbers that a shape has
abbrev pub shape_view : Shape → Numbers
shape_view s = record { processors = s.processors; offloadable = s.offloadable; stride = s.stride; blimit = s.blimit; qhimark = s.qhimark; limit = s.limit }

-- the keys in their order, from `processors` to `limit`
unfoldable pub shape_of : Members → Result Numbers Fault
shape_of table =
    whole_or key.Processors 1 MOST_PROCESSORS (Err missing_processors) (get_member (codes "processors") table) >> (λ n.
    nocbs_of n (get_member (codes "nocbs") table) >> (λ offloadable.
    whole_or key.Stride 1 MOST_PROCESSORS (Ok (default_stride_of n)) (get_member (codes "stride") table) >> (λ stride.
    whole_or key.Blimit 1 MOST_CALLBACKS (Ok DEFAULT_BLIMIT) (get_member (codes "blimit") table) >> (λ blimit.
    whole_or key.Qhimark 1 MOST_CALLBACKS (Ok DEFAULT_QHIMARK) (get_member (codes "qhimark") table) >> (λ qhimark.
    whole_or key.Limit 1 MOST_CALLBACKS (Ok DEFAULT_LIMIT) (get_member (codes "limit") table) >> (λ limit.
    Ok (record { processors = n; offloadable = offloadable; stride = stride; blimit = blimit; qhimark = qhimark; limit = limit })))))))
