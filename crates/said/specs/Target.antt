-- What a walk answers, and where a part of a buffer lies (crates/wgsl, specs/Path).
-- Definitions only. Assumes nothing.
use Rattle.std.specs.Prelude.{ℕ, ◌+◌}
use Rattle.wgsl.specs.Types.{scalar_kind}
use Rattle.wgsl.specs.Said.{Said, good, refused}
use Rattle.wgsl.specs.Place.{Shape, one, parts, field, whole, span_of}
use Rattle.wgsl.specs.Path as path
use Rattle.said.specs.declared.target.Target.{Target}

-- what stands for a kind where there is no scalar
abbrev pub no_scalar : ℕ
no_scalar = 7

-- the kind of the one scalar that a shape is
unfoldable pub kind_in : Shape → ℕ
kind_in (one s) = scalar_kind s
kind_in (parts n stride x) = no_scalar
kind_in (field offset x rest) = no_scalar
kind_in (whole z) = no_scalar

-- the offset of a target, its bytes, and the kind of the one scalar that it is
abbrev pub target_is : path.Target → Target
target_is t = record { offset = t.offset; size = span_of t.shape; scalar = kind_in t.shape }

abbrev pub reached : Said path.Target → Said Target
reached (good t) = good (target_is t)
reached (refused number place) = refused number place

-- so many bytes after a place in memory, which is a block and an offset in it
abbrev pub after : ℕ × ℕ → ℕ → ℕ × ℕ
after p n = (p.0, n + p.1)
