-- Lines of values.
use Rattle.std.specs.Prelude.{◌≡◌, ◌<◌, All, List, map, ℤ, unsigned_abs}
use Rattle.std.specs.List.{join_with_byte}
use Rattle.std.specs.Fmt.{signed_decimal}
use Rattle.lines.specs.Texts.{Line}

-- at most seven digits
abbrev pub Short : ℤ → Type 0
Short z = unsigned_abs z < 10000000

-- the line of these numbers: each in decimal, with no zero in front, a minus in front of a negative one, and a comma, byte 44,
-- between
abbrev pub value_line : List ℤ → Line
value_line vs = join_with_byte 44 (map signed_decimal vs)

-- the line is that of these numbers, each of at most seven digits
pub record Valued (l : Line) (vs : List ℤ) : Type 0 where
  pub is : l ≡ value_line vs
  pub short : All Short vs
