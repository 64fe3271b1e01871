-- A setting given in numbers, the limits of these, and where it meets a row.
use Rattle.std.specs.Prelude.{◌≡◌, ℕ, zero, suc, ◌<◌, ◌≤◌, Bool, true, false, ◌&&◌, List, length, ℤ, pos, Decides, All, ◌==◌, int_le, int_lt, nat_le, slice_index}
use Rattle.std.specs.List.{list_all}
use Rattle.rows.specs.declared.row.Row.{Row}
use Rattle.rows.specs.Points.{Setting, weighted_sum, Holds}
use Rattle.rows.specs.Moves.{Clocks, at, at_zero}

-- no value is above its limit
abbrev pub ValuesWithinLimit : List ℕ → Type 0
ValuesWithinLimit values = All (λ v. v ≤ 1000000000) values

-- n values, and the limits of the scale and of each value
pub record InRange (n scale : ℕ) (values : List ℕ) : Type 0 where
  pub count : length values ≡ n
  pub scale_low : 1 ≤ scale
  pub scale_high : scale ≤ 1000000
  pub within : ValuesWithinLimit values

-- parameter number c, counted from 1; one without a value is 0
abbrev pub value_of : List ℕ → ℕ → ℕ
value_of values zero = 0
value_of values (suc c) = slice_index values c

-- the setting of these numbers
abbrev pub setting_of : (scale : ℕ) → 0 < scale → List ℕ → Setting
setting_of scale positive values = record { scale = scale; positive = positive; parameter = value_of values }

-- b tells whether the row holds at that setting: with all clocks 0, and if its marks are equal, with any clocks
pub record Tells (scale : ℕ) (values : List ℕ) (r : Row) (b : Bool) : Type 0 where
  pub at_start : (h : 0 < scale) → Decides b (Holds (at_zero (setting_of scale h values)) r)
  pub everywhere : (h : 0 < scale) → r.i ≡ r.j → (w : Clocks) → Decides b (Holds (at (setting_of scale h values) w) r)

-- the same as tests, for definitions that have to decide

abbrev pub are_within_limit : List ℕ → Bool
are_within_limit values = list_all (λ v. nat_le v 1000000000) values

abbrev pub is_in_range : ℕ → ℕ → List ℕ → Bool
is_in_range n scale values = length values == n && (nat_le 1 scale && (nat_le scale 1000000 && are_within_limit values))

-- what coefficient number c multiplies
abbrev pub weight_of : ℕ → List ℕ → ℕ → ℕ
weight_of scale values zero = scale
weight_of scale values (suc c) = value_of values (suc c)

abbrev pub is_ordered : Bool → ℤ → ℤ → Bool
is_ordered true a b = int_lt a b
is_ordered false a b = int_le a b

-- 0 ≤ t0·k + t1·p1 + … + t6·p6, or < when strict
abbrev pub is_met : ℕ → List ℕ → Row → Bool
is_met scale values r = is_ordered r.strict (pos 0) (weighted_sum (weight_of scale values) 0 r.t)
