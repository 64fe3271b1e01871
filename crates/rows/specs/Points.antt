-- Settings, points, where a row holds, and what rows force.
use Rattle.std.specs.Prelude.{◌≡◌, ℕ, zero, suc, ◌<◌, Bool, true, false, List, [], ◌∷◌, ℤ, pos, ◌+ℤ◌, ◌-ℤ◌, ◌*ℤ◌, ◌≤ℤ◌, ◌<ℤ◌, All}
use Rattle.rows.specs.declared.row.Row.{Row}

-- a scale of at least 1, which makes one unit of time, and a value for each parameter, counted from 1
pub record Setting : Type 0 where
  pub scale : ℕ
  pub positive : 0 < scale
  pub parameter : ℕ → ℕ

-- a setting with marks: x0 is 0, x1 to x6 are the clocks, x7 is the time waited
pub record Point : Type 0 where
  pub setting : Setting
  pub mark : ℕ → ℕ
  pub origin : mark 0 ≡ 0

-- what coefficient number c multiplies: the scale at 0, then the parameters
abbrev pub weight : Setting → ℕ → ℕ
weight s zero = s.scale
weight s (suc c) = s.parameter (suc c)

-- the coefficients by their weights, summed up from number c on
abbrev pub weighted_sum : (ℕ → ℕ) → ℕ → List ℤ → ℤ
weighted_sum f c [] = pos 0
weighted_sum f c (t ∷ ts) = t *ℤ pos (f c) +ℤ weighted_sum f (suc c) ts

-- t0·k + t1·p1 + … + t6·p6
abbrev pub bound : Setting → Row → ℤ
bound s r = weighted_sum (weight s) 0 r.t

-- xi − xj
abbrev pub difference : Point → Row → ℤ
difference p r = pos (p.mark r.i) -ℤ pos (p.mark r.j)

-- a < b where strict, else a ≤ b
abbrev pub Ordered : Bool → ℤ → ℤ → Type 0
Ordered true a b = a <ℤ b
Ordered false a b = a ≤ℤ b

-- the row holds at the point
abbrev pub Holds : Point → Row → Type 0
Holds p r = Ordered r.strict (difference p r) (bound p.setting r)

-- every one of the rows holds at the point
abbrev pub Meets : Point → List Row → Type 0
Meets p rs = All (Holds p) rs

-- wherever all the rows hold, the goal holds
abbrev pub Forces : List Row → Row → Type 0
Forces rs goal = (p : Point) → Meets p rs → Holds p goal
