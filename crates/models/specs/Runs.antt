-- The finite runs of a table at a setting.
use Rattle.std.specs.Prelude.{◌≡◌, ℕ, true, Some, ◌≢◌}
use Rattle.rows.specs.Points.{Setting, Meets}
use Rattle.rows.specs.Moves.{Clocks, at, at_zero, later, after_reset}
use Rattle.models.specs.declared.edge.Edge.{Edge}
use Rattle.models.specs.Tables.{Table}

-- a location, and a value for each clock
pub record State : Type 0 where
  pub location : ℕ
  pub clocks : Clocks

-- the states that the runs of M reach at the setting s
pub data Run (M : Table) (s : Setting) : State → Type 0 where
  -- in the first location, with all clocks 0, if the invariant holds
  begins : Meets (at_zero s) (M.invariant M.shape.first) → Run M s (record { location = M.shape.first; clocks = λ _. 0 })
  -- all clocks later by d, if the invariant holds then
  waits : {q : ℕ} {w : Clocks} → Run M s (record { location = q; clocks = w }) → (d : ℕ) → Meets (at s (later w d)) (M.invariant q)
      → Run M s (record { location = q; clocks = later w d })
  -- along the edge in slot k, if its guard holds, and after its resets the invariant of the target
  steps : {w : Clocks} {e : Edge} → Run M s (record { location = e.source; clocks = w }) → (k : ℕ) → M.edge k ≡ Some e → Meets (at s w) (M.guard k)
      → Meets (at s (after_reset e.resets w)) (M.invariant e.target)
      → Run M s (record { location = e.target; clocks = after_reset e.resets w })

-- no finite run of M reaches a bad location at the setting s
abbrev pub AvoidsBad : Table → Setting → Type 0
AvoidsBad M s = (x : State) → Run M s x → M.bad x.location ≢ true

-- some location is bad
abbrev pub HasBad : Table → Type 0
HasBad M = (q : ℕ) × (M.bad q ≡ true)
