-- Laws of forcing.
use Rattle.std.specs.Prelude.{List, All, Contains}
use Rattle.rows.specs.declared.row.Row.{Row}
use Rattle.rows.specs.Points.{Forces}

pub record ForcingLaws : Type 0 where
  -- rows force each of themselves
  pub itself : (rs : List Row) → All (Forces rs) rs
  -- what some rows force, rows with all of these among them force
  pub monotone : (rs more : List Row) (goal : Row) → All (Contains more) rs → Forces rs goal → Forces more goal
  -- what is forced by forced rows is forced
  pub transitive : (rs between : List Row) (goal : Row) → All (Forces rs) between → Forces between goal → Forces rs goal
