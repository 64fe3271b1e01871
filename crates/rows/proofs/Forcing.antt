-- Forcing is monotone in the rows and transitive.
use Rattle.std.proofs.Common.{List}
use Rattle.std.specs.Prelude.{All, Contains}
use Rattle.std.proofs.lemmas.List.Elements.{All-contains, All-contains_itself, All-weaker}
use Rattle.rows.specs.declared.row.Row.{Row}
use Rattle.rows.specs.Points.{Holds, Forces}
use Rattle.rows.specs.Forcing.{ForcingLaws}

pub forces_row : (rs : List Row) (goal : Row) → Contains rs goal → Forces rs goal
forces_row rs goal h p m = All-contains (Holds p) rs goal m h

pub forces_through : (rs between : List Row) (goal : Row) → All (Forces rs) between → Forces between goal → Forces rs goal
forces_through rs between goal h f p m = f p (All-weaker (Forces rs) (Holds p) (λ r k. k p m) between h)

pub forces_more : (rs more : List Row) (goal : Row) → All (Contains more) rs → Forces rs goal → Forces more goal
forces_more rs more goal h = forces_through more rs goal (All-weaker (Contains more) (Forces more) (forces_row more) rs h)

pub forcing_laws : ForcingLaws
forcing_laws = record {
  itself = λ rs. All-weaker (Contains rs) (Forces rs) (forces_row rs) rs (All-contains_itself rs);
  monotone = forces_more;
  transitive = forces_through;
}
