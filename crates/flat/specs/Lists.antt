-- The table that the four lists of a flat model describe.
use Rattle.std.specs.Prelude.{ℕ, zero, suc, max, Bool, false, ◌&&◌, List, map, length, Some, None, vec_items, filter, Option, ◌==◌, nat_eq, nat_le}
use Rattle.std.specs.List.{slice_get, list_any}
use Rattle.rows.specs.declared.row.Row.{Row}
use Rattle.models.specs.declared.shape.Shape.{Shape}
use Rattle.models.specs.declared.edge.Edge.{Edge}
use Rattle.models.specs.Tables.{Table}
use Rattle.flat.specs.declared.description.Location.{Location}
use Rattle.flat.specs.declared.description.AttachedRow.{AttachedRow}
use Rattle.flat.specs.declared.description.Description.{Description}

-- the rows that name this owner, in list order
abbrev pub rows_of : ℕ → List AttachedRow → List Row
rows_of q es = map (λ e. e.row) (filter (λ e. nat_eq e.owner q) es)

-- the largest of f 0 to f (n − 1), and 0 where there is none
abbrev pub largest : (ℕ → ℕ) → ℕ → ℕ
largest f zero = 0
largest f (suc n) = max (f n) (largest f n)

-- the largest number of rows that one of n owners has
abbrev pub most_rows : ℕ → List AttachedRow → ℕ
most_rows n es = largest (λ q. length (rows_of q es)) n

-- an action from 1 to 15 that some edge has
abbrev pub uses_action : List Edge → ℕ → Bool
uses_action es x = (nat_le 1 x && nat_le x 15) && list_any (λ e. e.action == x) es

-- a location that is there and is marked bad
abbrev pub is_bad : Option Location → Bool
is_bad None = false
is_bad (Some l) = l.bad

-- the numbers of that table
abbrev pub shape_of : Description → Shape
shape_of d = record {
  clocks = d.clocks;
  parameters = d.parameters;
  locations = length (vec_items d.locations);
  first = d.first;
  slots = length (vec_items d.edges);
  invariants = most_rows (length (vec_items d.locations)) (vec_items d.invariants);
  guards = most_rows (length (vec_items d.edges)) (vec_items d.guards);
}

-- the table that the lists describe
abbrev pub table_of : Description → Table
table_of d = record {
  shape = shape_of d;
  uses = uses_action (vec_items d.edges);
  bad = λ q. is_bad (slice_get (vec_items d.locations) q);
  invariant = λ q. rows_of q (vec_items d.invariants);
  edge = slice_get (vec_items d.edges);
  guard = λ k. rows_of k (vec_items d.guards);
}
