-- The rows that groups list, and how a list is sorted into groups: the inside of a flat model.
use Rattle.std.specs.Prelude.{◌≡◌, ℕ, ◌<◌, ◌≤◌, Bool, cond, ◌&&◌, List, [], ◌∷◌, ◌++◌, map, length, MatchOption, All, vec_items, vec_len, Option, ◌==◌, slice_index_or}
use Rattle.rows.specs.declared.row.Row.{Row}
use Rattle.flat.specs.declared.description.AttachedRow.{AttachedRow}
use Rattle.flat.specs.declared.description.Description.{Description}
use Rattle.flat.specs.declared.groups.Groups.{Groups}
use Rattle.flat.specs.declared.groups.Owners.{Owners}
use Rattle.flat.specs.Lists.{rows_of, most_rows}
use Rattle.flat.specs.WellFormed.{Attached}

-- the rows of each group
abbrev pub listed : Groups → List (List Row)
listed gs = map (λ g. g.items) (vec_items gs.each)

-- the rows of the group of that number; of no group there are none
abbrev pub group_at : Groups → ℕ → List Row
group_at gs q = (slice_index_or (vec_items gs.each) q (record { items = [] })).items

-- hs is gs with one row more for the owner if r, else as gs
pub record Adds (r : Bool) (owner : ℕ) (row : Row) (gs hs : Groups) : Type 0 where
  pub count : vec_len hs.each ≡ vec_len gs.each
  pub each : (q : ℕ) → group_at hs q ≡ cond (r && owner == q) (group_at gs q ++ row ∷ []) (group_at gs q)

-- a group for each owner, and no rows
pub record Blank (owners : ℕ) (gs : Groups) : Type 0 where
  pub wide : owners ≤ vec_len gs.each
  pub each : (q : ℕ) → length (group_at gs q) ≡ 0

-- group q has the rows of owner q
pub record Grouped (owners : ℕ) (es : List AttachedRow) (gs : Groups) : Type 0 where
  pub wide : owners ≤ vec_len gs.each
  pub each : (q : ℕ) → group_at gs q ≡ rows_of q es

-- so many owners, of rows with the clocks and parameters of the lists
abbrev pub owners_in : Description → ℕ → Owners
owners_in d n = record { count = n; clocks = d.clocks; parameters = d.parameters }

-- a lawful row of one of the owners
abbrev pub IsOwned : Owners → AttachedRow → Type 0
IsOwned o e = Attached o.count o.clocks o.parameters e

-- there is a group for the owner, with fewer than 8 rows
abbrev pub HasRoom : Groups → ℕ → Type 0
HasRoom gs owner = (owner < vec_len gs.each) × (length (group_at gs owner) < 8)

-- each row of the list has an owner and is lawful, and no owner has more than 8
pub record CanGroup (o : Owners) (es : List AttachedRow) : Type 0 where
  pub owned : All (IsOwned o) es
  pub few : most_rows o.count es ≤ 8

-- the groups of the list, where it can be grouped
abbrev pub Sorts : Owners → List AttachedRow → Option Groups → Type 0
Sorts o es r = MatchOption r (CanGroup o es → ⊥) (λ gs. CanGroup o es × Grouped o.count es gs)
