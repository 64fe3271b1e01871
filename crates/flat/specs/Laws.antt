-- What the definitions of the lists' table say, in other words.
use Rattle.std.specs.Prelude.{◌≡◌, ℕ, ◌<◌, ◌≤◌, ◌⊎◌, List, length, Any, Decides}
use Rattle.models.specs.declared.edge.Edge.{Edge}
use Rattle.flat.specs.declared.description.AttachedRow.{AttachedRow}
use Rattle.flat.specs.Lists.{rows_of, most_rows, uses_action}

pub record ListLaws : Type 0 where
  -- an action is used exactly where it is from 1 to 15 and stands on some edge
  pub used : (es : List Edge) (x : ℕ) → Decides (uses_action es x) ((1 ≤ x) × (x ≤ 15) × Any (λ e. e.action ≡ x) es)
  -- no owner has more rows than the figure says
  pub bound : (n : ℕ) (es : List AttachedRow) (q : ℕ) → q < n → length (rows_of q es) ≤ most_rows n es
  -- and some owner has as many, unless the figure is 0
  pub attained : (n : ℕ) (es : List AttachedRow) → (most_rows n es ≡ 0) ⊎ ((q : ℕ) × (q < n) × (length (rows_of q es) ≡ most_rows n es))
