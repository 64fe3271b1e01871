-- The meaning of a model: a finite table, and the limits that it keeps.
use Rattle.std.specs.Prelude.{◌≡◌, ℕ, ◌<◌, ◌≤◌, Bool, false, ◌&&◌, List, [], length, Some, None, Option, All, nat_le, nat_lt}
use Rattle.rows.specs.declared.row.Row.{Row}
use Rattle.rows.specs.Lawful.{Lawful}
use Rattle.rows.specs.Moves.{WithinClocks, is_within_clocks}
use Rattle.models.specs.declared.shape.Shape.{Shape}
use Rattle.models.specs.declared.edge.Edge.{Edge}

-- locations, slots and actions are numbers
pub record Table : Type 0 where
  -- how many clocks, parameters, locations and slots there are, the first location, and the two row figures
  pub shape : Shape
  -- the actions that it uses
  pub uses : ℕ → Bool
  -- the locations that are not to be reached
  pub bad : ℕ → Bool
  -- the rows that must hold while a location is occupied
  pub invariant : ℕ → List Row
  -- the edge in a slot, if the slot is filled
  pub edge : ℕ → Option Edge
  -- the rows that must hold when the edge in a slot is taken
  pub guard : ℕ → List Row

pub record ShapeLimits (h : Shape) : Type 0 where
  pub clocks : h.clocks ≤ 6
  pub parameters : h.parameters ≤ 6
  pub some_location : 1 ≤ h.locations
  pub locations : h.locations ≤ 64
  pub first : h.first < h.locations
  pub slots : h.slots ≤ 512
  pub invariants : h.invariants ≤ 8
  pub guards : h.guards ≤ 8

-- the edge joins two locations, its action is within the limit, and it resets none but clocks that there are
pub record EdgeLimits (h : Shape) (e : Edge) : Type 0 where
  pub source : e.source < h.locations
  pub target : e.target < h.locations
  pub action : e.action ≤ 15
  pub resets : WithinClocks h.clocks e.resets

-- at most so many rows, all lawful
pub record RowsLimits (h : Shape) (most : ℕ) (rs : List Row) : Type 0 where
  pub count : length rs ≤ most
  pub lawful : All (Lawful h.clocks h.parameters) rs

pub record Limits (M : Table) : Type 0 where
  pub numbers : ShapeLimits M.shape
  pub invariants : (q : ℕ) → RowsLimits M.shape M.shape.invariants (M.invariant q)
  pub edges : (k : ℕ) (e : Edge) → M.edge k ≡ Some e → EdgeLimits M.shape e
  pub guards : (k : ℕ) → RowsLimits M.shape M.shape.guards (M.guard k)
  -- outside the table there is nothing
  pub no_use : (x : ℕ) → 15 < x → M.uses x ≡ false
  pub no_bad : (q : ℕ) → M.shape.locations ≤ q → M.bad q ≡ false
  pub no_invariant : (q : ℕ) → M.shape.locations ≤ q → M.invariant q ≡ []
  pub no_edge : (k : ℕ) → M.shape.slots ≤ k → M.edge k ≡ None
  pub no_guard : (k : ℕ) → M.edge k ≡ None → M.guard k ≡ []

-- the same as tests, for definitions that have to decide

abbrev pub is_within_limits : Shape → Bool
is_within_limits h =
    nat_le h.clocks 6 && (nat_le h.parameters 6
    && (nat_le 1 h.locations && (nat_le h.locations 64 && (nat_lt h.first h.locations
    && (nat_le h.slots 512 && (nat_le h.invariants 8 && nat_le h.guards 8))))))

abbrev pub is_admitted : Shape → Edge → Bool
is_admitted h e =
    nat_lt e.source h.locations && (nat_lt e.target h.locations
    && (nat_le e.action 15 && is_within_clocks h.clocks e.resets))
