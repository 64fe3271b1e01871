-- Which content a model text may have: the form of model texts.
use Rattle.std.specs.Prelude.{◌≡◌, ℕ, ◌≤◌, All, AllPairs, List, length}
use Rattle.models.specs.declared.shape.Shape.{Shape}
use Rattle.models.specs.declared.edge.Edge.{Edge}
use Rattle.models.specs.Tables.{ShapeLimits, EdgeLimits}
use Rattle.flat.specs.declared.description.AttachedRow.{AttachedRow}
use Rattle.flat.specs.Lists.{rows_of}
use Rattle.flat.specs.WellFormed.{Attached}
use Rattle.form.specs.declared.progress.Heading.{Heading}
use Rattle.form.specs.Content.{Content, text_of}

-- the heading's numbers, of a model that has no edges and no rows yet
abbrev pub shape_of : Heading → Shape
shape_of h = record { clocks = h.clocks; parameters = h.parameters; locations = h.locations; first = h.first; slots = 0; invariants = 0; guards = 0 }

-- no row has a smaller owner than a row before it
abbrev pub Rising : List AttachedRow → Type 0
Rising es = AllPairs (λ e x. e.owner ≤ x.owner) es

-- the rows of a table where there are so many owners
pub record RowsLimits (owners : ℕ) (h : Heading) (es : List AttachedRow) : Type 0 where
  pub attached : All (Attached owners h.clocks h.parameters) es
  pub whole : All (λ e. length e.row.t ≡ 7) es
  pub rising : Rising es
  pub few : (q : ℕ) → length (rows_of q es) ≤ 8

-- the edges of a table
pub record EdgesLimits (h : Heading) (es : List Edge) : Type 0 where
  pub few : length es ≤ 512
  pub admitted : All (EdgeLimits (shape_of h)) es
  pub whole : All (λ e. length e.resets.members ≡ 6) es

-- the limits of models hold in the content, which may lack locations
pub record Within (c : Content) : Type 0 where
  pub heading : ShapeLimits (shape_of c.heading)
  pub locations : length c.lists.locations ≤ c.heading.locations
  pub invariants : RowsLimits c.heading.locations c.heading c.lists.invariants
  pub edges : EdgesLimits c.heading c.lists.edges
  pub guards : RowsLimits (length c.lists.edges) c.heading c.lists.guards

-- the same, and there are as many locations as the heading says
pub record Whole (c : Content) : Type 0 where
  pub within : Within c
  pub all_located : length c.lists.locations ≡ c.heading.locations

-- the text is of the form, and says this
pub record Says (text : List ℕ) (c : Content) : Type 0 where
  pub lawful : Whole c
  pub is : text ≡ text_of c
