-- What a model text says, and the text that says it.
use Rattle.std.specs.Prelude.{ℕ, ◌+◌, ◌*◌, Bool, true, false, List, [], ◌∷◌, ◌++◌, map, pos, codes}
use Rattle.std.specs.List.{enumerate_from}
use Rattle.models.specs.declared.edge.Edge.{Edge}
use Rattle.flat.specs.declared.description.Location.{Location}
use Rattle.flat.specs.declared.description.AttachedRow.{AttachedRow}
use Rattle.lines.specs.Texts.{Line, written}
use Rattle.lines.specs.Values.{value_line}
use Rattle.form.specs.declared.progress.Heading.{Heading}

-- what the lines of values after the first say, table by table
pub record Lists : Type 0 where
  pub locations : List Location
  pub invariants : List AttachedRow
  pub edges : List Edge
  pub guards : List AttachedRow

-- what the lines of values say
pub record Content : Type 0 where
  pub heading : Heading
  pub lists : Lists

-- the five lines of names
abbrev pub heading_names : Line
heading_names = codes "clocks,parameters,locations,first"

abbrev pub location_names : Line
location_names = codes "location,bad"

abbrev pub invariant_names : Line
invariant_names = codes "at,i,j,strict,t0,t1,t2,t3,t4,t5,t6"

abbrev pub edge_names : Line
edge_names = codes "edge,from,to,action,resets"

abbrev pub guard_names : Line
guard_names = codes "on,i,j,strict,t0,t1,t2,t3,t4,t5,t6"

-- yes is 1
abbrev pub bit : Bool → ℕ
bit true = 1
bit false = 0

-- the first place counts 1, and each next one twice as much
abbrev pub bits : List Bool → ℕ
bits [] = 0
bits (b ∷ bs) = bit b + 2 * bits bs

abbrev pub heading_line : Heading → Line
heading_line h = value_line (pos h.clocks ∷ pos h.parameters ∷ pos h.locations ∷ pos h.first ∷ [])

-- the line of location k
abbrev pub location_line : ℕ → Location → Line
location_line k x = value_line (pos k ∷ pos (bit x.bad) ∷ [])

abbrev pub row_line : AttachedRow → Line
row_line e = value_line (pos e.owner ∷ pos e.row.i ∷ pos e.row.j ∷ pos (bit e.row.strict) ∷ e.row.t)

-- the line of edge k
abbrev pub edge_line : ℕ → Edge → Line
edge_line k e = value_line (pos k ∷ pos e.source ∷ pos e.target ∷ pos e.action ∷ pos (bits e.resets.members) ∷ [])

-- a line for each, where they are numbered from 0
abbrev pub numbered : {X : Type 0} → (ℕ → X → Line) → List X → List Line
numbered line xs = map (λ p. line p.0 p.1) (enumerate_from 0 xs)

-- the lines of the first table; those up to the end of the second, the third, the fourth
abbrev pub heading_lines : Heading → List Line
heading_lines h = heading_names ∷ heading_line h ∷ []

abbrev pub to_locations : Content → List Line
to_locations c = heading_lines c.heading ++ location_names ∷ numbered location_line c.lists.locations

abbrev pub to_invariants : Content → List Line
to_invariants c = to_locations c ++ invariant_names ∷ map row_line c.lists.invariants

abbrev pub to_edges : Content → List Line
to_edges c = to_invariants c ++ edge_names ∷ numbered edge_line c.lists.edges

-- all lines: five tables, each a line of names and then lines of values
abbrev pub lines_of : Content → List Line
lines_of c = to_edges c ++ guard_names ∷ map row_line c.lists.guards

-- the text that says this
abbrev pub text_of : Content → List ℕ
text_of c = written (lines_of c)
