-- How a text is read line by line, for definitions that have to decide.
use Rattle.std.specs.Prelude.{ℕ, zero, suc, ◌/◌, ◌%◌, Bool, true, false, cond, ◌&&◌, List, [], ◌∷◌, ◌++◌, length, drop, ℤ, pos, negsuc, Some, None, Option, option_and_then, option_map, ◌==◌, nat_le, nat_lt, slice_index_or}
use Rattle.std.specs.Str.{bytes_eq}
use Rattle.models.specs.declared.edge.Edge.{Edge}
use Rattle.models.specs.Tables.{is_within_limits, is_admitted}
use Rattle.flat.specs.declared.description.Location.{Location}
use Rattle.flat.specs.declared.description.AttachedRow.{AttachedRow}
use Rattle.flat.specs.WellFormed.{is_attached}
use Rattle.lines.specs.Texts.{Line}
use Rattle.lines.specs.Numerals.{reads, at_most}
use Rattle.form.specs.declared.progress.Stage.{Stage}
use Rattle.form.specs.declared.progress.Stage.TheVariants.{Empty, Named, Headed, Locations, Invariants, Edges, Guards}
use Rattle.form.specs.declared.progress.Kind.{Kind}
use Rattle.form.specs.declared.progress.Kind.TheVariants.{HeadingNames, LocationNames, InvariantNames, EdgeNames, GuardNames, Values}
use Rattle.form.specs.declared.progress.Heading.{Heading}
use Rattle.form.specs.declared.progress.Latest.{Latest}
use Rattle.form.specs.declared.progress.Progress.{Progress}
use Rattle.form.specs.Content.{Lists, heading_names, location_names, invariant_names, edge_names, guard_names}
use Rattle.form.specs.Form.{shape_of}

-- where a reader stands, and what it has
pub record State : Type 0 where
  pub at : Progress
  pub lists : Lists

abbrev pub kind_of : Line → Kind
kind_of l =
    cond (bytes_eq l heading_names) HeadingNames
    (cond (bytes_eq l location_names) LocationNames
    (cond (bytes_eq l invariant_names) InvariantNames
    (cond (bytes_eq l edge_names) EdgeNames
    (cond (bytes_eq l guard_names) GuardNames Values))))

-- a number from 0 to b
abbrev pub natural : ℕ → ℤ → Option ℕ
natural b (pos n) = cond (nat_le n b) (Some n) None
natural b (negsuc n) = None

-- 0 or 1
abbrev pub flag : ℤ → Option Bool
flag z = option_map (λ n. n == 1) (natural 1 z)

-- the first n binary places of r, the lowest first
abbrev pub places : ℕ → ℕ → List Bool
places zero r = []
places (suc n) r = (r % 2 == 1) ∷ places n (r / 2)

abbrev pub value_at : List ℤ → ℕ → ℤ
value_at vs i = slice_index_or vs i (pos 0)

-- where the values are n
abbrev pub exactly : {X : Type 0} → ℕ → List ℤ → Option X → Option X
exactly n vs o = cond (length vs == n) o None

-- `option_and_then` with the value in front of what is done with it
abbrev pub along : {X Y : Type 0} → Option X → (X → Option Y) → Option Y
along o f = option_and_then f o

abbrev pub heading_of : List ℤ → Option Heading
heading_of vs =
    exactly 4 vs (along (natural 255 (value_at vs 0)) (λ m. along (natural 255 (value_at vs 1)) (λ n.
    along (natural 255 (value_at vs 2)) (λ q. along (natural 255 (value_at vs 3)) (λ f.
    Some (record { clocks = m; parameters = n; locations = q; first = f }))))))

-- the number of a location and what it is
abbrev pub location_of : List ℤ → Option (ℕ × Location)
location_of vs = exactly 2 vs (along (natural 65535 (value_at vs 0)) (λ k. along (flag (value_at vs 1)) (λ b. Some (k, record { bad = b }))))

abbrev pub row_of : List ℤ → Option AttachedRow
row_of vs =
    exactly 11 vs (along (natural 65535 (value_at vs 0)) (λ k. along (natural 255 (value_at vs 1)) (λ i.
    along (natural 255 (value_at vs 2)) (λ j. along (flag (value_at vs 3)) (λ s.
    Some (record { owner = k; row = record { i = i; j = j; strict = s; t = drop 4 vs } }))))))

-- the number of an edge and what it is
abbrev pub edge_of : List ℤ → Option (ℕ × Edge)
edge_of vs =
    exactly 5 vs (along (natural 65535 (value_at vs 0)) (λ k. along (natural 255 (value_at vs 1)) (λ q.
    along (natural 255 (value_at vs 2)) (λ r. along (natural 255 (value_at vs 3)) (λ a. along (natural 63 (value_at vs 4)) (λ b.
    Some (k, record { source = q; target = r; action = a; resets = record { members = places 6 b } })))))))

-- the values of a line, if they are not too many
abbrev pub values_of : Line → Option (List ℤ)
values_of l = at_most 11 (reads l)

-- one more row of this owner, where the table's rows have come so far
abbrev pub counted : Latest → ℕ → Option Latest
counted p q =
    cond (nat_lt p.owner q) (Some (record { owner = q; rows = 1 }))
    (cond (p.owner == q && nat_lt p.rows 8) (Some (record { owner = q; rows = suc p.rows })) None)

abbrev pub no_rows : Latest
no_rows = record { owner = 0; rows = 0 }

-- a line of names opens a table
abbrev pub opens : Stage → State → Option State
opens g s = Some (record s { at = record s.at { stage = g; latest = no_rows } })

abbrev pub with_latest : State → Latest → Progress
with_latest s p = record s.at { latest = p }

abbrev pub headed : State → List ℤ → Option State
headed s vs =
    along (heading_of vs) (λ h. cond (is_within_limits (shape_of h))
    (Some (record s { at = record s.at { stage = Headed; heading = h } })) None)

abbrev pub with_location : State → Location → State
with_location s x = record s { lists = record s.lists { locations = s.lists.locations ++ x ∷ [] } }

abbrev pub located : State → List ℤ → Option State
located s vs =
    along (location_of vs) (λ x. cond (x.0 == length s.lists.locations && nat_lt (length s.lists.locations) s.at.heading.locations)
    (Some (with_location s x.1)) None)

-- the row may stand behind those that came so far, where there are so many owners
abbrev pub attached : ℕ → State → AttachedRow → Option Latest
attached owners s e = cond (is_attached owners s.at.heading.clocks s.at.heading.parameters e) (counted s.at.latest e.owner) None

abbrev pub with_invariant : State → AttachedRow → Latest → State
with_invariant s e p = record { at = with_latest s p; lists = record s.lists { invariants = s.lists.invariants ++ e ∷ [] } }

abbrev pub bounded : State → List ℤ → Option State
bounded s vs = option_and_then (λ e. option_map (with_invariant s e) (attached s.at.heading.locations s e)) (row_of vs)

abbrev pub with_edge : State → Edge → State
with_edge s e = record s { lists = record s.lists { edges = s.lists.edges ++ e ∷ [] } }

abbrev pub joined : State → List ℤ → Option State
joined s vs =
    along (edge_of vs) (λ x. cond (x.0 == length s.lists.edges && (nat_lt (length s.lists.edges) 512 && is_admitted (shape_of s.at.heading) x.1))
    (Some (with_edge s x.1)) None)

abbrev pub with_guard : State → AttachedRow → Latest → State
with_guard s e p = record { at = with_latest s p; lists = record s.lists { guards = s.lists.guards ++ e ∷ [] } }

abbrev pub guarded : State → List ℤ → Option State
guarded s vs = option_and_then (λ e. option_map (with_guard s e) (attached (length s.lists.edges) s e)) (row_of vs)

-- the table of locations may be left once all are there
abbrev pub leaves_locations : State → Option State
leaves_locations s = cond (length s.lists.locations == s.at.heading.locations) (opens Invariants s) None

-- the table that is open and the kind of the line decide what follows
abbrev pub follows : Stage → Kind → State → Line → Option State
follows Empty HeadingNames s l = opens Named s
follows Named Values s l = option_and_then (headed s) (values_of l)
follows Headed LocationNames s l = opens Locations s
follows Locations Values s l = option_and_then (located s) (values_of l)
follows Locations InvariantNames s l = leaves_locations s
follows Invariants Values s l = option_and_then (bounded s) (values_of l)
follows Invariants EdgeNames s l = opens Edges s
follows Edges Values s l = option_and_then (joined s) (values_of l)
follows Edges GuardNames s l = opens Guards s
follows Guards Values s l = option_and_then (guarded s) (values_of l)
follows _ _ s l = None

unfoldable pub step : State → Line → Option State
step s l = follows s.at.stage (kind_of l) s l

-- the state after these lines
abbrev pub run : State → List Line → Option State
run s [] = Some s
run s (l ∷ ls) = option_and_then (λ t. run t ls) (step s l)

-- the state before the first line; a text has its own heading, but any lawful one will do till then
abbrev pub start : State
start = record {
  at = record { stage = Empty; heading = record { clocks = 0; parameters = 0; locations = 1; first = 0 }; latest = no_rows };
  lists = record { locations = []; invariants = []; edges = []; guards = [] };
}

-- the text may end here
abbrev pub is_last : Stage → Bool
is_last Guards = true
is_last _ = false
