-- What the index of the lists is, at each end of its making.
use Rattle.std.proofs.Common.{◌≡◌, ℕ, ◌≤◌, ◌⊎◌, Bool, true, false, List, [], length, slice_index_or, None, Some, All, Any, Decides, vec_items, Option, sym, ap, subst, inl, inr, refl, arith}
use Rattle.std.specs.Bool.{then_some}
use Rattle.std.proofs.lemmas.List.{get_or_default}
use Rattle.models.specs.declared.shape.Shape.{Shape}
use Rattle.models.specs.declared.edge.Edge.{Edge}
use Rattle.models.specs.Tables.{ShapeLimits, EdgeLimits}
use Rattle.flat.specs.declared.description.AttachedRow.{AttachedRow}
use Rattle.flat.specs.declared.description.Description.{Description}
use Rattle.flat.specs.declared.index.Index.{Index}
use Rattle.flat.specs.declared.groups.Groups.{Groups}
use Rattle.flat.specs.declared.groups.Owners.{Owners}
use Rattle.flat.specs.Lists.{rows_of, most_rows, uses_action, shape_of, table_of}
use Rattle.flat.specs.WellFormed.{WellFormed}
use Rattle.flat.specs.Groups.{Sorts, owners_in, Blank}
use Rattle.flat.specs.Indexes.{AnswersAs, Indexes}
use Rattle.flat.specs.ListsLemmas.{largest_bound}
use Rattle.flat.specs.WellFormedLemmas.{well_formed_decides, not_well_formed, flat_table_described, flat_table_shut, few_of}

-- the largest group is as large as the most rows of an owner
pub most_grouped : (o : Owners) (es : List AttachedRow) (gs : Groups) (most : ℕ) → Sorts o es (Some gs)
    → All (λ g. length g.items ≤ most) (vec_items gs.each) → (most ≡ 0) ⊎ Any (λ g. length g.items ≡ most) (vec_items gs.each) → most ≡ most_rows o.count es
most_grouped o es gs most (can, grouped) bound attained =
    let known = gs.each.ok.0 in
    let wide = grouped.wide in
    let low = largest_bound (λ q. length (rows_of q es)) o.count most (λ q l. omega (arith, ap length (grouped.each q), bound q (record { items = [] }) (omega arith))) in
    elim attained [
      | inl z ↦ omega arith
      | inr a ↦ omega (arith, low, few_of o.count o.clocks o.parameters a.0 es can.owned, ap length (grouped.each a.0), a.4, ap (λ g. length g.items) (a.3), ap (λ g. length g.items) (get_or_default (vec_items gs.each) a.0 a.1 (record { items = [] }) a.2))
    ]

-- groups without rows sort a list that is known under other names
pub sorted : (o p : Owners) (es fs : List AttachedRow) (n : ℕ) (gs : Groups) (r : Option Groups) → o ≡ p → es ≡ fs → Blank n gs → p.count ≤ n → (Blank o.count gs → Sorts o es r) → Sorts p fs r
sorted o p es fs n gs r e f b l h =
    let wide = b.wide in
    let blank : Blank p.count gs = record { wide = omega arith; each = b.each } in
    subst (λ x. Sorts x fs r) e (subst (λ xs. Sorts o xs r) f (h (subst (λ x. Blank x.count gs) (sym e) blank)))

module _ (d : Description) where
  -- lists that are not well-formed have no index
  pub none : (WellFormed d → ⊥) → Indexes d None
  none f = let e = not_well_formed d f in record { well_formed = sym e; answers = flat_table_shut d e }

  pub some : (i : Index) → WellFormed d → AnswersAs d i (table_of d) → Indexes d (Some i)
  some i w a =
      let e = (well_formed_decides d).1 w in
      record { well_formed = sym e; answers = subst (AnswersAs d i) (sym (flat_table_described d e)) a }

  -- the numbers and edges are such as a model may have
  abbrev Fits : Shape → List Edge → Type 0
  Fits h es = ShapeLimits h × All (EdgeLimits h) es

  -- the index as it was gathered, where b tells whether its numbers and edges are so
  pub made : (b : Bool) (i : Index) (es : List Edge) (r : Option Index) → r ≡ then_some b i → i.shape ≡ shape_of d → es ≡ vec_items d.edges
      → Sorts (owners_in d (length (vec_items d.locations))) (vec_items d.invariants) (Some i.invariants)
      → Sorts (owners_in d (length (vec_items d.edges))) (vec_items d.guards) (Some i.guards)
      → ((x : ℕ) → slice_index_or i.actions.members x false ≡ uses_action (vec_items d.edges) x) → Decides b (Fits i.shape es) → Indexes d r
  made false i es r is shape edges invariants guards actions f =
      rw is (none (λ w. let e = f.1 (subst (Fits i.shape) (sym edges) (subst (λ h. Fits h (vec_items d.edges)) (sym shape) (w.numbers, w.edges))) in cc))
  made true i es r is shape edges invariants guards actions f =
      let fits = subst (λ h. Fits h (vec_items d.edges)) shape (subst (Fits i.shape) edges (f.0 refl)) in
      rw is (some i
      (record { numbers = fits.0; edges = fits.1; invariants = invariants.0.owned; guards = guards.0.owned })
      (record { shape = shape; uses = actions; bad = λ _. refl; invariant = invariants.1.each; edge = λ _. refl; guard = guards.1.each }))
