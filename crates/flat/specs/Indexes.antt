-- What the index of a flat model says; without an index the model is shut.
use Rattle.std.specs.Prelude.{◌≡◌, ℕ, false, is_some, MatchOption, vec_items, Option, slice_index_or}
use Rattle.std.specs.List.{slice_get}
use Rattle.models.specs.Tables.{Table}
use Rattle.models.specs.Shut.{shut_table}
use Rattle.flat.specs.declared.description.Description.{Description}
use Rattle.flat.specs.declared.index.Index.{Index}
use Rattle.flat.specs.Lists.{is_bad}
use Rattle.flat.specs.WellFormed.{is_well_formed, flat_table}
use Rattle.flat.specs.Groups.{group_at}

-- the index and the lists it was made for answer every question as the table does
pub record AnswersAs (d : Description) (i : Index) (M : Table) : Type 0 where
  pub shape : i.shape ≡ M.shape
  pub uses : (x : ℕ) → slice_index_or i.actions.members x false ≡ M.uses x
  pub bad : (q : ℕ) → is_bad (slice_get (vec_items d.locations) q) ≡ M.bad q
  pub invariant : (q : ℕ) → group_at i.invariants q ≡ M.invariant q
  pub edge : (k : ℕ) → slice_get (vec_items d.edges) k ≡ M.edge k
  pub guard : (k : ℕ) → group_at i.guards k ≡ M.guard k

-- there is an index exactly where the lists are well-formed; it answers as their table does, and without one that table is the
-- shut model's
pub record Indexes (d : Description) (o : Option Index) : Type 0 where
  pub well_formed : is_some o ≡ is_well_formed d
  pub answers : MatchOption o (flat_table d ≡ shut_table) (λ i. AnswersAs d i (flat_table d))
