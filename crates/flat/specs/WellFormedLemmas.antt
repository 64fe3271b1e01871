-- The test of the lists decides whether they are well-formed, and a table of well-formed lists keeps the limits of models.
use Rattle.std.specs.Prelude.{◌≡◌, ℕ, ◌<◌, ◌≤◌, Bool, true, false, List, [], ◌∷◌, map, length, Some, None, vec_items, All, Decides, filter, ◌==◌, nat_eq, nat_lt, refl}
use Rattle.std.proofs.Common.{ap, subst, ◌∙◌, inl, inr, arith}
use Rattle.std.specs.List.{slice_get, list_all}
use Rattle.std.proofs.lemmas.List.Elements.{All-head, All-tail, All-map, All-weaker, All-filter}
use Rattle.std.proofs.lemmas.Option.{slice_get_past, slice_get_within, get_or_from_slice_get, gets}
use Rattle.std.proofs.lemmas.Bool.{cases_lt, false_from_ne_true, ne_eqb, cond-true, cond-false, cond_both}
use Rattle.std.proofs.lemmas.Bool.Decides.{nat_tests, Decides-and, Decides-by_and, Decides-like, Decides-ltb}
use Rattle.rows.specs.Lawful.{Lawful, is_lawful}
use Rattle.rows.proofs.Lawful.{lawful_decides}
use Rattle.models.specs.declared.shape.Shape.{Shape}
use Rattle.models.specs.declared.edge.Edge.{Edge}
use Rattle.models.specs.Tables.{EdgeLimits, Limits, is_admitted}
use Rattle.models.proofs.Tables.{within_limits_decides, admitted_decides, shut_limits}
use Rattle.models.specs.Shut.{shut_table}
use Rattle.flat.specs.declared.description.AttachedRow.{AttachedRow}
use Rattle.flat.specs.declared.description.Description.{Description}
use Rattle.flat.specs.Lists.{rows_of, most_rows, uses_action, is_bad, shape_of, table_of}
use Rattle.flat.specs.WellFormed.{Attached, WellFormed, is_attached, is_well_formed, flat_table}
use Rattle.flat.specs.ListsLemmas.{largest_has}

attached_decides : (n m p : ℕ) (e : AttachedRow) → Decides (is_attached n m p e) (Attached n m p e)
attached_decides n m p e =
    Decides-like (is_attached n m p e) (λ h. record { known = h.0; lawful = h.1 }) (λ h. (h.known, h.lawful))
    (Decides-and (nat_lt e.owner n) (is_lawful m p e.row) (Decides-ltb e.owner n) (lawful_decides m p e.row))

-- a test of each decides what it tests of each
pub each_decides : {X : Type 0} (p : X → Bool) (P : X → Type 0) → ((x : X) → Decides (p x) (P x)) → (xs : List X) → Decides (list_all p xs) (All P xs)
each_decides p P h = Decides-by_and p P (list_all p) h refl (λ _ _. refl)

pub all_attached_decides : (n m p : ℕ) (es : List AttachedRow) → Decides (list_all (is_attached n m p) es) (All (Attached n m p) es)
all_attached_decides n m p = each_decides (is_attached n m p) (Attached n m p) (attached_decides n m p)

pub all_admitted_decides : (h : Shape) (es : List Edge) → Decides (list_all (is_admitted h) es) (All (EdgeLimits h) es)
all_admitted_decides h = each_decides (is_admitted h) (EdgeLimits h) (admitted_decides h)

module _ (d : Description) where
  pub well_formed_decides : Decides (is_well_formed d) (WellFormed d)
  well_formed_decides =
      let h = shape_of d in
      Decides-like (is_well_formed d)
      (λ s. record { numbers = s.0; edges = s.1.0; invariants = s.1.1.0; guards = s.1.1.1 })
      (λ s. (s.numbers, (s.edges, (s.invariants, s.guards))))
      (Decides-and _ _ (within_limits_decides h)
      (Decides-and _ _ (all_admitted_decides h (vec_items d.edges))
      (Decides-and _ _ (all_attached_decides (length (vec_items d.locations)) d.clocks d.parameters (vec_items d.invariants)) (all_attached_decides (length (vec_items d.edges)) d.clocks d.parameters (vec_items d.guards)))))

  -- lists of which something is not so are not well-formed
  pub not_well_formed : (WellFormed d → ⊥) → is_well_formed d ≡ false
  not_well_formed f = false_from_ne_true (is_well_formed d) (λ e. f (well_formed_decides.0 e))

  pub flat_table_described : is_well_formed d ≡ true → flat_table d ≡ table_of d
  flat_table_described = cond-true (is_well_formed d) (table_of d) shut_table

  pub flat_table_shut : is_well_formed d ≡ false → flat_table d ≡ shut_table
  flat_table_shut = cond-false (is_well_formed d) (table_of d) shut_table

all_nth : {X : Type 0} (P : X → Type 0) (xs : List X) (k : ℕ) (x : X) → All P xs → slice_get xs k ≡ Some x → P x
all_nth P xs k x h e = subst P (get_or_from_slice_get xs k x x e) (h k x (slice_get_within xs k x e))

nth_none : {X : Type 0} (xs : List X) (k : ℕ) → slice_get xs k ≡ None → length xs ≤ k
nth_none xs k e = grind (arith, gets)

module _ (n m p : ℕ) where
  -- who is not among the owners has no rows
  pub rows_of_nobody : (q : ℕ) (es : List AttachedRow) → n ≤ q → All (Attached n m p) es → rows_of q es ≡ []
  rows_of_nobody q [] l h = refl
  rows_of_nobody q (e ∷ es) l h =
      let k = (All-head (Attached n m p) e es h).known in
      ap (map (λ x. x.row)) (cond-false (e.owner == q) (e ∷ filter (λ x. nat_eq x.owner q) es) (filter (λ x. nat_eq x.owner q) es) (ne_eqb e.owner q (λ s. omega arith)))
      ∙ rows_of_nobody q es l (All-tail (Attached n m p) e es h)

  -- nobody has more than the most rows of an owner
  pub few_of : (q : ℕ) (es : List AttachedRow) → All (Attached n m p) es → length (rows_of q es) ≤ most_rows n es
  few_of q es h = elim (cases_lt q n) [ inl l ↦ largest_has (λ x. length (rows_of x es)) n q l | inr l ↦ omega (arith, ap length (rows_of_nobody q es l h)) ]

  lawful_of : (q : ℕ) (es : List AttachedRow) → All (Attached n m p) es → All (Lawful m p) (rows_of q es)
  lawful_of q es h =
      All-map (Lawful m p) (λ e. e.row) (filter (λ e. nat_eq e.owner q) es)
      (All-filter (λ e. nat_eq e.owner q) (λ e. Lawful m p e.row) es (All-weaker (Attached n m p) (λ e. Lawful m p e.row) (λ e o. o.lawful) es h))

unused : (es : List Edge) (x : ℕ) → 15 < x → uses_action es x ≡ false
unused es x l = grind (arith, nat_tests)

well_formed_limits : (d : Description) → WellFormed d → Limits (table_of d)
well_formed_limits d s =
    let n = length (vec_items d.locations) in
    let k = length (vec_items d.edges) in
    let is = vec_items d.invariants in
    let gs = vec_items d.guards in
    record {
      numbers = s.numbers;
      invariants = λ q. record { count = few_of n d.clocks d.parameters q is s.invariants; lawful = lawful_of n d.clocks d.parameters q is s.invariants };
      edges = λ i e h. all_nth (EdgeLimits (shape_of d)) (vec_items d.edges) i e s.edges h;
      guards = λ i. record { count = few_of k d.clocks d.parameters i gs s.guards; lawful = lawful_of k d.clocks d.parameters i gs s.guards };
      no_use = λ x l. unused (vec_items d.edges) x l;
      no_bad = λ q l. ap is_bad (slice_get_past (vec_items d.locations) q l);
      no_invariant = λ q l. rows_of_nobody n d.clocks d.parameters q is l s.invariants;
      no_edge = λ i l. slice_get_past (vec_items d.edges) i l;
      no_guard = λ i e. rows_of_nobody k d.clocks d.parameters i gs (nth_none (vec_items d.edges) i e) s.guards;
    }

-- the table of a flat model keeps the limits, whatever the lists
pub flat_limits : (d : Description) → Limits (flat_table d)
flat_limits d = cond_both (is_well_formed d) (table_of d) shut_table Limits (λ e. well_formed_limits d ((well_formed_decides d).0 e)) (λ _. shut_limits)

-- whether lists are well-formed, and the table of a flat model on them
pub ruleset well_formed = (well_formed_decides, not_well_formed, flat_table_described, flat_table_shut)
