-- What the lists say: the rows of an owner, one entry at a time, the largest number of them, and the actions of the edges.
use Rattle.std.specs.Prelude.{◌≡◌, ℕ, zero, suc, ◌+◌, ◌<◌, ◌≤◌, max, Bool, true, cond, ◌&&◌, ◌||◌, ◌⊎◌, List, [], ◌∷◌, ◌++◌, map, length, get_or, take, drop, Any, Decides, filter, ◌==◌, nat_eq, nat_le, refl}
use Rattle.std.proofs.Common.{sym, ap, ◌∙◌, inl, inr, arith}
use Rattle.std.specs.List.{list_any}
use Rattle.std.proofs.lemmas.List.Folds.{Any-from_list_any, list_any-from_Any, list_any_more}
use Rattle.std.proofs.lemmas.List.Elements.{filter-append}
use Rattle.std.proofs.lemmas.List.{take_more, append-nil, map-append, length-append, take-append-drop}
use Rattle.std.proofs.lemmas.Bool.{cases_lt, eq-eqb, eqb-true}
use Rattle.std.proofs.lemmas.Bool.Decides.{nat_tests}
use Rattle.models.specs.declared.edge.Edge.{Edge}
use Rattle.flat.specs.declared.description.AttachedRow.{AttachedRow}
use Rattle.flat.specs.Lists.{rows_of, largest, uses_action}
use Rattle.flat.specs.Laws.{ListLaws}

pub largest_bound : (f : ℕ → ℕ) (n b : ℕ) → ((q : ℕ) → q < n → f q ≤ b) → largest f n ≤ b
largest_bound f zero b h = omega arith
largest_bound f (suc n) b h =
    let i = h n (omega arith) in
    let j = largest_bound f n b (λ q l. h q (omega arith)) in
    omega arith

pub largest_has : (f : ℕ → ℕ) (n q : ℕ) → q < n → f q ≤ largest f n
largest_has f zero q l = absurd (omega arith)
largest_has f (suc n) q l = elim (cases_lt q n) [ inl k ↦ (let i = largest_has f n q k in omega arith) | inr k ↦ (let e : f q ≡ f n = ap f (omega arith) in omega arith) ]

pub largest_like : (f g : ℕ → ℕ) (n : ℕ) → ((q : ℕ) → f q ≡ g q) → largest f n ≡ largest g n
largest_like f g zero h = refl
largest_like f g (suc n) h = ap (λ x. max x (largest f n)) (h n) ∙ ap (max (g n)) (largest_like f g n h)

-- what is 0 does not count
pub largest_rest : (f : ℕ → ℕ) (n k : ℕ) → n ≤ k → ((q : ℕ) → n ≤ q → f q ≡ 0) → largest f k ≡ largest f n
largest_rest f n zero l h = let e : 0 ≡ n = omega arith in ap (largest f) e
largest_rest f n (suc k) l h = elim (cases_lt k n) [ inl g ↦ (let e : suc k ≡ n = omega arith in ap (largest f) e) | inr g ↦ (let z = h k g in let e = largest_rest f n k g h in omega arith) ]

rows_of-append : (q : ℕ) (xs ys : List AttachedRow) → rows_of q (xs ++ ys) ≡ rows_of q xs ++ rows_of q ys
rows_of-append q xs ys =
    let p : AttachedRow → Bool = λ e. nat_eq e.owner q in
    ap (map (λ e. e.row)) (filter-append p xs ys) ∙ map-append (λ e. e.row) (filter p xs) (filter p ys)

-- one entry more
pub rows_of_more : (q : ℕ) (es : List AttachedRow) (i : ℕ) (d : AttachedRow) → i < length es
    → rows_of q (take (i + 1) es) ≡ cond ((get_or es i d).owner == q) (rows_of q (take i es) ++ (get_or es i d).row ∷ []) (rows_of q (take i es))
rows_of_more q es i d l = ap (rows_of q) (take_more es i d l) ∙ rows_of-append q (take i es) (get_or es i d ∷ []) ∙ grind (arith, nat_tests, append-nil)

-- a part of the list has no more rows of an owner than the whole
pub rows_of_part : (q : ℕ) (es : List AttachedRow) (i : ℕ) → length (rows_of q (take i es)) ≤ length (rows_of q es)
rows_of_part q es i =
    let whole = ap (λ xs. length (rows_of q xs)) (sym (take-append-drop i es)) ∙ ap length (rows_of-append q (take i es) (drop i es)) ∙ length-append (rows_of q (take i es)) (rows_of q (drop i es)) in
    omega (arith, whole)

-- the owner of the next entry has one row more
pub rows_of_next : (es : List AttachedRow) (i : ℕ) (d : AttachedRow) → i < length es → length (rows_of (get_or es i d).owner (take i es)) < length (rows_of (get_or es i d).owner es)
rows_of_next es i d l =
    let o = (get_or es i d).owner in
    let whole = ap (rows_of o) (sym (take-append-drop (i + 1) es)) ∙ rows_of-append o (take (i + 1) es) (drop (i + 1) es) in
    grind (arith, nat_tests, length-append, whole, rows_of_more o es i d l)

-- one edge more
pub uses_action_more : (es : List Edge) (i : ℕ) (d : Edge) (x : ℕ) → i < length es
    → uses_action (take (i + 1) es) x ≡ (uses_action (take i es) x || ((nat_le 1 (get_or es i d).action && nat_le (get_or es i d).action 15) && (get_or es i d).action == x))
uses_action_more es i d x l = ap (λ b. (nat_le 1 x && nat_le x 15) && b) (list_any_more (λ e. e.action == x) es i d l) ∙ spread (list_any (λ e. e.action == x) (take i es)) (get_or es i d).action
  where
    spread : (b : Bool) (a : ℕ) → ((nat_le 1 x && nat_le x 15) && (b || a == x)) ≡ (((nat_le 1 x && nat_le x 15) && b) || ((nat_le 1 a && nat_le a 15) && a == x))
    spread b a = grind (arith, nat_tests)

used_decides : (es : List Edge) (x : ℕ) → Decides (uses_action es x) ((1 ≤ x) × (x ≤ 15) × Any (λ e. e.action ≡ x) es)
used_decides es x =
    let found : Edge → Bool = λ e. e.action == x in (
      λ h.
          let c : list_any found es ≡ true = grind arith in
          let a = Any-from_list_any found es c in (grind (arith, nat_tests), grind (arith, nat_tests), (a.0, a.1, a.2, a.3, eqb-true _ x a.4)),
      λ (low, high, a). let c = list_any-from_Any found es (a.0, a.1, a.2, a.3, eq-eqb _ x a.4) in grind (arith, nat_tests),
    )

largest_attained : (f : ℕ → ℕ) (n : ℕ) → (largest f n ≡ 0) ⊎ ((q : ℕ) × (q < n) × (f q ≡ largest f n))
largest_attained f zero = inl refl
largest_attained f (suc n) =
    elim (cases_lt (largest f n) (f n)) [
      | inl l ↦ inr (n, omega arith, omega arith)
      | inr l ↦ elim (largest_attained f n) [ inl z ↦ inl (omega arith) | inr q ↦ inr (q.0, omega (arith, q.1), omega (arith, q.2)) ]
    ]

pub list_laws : ListLaws
list_laws = record {
  used = used_decides;
  bound = λ n es. largest_has (λ q. length (rows_of q es)) n;
  attained = λ n es. largest_attained (λ q. length (rows_of q es)) n;
}
