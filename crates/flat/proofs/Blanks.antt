-- Groups without rows.
use Rattle.std.proofs.Common.{◌≡◌, ℕ, zero, suc, List, [], ◌∷◌, map, length, get_or, replicate, vec_items, sym, refl, ap, ◌∙◌, inl, inr, arith}
use Rattle.std.proofs.lemmas.List.{nil_from_length, get_or-map, get_or-replicate, get_or_past, length-map, length-replicate}
use Rattle.std.specs.List.{AllZip}
use Rattle.std.proofs.lemmas.List.Elements.{length_all_zip}
use Rattle.std.proofs.lemmas.Bool.{cases_lt}
use Rattle.arrayvec.specs.ArrayVec.{ArrayVec}
use Rattle.rows.specs.declared.row.Row.{Row}
use Rattle.flat.specs.declared.groups.Groups.{Groups}
use Rattle.flat.specs.Groups.{listed, Blank}

map-replicate : {X Y : Type 0} (f : X → Y) (n : ℕ) (x : X) → map f (replicate n x) ≡ replicate n (f x)
map-replicate f zero x = refl
map-replicate f (suc n) x = ap (λ ys. f x ∷ ys) (map-replicate f n x)

-- a copy of a group without rows is the same
pub same_blank : (R : Row → Row → Type 0) (g y : ArrayVec Row) → g.items ≡ [] → AllZip R g.items y.items → y ≡ g
same_blank R g y e z =
    let n : y.items ≡ [] = nil_from_length y.items (sym (length_all_zip R g.items y.items z) ∙ ap length e) in
    ap (λ (xs : List Row). record { items = xs }) (n ∙ sym e)

-- copies of a group without rows
pub listed_blank : (n : ℕ) (gs : Groups) (g : ArrayVec Row) → vec_items gs.each ≡ replicate n g → g.items ≡ [] → listed gs ≡ replicate n []
listed_blank n gs g e h = ap (map (λ x. x.items)) e ∙ map-replicate (λ x. x.items) n g ∙ ap (replicate n) h

-- so many groups, none with rows
pub blank_listed : (n : ℕ) (gs : Groups) → listed gs ≡ replicate n [] → Blank n gs
blank_listed n gs e = record { wide = omega (arith, count); each = λ q. ap length (none q) }
  where
    count : length (vec_items gs.each) ≡ n
    count = sym (length-map (vec_items gs.each) (λ g. g.items)) ∙ ap length e ∙ length-replicate n []

    none : (q : ℕ) → (get_or (vec_items gs.each) q (record { items = [] })).items ≡ []
    none q = elim (cases_lt q n) [
      | inl l ↦ sym (get_or-map (λ g. g.items) (vec_items gs.each) q (record { items = [] }) [] (omega (arith, count))) ∙ ap (λ xs. get_or xs q []) e ∙ get_or-replicate n q [] [] l
      | inr l ↦ ap (λ g. g.items) (get_or_past (vec_items gs.each) q (record { items = [] }) (omega (arith, count)))
    ]
