-- The test of lawful rows decides what lawful means.
use Rattle.std.proofs.Common.{◌≡◌, ℕ, ◌+◌, ◌-◌, ◌<◌, ◌≤◌, true, not, ◌&&◌, ◌||◌, eqb, leb, List, length, get_or, drop, ℤ, pos, negsuc, Decides, sym, refl, ap, ◌∙◌, subst, inl, inr, arith}
use Rattle.std.specs.Prelude.{All}
use Rattle.std.specs.List.{list_all}
use Rattle.std.proofs.lemmas.List.{get_or-drop, get_or_past}
use Rattle.std.proofs.lemmas.List.Elements.{All-from_get_or}
use Rattle.std.proofs.lemmas.Int.{ints}
use Rattle.std.proofs.lemmas.Bool.{and_parts, cases_lt}
use Rattle.std.proofs.lemmas.Bool.Decides.{nat_tests, Decides-and, Decides-like, Decides-by_and}
use Rattle.rows.specs.declared.row.Row.{Row}
use Rattle.rows.specs.Lawful.{WithinLimit, LawfulMarks, LawfulBound, Lawful, is_within_limit, is_zero, has_lawful_marks, has_lawful_bound, is_lawful}

pub within_limit_decides : (z : ℤ) → Decides (is_within_limit z) (WithinLimit z)
within_limit_decides z = (λ h. record { low = grind (arith, ints); high = grind (arith, ints) }, λ h. grind (arith, ints))

zero_decides : (z : ℤ) → Decides (is_zero z) (z ≡ pos 0)
zero_decides (pos n) = (λ h. ap pos (grind (arith, nat_tests)), λ e. grind (arith, nat_tests))
zero_decides (negsuc n) = (λ h. grind arith, λ e. let z : ◌≡◌ {A = ℕ} 0 1 = cc in absurd (omega arith))

within_limit_zero : WithinLimit (pos 0)
within_limit_zero = record { low = omega (arith, ints); high = omega (arith, ints) }

-- every coefficient within the limit, also past the end of the list
within_from : (zs : List ℤ) → All WithinLimit zs → (c : ℕ) → WithinLimit (get_or zs c (pos 0))
within_from zs h c = elim (cases_lt c (length zs)) [ inl l ↦ h c (pos 0) l | inr g ↦ subst WithinLimit (sym (get_or_past zs c (pos 0) g)) within_limit_zero ]

-- those behind place n are 0
absent_from : (n : ℕ) (zs : List ℤ) → All (λ z. z ≡ pos 0) (drop (1 + n) zs) → (c : ℕ) → n < c → get_or zs c (pos 0) ≡ pos 0
absent_from n zs h c l =
    let k = c - (1 + n) in
    let e : 1 + n + k ≡ c = omega arith in
    ap (λ i. get_or zs i (pos 0)) (sym e) ∙ sym (get_or-drop (1 + n) zs k (pos 0))
    ∙ elim (cases_lt k (length (drop (1 + n) zs))) [ inl i ↦ h k (pos 0) i | inr g ↦ get_or_past (drop (1 + n) zs) k (pos 0) g ]

pub marks_decide : (m : ℕ) (r : Row) → Decides (has_lawful_marks m r) (LawfulMarks m r)
marks_decide m r = (
  λ h. record { i_known = grind (arith, nat_tests); j_known = grind (arith, nat_tests); apart = λ e. grind (arith, nat_tests) },
  λ h. marks_tests r.i r.j h.i_known h.j_known h.apart,
)
  where
    marks_tests : (i j : ℕ) → i ≤ m → j ≤ m → (i ≡ j → i ≡ 0) → (leb i m && (leb j m && (not (eqb i j) || eqb i 0))) ≡ true
    marks_tests i j a b f = grind (arith, nat_tests)

pub bound_decides : (n : ℕ) (r : Row) → Decides (has_lawful_bound n r) (LawfulBound n r)
bound_decides n r =
    let rest = drop (1 + n) r.t in
    let a = list_all is_within_limit r.t in
    let b = list_all is_zero rest in
    Decides-like (a && b)
    (λ h. record { within = within_from r.t h.0; absent = absent_from n r.t h.1 })
    (λ h. (All-from_get_or WithinLimit r.t (pos 0) (λ c l. h.within c), All-from_get_or (λ z. z ≡ pos 0) rest (pos 0) (λ c l. get_or-drop (1 + n) r.t c (pos 0) ∙ h.absent (1 + n + c) (omega arith))))
    (Decides-and a b
    (Decides-by_and is_within_limit WithinLimit (list_all is_within_limit) within_limit_decides refl (λ _ _. refl) r.t)
    (Decides-by_and is_zero (λ z. z ≡ pos 0) (list_all is_zero) zero_decides refl (λ _ _. refl) rest))

pub small_where_bound : (n : ℕ) (r : Row) → LawfulBound n r → list_all is_within_limit r.t ≡ true
small_where_bound n r h = (and_parts (list_all is_within_limit r.t) (list_all is_zero (drop (1 + n) r.t)) ((bound_decides n r).1 h)).0

pub lawful_decides : (m n : ℕ) (r : Row) → Decides (is_lawful m n r) (Lawful m n r)
lawful_decides m n r =
    let a = has_lawful_marks m r in
    let b = has_lawful_bound n r in
    Decides-like (a && b) (λ h. record { marks = h.0; bound = h.1 }) (λ h. (h.marks, h.bound)) (Decides-and a b (marks_decide m r) (bound_decides n r))
