-- Where a row holds depends on its setting and on the difference of its marks alone.
use Rattle.std.proofs.Common.{◌≡◌, ℕ, ◌+◌, ◌↔◌, ℤ, pos, ◌-ℤ◌, sym, subst, arith}
use Rattle.std.proofs.lemmas.Int.{ints}
use Rattle.rows.specs.declared.row.Row.{Row}
use Rattle.rows.specs.Points.{Setting, Point, Ordered, Holds, bound, difference}

pub same_difference : (a b c d : ℕ) → a + d ≡ c + b → pos a -ℤ pos b ≡ pos c -ℤ pos d
same_difference a b c d e = omega (arith, ints)

-- a row with other marks
abbrev pub with_marks : Row → ℕ → ℕ → Row
with_marks r i j = record { i = i; j = j; strict = r.strict; t = r.t }

-- it holds at p as the row holds at q, if the settings and the differences are the same
pub holds_like : (r : Row) (i j : ℕ) (p q : Point) → p.setting ≡ q.setting → p.mark i + q.mark r.j ≡ q.mark r.i + p.mark j → Holds p (with_marks r i j) ↔ Holds q r
holds_like r i j p q s e =
    let f : ℤ → Setting → Type 0 = λ z x. Ordered r.strict z (bound x r) in
    let d = same_difference (p.mark i) (p.mark j) (q.mark r.i) (q.mark r.j) e in (
      λ h. subst (f (difference q r)) s (subst (λ z. f z p.setting) d h),
      λ h. subst (λ z. f z p.setting) (sym d) (subst (f (difference q r)) (sym s) h),
    )
