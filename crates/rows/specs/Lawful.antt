-- Which rows are lawful for m clocks and n parameters.
use Rattle.std.specs.Prelude.{◌≡◌, ℕ, ◌+◌, ◌<◌, ◌≤◌, Bool, false, not, ◌&&◌, ◌||◌, drop, ℤ, pos, negsuc, neg_ℤ, ◌≤ℤ◌, ◌==◌, int_le, nat_le, slice_index_or}
use Rattle.std.specs.List.{list_all}
use Rattle.rows.specs.declared.row.Row.{Row}

-- coefficient number c: 0 is the scale's, the others are the parameters'
abbrev pub coefficient : Row → ℕ → ℤ
coefficient r c = slice_index_or r.t c (pos 0)

-- at most 1,000,000 from 0
pub record WithinLimit (z : ℤ) : Type 0 where
  pub low : neg_ℤ (pos 1000000) ≤ℤ z
  pub high : z ≤ℤ pos 1000000

-- both marks are at most m, and they differ or are both 0
pub record LawfulMarks (m : ℕ) (r : Row) : Type 0 where
  pub i_known : r.i ≤ m
  pub j_known : r.j ≤ m
  pub apart : r.i ≡ r.j → r.i ≡ 0

-- every coefficient is within the limit, and a parameter above n has coefficient 0
pub record LawfulBound (n : ℕ) (r : Row) : Type 0 where
  pub within : (c : ℕ) → WithinLimit (coefficient r c)
  pub absent : (c : ℕ) → n < c → coefficient r c ≡ pos 0

-- lawful for m clocks and n parameters
pub record Lawful (m n : ℕ) (r : Row) : Type 0 where
  pub marks : LawfulMarks m r
  pub bound : LawfulBound n r

-- the same as a test, for definitions that have to decide

abbrev pub is_within_limit : ℤ → Bool
is_within_limit z = int_le (neg_ℤ (pos 1000000)) z && int_le z (pos 1000000)

abbrev pub is_zero : ℤ → Bool
is_zero (pos n) = n == 0
is_zero (negsuc n) = false

abbrev pub has_lawful_marks : ℕ → Row → Bool
has_lawful_marks m r = nat_le r.i m && (nat_le r.j m && (not (r.i == r.j) || r.i == 0))

abbrev pub has_lawful_bound : ℕ → Row → Bool
has_lawful_bound n r = list_all is_within_limit r.t && list_all is_zero (drop (1 + n) r.t)

abbrev pub is_lawful : ℕ → ℕ → Row → Bool
is_lawful m n r = has_lawful_marks m r && has_lawful_bound n r
