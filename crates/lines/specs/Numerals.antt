-- What is read of a line of values, for definitions that have to decide.
use Rattle.std.specs.Prelude.{ℕ, ◌+◌, ◌-◌, ◌*◌, Bool, true, false, cond, not, ◌&&◌, ◌||◌, List, [], ◌∷◌, length, drop, ℤ, pos, neg_ℤ, Some, None, Option, option_and_then, option_map, ◌==◌, nat_le, nat_lt, slice_index}
use Rattle.std.specs.List.{slice_split}
use Rattle.lines.specs.Texts.{Line}

-- a digit c may follow the number n, below ten million
abbrev pub goes_on : ℕ → ℕ → Bool
goes_on n c = nat_le 48 c && (nat_le c 57 && nat_le n 999999)

-- the number n followed by digits
abbrev pub digits_from : ℕ → List ℕ → Option ℕ
digits_from n [] = Some n
digits_from n (c ∷ cs) = cond (goes_on n c) (digits_from (n * 10 + (c - 48)) cs) None

-- digits with no zero in front
abbrev pub plain : List ℕ → Option ℕ
plain xs = cond (length xs == 0 || (nat_lt 1 (length xs) && slice_index xs 0 == 48)) None (digits_from 0 xs)

-- the number with a minus, which 0 may not have, or without
abbrev pub with_sign : Bool → Option ℕ → Option ℤ
with_sign true o = option_and_then (λ n. cond (n == 0) None (Some (neg_ℤ (pos n)))) o
with_sign false o = option_map pos o

abbrev pub is_minus : List ℕ → Bool
is_minus xs = not (length xs == 0) && slice_index xs 0 == 45

-- the number that a field writes
abbrev pub numeral : List ℕ → Option ℤ
numeral xs = cond (is_minus xs) (with_sign true (plain (drop 1 xs))) (with_sign false (plain xs))

-- a line's fields, between its commas
abbrev pub fields : Line → List (List ℕ)
fields l = slice_split (λ c. c == 44) l

abbrev pub numbers : List (List ℕ) → Option (List ℤ)
numbers [] = Some []
numbers (f ∷ fs) = option_and_then (λ z. option_map (λ zs. z ∷ zs) (numbers fs)) (numeral f)

-- the numbers of a line of values
unfoldable pub reads : Line → Option (List ℤ)
reads l = numbers (fields l)

-- where they are no more than n
abbrev pub at_most : ℕ → Option (List ℤ) → Option (List ℤ)
at_most n o = option_and_then (λ vs. cond (nat_le (length vs) n) (Some vs) None) o
