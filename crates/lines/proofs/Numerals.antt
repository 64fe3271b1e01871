use Rattle.std.proofs.Common.{◌≡◌, ℕ, zero, suc, ◌+◌, ◌-◌, ◌*◌, ◌^◌, ◌<◌, ◌≤◌, Bool, true, false, cond, ◌&&◌, ◌||◌, eqb, ltb, List, [], ◌∷◌, length, get_or, drop, ℤ, pos, negsuc, Some, None, decimal, Option, sym, refl, ap, ◌∙◌, arith, rules}
use lib.Dec.{eqb-suc-zero}
use Rattle.std.specs.List.{All}
use Rattle.std.specs.Fmt.{signed_decimal}
use Rattle.std.proofs.lemmas.Bool.{false≢true, cond-true, cond-false}
use Rattle.std.proofs.lemmas.Bool.Decides.{nat_tests}
use Rattle.std.proofs.lemmas.Option.{none-some}
use Rattle.std.proofs.lemmas.List.Elements.{All-nil, All-cons, All-head, All-tail, All-weaker}
use Rattle.std.proofs.lemmas.Str.Parse.{IsNumeralModel, IsDigitsTest, numerals_by_fold, not_in_digits}
use Rattle.std.proofs.lemmas.Fmt.{decimal-digits_value, digits_value-decimal, digits_decimal, decimal_nonempty, decimal_digit, first_decimal}
use Rattle.lines.specs.Numerals.{goes_on, digits_from, plain, with_sign, is_minus, numeral}
use Rattle.lines.specs.Values.{Short}

abbrev Digit : ℕ → Type 0
Digit c = (48 ≤ c) × (c ≤ 57)

are_digits : IsDigitsTest (All Digit)
are_digits = record { empty = All-nil Digit; parts = λ c cs a. (All-head Digit c cs a, All-tail Digit c cs a); more = λ c cs d a. All-cons Digit c cs d a }

abbrev read_on : ℕ → List ℕ → ℕ
read_on n [] = n
read_on n (c ∷ cs) = read_on (n * 10 + (c - 48)) cs

own : IsNumeralModel (All Digit) (read_on 0)
own = numerals_by_fold (All Digit) are_digits read_on (search rules)

read_on_ge : (n : ℕ) (ds : List ℕ) → n ≤ read_on n ds
read_on_ge n [] = omega arith
read_on_ge n (c ∷ cs) = omega (arith, read_on_ge (n * 10 + (c - 48)) cs)

goes_on_in : (n c : ℕ) → goes_on n c ≡ true → Digit c × (n ≤ 999999)
goes_on_in n c e = grind (arith, nat_tests)

goes_on_out : (n c : ℕ) → Digit c → n ≤ 999999 → goes_on n c ≡ true
goes_on_out n c d b = grind (arith, nat_tests)

abbrev Read : ℕ → List ℕ → ℕ → Type 0
Read n ds m = All Digit ds × (read_on n ds ≡ m) × (m < 10000000)

digits_by : (n c : ℕ) (cs : List ℕ) (m : ℕ) (t : Bool) → goes_on n c ≡ t → cond t (digits_from (n * 10 + (c - 48)) cs) None ≡ Some m → (n * 10 + (c - 48) < 10000000 → digits_from (n * 10 + (c - 48)) cs ≡ Some m → Read (n * 10 + (c - 48)) cs m) → Read n (c ∷ cs) m
digits_by n c cs m true q k ih =
    let (d, s) = goes_on_in n c q in
    let (a, r, f) = ih (omega arith) k in
    (All-cons Digit c cs d a, r, f)
digits_by n c cs m false q k ih = absurd (none-some m k)

digits_in : (n : ℕ) (ds : List ℕ) (m : ℕ) → n < 10000000 → digits_from n ds ≡ Some m → Read n ds m
digits_in n [] m b e = let q : n ≡ m = cc in (All-nil Digit, q, omega arith)
digits_in n (c ∷ cs) m b e = digits_by n c cs m (goes_on n c) refl e (λ f. digits_in (n * 10 + (c - 48)) cs m f)

digits_out : (n : ℕ) (ds : List ℕ) → All Digit ds → read_on n ds < 10000000 → digits_from n ds ≡ Some (read_on n ds)
digits_out n [] a b = refl
digits_out n (c ∷ cs) a b =
    rw (goes_on_out n c (All-head Digit c cs a) (omega (arith, read_on_ge (n * 10 + (c - 48)) cs))) (digits_out (n * 10 + (c - 48)) cs (All-tail Digit c cs a) b)

-- a numeral with no zero in front is what `decimal` writes
abbrev leads : List ℕ → Bool
leads xs = eqb (length xs) 0 || (ltb 1 (length xs) && eqb (get_or xs 0 0) 48)

leads_in : (ds : List ℕ) → leads ds ≡ false → (0 < length ds) × (get_or ds 0 0 ≡ 48 → length ds ≡ 1)
leads_in ds e = grind (arith, nat_tests)

leads_out : (ds : List ℕ) → 0 < length ds → (get_or ds 0 0 ≡ 48 → length ds ≡ 1) → leads ds ≡ false
leads_out ds a b = grind (arith, nat_tests)

plain_by : (ds : List ℕ) (n : ℕ) (t : Bool) → leads ds ≡ t → cond t None (digits_from 0 ds) ≡ Some n → (ds ≡ decimal n) × (n < 10000000)
plain_by ds n true q e = absurd (none-some n e)
plain_by ds n false q e =
    let (a, r, f) = digits_in 0 ds n (omega arith) e in
    let (p, o) = leads_in ds q in
    let g : read_on 0 ds < 2 ^ 64 = omega arith in
    (sym (decimal-digits_value own ds a p o g) ∙ ap decimal r, f)

plain_in : (ds : List ℕ) (n : ℕ) → plain ds ≡ Some n → (ds ≡ decimal n) × (n < 10000000)
plain_in ds n e = plain_by ds n (leads ds) refl e

one_zero : (n : ℕ) → n < 10000000 → get_or (decimal n) 0 0 ≡ 48 → length (decimal n) ≡ 1
one_zero zero b e = ap length (decimal_digit 0 (omega arith))
one_zero (suc n) b e = absurd (omega (arith, first_decimal (suc n) (omega arith) (omega arith)))

plain_out : (n : ℕ) → n < 10000000 → plain (decimal n) ≡ Some n
plain_out n b =
    let big : n < 2 ^ 64 = omega arith in
    let v : read_on 0 (decimal n) ≡ n = digits_value-decimal own n big in
    let q : leads (decimal n) ≡ false = leads_out (decimal n) (decimal_nonempty n big) (one_zero n b) in
    let d : digits_from 0 (decimal n) ≡ Some (read_on 0 (decimal n)) = digits_out 0 (decimal n) (digits_decimal own n big) (omega arith) in
    let c : cond (leads (decimal n)) None (digits_from 0 (decimal n)) ≡ digits_from 0 (decimal n) = cond-false (leads (decimal n)) None (digits_from 0 (decimal n)) q in
    c ∙ (d ∙ ap Some v)

minus_by : (f : List ℕ) (o : Option ℕ) (z : ℤ) → is_minus f ≡ true → plain (drop 1 f) ≡ o → with_sign true o ≡ Some z → (f ≡ signed_decimal z) × Short z
minus_by f None z q p e = absurd (none-some z e)
minus_by f (Some zero) z q p e = absurd (none-some z e)
minus_by [] (Some (suc n)) z q p e = absurd (false≢true q)
minus_by (x ∷ ds) (Some (suc n)) z q p e =
    let k : x ≡ 45 = grind (arith, nat_tests) in
    let (a, b) = plain_in ds (suc n) p in
    let s : cond (eqb (suc n) 0) None (Some (negsuc n)) ≡ Some (negsuc n) = cond-false (eqb (suc n) 0) None (Some (negsuc n)) (eqb-suc-zero n) in
    let w : z ≡ negsuc n = cc in
    (rw (w, k, a), rw w b)

plus_by : (f : List ℕ) (o : Option ℕ) (z : ℤ) → plain f ≡ o → with_sign false o ≡ Some z → (f ≡ signed_decimal z) × Short z
plus_by f None z p e = absurd (none-some z e)
plus_by f (Some n) z p e =
    let (a, b) = plain_in f n p in
    let w : z ≡ pos n = cc in
    (rw (w, a), rw w b)

numeral_by : (f : List ℕ) (t : Bool) (z : ℤ) → is_minus f ≡ t → cond t (with_sign true (plain (drop 1 f))) (with_sign false (plain f)) ≡ Some z → (f ≡ signed_decimal z) × Short z
numeral_by f true z q e = minus_by f (plain (drop 1 f)) z q refl e
numeral_by f false z q e = plus_by f (plain f) z refl e

-- a field is read as z exactly where it is z in decimal, of at most seven digits
pub numeral_in : (f : List ℕ) (z : ℤ) → numeral f ≡ Some z → (f ≡ signed_decimal z) × Short z
numeral_in f z e = numeral_by f (is_minus f) z refl e

no_minus : (n : ℕ) → n < 10000000 → is_minus (decimal n) ≡ false
no_minus n b =
    let big : n < 2 ^ 64 = omega arith in
    let d : All Digit (decimal n) = digits_decimal own n big in
    let p = decimal_nonempty n big in
    let k : get_or (decimal n) 0 0 ≡ 45 → ⊥ = not_in_digits own (decimal n) 45 d (λ i. omega arith) 0 p in
    grind (arith, nat_tests)

pub numeral_out : (z : ℤ) → Short z → numeral (signed_decimal z) ≡ Some z
numeral_out (pos n) b = rw (no_minus n b, plain_out n b)
numeral_out (negsuc n) b =
    let d : List ℕ = decimal (suc n) in
    let m : is_minus (45 ∷ d) ≡ true = grind (arith, nat_tests) in
    cond-true (is_minus (45 ∷ d)) (with_sign true (plain d)) (with_sign false (plain (45 ∷ d))) m ∙ rw (plain_out (suc n) b, eqb-suc-zero n)

above_digits : (ds : List ℕ) → All Digit ds → All (λ c. 44 < c) ds
above_digits ds a = All-weaker Digit (λ c. 44 < c) (λ c d. omega arith) ds a

-- a number in decimal has no comma, and nothing below
pub signed_above : (z : ℤ) → Short z → All (λ c. 44 < c) (signed_decimal z)
signed_above (pos n) b = above_digits (decimal n) (digits_decimal own n (omega arith))
signed_above (negsuc n) b = All-cons (λ c. 44 < c) 45 (decimal (suc n)) (omega arith) (above_digits (decimal (suc n)) (digits_decimal own (suc n) (omega arith)))
