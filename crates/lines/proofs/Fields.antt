use Rattle.std.proofs.Common.{◌≡◌, ℕ, ◌<◌, false, eqb, List, [], ◌∷◌, map, ℤ, Some, None, Option, sym, refl, ap, ◌∙◌, subst, arith}
use Rattle.std.specs.List.{All, join_with_byte}
use Rattle.std.specs.Option.{option_and_then, option_map}
use Rattle.std.specs.Fmt.{signed_decimal}
use Rattle.std.proofs.lemmas.Bool.{ne_eqb}
use Rattle.std.proofs.lemmas.List.Elements.{All-nil, All-cons, All-head, All-tail, All-append, All-map, All-weaker}
use Rattle.std.proofs.lemmas.List.Splits.{slice_split_none, slice_split_at, join_with_byte-slice_split}
use Rattle.std.proofs.lemmas.Option.{none-some}
use Rattle.lines.specs.Texts.{Line, Without, Unbroken}
use Rattle.lines.specs.Numerals.{numeral, fields, numbers, reads}
use Rattle.lines.specs.Values.{Short, value_line, Valued}
use Rattle.lines.proofs.Numerals.{numeral_in, numeral_out, signed_above}

-- a number in decimal has no byte up to the comma
without : (b : ℕ) → b < 45 → (z : ℤ) → Short z → Without b (signed_decimal z)
without b l z s = All-weaker (λ c. 44 < c) (λ c. eqb c b ≡ false) (λ c h. ne_eqb c b (λ e. omega arith)) (signed_decimal z) (signed_above z s)

fields_joined : (f : List ℕ) (gs : List (List ℕ)) → All (Without 44) (f ∷ gs) → fields (join_with_byte 44 (f ∷ gs)) ≡ f ∷ gs
fields_joined f [] a = slice_split_none (λ c. eqb c 44) f (All-head (Without 44) f [] a)
fields_joined f (g ∷ gs) a =
    slice_split_at (λ c. eqb c 44) f 44 (join_with_byte 44 (g ∷ gs)) (All-head (Without 44) f (g ∷ gs) a) refl
    ∙ ap (λ (r : List (List ℕ)). f ∷ r) (fields_joined g gs (All-tail (Without 44) f (g ∷ gs) a))

abbrev Are : List (List ℕ) → List ℤ → Type 0
Are fs vs = (fs ≡ map signed_decimal vs) × All Short vs

numbers_by : (f : List ℕ) (fs : List (List ℕ)) (vs : List ℤ) (o : Option ℤ) (p : Option (List ℤ)) → numeral f ≡ o → numbers fs ≡ p → option_and_then (λ z. option_map (λ zs. z ∷ zs) p) o ≡ Some vs → ((zs : List ℤ) → numbers fs ≡ Some zs → Are fs zs) → Are (f ∷ fs) vs
numbers_by f fs vs None p a b e ih = absurd (none-some vs e)
numbers_by f fs vs (Some z) None a b e ih = absurd (none-some vs e)
numbers_by f fs vs (Some z) (Some zs) a b e ih =
    let q : vs ≡ z ∷ zs = cc in
    let (c, s) = numeral_in f z a in
    let (d, t) = ih zs b in
    (rw (q, c, d), rw q (All-cons Short z zs s t))

numbers_in : (fs : List (List ℕ)) (vs : List ℤ) → numbers fs ≡ Some vs → Are fs vs
numbers_in [] vs e = let q : vs ≡ [] = cc in (rw q, rw q (All-nil Short))
numbers_in (f ∷ fs) vs e = numbers_by f fs vs (numeral f) (numbers fs) refl refl e (numbers_in fs)

numbers_out : (vs : List ℤ) → All Short vs → numbers (map signed_decimal vs) ≡ Some vs
numbers_out [] a = refl
numbers_out (v ∷ vs) a = rw (numeral_out v (All-head Short v vs a), numbers_out vs (All-tail Short v vs a))

unbroken_values : (vs : List ℤ) → All Short vs → Unbroken (value_line vs)
unbroken_values [] a = All-nil (λ c. eqb c 10 ≡ false)
unbroken_values (v ∷ []) a = without 10 (omega arith) v (All-head Short v [] a)
unbroken_values (v ∷ w ∷ vs) a =
    All-append (λ c. eqb c 10 ≡ false) (signed_decimal v) (44 ∷ value_line (w ∷ vs)) (without 10 (omega arith) v (All-head Short v (w ∷ vs) a))
    (All-cons (λ c. eqb c 10 ≡ false) 44 (value_line (w ∷ vs)) refl (unbroken_values (w ∷ vs) (All-tail Short v (w ∷ vs) a)))

pub valued_unbroken : (l : Line) (vs : List ℤ) → Valued l vs → Unbroken l
valued_unbroken l vs d = subst Unbroken (sym d.is) (unbroken_values vs d.short)

-- a line is read as these numbers exactly where it is their line
pub reads_in : (l : Line) (vs : List ℤ) → reads l ≡ Some vs → Valued l vs
unfolding reads
reads_in l vs e =
    let (q, s) = numbers_in (fields l) vs e in
    record { is = sym (join_with_byte-slice_split 44 l) ∙ ap (join_with_byte 44) q; short = s }

pub reads_out : (l : Line) (v : ℤ) (vs : List ℤ) → Valued l (v ∷ vs) → reads l ≡ Some (v ∷ vs)
unfolding reads
reads_out l v vs d =
    let a : All Short (v ∷ vs) = d.short in
    let w : All (Without 44) (map signed_decimal (v ∷ vs)) = All-map (Without 44) signed_decimal (v ∷ vs) (All-weaker Short (λ z. Without 44 (signed_decimal z)) (without 44 (omega arith)) (v ∷ vs) a) in
    let q : fields l ≡ map signed_decimal (v ∷ vs) = ap fields d.is ∙ fields_joined (signed_decimal v) (map signed_decimal vs) w in
    ap numbers q ∙ numbers_out (v ∷ vs) a
