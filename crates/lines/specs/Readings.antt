-- What is read of a field and of a line, by what it is the writing of.
use Rattle.std.specs.Prelude.{◌≡◌, ℕ, ◌<◌, ◌≤◌, List, length, take, ℤ, Some, None, Option, ◌≢◌}
use Rattle.std.specs.Fmt.{signed_decimal}
use Rattle.lines.specs.declared.values.Values.{Values}
use Rattle.lines.specs.Texts.{Line}
use Rattle.lines.specs.Values.{Short, Valued}

-- the number of at most seven digits that the field writes, or none where it writes no such number
abbrev pub WritesNumber : List ℕ → Option ℤ → Type 0
WritesNumber f None = (z : ℤ) → Short z → f ≢ signed_decimal z
WritesNumber f (Some z) = (f ≡ signed_decimal z) × Short z

-- the one to n numbers whose line it is, or none where it is the line of no such numbers
abbrev pub WritesValues : ℕ → Line → Option (List ℤ) → Type 0
WritesValues n l None = (vs : List ℤ) → 0 < length vs → length vs ≤ n → Valued l vs → ⊥
WritesValues n l (Some vs) = Valued l vs

-- the numbers that are held
abbrev pub shown : Values → List ℤ
shown v = take v.count v.held
