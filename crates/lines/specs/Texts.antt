-- Texts and their lines.
use Rattle.std.specs.Prelude.{◌≡◌, ℕ, false, cond, All, List, [], ◌∷◌, ◌++◌, ◌==◌}
use Rattle.std.specs.List.{flat_map, onto_first}

-- the byte stands nowhere in these
abbrev pub Without : ℕ → List ℕ → Type 0
Without b xs = All (λ c. (c == b) ≡ false) xs

-- a line of a text, without its end
abbrev pub Line : Type 0
Line = List ℕ

-- no end of a line, byte 10, stands in it
abbrev pub Unbroken : Line → Type 0
Unbroken l = Without 10 l

-- a line with its end
abbrev pub ended : Line → List ℕ
ended l = l ++ 10 ∷ []

-- the text of these lines, each with its end
abbrev pub written : List Line → List ℕ
written ls = flat_map ended ls

-- the lines of a text, each with its end; the last may have none
abbrev pub pieces : List ℕ → List (List ℕ)
pieces [] = []
pieces (x ∷ xs) = cond (x == 10) ((x ∷ []) ∷ pieces xs) (onto_first x (pieces xs))
