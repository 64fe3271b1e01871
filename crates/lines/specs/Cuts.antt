-- Where a byte first stands.
use Rattle.std.specs.Prelude.{◌≡◌, ℕ, List, ◌∷◌, ◌++◌, Some, None, Option}
use Rattle.std.specs.Borrow.{Bor}
use Rattle.lines.specs.Texts.{Without}

-- the bytes are a front without b, then b, then the rest
pub record Cut (b : ℕ) (xs front rest : List ℕ) : Type 0 where
  pub is : xs ≡ front ++ b ∷ rest
  pub before : Without b front

-- the bytes cut at the first b, or none where it stands nowhere in them
abbrev pub Cuts : ℕ → List ℕ → Option (Bor (List ℕ) × Bor (List ℕ)) → Type 0
Cuts b xs None = Without b xs
Cuts b xs (Some p) = Cut b xs p.0.now p.1.now
