-- A test that asks each element with its place, as a chain over `enumerate` does, and accepts those of the first places.
use Rattle.std.proofs.Common.{◌≡◌, ℕ, zero, suc, ◌+◌, ◌≤◌, Bool, true, false, ◌||◌, List, [], ◌∷◌, drop, refl, arith}
use Rattle.std.specs.Prelude.{nat_lt}
use Rattle.std.specs.List.{list_all, enumerate_from}
use Rattle.std.proofs.lemmas.Bool.Decides.{nat_tests}

module _ {X : Type 0} (f : X → Bool) where
  -- asked from place k on, where the first m are past
  asked_past : (m k : ℕ) (xs : List X) → m ≤ k → list_all (λ p. f p.1 || nat_lt p.0 m) (enumerate_from k xs) ≡ list_all f xs
  asked_past m k [] h = refl
  asked_past m k (x ∷ xs) h =
      let e : nat_lt k m ≡ false = grind (arith, nat_tests) in
      let i = asked_past m (k + 1) xs (omega arith) in
      grind arith

  -- and where d of them are still to come
  asked_from : (m k d : ℕ) (xs : List X) → m ≡ k + d → list_all (λ p. f p.1 || nat_lt p.0 m) (enumerate_from k xs) ≡ list_all f (drop d xs)
  asked_from m k zero xs h = asked_past m k xs (omega arith)
  asked_from m k (suc d) [] h = refl
  asked_from m k (suc d) (x ∷ xs) h =
      let e : nat_lt k m ≡ true = grind (arith, nat_tests) in
      let i = asked_from m (k + 1) d xs (omega arith) in
      grind arith

  -- it asks of those from place m on
  pub from_place : (m : ℕ) (xs : List X) → list_all (λ p. f p.1 || nat_lt p.0 m) (enumerate_from 0 xs) ≡ list_all f (drop m xs)
  from_place m xs = asked_from m 0 m xs (omega arith)
