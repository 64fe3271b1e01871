use Rattle.std.proofs.Common.{◌≡◌, ◌*◌, ◌^◌, ◌≤◌, drop, ◌+ℤ◌, nat_abs}
use Rattle.rows.specs.Points.{weighted_sum}
use Rattle.rows.specs.Valuations.{weight_of}
use Rattle.rows.proofs.valuation.Valuation.bound.Given as goal

-- the sum with what is left is the whole, and each turn adds at most 2 ^ 63
abbrev pub invariant-loop-c : goal.invariant-loop-c
invariant-loop-c l =
    (l.sum +ℤ weighted_sum (weight_of l.self.scale l.self.values.now) l.c (drop l.c l.t) ≡ weighted_sum (weight_of l.self.scale l.self.values.now) 0 l.t)
    × (nat_abs l.sum ≤ l.c * 2 ^ 63)
