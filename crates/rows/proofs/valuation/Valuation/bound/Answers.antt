use Rattle.std.proofs.Common.{◌≡◌, ℕ, ◌+◌, ◌*◌, ◌^◌, ◌<◌, ◌≤◌, List, length, get_or, drop, ℤ, pos, ◌+ℤ◌, ◌*ℤ◌, nat_abs, sym, ap, ◌∙◌, arith, w32, SFits, to_z, of_z, rules}
use mir.Syntax.{w128}
use Rattle.std.proofs.lemmas.Int.{ints, to_z-of_z}
use Rattle.rows.specs.Points.{weighted_sum}
use Rattle.rows.specs.Valuations.{weight_of}
use Rattle.rows.proofs.Valuations.{weighted_sum_more}
use Rattle.rows.proofs.valuation.Valuation.bound.Goals as goal

sum_fits : (c : ℕ) (a b : ℤ) → c ≤ 7 → nat_abs a ≤ c * 2 ^ 63 → nat_abs b ≤ 2 ^ 63 → SFits w128 (a +ℤ b)
sum_fits c a b l h k = omega (arith, ints)

sum_size : (c : ℕ) (a b : ℤ) → nat_abs a ≤ c * 2 ^ 63 → nat_abs b ≤ 2 ^ 63 → nat_abs (a +ℤ b) ≤ (c + 1) * 2 ^ 63
sum_size c a b h k = omega (arith, ints)

moved : (a z m : ℤ) → (a +ℤ z) +ℤ m ≡ a +ℤ (z +ℤ m)
moved a z m = omega (arith, ints)

-- one turn, over plain numbers
turn : (f : ℕ → ℕ) (ts : List ℤ) (c : ℕ) (a b : ℤ) → c < length ts → (a +ℤ weighted_sum f c (drop c ts) ≡ weighted_sum f 0 ts) → b ≡ get_or ts c (pos 0) *ℤ pos (f c)
    → (a +ℤ b) +ℤ weighted_sum f (c + 1) (drop (c + 1) ts) ≡ weighted_sum f 0 ts
turn f ts c a b l e p =
    ap (λ z. (a +ℤ z) +ℤ weighted_sum f (c + 1) (drop (c + 1) ts)) p
    ∙ moved a (get_or ts c (pos 0) *ℤ pos (f c)) (weighted_sum f (c + 1) (drop (c + 1) ts))
    ∙ ap (λ z. a +ℤ z) (sym (weighted_sum_more f ts c l))
    ∙ e

-- the same, over the bits that the machine holds
again : (f : ℕ → ℕ) (ts : List ℤ) (c : ℕ) (a b : ℤ) → c < length ts → c ≤ 7 → SFits w128 b → nat_abs a ≤ c * 2 ^ 63 → nat_abs b ≤ 2 ^ 63
    → (a +ℤ weighted_sum f c (drop c ts) ≡ weighted_sum f 0 ts) → b ≡ get_or ts c (pos 0) *ℤ pos (f c)
    → (to_z w128 (of_z w128 (a +ℤ to_z w128 (of_z w128 b))) +ℤ weighted_sum f (c + 1) (drop (c + 1) ts) ≡ weighted_sum f 0 ts) × (nat_abs (to_z w128 (of_z w128 (a +ℤ to_z w128 (of_z w128 b)))) ≤ (c + 1) * 2 ^ 63)
again f ts c a b l s g h k e p =
    let q : SFits w128 (a +ℤ b) = sum_fits c a b s h k in
    (simp to_z-of_z (turn f ts c a b l e p), simp to_z-of_z (sum_size c a b h k))

pub loop-c-preserved : goal.loop-c-preserved
loop-c-preserved c =
    let v = c.args.self.now in
    let ts = c.args.t.now in
    let k = c.loop-c.c in
    let g : SFits w128 c.product-sum.result = search rules in
    let z : SFits w32 (get_or ts k (pos 0)) = search rules in
    let e = simp to_z-of_z at c.product-sum.ensures.value in
    again (weight_of v.scale v.values.now) ts k _ c.product-sum.result (omega arith) c.loop-c.auto.c-end g c.loop-c.invariant.1 c.product-sum.ensures.size c.loop-c.invariant.0
    (e ∙ ap (λ n. get_or ts k (pos 0) *ℤ pos n) c.weight.ensures)
