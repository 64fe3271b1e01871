-- The tests of a setting in numbers decide what they are to tell.
use Rattle.std.proofs.Common.{◌≡◌, ℕ, zero, suc, ◌+◌, ◌<◌, ◌≤◌, Bool, true, false, leb, List, [], ◌∷◌, length, get_or, drop, ℤ, pos, ◌+ℤ◌, ◌-ℤ◌, ◌*ℤ◌, Decides, sym, refl, ap, ◌∙◌, arith}
use Rattle.std.specs.List.{list_all}
use Rattle.std.proofs.lemmas.List.{at_drop_more, at_drop_all, get_or_past}
use Rattle.std.proofs.lemmas.Int.{ints}
use Rattle.std.proofs.lemmas.Bool.Decides.{nat_tests, Decides-at, Decides-by_and}
use Rattle.rows.specs.declared.row.Row.{Row}
use Rattle.rows.specs.Points.{weight, weighted_sum, bound, Ordered}
use Rattle.rows.specs.Moves.{marks}
use Rattle.rows.specs.Valuations.{ValuesWithinLimit, InRange, setting_of, Tells, are_within_limit, is_in_range, weight_of, is_ordered, is_met}

pub weighted_sum_more : (f : ℕ → ℕ) (ts : List ℤ) (c : ℕ) → c < length ts → weighted_sum f c (drop c ts) ≡ get_or ts c (pos 0) *ℤ pos (f c) +ℤ weighted_sum f (c + 1) (drop (c + 1) ts)
weighted_sum_more f ts c h =
    at_drop_more (weighted_sum f c) ts c (pos 0) h ∙ ap (λ d. get_or ts c (pos 0) *ℤ pos (f c) +ℤ weighted_sum f d (drop (c + 1) ts)) (omega arith)

pub weighted_sum_all : (f : ℕ → ℕ) (ts : List ℤ) (c : ℕ) → length ts ≤ c → weighted_sum f c (drop c ts) ≡ pos 0
weighted_sum_all f ts c h = at_drop_all (weighted_sum f c) ts c h

pub weighted_sum_like : (f g : ℕ → ℕ) → ((c : ℕ) → f c ≡ g c) → (c : ℕ) (ts : List ℤ) → weighted_sum f c ts ≡ weighted_sum g c ts
weighted_sum_like f g e c [] = refl
weighted_sum_like f g e c (t ∷ ts) =
    ap (λ n. t *ℤ pos n +ℤ weighted_sum f (suc c) ts) (e c) ∙ ap (λ z. t *ℤ pos (g c) +ℤ z) (weighted_sum_like f g e (suc c) ts)

pub weight_of_past : (scale : ℕ) (values : List ℕ) (c : ℕ) → length values < c → weight_of scale values c ≡ 0
weight_of_past scale values zero h = absurd (omega arith)
weight_of_past scale values (suc c) h = get_or_past values c 0 (omega arith)

ordered_decides : (b : Bool) (x y : ℤ) → Decides (is_ordered b x y) (Ordered b x y)
ordered_decides true x y = (λ h. grind (arith, ints), λ h. grind (arith, ints))
ordered_decides false x y = (λ h. grind (arith, ints), λ h. grind (arith, ints))

limit_decides : (v : ℕ) → Decides (leb v 1000000000) (v ≤ 1000000000)
limit_decides v = (λ h. grind (arith, nat_tests), λ h. grind (arith, nat_tests))

pub values_decide : (ns : List ℕ) → Decides (are_within_limit ns) (ValuesWithinLimit ns)
values_decide ns = Decides-by_and (λ v. leb v 1000000000) (λ v. v ≤ 1000000000) (list_all (λ v. leb v 1000000000)) limit_decides refl (λ _ _. refl) ns

zero_mark : (c : ℕ) → marks (λ _. 0) c ≡ 0
zero_mark zero = refl
zero_mark (suc c) = refl

module _ (k : ℕ) (vs : List ℕ) where
  weight_given : (h : 0 < k) (c : ℕ) → weight_of k vs c ≡ weight (setting_of k h vs) c
  weight_given h zero = refl
  weight_given h (suc c) = refl

  -- the test decides the bound on any difference that is 0
  met_decides : (r : Row) (h : 0 < k) (a b : ℕ) → a ≡ b → Decides (is_met k vs r) (Ordered r.strict (pos a -ℤ pos b) (bound (setting_of k h vs) r))
  met_decides r h a b e =
      let d : pos 0 ≡ pos a -ℤ pos b = omega (arith, ints) in
      let w = weighted_sum_like (weight_of k vs) (weight (setting_of k h vs)) (weight_given h) 0 r.t in
      Decides-at _ _ (ap (λ y. is_ordered r.strict y (weighted_sum (weight_of k vs) 0 r.t)) d ∙ ap (is_ordered r.strict (pos a -ℤ pos b)) w)
      (ordered_decides r.strict (pos a -ℤ pos b) (bound (setting_of k h vs) r))

  pub met_tells : (r : Row) → Tells k vs r (is_met k vs r)
  met_tells r = record {
    at_start = λ h. met_decides r h (marks (λ _. 0) r.i) (marks (λ _. 0) r.j) (zero_mark r.i ∙ sym (zero_mark r.j));
    everywhere = λ h e w. met_decides r h (marks w r.i) (marks w r.j) (ap (marks w) e);
  }

  pub in_range_decides : (n : ℕ) → Decides (is_in_range n k vs) (InRange n k vs)
  in_range_decides n = (
    λ h.
        let s : are_within_limit vs ≡ true = grind arith in
        record { count = grind (arith, nat_tests); scale_low = grind (arith, nat_tests); scale_high = grind (arith, nat_tests); within = (values_decide vs).0 s },
    λ h.
        let a = h.count in
        let b = h.scale_low in
        let d = h.scale_high in
        let s = (values_decide vs).1 h.within in
        grind (arith, nat_tests),
  )
