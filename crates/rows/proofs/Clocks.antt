-- The test of a set of clocks decides whether it has none but the first m.
use Rattle.std.proofs.Common.{◌≡◌, ℕ, zero, suc, ◌+◌, ◌-◌, ◌<◌, Bool, false, not, List, length, get_or, drop, Decides, sym, refl, ap, ◌∙◌, inl, inr, arith}
use Rattle.std.specs.Prelude.{All}
use Rattle.std.specs.List.{list_all}
use Rattle.std.proofs.lemmas.Bool.{both_ways, cases_lt, cases_Bool}
use Rattle.std.proofs.lemmas.Bool.Decides.{Decides-by_and, Decides-like}
use Rattle.std.proofs.lemmas.List.{get_or-drop, get_or_past}
use Rattle.std.proofs.lemmas.List.Elements.{All-from_get_or}
use Rattle.rows.specs.declared.clock_set.ClockSet.{ClockSet}
use Rattle.rows.specs.Moves.{WithinClocks, is_within_clocks}

not_decides : (b : Bool) → Decides (not b) (b ≡ false)
not_decides b = (λ h. grind arith, λ h. grind arith)

-- what none has behind place m, none has at a place from m on
none_from : (m : ℕ) (bs : List Bool) → All (λ b. b ≡ false) (drop m bs) → (c : ℕ) → m < suc c → get_or bs c false ≡ false
none_from m bs h c l =
    let k = c - m in
    let e : m + k ≡ c = omega arith in
    ap (λ i. get_or bs i false) (sym e) ∙ sym (get_or-drop m bs k false)
    ∙ elim (cases_lt k (length (drop m bs))) [ inl i ↦ h k false i | inr g ↦ get_or_past (drop m bs) k false g ]

pub within_clocks_decides : (m : ℕ) (set : ClockSet) → Decides (is_within_clocks m set) (WithinClocks m set)
within_clocks_decides m set =
    Decides-like (is_within_clocks m set) means (λ f. All-from_get_or (λ b. b ≡ false) (drop m set.members) false (λ c l. get_or-drop m set.members c false ∙ absent f (m + c) (omega arith)))
    (Decides-by_and not (λ b. b ≡ false) (list_all not) not_decides refl (λ _ _. refl) (drop m set.members))
  where
    means : All (λ b. b ≡ false) (drop m set.members) → WithinClocks m set
    means h zero e = absurd (both_ways false refl e)
    means h (suc c) e = elim (cases_lt m (suc c)) [ inl l ↦ absurd (both_ways (get_or set.members c false) (none_from m set.members h c l) e) | inr g ↦ g ]

    absent : WithinClocks m set → (c : ℕ) → m < suc c → get_or set.members c false ≡ false
    absent f c l = elim (cases_Bool (get_or set.members c false)) [ inl e ↦ (let k = f (suc c) e in absurd (omega arith)) | inr e ↦ e ]
