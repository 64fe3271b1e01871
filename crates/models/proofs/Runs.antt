-- Where runs stay, and that a table without bad locations avoids them.
use Rattle.std.specs.List.{list_any, range_with_len}
use Rattle.std.proofs.lemmas.List.FromFn.{length-range_with_len, get_or-range_with_len}
use Rattle.std.proofs.Common.{length, get_or, sym, ◌∙◌, subst, arith, ◌≡◌, ℕ, ◌<◌, ◌≤◌, true, false, Decides, refl, inl, inr}
use Rattle.std.proofs.lemmas.Bool.{both_ways, cases_lt}
use Rattle.std.proofs.lemmas.Bool.Decides.{Decides-like, Decides-by_or}
use Rattle.std.proofs.lemmas.List.Elements.{All-nil}
use Rattle.rows.specs.Points.{Setting, Meets}
use Rattle.rows.specs.Moves.{at}
use Rattle.models.specs.Tables.{Table, Limits}
use Rattle.models.specs.Runs.{State, Run, begins, waits, steps, AvoidsBad, HasBad}
use Rattle.models.specs.Laws.{RunLaws}

pub run_inside : (M : Table) (s : Setting) (x : State) → Limits M → Run M s x → x.location < M.shape.locations
run_inside M s _ h (begins i) = h.numbers.first
run_inside M s _ h (waits r d i) = run_inside M s _ h r
run_inside M s _ h (steps {e = e} r k p g i) = (h.edges k e p).target

pub run_invariant : (M : Table) (s : Setting) (x : State) → Run M s x → Meets (at s x.clocks) (M.invariant x.location)
run_invariant M s _ (begins i) = i
run_invariant M s _ (waits r d i) = i
run_invariant M s _ (steps r k p g i) = i

pub run_laws : RunLaws
run_laws = record {
  inside = run_inside;
  invariant = run_invariant;
  shut = λ s h. h (record { location = 0; clocks = λ _. 0 }) (begins (All-nil _)) refl;
}

place : (n k d : ℕ) → k < n → get_or (range_with_len 0 n) k d ≡ k
place n k d l = get_or-range_with_len 0 n k d l ∙ omega arith

-- what is bad is one of the table's locations
pub bad_decides : (M : Table) → Limits M → Decides (list_any M.bad (range_with_len 0 M.shape.locations)) (HasBad M)
bad_decides M h =
    let n = M.shape.locations in
    let all = range_with_len 0 n in
    let l : length all ≡ n = length-range_with_len 0 n in
    Decides-like (list_any M.bad all)
    (λ x. (x.0, subst (λ q. M.bad q ≡ true) (place n x.0 0 (omega (arith, l, x.1))) (x.2 0)))
    (λ x. let i = inside x.0 x.1 in (x.0, omega (arith, l, i), λ d. subst (λ q. M.bad q ≡ true) (sym (place n x.0 d i)) x.1))
    (Decides-by_or M.bad (λ q. M.bad q ≡ true) (list_any M.bad) (λ q. (λ e. e, λ e. e)) refl (λ _ _. refl) all)
  where
    inside : (q : ℕ) → M.bad q ≡ true → q < M.shape.locations
    inside q e = elim (cases_lt q M.shape.locations) [ inl l ↦ l | inr g ↦ absurd (both_ways (M.bad q) (h.no_bad q g) e) ]

-- where none is, no run reaches one
pub avoids_unless : (M : Table) → Limits M → list_any M.bad (range_with_len 0 M.shape.locations) ≡ false → (s : Setting) → AvoidsBad M s
avoids_unless M l n s x r k = both_ways (list_any M.bad (range_with_len 0 M.shape.locations)) n ((bad_decides M l).1 (x.location, k))

-- no location up to the last is bad, so none is
pub none_bad : (M : Table) (n : ℕ) → Limits M → M.shape.locations ≤ n → ((k : ℕ) → k < n → M.bad k ≡ false) → (q : ℕ) → M.bad q ≡ false
none_bad M n h e f q = elim (cases_lt q n) [ inl l ↦ f q l | inr g ↦ h.no_bad q (omega arith) ]

pub decides_none : (M : Table) → ((q : ℕ) → M.bad q ≡ false) → Decides false (HasBad M)
decides_none M f = (λ e. absurd (both_ways false refl e), λ b. absurd (both_ways (M.bad b.0) (f b.0) b.1))

pub avoids_none : (M : Table) → ((q : ℕ) → M.bad q ≡ false) → (s : Setting) → AvoidsBad M s
avoids_none M f s x r e = both_ways (M.bad x.location) (f x.location) e
