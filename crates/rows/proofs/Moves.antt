-- Sets of clocks, and what the replaced rows say.
use Rattle.std.proofs.Common.{◌≡◌, ℕ, zero, suc, ◌+◌, ◌<◌, ◌≤◌, Bool, true, false, cond, eqb, ◌↔◌, length, refl, ap, arith}
use Rattle.std.proofs.lemmas.List.{get_or_past}
use Rattle.std.proofs.lemmas.Bool.{ne_eqb, eqb-true, cond-false, cond_both}
use Rattle.rows.specs.declared.row.Row.{Row}
use Rattle.rows.specs.declared.clock_set.ClockSet.{ClockSet}
use Rattle.rows.specs.Points.{Setting, Holds}
use Rattle.rows.specs.Moves.{Clocks, has, marks, at, after_reset, later, with_wait, waited, mark_before_reset, before_reset, mark_after_wait, after_wait, SaysBeforeReset, SaysAfterWait}
use Rattle.rows.proofs.Points.{with_marks, holds_like}

pub has_past : (set : ClockSet) (c : ℕ) → length set.members < c → has set c ≡ false
has_past set zero h = refl
has_past set (suc c) h = get_or_past set.members c false (omega arith)

-- the mark read before the reset is the mark after it
mark_reset : (set : ClockSet) (w : Clocks) (c : ℕ) → marks w (mark_before_reset set c) ≡ marks (after_reset set w) c
mark_reset set w zero = refl
mark_reset set w (suc c) = go (has set (suc c))
  where
    go : (b : Bool) → marks w (cond b 0 (suc c)) ≡ cond b 0 (w (suc c))
    go true = refl
    go false = refl

pub says_before_reset : (set : ClockSet) (r : Row) → SaysBeforeReset set r (before_reset set r)
says_before_reset set r s w =
    holds_like r (mark_before_reset set r.i) (mark_before_reset set r.j) (at s w) (at s (after_reset set w)) refl
    (omega (arith, mark_reset set w r.i, mark_reset set w r.j))

-- a mark up to the clocks does not see x7
waited_clock : (w : Clocks) (d c : ℕ) → c ≤ 6 → marks (with_wait w d) c ≡ marks (later w d) c
waited_clock w d zero h = refl
waited_clock w d (suc c) h = cond-false (eqb (suc c) 7) d (w (suc c) + d) (ne_eqb (suc c) 7 (λ e. omega arith))

-- a row on clocks holds after the wait as it holds on the later clocks
pub says_on_clocks : (r : Row) → r.i ≤ 6 → r.j ≤ 6 → (s : Setting) (w : Clocks) (d : ℕ) → Holds (waited s w d) r ↔ Holds (at s (later w d)) r
says_on_clocks r i j s w d =
    holds_like r r.i r.j (waited s w d) (at s (later w d)) refl (omega (arith, waited_clock w d r.i i, waited_clock w d r.j j))

-- each mark is read later by d, mark 0 as x7
mark_waited : (w : Clocks) (d c : ℕ) → c ≤ 6 → marks (with_wait w d) (mark_after_wait c) ≡ marks w c + d
mark_waited w d zero h = omega arith
mark_waited w d (suc c) h = waited_clock w d (suc c) h

-- a row with mark 0 replaced in both places holds after the wait as it held before, also where its marks are equal
pub says_with_wait : (r : Row) → SaysAfterWait r (with_marks r (mark_after_wait r.i) (mark_after_wait r.j))
says_with_wait r i j s w d =
    holds_like r (mark_after_wait r.i) (mark_after_wait r.j) (waited s w d) (at s w) refl (omega (arith, mark_waited w d r.i i, mark_waited w d r.j j))

pub says_after_wait : (r : Row) → SaysAfterWait r (after_wait r)
says_after_wait r i j s w d =
    let p = waited s w d in
    let q = at s w in
    cond_both (eqb r.i r.j) r (with_marks r (mark_after_wait r.i) (mark_after_wait r.j)) (λ x. Holds p x ↔ Holds q r)
    (λ e. let k = eqb-true r.i r.j e in holds_like r r.i r.j p q refl (omega (arith, ap (marks w) k, ap (marks (with_wait w d)) k)))
    (λ _. says_with_wait r i j s w d)
