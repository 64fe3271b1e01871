-- Sets of clocks, what a reset and a wait do to the clocks, and the rows that say it beforehand or afterwards.
use Rattle.std.specs.Prelude.{◌≡◌, ℕ, zero, suc, ◌+◌, ◌≤◌, Bool, true, false, cond, not, ◌↔◌, drop, ◌==◌, slice_index_or, refl}
use Rattle.std.specs.List.{list_all}
use Rattle.rows.specs.declared.row.Row.{Row}
use Rattle.rows.specs.declared.clock_set.ClockSet.{ClockSet}
use Rattle.rows.specs.Points.{Setting, Point, Holds}

-- clock values by number: 1 to 6 are the clocks of a state, and no lawful row reads the others
abbrev pub Clocks : Type 0
Clocks = ℕ → ℕ

-- clock number c is in the set; 0 is no clock
abbrev pub has : ClockSet → ℕ → Bool
has set zero = false
has set (suc c) = slice_index_or set.members c false

-- every clock of the set is at most m
abbrev pub WithinClocks : ℕ → ClockSet → Type 0
WithinClocks m set = (c : ℕ) → has set c ≡ true → c ≤ m

-- the clocks as marks
abbrev pub marks : Clocks → ℕ → ℕ
marks w zero = 0
marks w (suc c) = w (suc c)

-- the point of a state with these clocks
abbrev pub at : Setting → Clocks → Point
at s w = record { setting = s; mark = marks w; origin = refl }

-- the point where all clocks are 0
abbrev pub at_zero : Setting → Point
at_zero s = at s (λ _. 0)

-- the clocks of the set are 0, the others as they were
abbrev pub after_reset : ClockSet → Clocks → Clocks
after_reset set w c = cond (has set c) 0 (w c)

-- every clock is later by d
abbrev pub later : Clocks → ℕ → Clocks
later w d c = w c + d

-- the same, with the time waited as number 7
abbrev pub with_wait : Clocks → ℕ → Clocks
with_wait w d c = cond (c == 7) d (later w d c)

-- the point after a wait of d that began with these clocks
abbrev pub waited : Setting → Clocks → ℕ → Point
waited s w d = at s (with_wait w d)

-- a mark with the clocks of the set replaced by mark 0
abbrev pub mark_before_reset : ClockSet → ℕ → ℕ
mark_before_reset set c = cond (has set c) 0 c

-- a row with the clocks of the set replaced by mark 0
abbrev pub before_reset : ClockSet → Row → Row
before_reset set r = record { i = mark_before_reset set r.i; j = mark_before_reset set r.j; strict = r.strict; t = r.t }

-- a mark with 0 replaced by 7
abbrev pub mark_after_wait : ℕ → ℕ
mark_after_wait zero = 7
mark_after_wait (suc c) = suc c

-- a row with mark 0 replaced by 7, if its two marks differ
abbrev pub after_wait : Row → Row
after_wait r = cond (r.i == r.j) r (record { i = mark_after_wait r.i; j = mark_after_wait r.j; strict = r.strict; t = r.t })

-- q holds at a state exactly when r holds after the clocks of the set are reset
abbrev pub SaysBeforeReset : ClockSet → Row → Row → Type 0
SaysBeforeReset set r q = (s : Setting) (w : Clocks) → Holds (at s w) q ↔ Holds (at s (after_reset set w)) r

-- q holds after a wait exactly when r held before it, if the marks of r are mark 0 and clocks
abbrev pub SaysAfterWait : Row → Row → Type 0
SaysAfterWait r q = r.i ≤ 6 → r.j ≤ 6 → (s : Setting) (w : Clocks) (d : ℕ) → Holds (waited s w d) q ↔ Holds (at s w) r

-- the same as a test, for definitions that have to decide

abbrev pub is_within_clocks : ℕ → ClockSet → Bool
is_within_clocks m set = list_all not (drop m set.members)
