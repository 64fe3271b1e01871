use Rattle.std.proofs.Common.{refl}
use Rattle.flat.proofs.Placing.{placed_no, placed_more, placed_all}
use Rattle.flat.proofs.groups.Groups.filled.Goals as goal

pub returns-in_err-place : goal.returns-in_err-place
returns-in_err-place c = rw c.from_residual.ensures (record { sorts = λ b. placed_no _ _ _ _ c.loop-entry-test.true _ (c.loop-entry.invariant b) c.in_err-place.ensures.decides })

pub loop-entry-preserved : goal.loop-entry-preserved
loop-entry-preserved c = λ b. let e = c.in_ok-place.ensures in placed_more _ _ _ _ c.loop-entry-test.true _ (c.loop-entry.invariant b) _ (e.decides.0 refl) e.after

pub returns : goal.returns
returns c = record { sorts = λ b. placed_all _ _ _ _ c.loop-entry-test.false (c.loop-entry.invariant b) }
