-- Laws of runs.
use Rattle.std.specs.Prelude.{◌<◌}
use Rattle.rows.specs.Points.{Setting, Meets}
use Rattle.rows.specs.Moves.{at}
use Rattle.models.specs.Tables.{Table, Limits}
use Rattle.models.specs.Shut.{shut_table}
use Rattle.models.specs.Runs.{State, Run, AvoidsBad}

pub record RunLaws : Type 0 where
  -- a run stays at the locations of the table
  pub inside : (M : Table) (s : Setting) (x : State) → Limits M → Run M s x → x.location < M.shape.locations
  -- the invariant holds in every state that is reached
  pub invariant : (M : Table) (s : Setting) (x : State) → Run M s x → Meets (at s x.clocks) (M.invariant x.location)
  -- at no setting does the shut model avoid its bad location
  pub shut : (s : Setting) → AvoidsBad shut_table s → ⊥
