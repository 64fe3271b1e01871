-- The shut model: one bad location and nothing else.
use Rattle.std.specs.Prelude.{false, [], None, ◌==◌}
use Rattle.models.specs.Tables.{Table}

abbrev pub shut_table : Table
shut_table = record {
  shape = record { clocks = 0; parameters = 0; locations = 1; first = 0; slots = 0; invariants = 0; guards = 0 };
  uses = λ _. false;
  bad = λ q. (q == 0);
  invariant = λ _. [];
  edge = λ _. None;
  guard = λ _. [];
}
