use Rattle.flat.specs.Groups.{Blank}
use Rattle.flat.proofs.Placing.{Placed}
use Rattle.flat.proofs.groups.Groups.filled.Given as goal

-- from groups without rows, the entries so far are in their groups
abbrev pub invariant-loop-entry : goal.invariant-loop-entry
invariant-loop-entry l = Blank l.owners.count l.initial.self → Placed l.owners l.entries l.entry-index l.self
