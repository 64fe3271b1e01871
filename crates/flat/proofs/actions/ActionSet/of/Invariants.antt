use Rattle.std.proofs.Common.{◌≡◌, ℕ, false, get_or, take}
use Rattle.flat.specs.Lists.{uses_action}
use Rattle.flat.proofs.actions.ActionSet.of.Given as goal

-- the actions of the edges so far
abbrev pub invariant-loop-edge : goal.invariant-loop-edge
invariant-loop-edge l = (x : ℕ) → get_or l.set.members x false ≡ uses_action (take l.edge-index l.edges) x
