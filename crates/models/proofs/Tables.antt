-- The tests of a table's numbers and edges decide their limits, and the shut model keeps all of them.
use Rattle.std.proofs.Common.{Decides, arith, rules}
use Rattle.std.proofs.lemmas.Bool.Decides.{nat_tests}
use Rattle.rows.proofs.Clocks.{within_clocks_decides}
use Rattle.models.specs.declared.shape.Shape.{Shape}
use Rattle.models.specs.declared.edge.Edge.{Edge}
use Rattle.models.specs.Tables.{ShapeLimits, EdgeLimits, Limits, is_within_limits, is_admitted}
use Rattle.models.specs.Shut.{shut_table}

pub within_limits_decides : (h : Shape) → Decides (is_within_limits h) (ShapeLimits h)
within_limits_decides h = (
  λ t. record {
    clocks = grind (arith, nat_tests);
    parameters = grind (arith, nat_tests);
    some_location = grind (arith, nat_tests);
    locations = grind (arith, nat_tests);
    first = grind (arith, nat_tests);
    slots = grind (arith, nat_tests);
    invariants = grind (arith, nat_tests);
    guards = grind (arith, nat_tests);
  },
  λ l.
      let a = l.clocks in
      let b = l.parameters in
      let d = l.some_location in
      let e = l.locations in
      let f = l.first in
      let g = l.slots in
      let i = l.invariants in
      let j = l.guards in
      grind (arith, nat_tests),
)

pub admitted_decides : (h : Shape) (e : Edge) → Decides (is_admitted h e) (EdgeLimits h e)
admitted_decides h e =
    let w = within_clocks_decides h.clocks e.resets in (
      λ t. record { source = grind (arith, nat_tests); target = grind (arith, nat_tests); action = grind (arith, nat_tests); resets = w.0 (grind arith) },
      λ l.
          let a = l.source in
          let b = l.target in
          let d = l.action in
          let r = w.1 l.resets in
          grind (arith, nat_tests),
    )

pub shut_limits : Limits shut_table
shut_limits = search rules
