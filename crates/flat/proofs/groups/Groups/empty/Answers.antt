use Rattle.flat.proofs.Blanks.{same_blank, listed_blank}
use Rattle.flat.proofs.groups.Groups.empty.Goals as goal

pub returns : goal.returns
returns c = record { made = listed_blank c.args.count (record { each = c.in_ok-each.each }) c.new.result (c.in_ok-each.ensures.items_if_clones_equal (λ y z. same_blank _ c.new.result y c.new.ensures z)) c.new.ensures }
