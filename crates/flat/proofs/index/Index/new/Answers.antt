use Rattle.std.proofs.Common.{◌≡◌, ℕ, ◌≤◌, List, length, None, Some, vec_items, ap, ◌∙◌, rules, arith}
use Rattle.models.specs.declared.edge.Edge.{Edge}
use Rattle.flat.specs.Lists.{most_rows, uses_action}
use Rattle.flat.specs.Groups.{owners_in}
use Rattle.flat.proofs.Blanks.{blank_listed}
use Rattle.flat.proofs.Making.{none, sorted, most_grouped, made}
use Rattle.flat.proofs.index.Index.new.Goals as goal

pub returns-in_err-invariants : goal.returns-in_err-invariants
returns-in_err-invariants c =
    let d = c.args.lists.now in
    let o = owners_in d (length (vec_items d.locations)) in
    let n : c.into.result ≡ length (vec_items d.locations) = search rules in
    let l : c.in_ok-locations.locations ≤ 64 = search rules in
    let unsorted = sorted c.new.result o _ _ _ _ None (c.new.ensures ∙ ap (owners_in d) n) c.deref.ensures.value (blank_listed 64 _ c.room.invariant.0) (omega arith) c.in_err-invariants.ensures.sorts in
    rw c.from_residual-in_err-invariants.ensures (none d (λ w. unsorted (record { owned = w.invariants; few = w.numbers.invariants })))

pub returns-in_err-guards : goal.returns-in_err-guards
returns-in_err-guards c =
    let d = c.args.lists.now in
    let o = owners_in d (length (vec_items d.edges)) in
    let n : c.into-2.result ≡ length (vec_items d.edges) = search rules in
    let l : c.in_ok-slots.slots ≤ 512 = search rules in
    let unsorted = sorted c.new-2.result o _ _ _ _ None (c.new-2.ensures ∙ ap (owners_in d) n) c.deref-2.ensures.value (blank_listed 512 _ c.room.invariant.1) (omega arith) c.in_err-guards.ensures.sorts in
    rw c.from_residual-in_err-guards.ensures (none d (λ w. unsorted (record { owned = w.guards; few = w.numbers.guards })))

pub returns : goal.returns
returns c =
    let d = c.args.lists.now in
    let o = owners_in d (length (vec_items d.locations)) in
    let p = owners_in d (length (vec_items d.edges)) in
    let n : c.into.result ≡ length (vec_items d.locations) = search rules in
    let k : c.into-2.result ≡ length (vec_items d.edges) = search rules in
    let l : c.in_ok-locations.locations ≤ 64 = search rules in
    let m : c.in_ok-slots.slots ≤ 512 = search rules in
    let is = c.in_ok-invariants.invariants in
    let gs = c.in_ok-guards.guards in
    let invariants = sorted c.new.result o _ _ _ _ (Some is) (c.new.ensures ∙ ap (owners_in d) n) c.deref.ensures.value (blank_listed 64 _ c.room.invariant.0) (omega arith) c.in_ok-invariants.ensures.sorts in
    let guards = sorted c.new-2.result p _ _ _ _ (Some gs) (c.new-2.ensures ∙ ap (owners_in d) k) c.deref-2.ensures.value (blank_listed 512 _ c.room.invariant.1) (omega arith) c.in_ok-guards.ensures.sorts in
    let most : c.most.result ≡ most_rows o.count (vec_items d.invariants) = most_grouped o (vec_items d.invariants) is c.most.result invariants c.most.ensures.bound c.most.ensures.attained in
    let most-2 : c.most-2.result ≡ most_rows p.count (vec_items d.guards) = most_grouped p (vec_items d.guards) gs c.most-2.result guards c.most-2.ensures.bound c.most-2.ensures.attained in
    let actions = λ (x : ℕ). c.of.ensures.value x ∙ ap (λ (es : List Edge). uses_action es x) c.deref-4.ensures.value in
    made d _ _ _ _ c.then_some.ensures (cc) c.deref-3.ensures.value invariants guards actions c.fits.ensures
