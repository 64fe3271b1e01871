-- One entry after the other goes into the group of its owner.
use Rattle.std.proofs.Common.{◌≡◌, ℕ, ◌+◌, ◌<◌, ◌≤◌, true, false, cond, eqb, List, [], ◌∷◌, ◌++◌, length, get_or, take, All, Decides, vec_len, sym, ap, ◌∙◌, arith}
use Rattle.std.proofs.lemmas.List.{length_push, take_all}
use Rattle.std.proofs.lemmas.Bool.Decides.{nat_tests}
use Rattle.std.proofs.lemmas.List.Elements.{All-more, All-same}
use Rattle.flat.specs.declared.description.AttachedRow.{AttachedRow}
use Rattle.flat.specs.declared.groups.Groups.{Groups}
use Rattle.flat.specs.declared.groups.Owners.{Owners}
use Rattle.flat.specs.Lists.{rows_of}
use Rattle.flat.specs.Groups.{group_at, IsOwned, HasRoom, Adds, Grouped, CanGroup}
use Rattle.flat.specs.ListsLemmas.{largest_bound, largest_has, rows_of_more, rows_of_next}

module _ (o : Owners) (es : List AttachedRow) where
  -- what holds before the entry at place i: the groups have the rows so far
  pub record Placed (i : ℕ) (gs : Groups) : Type 0 where
    pub wide : o.count ≤ vec_len gs.each
    pub owned : All (IsOwned o) (take i es)
    pub few : (q : ℕ) → length (group_at gs q) ≤ 8
    pub each : (q : ℕ) → group_at gs q ≡ rows_of q (take i es)

  module _ (i : ℕ) (d : AttachedRow) (l : i < length es) (gs : Groups) (p : Placed i gs) where
    abbrev entry : AttachedRow
    entry = get_or es i d

    -- the entry is not lawful or has no owner, or its owner has 8 rows already
    pub placed_no : Decides false (IsOwned o entry × HasRoom gs entry.owner) → CanGroup o es → ⊥
    placed_no r c =
        let k = c.owned i d l in
        let known = k.known in
        let wide = p.wide in
        let has = largest_has (λ q. length (rows_of q es)) o.count entry.owner known in
        let few = c.few in
        let z = r.1 (k, (omega arith, omega (arith, ap length (p.each entry.owner), rows_of_next es i d l))) in cc

    -- the entry is in its group
    pub placed_more : (hs : Groups) → IsOwned o entry × HasRoom gs entry.owner → Adds true entry.owner entry.row gs hs → Placed (i + 1) hs
    placed_more hs r f = record {
      wide = omega (arith, f.count, p.wide);
      owned = All-more (IsOwned o) es i d l p.owned r.0;
      few = λ q. grind (arith, nat_tests, length_push, f.each q, p.few q, r.1.1);
      each = λ q. f.each q ∙ ap (λ xs. cond (eqb entry.owner q) (xs ++ entry.row ∷ []) xs) (p.each q) ∙ sym (rows_of_more q es i d l);
    }

  -- every entry is in its group
  pub placed_all : (i : ℕ) (gs : Groups) → length es ≤ i → Placed i gs → CanGroup o es × Grouped o.count es gs
  placed_all i gs l p =
      let e = take_all i es l in
      let each : (q : ℕ) → group_at gs q ≡ rows_of q es = λ q. p.each q ∙ ap (rows_of q) e in (
        record {
          owned = All-same (IsOwned o) es (take i es) (sym e) p.owned;
          few = largest_bound (λ q. length (rows_of q es)) o.count 8 (λ q l. omega (arith, ap length (each q), p.few q));
        },
        record { wide = p.wide; each = each },
      )
