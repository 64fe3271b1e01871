use Rattle.std.proofs.Common.{◌≡◌, ℕ, Bool, true, false, cond, not, eqb, List, [], ◌∷◌, ◌++◌, map, sym, refl, ap, ◌∙◌, append_assoc, append-nil, arith}
use Rattle.std.specs.List.{All, concat, list_all, onto_first}
use Rattle.std.proofs.lemmas.Bool.{true≢false, not-true}
use Rattle.std.proofs.lemmas.List.{append_cancel_right}
use Rattle.std.proofs.lemmas.List.Elements.{All-head, All-tail, All-weaker}
use Rattle.std.proofs.lemmas.List.Sums.{AllPass-from_list_all}
use Rattle.lines.specs.Texts.{Line, Unbroken, ended, written, pieces}

concat-onto_first : (x : ℕ) (ps : List (List ℕ)) → concat (onto_first x ps) ≡ x ∷ concat ps
concat-onto_first x [] = refl
concat-onto_first x (p ∷ ps) = refl

concat-pieces_by : (x : ℕ) (xs : List ℕ) (b : Bool) → concat (pieces xs) ≡ xs → concat (cond b ((x ∷ []) ∷ pieces xs) (onto_first x (pieces xs))) ≡ x ∷ xs
concat-pieces_by x xs true e = ap (λ (ys : List ℕ). x ∷ ys) e
concat-pieces_by x xs false e = concat-onto_first x (pieces xs) ∙ ap (λ (ys : List ℕ). x ∷ ys) e

-- the pieces of a text, one after another, are the text
pub concat-pieces : (xs : List ℕ) → concat (pieces xs) ≡ xs
concat-pieces [] = refl
concat-pieces (x ∷ xs) = concat-pieces_by x xs (eqb x 10) (concat-pieces xs)

pub concat-map_ended : (ls : List Line) → concat (map ended ls) ≡ written ls
concat-map_ended [] = refl
concat-map_ended (l ∷ ls) = ap (λ (r : List ℕ). ended l ++ r) (concat-map_ended ls)

module _ (x : ℕ) (l : List ℕ) (u : Unbroken (x ∷ l)) where
  head : eqb x 10 ≡ false
  head = All-head (λ c. eqb c 10 ≡ false) x l u

  tail : Unbroken l
  tail = All-tail (λ c. eqb c 10 ≡ false) x l u

pub pieces_line : (l : Line) (xs : List ℕ) → Unbroken l → pieces (l ++ 10 ∷ xs) ≡ ended l ∷ pieces xs
pieces_line [] xs u = refl
pieces_line (x ∷ l) xs u = rw (head x l u, pieces_line l xs (tail x l u))

pub pieces_more : (ls : List Line) (more : List ℕ) → All Unbroken ls → pieces (written ls ++ more) ≡ map ended ls ++ pieces more
pieces_more [] more u = refl
pieces_more (l ∷ ls) more u =
    ap pieces (append_assoc (ended l) (written ls) more ∙ append_assoc l (10 ∷ []) (written ls ++ more))
    ∙ (pieces_line l (written ls ++ more) (All-head Unbroken l ls u) ∙ ap (λ (r : List (List ℕ)). ended l ∷ r) (pieces_more ls more (All-tail Unbroken l ls u)))

pub pieces_written : (ls : List Line) → All Unbroken ls → pieces (written ls) ≡ map ended ls
pieces_written ls u = sym (ap pieces (append-nil (written ls))) ∙ (pieces_more ls [] u ∙ append-nil (map ended ls))

-- a rest with no end of a line is one piece
pub rest_piece : (x : ℕ) (rest : List ℕ) → Unbroken (x ∷ rest) → pieces (x ∷ rest) ≡ (x ∷ rest) ∷ []
rest_piece x [] u = rw (head x [] u)
rest_piece x (y ∷ ys) u = rw (head x (y ∷ ys) u) (ap (onto_first x) (rest_piece y ys (tail x (y ∷ ys) u)))

-- a line with its end is broken
pub ended_broken : (l : Line) → Unbroken (ended l) → ⊥
ended_broken [] u = true≢false (head 10 [] u)
ended_broken (x ∷ l) u = ended_broken l (tail x (ended l) u)

-- a line that is written out is unbroken by computing
pub unbroken : (l : Line) → list_all (λ c. not (eqb c 10)) l ≡ true → Unbroken l
unbroken l e = All-weaker _ (λ c. eqb c 10 ≡ false) (λ c h. not-true (eqb c 10) h) l (AllPass-from_list_all (λ c. not (eqb c 10)) l e)

-- lines with their ends are the same where the lines are
pub map_ended_same : (ks ls : List Line) → map ended ks ≡ map ended ls → ks ≡ ls
map_ended_same [] [] e = refl
map_ended_same [] (l ∷ ls) e = absurd (grind arith)
map_ended_same (k ∷ ks) [] e = absurd (grind arith)
map_ended_same (k ∷ ks) (l ∷ ls) e =
    let h : ended k ≡ ended l = cc in
    let t : map ended ks ≡ map ended ls = cc in
    let a : k ≡ l = append_cancel_right k l (10 ∷ []) h in
    let b : ks ≡ ls = map_ended_same ks ls t in
    (λ i. a i ∷ b i)
