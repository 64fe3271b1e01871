-- What a reading of a text may come to.
use Rattle.std.specs.Prelude.{◌≡◌, ℕ, suc, ◌+◌, ◌-◌, ◌≤◌, List, [], length, take}
use Rattle.lines.specs.Texts.{pieces}
use Rattle.form.specs.Content.{Lists, Content, text_of}
use Rattle.form.specs.Form.{Whole}

-- the text that says this content has the same lines 1 to n as the given text, and is of the form.
-- A line counts with its end, so that a last line without end is no line of any text of the form; and where the given text
-- has fewer than n lines, it is the same text
pub record Begins (text : List ℕ) (n : ℕ) (c : Content) : Type 0 where
  pub lawful : Whole c
  pub agrees : take n (pieces (text_of c)) ≡ take n (pieces text)

-- what those lines of values say that are among the first n lines of the content's text: the second table has its values from
-- line 4 on, each other one behind the line of its names
abbrev pub front : ℕ → Content → Lists
front n c =
    let k : ℕ = length c.lists.locations in
    let l : ℕ = k + length c.lists.invariants in
    let m : ℕ = l + length c.lists.edges in
    record {
      locations = take (n - 3) c.lists.locations;
      invariants = take (n - (4 + k)) c.lists.invariants;
      edges = take (n - (5 + l)) c.lists.edges;
      guards = take (n - (6 + m)) c.lists.guards;
    }

abbrev pub no_lists : Lists
no_lists = record { locations = []; invariants = []; edges = []; guards = [] }

-- how many elements each list has room for
pub record Rooms : Type 0 where
  pub locations : ℕ
  pub invariants : ℕ
  pub edges : ℕ
  pub guards : ℕ

pub record Fits (r : Rooms) (ls : Lists) : Type 0 where
  pub locations : length ls.locations ≤ r.locations
  pub invariants : length ls.invariants ≤ r.invariants
  pub edges : length ls.edges ≤ r.edges
  pub guards : length ls.guards ≤ r.guards

-- a text of the form begins with the lines 1 to n of this text, and none with the lines 1 to n + 1;
-- the lists hold what the lines 1 to n say
pub record BrokenAfter (text : List ℕ) (n : ℕ) (held : Lists) : Type 0 where
  pub content : Content
  pub begins : Begins text n content
  pub none : (c : Content) → Begins text (suc n) c → ⊥
  pub holds : held ≡ front n content

-- a text of the form begins with the lines 1 to n + 1 of this text; the lists hold what the lines 1 to n say,
-- and have no room for what the next one says
pub record FullAfter (rooms : Rooms) (text : List ℕ) (n : ℕ) (held : Lists) : Type 0 where
  pub content : Content
  pub begins : Begins text (suc n) content
  pub full : Fits rooms (front (suc n) content) → ⊥
  pub holds : held ≡ front n content
