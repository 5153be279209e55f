-- Where a text leaves the grammar.
use Rattle.std.specs.Prelude.{◌≡◌, ℕ, List, [], ◌∷◌, ◌++◌}
use Rattle.lexer.specs.Tokens.{Token, start, Tail, clean, broken}
use Rattle.grammar.specs.Grammar.{Item, OneItem, Items}

-- the tokens can be continued to a text of the grammar
abbrev pub Viable : List Token → Type 0
Viable pre = (us : List Token) × (l : List Item) × Items l (pre ++ us)

-- with the next of these tokens they cannot, or where no token is left they are no such text
abbrev pub Dead : List Token → List Token → Type 0
Dead pre (t ∷ ts) = (us : List Token) (l : List Item) → Items l (pre ++ (t ∷ us)) → ⊥
Dead pre [] = (l : List Item) → Items l pre → ⊥

-- the tokens ts leave the grammar at the first of rest, or at their end
pub record Leaves (ts rest : List Token) : Type 0 where
  pub before : List Token
  pub whole : ts ≡ before ++ rest
  pub viable : Viable before
  pub dead : Dead before rest

-- the tokens begin with some items
pub data Front : List Item → List Token → List Token → Type 0 where
  none_yet : {ts : List Token} → Front [] ts ts
  and_one : {i : Item} {l : List Item} {ts us vs : List Token} → OneItem i ts us → Front l us vs → Front (i ∷ l) ts vs

-- where the next token stands
abbrev pub tail_place : Tail → ℕ
tail_place (clean p) = p
tail_place (broken p) = p

abbrev pub next_place : List Token → Tail → ℕ
next_place [] z = tail_place z
next_place (t ∷ ts) z = start t
