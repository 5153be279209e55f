-- The grammar, with its syntax trees.
use Rattle.std.specs.Prelude.{◌≡◌, ℕ, suc, ◌<◌, Bool, true, false, ◌&&◌, List, [], ◌∷◌, Some, None, codes, Option}
use Rattle.names.specs.Names.{Name}
use Rattle.lexer.specs.Words.{identifier}
use Rattle.lexer.specs.Tokens.{word, quoted, number, mark, Token, token}

pub data Op : Type 0 where
  plus minus : Op

abbrev pub sign : Op → ℕ
sign plus = 43
sign minus = 45

pub data Expr : Type 0 where
  literal : ℕ → Expr
  undefined : Expr
  -- a name with its byte
  named : Name → ℕ → Expr
  joined : Op → Expr → Expr → Expr

-- `W` or `W as W`: both words with their bytes, which are the same for `W`
pub data Entry : Type 0 where
  entry : Name → ℕ → Name → ℕ → Entry

-- the two kinds of lists
pub data Side : Type 0 where
  inward outward : Side

pub data Form : Type 0 where
  -- a specifier is followed by the byte of its quote
  imports : List Entry → Name → ℕ → Form
  exports : List Entry → Form
  reexports : List Entry → Name → ℕ → Form
  -- the byte of the `*`
  stars : ℕ → Name → ℕ → Form
  -- exported or not, a name with its byte, and what it is given
  declares : Bool → Name → ℕ → Option Expr → Form
  throws : ℕ → Expr → Form

-- an item with the byte of its `;`
pub data Item : Type 0 where
  item : Form → ℕ → Item

-- In `Factor o e ts us`, the tokens ts are a factor e and then us, where o parentheses are open.
mutual
  pub data Factor : ℕ → Expr → List Token → List Token → Type 0 where
    a_number : {o n b z : ℕ} {ts : List Token} → Factor o (literal n) (token (number n) b z ∷ ts) ts
    an_undefined : {o b z : ℕ} {ts : List Token} → Factor o undefined (token (word (codes "undefined")) b z ∷ ts) ts
    a_name : {o b z : ℕ} {w : Name} {ts : List Token} → identifier w ≡ true → Factor o (named w b) (token (word w) b z ∷ ts) ts
    nested : {o a b c d : ℕ} {e : Expr} {ts us : List Token} → o < 16 → Sum (suc o) e ts (token (mark 41) c d ∷ us) → Factor o e (token (mark 40) a b ∷ ts) us

  pub data Sum : ℕ → Expr → List Token → List Token → Type 0 where
    sum : {o : ℕ} {f e : Expr} {ts us vs : List Token} → Factor o f ts us → Rest o f e us vs → Sum o e ts vs

  -- the factors that follow f, with which they make e
  pub data Rest : ℕ → Expr → Expr → List Token → List Token → Type 0 where
    no_more : {o : ℕ} {e : Expr} {ts : List Token} → Rest o e e ts ts
    more : {o b z : ℕ} {f g e : Expr} {ts us vs : List Token} (p : Op) → Factor o g ts us → Rest o (joined p f g) e us vs → Rest o f e (token (mark (sign p)) b z ∷ ts) vs

-- which words may stand in a list as they are, and as the second
abbrev pub admits : Side → Name → Bool
admits inward w = identifier w
admits outward w = true

pub data Names (k : Side) : Entry → List Token → List Token → Type 0 where
  alone : {a b : ℕ} {w : Name} {ts : List Token} → admits k w ≡ true → Names k (entry w a w a) (token (word w) a b ∷ ts) ts
  renamed : {a b c d e f : ℕ} {w v : Name} {ts : List Token} → admits k v ≡ true → Names k (entry w a v e) (token (word w) a b ∷ token (word (codes "as")) c d ∷ token (word v) e f ∷ ts) ts

-- one entry or more
pub data Listed (k : Side) : List Entry → List Token → List Token → Type 0 where
  last : {e : Entry} {ts us : List Token} → Names k e ts us → Listed k (e ∷ []) ts us
  next : {a b : ℕ} {e : Entry} {l : List Entry} {ts us vs : List Token} → Names k e ts (token (mark 44) a b ∷ us) → Listed k l us vs → Listed k (e ∷ l) ts vs

-- a list between braces
pub data Braced (k : Side) : List Entry → List Token → List Token → Type 0 where
  empty : {a b c d : ℕ} {ts : List Token} → Braced k [] (token (mark 123) a b ∷ token (mark 125) c d ∷ ts) ts
  filled : {a b c d : ℕ} {l : List Entry} {ts us : List Token} → Listed k l ts (token (mark 125) c d ∷ us) → Braced k l (token (mark 123) a b ∷ ts) us

-- `let`, also after `export`
pub data Let : Bool → List Token → List Token → Type 0 where
  here : {a b : ℕ} {ts : List Token} → Let false (token (word (codes "let")) a b ∷ ts) ts
  after_export : {a b c d : ℕ} {ts : List Token} → Let true (token (word (codes "export")) a b ∷ token (word (codes "let")) c d ∷ ts) ts

-- whether each first word is an N
abbrev pub identifiers_first : List Entry → Bool
identifiers_first [] = true
identifiers_first (entry w a v b ∷ l) = identifier w && identifiers_first l

pub data OneItem : Item → List Token → List Token → Type 0 where
  import_only : {a b c d y z : ℕ} {s : Name} {ts : List Token} → OneItem (item (imports [] s c) y) (token (word (codes "import")) a b ∷ token (quoted s) c d ∷ token (mark 59) y z ∷ ts) ts
  import_list : {a b c d e f y z : ℕ} {s : Name} {l : List Entry} {ts us : List Token} → Braced inward l ts (token (word (codes "from")) e f ∷ token (quoted s) c d ∷ token (mark 59) y z ∷ us) → OneItem (item (imports l s c) y) (token (word (codes "import")) a b ∷ ts) us
  export_list : {a b y z : ℕ} {l : List Entry} {ts us : List Token} → identifiers_first l ≡ true → Braced outward l ts (token (mark 59) y z ∷ us) → OneItem (item (exports l) y) (token (word (codes "export")) a b ∷ ts) us
  export_from : {a b c d e f y z : ℕ} {s : Name} {l : List Entry} {ts us : List Token} → Braced outward l ts (token (word (codes "from")) e f ∷ token (quoted s) c d ∷ token (mark 59) y z ∷ us) → OneItem (item (reexports l s c) y) (token (word (codes "export")) a b ∷ ts) us
  export_star : {a b c d e f g h y z : ℕ} {s : Name} {ts : List Token} → OneItem (item (stars g s c) y) (token (word (codes "export")) a b ∷ token (mark 42) g h ∷ token (word (codes "from")) e f ∷ token (quoted s) c d ∷ token (mark 59) y z ∷ ts) ts
  let_empty : {c d y z : ℕ} {x : Bool} {w : Name} {ts us : List Token} → identifier w ≡ true → Let x ts (token (word w) c d ∷ token (mark 59) y z ∷ us) → OneItem (item (declares x w c None) y) ts us
  let_value : {c d e f y z : ℕ} {x : Bool} {w : Name} {v : Expr} {ts us vs : List Token} → identifier w ≡ true → Let x ts (token (word w) c d ∷ token (mark 61) e f ∷ us) → Sum 0 v us (token (mark 59) y z ∷ vs) → OneItem (item (declares x w c (Some v)) y) ts vs
  throw_value : {a b y z : ℕ} {v : Expr} {ts us : List Token} → Sum 0 v ts (token (mark 59) y z ∷ us) → OneItem (item (throws a v) y) (token (word (codes "throw")) a b ∷ ts) us

pub data Items : List Item → List Token → Type 0 where
  done : Items [] []
  one : {i : Item} {l : List Item} {ts us : List Token} → OneItem i ts us → Items l us → Items (i ∷ l) ts
