-- One token after another: what may come next.
use Rattle.std.specs.Prelude.{◌≡◌, ℕ, Bool, true, false, cond, List, [], ◌∷◌, ◌++◌, length, Some, None, codes, ◌==◌, nat_lt}
use Rattle.std.specs.Str.{bytes_eq}
use Rattle.lexer.specs.Words.{identifier}
use Rattle.lexer.specs.Tokens.{word, quoted, number, mark, Token, token, start}
use Rattle.grammar.specs.Grammar.{Op, plus, minus, Expr, literal, undefined, named, joined, Entry, entry, Side, inward, outward, Form, imports, exports, reexports, stars, declares, throws, Item, item, admits, identifiers_first}

-- what a factor is to be joined to
pub data Pending : Type 0 where
  nothing : Pending
  behind : Op → Expr → Pending

abbrev pub join : Pending → Expr → Expr
join nothing f = f
join (behind p e) f = joined p e f

-- what an expression is for
pub data Goal : Type 0 where
  to_let : Bool → List ℕ → ℕ → Goal
  to_throw : ℕ → Goal

abbrev pub goal : Goal → Expr → Form
goal (to_let x w c) e = declares x w c (Some e)
goal (to_throw a) e = throws a e

-- what a specifier is for
pub data Source : Type 0 where
  of_list : Side → List Entry → Source
  of_star : ℕ → Source

abbrev pub sourced : Source → List ℕ → ℕ → Form
sourced (of_list inward l) s c = imports l s c
sourced (of_list outward l) s c = reexports l s c
sourced (of_star g) s c = stars g s c

pub data Phase : Type 0 where
  ready : Phase
  -- all but the `;`
  full : Form → Phase
  after_import after_export : Phase
  after_star : ℕ → Phase
  -- behind `from`
  from : Source → Phase
  -- behind `{`, behind a comma, behind a first word, behind `as`, behind an entry, behind `}`
  opened : Side → Phase
  comma : Side → List Entry → Phase
  first : Side → List Entry → List ℕ → ℕ → Phase
  as_what : Side → List Entry → List ℕ → ℕ → Phase
  second : Side → List Entry → Phase
  closed : Side → List Entry → Phase
  -- behind `let`, behind its name
  after_let : Bool → Phase
  after_name : Bool → List ℕ → ℕ → Phase
  -- a factor is wanted; an expression stands here. Each open parenthesis has what it is to be joined to.
  want : Goal → List Pending → Pending → Phase
  have : Goal → List Pending → Expr → Phase

pub data Step : Type 0 where
  fault : Step
  go : Phase → Step
  ends : Form → Step

-- a token that may come, and what then
pub data Way : Type 0 where
  on_mark : ℕ → (ℕ → Step) → Way
  on_key : List ℕ → (ℕ → Step) → Way
  on_word : (List ℕ → Bool) → (List ℕ → ℕ → Step) → Way
  on_text : (List ℕ → ℕ → Step) → Way
  on_number : (ℕ → Step) → Way

-- only if
abbrev pub when : Bool → Way → List Way → List Way
when b w ws = cond b (w ∷ ws) ws

abbrev pub any : List ℕ → Bool
any w = true

abbrev pub listing : Side → List Entry → List Way → List Way
listing k l ws = on_mark 44 (λ b. go (comma k l)) ∷ on_mark 125 (λ b. go (closed k l)) ∷ ws

abbrev pub closing : Goal → List Pending → Expr → List Way
closing g [] e = on_mark 59 (λ b. ends (goal g e)) ∷ []
closing g (p ∷ ps) e = on_mark 41 (λ b. go (have g ps (join p e))) ∷ []

abbrev pub finishing : Side → List Entry → List Way
finishing inward l = []
finishing outward l = when (identifiers_first l) (on_mark 59 (λ b. ends (exports l))) []

unfoldable pub ways : Phase → List Way
ways ready = on_key (codes "import") (λ b. go after_import) ∷ on_key (codes "export") (λ b. go after_export) ∷ on_key (codes "let") (λ b. go (after_let false)) ∷ on_key (codes "throw") (λ b. go (want (to_throw b) [] nothing)) ∷ []
ways (full f) = on_mark 59 (λ b. ends f) ∷ []
ways after_import = on_text (λ s c. go (full (imports [] s c))) ∷ on_mark 123 (λ b. go (opened inward)) ∷ []
ways after_export = on_mark 42 (λ b. go (after_star b)) ∷ on_mark 123 (λ b. go (opened outward)) ∷ on_key (codes "let") (λ b. go (after_let true)) ∷ []
ways (after_star g) = on_key (codes "from") (λ b. go (from (of_star g))) ∷ []
ways (from r) = on_text (λ s c. go (full (sourced r s c))) ∷ []
ways (opened k) = on_mark 125 (λ b. go (closed k [])) ∷ on_word any (λ w b. go (first k [] w b)) ∷ []
ways (comma k l) = on_word any (λ w b. go (first k l w b)) ∷ []
ways (first k l w a) = on_key (codes "as") (λ b. go (as_what k l w a)) ∷ cond (admits k w) (listing k (l ++ (entry w a w a ∷ [])) []) []
ways (as_what k l w a) = on_word (admits k) (λ v b. go (second k (l ++ (entry w a v b ∷ [])))) ∷ []
ways (second k l) = listing k l []
ways (closed k l) = on_key (codes "from") (λ b. go (from (of_list k l))) ∷ finishing k l
ways (after_let x) = on_word identifier (λ w b. go (after_name x w b)) ∷ []
ways (after_name x w c) = on_mark 59 (λ b. ends (declares x w c None)) ∷ on_mark 61 (λ b. go (want (to_let x w c) [] nothing)) ∷ []
ways (want g ps p) = on_number (λ n. go (have g ps (join p (literal n)))) ∷ on_word identifier (λ w b. go (have g ps (join p (named w b)))) ∷ on_key (codes "undefined") (λ b. go (have g ps (join p undefined))) ∷ when (nat_lt (length ps) 16) (on_mark 40 (λ b. go (want g (p ∷ ps) nothing))) []
ways (have g ps e) = on_mark 43 (λ b. go (want g ps (behind plus e))) ∷ on_mark 45 (λ b. go (want g ps (behind minus e))) ∷ closing g ps e

-- the first way that a token fits
abbrev pub tried : Way → Token → Step → Step
tried (on_mark m f) (token (word w) b z) s = s
tried (on_mark m f) (token (quoted w) b z) s = s
tried (on_mark m f) (token (number n) b z) s = s
tried (on_mark m f) (token (mark n) b z) s = cond (n == m) (f b) s
tried (on_key k f) (token (word w) b z) s = cond (bytes_eq w k) (f b) s
tried (on_key k f) (token (quoted w) b z) s = s
tried (on_key k f) (token (number n) b z) s = s
tried (on_key k f) (token (mark n) b z) s = s
tried (on_word p f) (token (word w) b z) s = cond (p w) (f w b) s
tried (on_word p f) (token (quoted w) b z) s = s
tried (on_word p f) (token (number n) b z) s = s
tried (on_word p f) (token (mark n) b z) s = s
tried (on_text f) (token (word w) b z) s = s
tried (on_text f) (token (quoted w) b z) s = f w b
tried (on_text f) (token (number n) b z) s = s
tried (on_text f) (token (mark n) b z) s = s
tried (on_number f) (token (word w) b z) s = s
tried (on_number f) (token (quoted w) b z) s = s
tried (on_number f) (token (number n) b z) s = f n
tried (on_number f) (token (mark n) b z) s = s

abbrev pub choose : List Way → Token → Step
choose [] t = fault
choose (w ∷ ws) t = tried w t (choose ws t)

unfoldable pub step : Phase → Token → Step
unfolding ways
step q t = choose (ways q) t

pub data Cause : Type 0 where
  syntax limit : Cause

-- items, and then nothing, or the tokens of which the first cannot stand, or is too long
pub data Trace : Type 0 where
  accepted : Trace
  stopped : Cause → List Token → Trace
  ◌then◌ : Item → Trace → Trace

infixr 20 ◌then◌
abbrev pub is_ready : Phase → Bool
is_ready ready = true
is_ready (full f) = false
is_ready after_import = false
is_ready after_export = false
is_ready (after_star g) = false
is_ready (from r) = false
is_ready (opened k) = false
is_ready (comma k l) = false
is_ready (first k l w a) = false
is_ready (as_what k l w a) = false
is_ready (second k l) = false
is_ready (closed k l) = false
is_ready (after_let x) = false
is_ready (after_name x w c) = false
is_ready (want g ps p) = false
is_ready (have g ps e) = false

abbrev pub at_end : Bool → Trace
at_end true = accepted
at_end false = stopped syntax []

-- what a step on the token t, which may be long, before ts, comes to, if `more` says what a phase comes to on ts
abbrev pub moved : Step → Bool → Token → List Token → (Phase → Trace) → Trace
moved fault b t ts more = stopped syntax (t ∷ ts)
moved (go q) true t ts more = stopped limit (t ∷ ts)
moved (go q) false t ts more = more q
moved (ends f) true t ts more = stopped limit (t ∷ ts)
moved (ends f) false t ts more = item f (start t) then more ready

-- L says which tokens are too long
unfoldable pub trace : (Token → Bool) → Phase → List Token → Trace
unfolding step
trace L q [] = at_end (is_ready q)
trace L q (t ∷ ts) = moved (step q t) (L t) t ts (λ p. trace L p ts)

abbrev pub traced : List Item → Trace
traced [] = accepted
traced (i ∷ l) = i then traced l

-- no token is too long
abbrev pub Short : (Token → Bool) → List Token → Type 0
Short L [] = Unit {0}
Short L (t ∷ ts) = (L t ≡ false) × Short L ts

abbrev pub along : List Item → Trace → Trace
along [] r = r
along (i ∷ l) r = i then along l r
