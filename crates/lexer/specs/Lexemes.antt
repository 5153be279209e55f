-- What the code's tokens stand for, and what is asked of them.
use Rattle.std.specs.Prelude.{ℕ, Bool, true, false, cond, List, Some, None, Option, ◌==◌}
use Rattle.std.specs.Borrow.{Bor}
use Rattle.std.specs.Str.{bytes_eq}
use Rattle.names.specs.Names.{Name}
use Rattle.lexer.specs.Words.{identifier}
use Rattle.lexer.specs.Tokens.{decimal, word, quoted, number, mark, token, long, Lexed, found, malformed, ended}
use Rattle.lexer.specs.declared.token.Token.{Token}
use Rattle.lexer.specs.declared.token.Token.TheVariants.{Word, Text, Number, Mark, Malformed, End}
use Rattle.lexer.specs.declared.token.Lexeme as code

abbrev pub said_of : Token → ℕ → ℕ → Lexed
said_of (Word w) b z = found (word w.now) b z
said_of (Text w) b z = found (quoted w.now) b z
said_of (Number d) b z = found (number (decimal 0 d.now)) b z
said_of (Mark m) b z = found (mark m) b z
said_of Malformed b z = malformed b
said_of End b z = ended b

abbrev pub said : code.Lexeme → Lexed
said x = said_of x.token x.start x.end

-- where it starts
abbrev pub start_of : Lexed → ℕ
start_of (found l b z) = b
start_of (malformed p) = p
start_of (ended p) = p

-- where a token ends
abbrev pub end_of : Lexed → ℕ
end_of (found l b z) = z
end_of (malformed p) = p
end_of (ended p) = p

abbrev pub is_end : Lexed → Bool
is_end (found l b z) = false
is_end (malformed p) = false
is_end (ended p) = true

abbrev pub is_long : Lexed → Bool
is_long (found l b z) = long (token l b z)
is_long (malformed p) = false
is_long (ended p) = false

-- the mark m
abbrev pub is_the_mark : ℕ → Lexed → Bool
is_the_mark m (found (word w) b z) = false
is_the_mark m (found (quoted w) b z) = false
is_the_mark m (found (number n) b z) = false
is_the_mark m (found (mark n) b z) = n == m
is_the_mark m (malformed p) = false
is_the_mark m (ended p) = false

abbrev pub is_number : Lexed → Bool
is_number (found (word w) b z) = false
is_number (found (quoted w) b z) = false
is_number (found (number n) b z) = true
is_number (found (mark n) b z) = false
is_number (malformed p) = false
is_number (ended p) = false

-- the bytes of a word
abbrev pub word_of : Lexed → Option Name
word_of (found (word w) b z) = Some w
word_of (found (quoted w) b z) = None
word_of (found (number n) b z) = None
word_of (found (mark n) b z) = None
word_of (malformed p) = None
word_of (ended p) = None

-- the bytes between the quotes of a string
abbrev pub string_of : Lexed → Option Name
string_of (found (word w) b z) = None
string_of (found (quoted w) b z) = Some w
string_of (found (number n) b z) = None
string_of (found (mark n) b z) = None
string_of (malformed p) = None
string_of (ended p) = None

abbrev pub when : (Name → Bool) → Option Name → Option Name
when p None = None
when p (Some w) = cond (p w) (Some w) None

-- a word that may be bound
abbrev pub identifier_of : Lexed → Option Name
identifier_of x = when identifier (word_of x)

abbrev pub equals : Name → Option Name → Bool
equals k None = false
equals k (Some w) = bytes_eq w k

-- the word k
abbrev pub is_the_word : Name → Lexed → Bool
is_the_word k x = equals k (word_of x)

-- lent bytes by what they are
abbrev pub lent : Option (Bor (List ℕ)) → Option Name
lent None = None
lent (Some r) = Some r.now
