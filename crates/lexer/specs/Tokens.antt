-- The tokens of a text, too long ones among them.
use Rattle.std.specs.Prelude.{ℕ, zero, suc, ◌+◌, ◌-◌, ◌*◌, Bool, true, false, cond, not, ◌&&◌, ◌||◌, List, [], ◌∷◌, length, take, drop, ◌==◌, nat_lt, slice_index, slice_index_or}
use Rattle.names.specs.Names.{Name}
use Rattle.names.specs.Words.{between, letter, digit, letter_or_digit}

abbrev pub blank : ℕ → Bool
blank b = b == 9 || (b == 10 || (b == 13 || b == 32))

-- a byte of a comment behind its `//`
abbrev pub in_comment : ℕ → Bool
in_comment b = not (b == 10) && not (b == 13)

-- a byte between quotes
abbrev pub in_quotes : ℕ → Bool
in_quotes b = between 32 126 b && (not (b == 92) && not (b == 34))

-- `{ } ( ) , ; = + - *`
abbrev pub is_mark : ℕ → Bool
is_mark b = b == 123 || (b == 125 || (b == 40 || (b == 41 || (b == 44 || (b == 59 || (b == 61 || (b == 43 || (b == 45 || b == 42))))))))

-- how many bytes in front pass the test p
abbrev pub run : (ℕ → Bool) → List ℕ → ℕ
run p [] = 0
run p (b ∷ s) = cond (p b) (suc (run p s)) 0

-- how many bytes of blanks and comments stand in front; the flag says that a comment is open
abbrev pub gap : Bool → List ℕ → ℕ
gap true [] = 0
gap true (b ∷ s) = suc (gap (in_comment b) s)
gap false [] = 0
gap false (b ∷ s) = cond (blank b) (suc (gap false s)) (cond (b == 47 && slice_index s 0 == 47) (suc (gap true s)) 0)

-- the byte at which the blanks and comments from a on end
abbrev pub gap_end : List ℕ → ℕ → ℕ
gap_end s a = a + gap false (drop a s)

-- the number that digits write behind v
abbrev pub decimal : ℕ → List ℕ → ℕ
decimal v [] = v
decimal v (b ∷ s) = decimal (v * 10 + (b - 48)) s

pub data Lexeme : Type 0 where
  word quoted : Name → Lexeme
  number mark : ℕ → Lexeme

-- a lexeme from its first byte up to its end
pub data Token : Type 0 where
  token : Lexeme → ℕ → ℕ → Token

abbrev pub start : Token → ℕ
start (token l b z) = b

-- what stands behind the blanks: a token, a malformed one, or the text's end
pub data Lexed : Type 0 where
  found : Lexeme → ℕ → ℕ → Lexed
  malformed ended : ℕ → Lexed

abbrev pub word_at : List ℕ → ℕ → Lexed
word_at s a =
    let n = run letter_or_digit (drop a s) in
    found (word (take n (drop a s))) a (a + n)

abbrev pub string_at : List ℕ → ℕ → Lexed
string_at s a =
    let n = run in_quotes (drop (a + 1) s) in
    cond (nat_lt (a + 1 + n) (length s) && slice_index s (a + 1 + n) == 34)
    (found (quoted (take n (drop (a + 1) s))) a (a + 1 + n + 1))
    (malformed a)

-- behind a `0` stands no digit, and behind no number a letter
abbrev pub number_at : List ℕ → ℕ → Lexed
number_at s a =
    let n = run digit (drop a s) in
    cond (slice_index s a == 48 && nat_lt 1 n || nat_lt (a + n) (length s) && letter_or_digit (slice_index s (a + n))) (malformed a)
    (found (number (decimal 0 (take n (drop a s)))) a (a + n))

abbrev pub token_at : List ℕ → ℕ → Lexed
token_at s a =
    cond (nat_lt a (length s))
    (let b = slice_index_or s a 0 in
    cond (letter b) (word_at s a) (cond (digit b) (number_at s a) (cond (b == 34) (string_at s a) (cond (is_mark b) (found (mark b) a (a + 1)) (malformed a)))))
    (ended a)

-- the next token from byte a on
abbrev pub lexed : List ℕ → ℕ → Lexed
lexed s a = token_at s (gap_end s a)

-- longer than a token may be: a word 31 bytes, a string 63 between its quotes, a number 15
abbrev pub long : Token → Bool
long (token (word w) b z) = nat_lt 31 (z - b)
long (token (quoted w) b z) = nat_lt 65 (z - b)
long (token (number n) b z) = nat_lt 15 (z - b)
long (token (mark m) b z) = false

-- where the tokens of a text end: at the text's end, or at a malformed one
pub data Tail : Type 0 where
  clean broken : ℕ → Tail

pub record Scan : Type 0 where
  pub tokens : List Token
  pub tail : Tail

abbrev pub prefixed : Token → Scan → Scan
prefixed t r = record { tokens = t ∷ r.tokens; tail = r.tail }

abbrev pub scan_on : Lexed → (ℕ → Scan) → Scan
scan_on (found l b z) more = prefixed (token l b z) (more z)
scan_on (malformed p) more = record { tokens = []; tail = broken p }
scan_on (ended p) more = record { tokens = []; tail = clean p }

-- the text from a on, which has fewer than n tokens
unfoldable pub scan : ℕ → List ℕ → ℕ → Scan
scan zero s a = record { tokens = []; tail = clean a }
scan (suc n) s a = scan_on (lexed s a) (λ z. scan n s z)

-- all tokens of a text
abbrev pub scanned : List ℕ → Scan
scanned s = scan (suc (length s)) s 0
