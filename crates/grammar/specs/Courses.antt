-- What lies ahead of a reader at a byte of the text. The code that reads is proved against it, token by token.
use Rattle.std.specs.Prelude.{ℕ, zero, suc, ◌-◌, Bool, cond, List, [], ◌∷◌, length, nat_lt}
use Rattle.lexer.specs.Tokens.{token, long, Tail, clean, broken, Scan, scan, Lexed, found, malformed, ended}
use Rattle.grammar.specs.Grammar.{Item, item}
use Rattle.grammar.specs.Continuing.{next_place}
use Rattle.grammar.specs.Machine.{Phase, ready, is_ready, Step, fault, go, ends, step, Trace, accepted, stopped, ◌then◌, trace}
use Rattle.grammar.specs.Events.{Event, events}
use Rattle.grammar.specs.Verdicts.{Verdict, fine, denied, capped, counted, checked, numbered}

-- items, and then the text's end, or the number and the byte of what stops the reader
pub data Course : Type 0 where
  finishes : ℕ → Course
  stops : ℕ → ℕ → Course
  comes : Item → Course → Course

abbrev pub tail_course : Tail → Course
tail_course (clean p) = finishes p
tail_course (broken p) = stops 3 p

abbrev pub trace_course : Tail → Trace → Course
trace_course z accepted = tail_course z
trace_course z (stopped c rest) = stops (numbered c) (next_place rest z)
trace_course z (i then r) = comes i (trace_course z r)

-- the tokens from byte a on
unfoldable pub behind : List ℕ → ℕ → Scan
behind s a = scan (suc (length s - a)) s a

-- how many tokens there are from byte a on
unfoldable pub ahead : List ℕ → ℕ → ℕ
ahead s a = length (behind s a).tokens

-- the course of a reader in the phase q at byte a
unfoldable pub course : List ℕ → Phase → ℕ → Course
course s q a = trace_course (behind s a).tail (trace long q (behind s a).tokens)

-- behind a step on a token, long or not, that stands from b to z
abbrev pub course_behind : List ℕ → Step → Bool → ℕ → ℕ → Course
course_behind s fault x b z = stops 3 b
course_behind s (go q) x b z = cond x (stops 6 b) (course s q z)
course_behind s (ends f) x b z = cond x (stops 6 b) (comes (item f b) (course s ready z))

-- the course of a reader in the phase q with this as its next token
abbrev pub facing : List ℕ → Phase → Lexed → Course
facing s q (found l b z) = course_behind s (step q (token l b z)) (long (token l b z)) b z
facing s q (malformed p) = stops 3 p
facing s q (ended p) = cond (is_ready q) (finishes p) (stops 3 p)

-- how many tokens there are from this one on
abbrev pub ahead_of : List ℕ → Lexed → ℕ
ahead_of s (found l b z) = suc (ahead s z)
ahead_of s (malformed p) = zero
ahead_of s (ended p) = zero

-- a course that begins with these items
abbrev pub along : List Item → Course → Course
along [] c = c
along (i ∷ l) c = comes i (along l c)

-- the items on a course
abbrev pub items_on : Course → List Item
items_on (finishes p) = []
items_on (stops k p) = []
items_on (comes i c) = i ∷ items_on c

-- the first denial on a course, behind earlier events, the latest first
unfoldable pub judge : List Event → Course → Verdict
unfolding checked
judge es (finishes p) = cond (nat_lt 4096 p) (denied 6 4096) fine
judge es (stops k p) = capped k p
judge es (comes (item f b) c) = counted (nat_lt b 4096) (checked es (events f) (λ new. judge new c))
