-- What reading a text answers, computed. No part of what a text means: the code is proved against it, and it against the meaning.
use Rattle.std.specs.Prelude.{ℕ, Bool, true, false, cond, List, [], ◌∷◌, Some, None, Option, nat_lt}
use Rattle.names.specs.Names.{Name, among}
use Rattle.lexer.specs.Tokens.{long, Tail, clean, broken, Scan, scanned}
use Rattle.grammar.specs.Grammar.{Entry, entry, imports, exports, reexports, stars, declares, throws, Item, item}
use Rattle.grammar.specs.Continuing.{next_place}
use Rattle.grammar.specs.Items.{recorded, all_names}
use Rattle.grammar.specs.Events.{Event, byte, events, wrong}
use Rattle.grammar.specs.Meaning.{Answer, made, refused}
use Rattle.grammar.specs.Machine.{ready, Cause, syntax, limit, Trace, accepted, stopped, ◌then◌, trace}

pub data Verdict : Type 0 where
  fine : Verdict
  denied : ℕ → ℕ → Verdict

-- the first event that is denied, or what `more` says of all events
abbrev pub at_event : Option ℕ → Event → Verdict → Verdict
at_event None e more = more
at_event (Some k) e more = denied k (byte e)

unfoldable pub checked : List Event → List Event → (List Event → Verdict) → Verdict
checked es [] more = more es
checked es (e ∷ new) more = at_event (wrong es e) e (checked (e ∷ es) new more)

-- denials behind byte 4,096 give way to that of a text too long
abbrev pub capped : ℕ → ℕ → Verdict
capped k p = cond (nat_lt 4096 p) (denied 6 4096) (denied k p)

abbrev pub numbered : Cause → ℕ
numbered syntax = 3
numbered limit = 6

abbrev pub at_last : Tail → Verdict
at_last (clean p) = cond (nat_lt 4096 p) (denied 6 4096) fine
at_last (broken p) = capped 3 p

abbrev pub counted : Bool → Verdict → Verdict
counted true v = v
counted false v = denied 6 4096

unfoldable pub judged : Tail → List Event → Trace → Verdict
unfolding checked
judged z es accepted = at_last z
judged z es (stopped c rest) = capped (numbered c) (next_place rest z)
judged z es (item f b then r) = counted (nat_lt b 4096) (checked es (events f) (λ new. judged z new r))

-- the byte of the first word that is exported and not among the names
abbrev pub unknown_entry : List Name → List Entry → Option ℕ
unknown_entry ns [] = None
unknown_entry ns (entry w a v b ∷ l) = cond (among ns w) (unknown_entry ns l) (Some a)

abbrev pub or_else : Option ℕ → Option ℕ → Option ℕ
or_else None o = o
or_else (Some n) o = Some n

abbrev pub unknown : List Name → List Item → Option ℕ
unknown ns [] = None
unknown ns (item (imports l s c) b ∷ is) = unknown ns is
unknown ns (item (exports l) b ∷ is) = or_else (unknown_entry ns l) (unknown ns is)
unknown ns (item (reexports l s c) b ∷ is) = unknown ns is
unknown ns (item (stars g s c) b ∷ is) = unknown ns is
unknown ns (item (declares x w c e) b ∷ is) = unknown ns is
unknown ns (item (throws a e) b ∷ is) = unknown ns is

abbrev pub known : Option ℕ → List Item → Answer
known None l = made (recorded l)
known (Some b) l = refused 5 b

abbrev pub items_of : Trace → List Item
items_of accepted = []
items_of (stopped c r) = []
items_of (i then r) = i ∷ items_of r

abbrev pub answered : Verdict → List Item → Answer
answered fine l = known (unknown (all_names l) l) l
answered (denied k b) l = refused k b

abbrev pub read_scan : Scan → Answer
read_scan c = let r = trace long ready c.tokens in answered (judged c.tail [] r) (items_of r)

abbrev pub read_text : List ℕ → Answer
read_text s = read_scan (scanned s)
