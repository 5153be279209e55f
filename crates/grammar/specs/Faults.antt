-- The faults of a text, and which of them decides.
use Rattle.std.specs.Prelude.{◌≡◌, ℕ, ◌+◌, ◌*◌, ◌<◌, ◌≤◌, true, cond, List, [], ◌∷◌, ◌++◌, Some, ◌==◌}
use Rattle.lexer.specs.Tokens.{Token, start, long, broken, Scan}
use Rattle.grammar.specs.Grammar.{Item, item}
use Rattle.grammar.specs.Continuing.{Leaves, Front, next_place}
use Rattle.grammar.specs.Items.{each, form}
use Rattle.grammar.specs.Events.{Event, byte, events, wrong}

-- The faults that do not lie in lists: denials 3, and 6 of tokens and of the text, which has n bytes.
pub data Plain (c : Scan) (n : ℕ) : ℕ → ℕ → Type 0 where
  -- the first token that cannot continue, or the text's end where it may not end
  astray : (rest : List Token) → Leaves c.tokens rest → Plain c n 3 (next_place rest c.tail)
  malformed : {p : ℕ} → c.tail ≡ broken p → Plain c n 3 p
  too_long : (pre us : List Token) (t : Token) → c.tokens ≡ pre ++ (t ∷ us) → long t ≡ true → Plain c n 6 (start t)
  too_large : 4096 < n → Plain c n 6 4096

-- In `Wrong es new k p`, an event of new is denied k at its byte p, behind those before it and behind es, the latest first.
pub data Wrong : List Event → List Event → ℕ → ℕ → Type 0 where
  now : {es new : List Event} {e : Event} {k : ℕ} → wrong es e ≡ Some k → Wrong es (e ∷ new) k (byte e)
  later : {es new : List Event} {e : Event} {k p : ℕ} → Wrong (e ∷ es) new k p → Wrong es (e ∷ new) k p

abbrev pub all_events : List Item → List Event
all_events l = each (λ i. events (form i)) l

-- every `;` stands before p
abbrev pub Shut : List Item → ℕ → Type 0
Shut [] p = Unit {0}
Shut (item f b ∷ l) p = (b < p) × Shut l p

-- The faults that count: the plain ones, and those of lists in items whose `;` precedes every plain one.
pub data Fault (c : Scan) (n : ℕ) : ℕ → ℕ → Type 0 where
  plain : {k p : ℕ} → Plain c n k p → Fault c n k p
  listed : {k p : ℕ} (l : List Item) (us : List Token) → Front l c.tokens us → ((j q : ℕ) → Plain c n j q → Shut l q) → Wrong [] (all_events l) k p → Fault c n k p

-- 3 goes before 6, and 6 before 4
abbrev pub rank : ℕ → ℕ
rank k = cond (k == 3) 0 (cond (k == 6) 1 2)

-- the order of faults: by byte, then by rank
abbrev pub weight : ℕ → ℕ → ℕ
weight k p = 3 * p + rank k

-- the fault that decides
pub record Decides (c : Scan) (n k p : ℕ) : Type 0 where
  pub fault : Fault c n k p
  pub least : (j q : ℕ) → Fault c n j q → weight k p ≤ weight j q
