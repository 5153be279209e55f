-- The words for the kinds of payloads, as they are read and printed.
use Rattle.std.specs.Prelude.{◌≡◌, Some, codes, Option}
use Rattle.names.specs.Names.{Name}
use Rattle.bundle.specs.declared.kind.PayloadKind.{PayloadKind}
use Rattle.bundle.specs.declared.kind.PayloadKind.TheVariants.{Text, List}

abbrev pub kind_word : PayloadKind → Name
kind_word Text = codes "text"
kind_word List = codes "list"

-- a word names exactly the kind that it is the word for
abbrev pub NamesKind : Name → Option PayloadKind → Type 0
NamesKind w o = (k : PayloadKind) → (o ≡ Some k → w ≡ kind_word k) × (w ≡ kind_word k → o ≡ Some k)
