-- Which words may be bound.
use Rattle.std.specs.Prelude.{Bool, not, List, [], ◌∷◌, ◌++◌, codes}
use Rattle.names.specs.Names.{Name, among}

-- the reserved words of the standard
abbrev pub reserved_words : List Name
reserved_words =
    codes "await" ∷ codes "break" ∷ codes "case" ∷ codes "catch" ∷ codes "class" ∷ codes "const" ∷ codes "continue" ∷ codes "debugger"
    ∷ codes "default" ∷ codes "delete" ∷ codes "do" ∷ codes "else" ∷ codes "enum" ∷ codes "export" ∷ codes "extends" ∷ codes "false"
    ∷ codes "finally" ∷ codes "for" ∷ codes "function" ∷ codes "if" ∷ codes "import" ∷ codes "in" ∷ codes "instanceof" ∷ codes "new"
    ∷ codes "null" ∷ codes "return" ∷ codes "super" ∷ codes "switch" ∷ codes "this" ∷ codes "throw" ∷ codes "true" ∷ codes "try"
    ∷ codes "typeof" ∷ codes "var" ∷ codes "void" ∷ codes "while" ∷ codes "with" ∷ codes "yield" ∷ []

-- those that are reserved in strict code besides
abbrev pub strict_words : List Name
strict_words =
    codes "implements" ∷ codes "interface" ∷ codes "let" ∷ codes "package" ∷ codes "private" ∷ codes "protected" ∷ codes "public"
    ∷ codes "static" ∷ []

-- words that are not reserved and yet may not be bound
abbrev pub unbindable_words : List Name
unbindable_words = codes "eval" ∷ codes "arguments" ∷ codes "undefined" ∷ []

-- whether a word may be bound: declared, imported, or used as a name
unfoldable pub identifier : Name → Bool
identifier w = not (among (reserved_words ++ (strict_words ++ unbindable_words)) w)
