-- A word by its first byte and its rest.
use Rattle.std.proofs.Common.{◌≡◌, ◌-◌, Bool, true, ◌&&◌, [], ◌∷◌, length, get_or, take, drop, ap, ◌∙◌}
use Rattle.std.proofs.lemmas.List.{take_rest}
use Rattle.std.proofs.lemmas.Bool.{true≢false}
use Rattle.names.specs.Names.{Name, every}
use Rattle.names.specs.Words.{letter, letter_or_digit, word}

pub word_rest : (s : Name) (r : Bool) → true ≡ letter (get_or s 0 0) → r ≡ every letter_or_digit (take (length s - 1) (drop 1 s)) → r ≡ word s
word_rest [] r e h = absurd (true≢false e)
word_rest (b ∷ s) r e h = h ∙ ap (every letter_or_digit) (take_rest (b ∷ s) 1) ∙ ap (λ t. t && every letter_or_digit s) e
