-- What reading entries answers.
use Rattle.std.specs.Prelude.{◌≡◌, ℕ, ◌+◌, true, List, [], ◌∷◌, ◌++◌, map, length, Some, None, Ok, Err, Option, Result, Vec, vec_items}
use Rattle.std.specs.Borrow.{Bor}
use Rattle.std.specs.List.{AllZip}
use Rattle.std.specs.declared.alloc.Global.{Global}
use Rattle.entries.specs.declared.fault.Fault.{Fault}
use Rattle.entries.specs.declared.fault.Fault.TheVariants.{Stopped, OutOfMemory}
use Rattle.entries.specs.declared.placed.Placed.{Placed}
use Rattle.entries.specs.Entries.{Format, Begins, Means}

-- a well-formed entry is taken from the front, where one stands
abbrev pub TakesFirst : {E : Type 0} → Format E → List ℕ → Option (E × List ℕ) → Type 0
TakesFirst F s None = ¬ Begins F s
TakesFirst F s (Some x) = (F.encoded x.0 ++ x.1 ≡ s) × (F.good x.0 ≡ true)

-- R has the entries of the code, and E what each is by its contents
module _ {R E : Type 0} (contents : R → E) where
  -- a first entry and what stands behind it, by their contents
  abbrev pub first_contents : Option (R × Bor (List ℕ)) → Option (E × List ℕ)
  first_contents None = None
  first_contents (Some x) = Some (contents x.0, x.1.now)

  abbrev pub all_contents : List (Placed R) → List E
  all_contents xs = map (λ x. contents x.entry) xs

module _ {R E : Type 0} (F : Format E) (contents : R → E) where
  -- each has the byte at which it begins, where the first begins at this one
  abbrev pub PlacedFrom : ℕ → List (Placed R) → Type 0
  PlacedFrom byte [] = Unit {0}
  PlacedFrom byte (x ∷ xs) = (x.byte ≡ byte) × PlacedFrom (byte + length (F.encoded (contents x.entry))) xs

  -- the one list that the bytes are, or the refusal that they mean
  abbrev pub Reads : List ℕ → Result (Vec (Placed R) Global) Fault → Type 0
  Reads s (Ok v) = Means F s (Ok (all_contents contents (vec_items v))) × PlacedFrom 0 (vec_items v)
  Reads s (Err (Stopped why byte)) = Means F s (Err (why, byte))
  Reads s (Err (OutOfMemory e)) = Unit {0}

  -- the same list, with what is made of each entry and its byte in their place
  abbrev pub ReadsAs : {T : Type 0} → (Placed R → T → Type 0) → List ℕ → Result (Vec T Global) Fault → Type 0
  ReadsAs gives s (Ok v) = (xs : List (Placed R)) × AllZip gives xs (vec_items v) × Means F s (Ok (all_contents contents xs)) × PlacedFrom 0 xs
  ReadsAs gives s (Err (Stopped why byte)) = Means F s (Err (why, byte))
  ReadsAs gives s (Err (OutOfMemory e)) = Unit {0}
