-- Entries written one behind another: which byte strings are such lists, and at which entry any other is refused.
use Rattle.std.specs.Prelude.{◌≡◌, ℕ, ◌<◌, Bool, true, ◌&&◌, List, [], ◌∷◌, ◌++◌, map, length, Ok, Err, Result, ◌≢◌, nat_le}
use Rattle.names.specs.Names.{Name, among, distinct, every}
use Rattle.entries.specs.declared.stop.Stop.{Stop}
use Rattle.entries.specs.declared.stop.Stop.TheVariants.{Malformed, TooMany, Repeated}

-- how entries of a sort are written, which are well formed, and what each is named
pub record Format (E : Type 0) : Type 0 where
  pub encoded : E → List ℕ
  pub good : E → Bool
  pub name : E → Name

-- what makes reading unambiguous: an entry has a byte, and no well-formed entry is written as the front of another
pub record LawfulFormat {E : Type 0} (F : Format E) : Type 0 where
  pub has_a_byte : (e : E) → length (F.encoded e) ≢ 0
  pub comes_apart : (d e : E) (r s : List ℕ) → F.good d ≡ true → F.good e ≡ true → F.encoded d ++ r ≡ F.encoded e ++ s → (d ≡ e) × (r ≡ s)

module _ {E : Type 0} (F : Format E) where
  -- a list of entries, one behind another
  abbrev pub all_encoded : List E → List ℕ
  all_encoded [] = []
  all_encoded (e ∷ es) = F.encoded e ++ all_encoded es

  -- at most 32 well-formed entries with distinct names
  abbrev pub well_formed : List E → Bool
  well_formed es = every F.good es && (nat_le (length es) 32 && distinct (map F.name es))

  -- a byte string is a well-formed list, and then the rest
  pub record Front (s : List ℕ) (es : List E) (rest : List ℕ) : Type 0 where
    pub all : all_encoded es ++ rest ≡ s
    pub well : well_formed es ≡ true

  -- a well-formed entry stands in front
  pub record Begins (s : List ℕ) : Type 0 where
    pub entry : E
    pub rest : List ℕ
    pub is : F.encoded entry ++ rest ≡ s
    pub well : F.good entry ≡ true

  -- why what stands behind the entries es is refused: no well-formed entry begins there, or one that is a 33rd, or one whose name was there
  abbrev pub Refused : List E → List ℕ → Stop → Type 0
  Refused es rest Malformed = ¬ (rest ≡ []) × ¬ Begins rest
  Refused es rest TooMany = (length es ≡ 32) × Begins rest
  Refused es rest Repeated = (length es < 32) × ((b : Begins rest) × (among (map F.name es) (F.name b.entry) ≡ true))

  -- the byte string stops at its first refused entry
  pub record Stops (s : List ℕ) (why : Stop) (byte : ℕ) : Type 0 where
    pub before : List E
    pub rest : List ℕ
    pub front : Front s before rest
    pub refused : Refused before rest why
    pub is_byte : length (all_encoded before) ≡ byte

  -- what a byte string means: a list of entries, or a refusal at a byte
  abbrev pub Means : List ℕ → Result (List E) (Stop × ℕ) → Type 0
  Means s (Ok es) = Front s es []
  Means s (Err x) = Stops s x.0 x.1

  -- the one thing that a byte string means
  pub record MeansOnly (s : List ℕ) (r : Result (List E) (Stop × ℕ)) : Type 0 where
    pub means : Means s r
    pub only : (q : Result (List E) (Stop × ℕ)) → Means s q → q ≡ r
