-- What reading and writing a bundle answer.
use Rattle.std.specs.Prelude.{◌≡◌, ℕ, ◌<◌, ◌≤◌, true, false, ◌⊎◌, List, ◌∷◌, ◌++◌, map, length, Ok, Err, Result}
use mathlib.Core.List.{Memᴰ}
use Rattle.names.specs.Names.{among}
use Rattle.record.specs.declared.denial.Cause.TheVariants.{OutOfMemory}
use Rattle.record.specs.declared.denial.Denial.{Denial}
use Rattle.record.specs.Denials.{malformed_at}
use Rattle.record.specs.Memory.{memory_denial}
use Rattle.entries.specs.declared.fault.Fault.{Fault}
use Rattle.entries.specs.declared.fault.Fault.TheVariants.{Stopped, OutOfMemory as NoMemory}
use Rattle.entries.specs.declared.stop.Stop.{Stop}
use Rattle.entries.specs.Entries.{all_encoded, well_formed, MeansOnly}
use Rattle.bundle.specs.Format.{Entry, good, format}

-- what a fault in reading is denied with
abbrev pub denial : Fault → Denial
denial (Stopped why byte) = malformed_at byte
denial (NoMemory e) = memory_denial

abbrev pub IsOutOfMemory : Denial → Type 0
IsOutOfMemory d = d.cause ≡ OutOfMemory

-- a bundle of more than 65,536 bytes is refused there, and any other at its first refused entry
pub data Refused (s : List ℕ) : Denial → Type 0 where
  too_long : 65536 < length s → Refused s (malformed_at 65536)
  stops : {byte : ℕ} (why : Stop) → length s ≤ 65536 → MeansOnly format s (Err (why, byte)) → Refused s (malformed_at byte)

-- a bundle is read as the one list of well-formed entries that it is, and any other byte string is refused
abbrev pub Reads : List ℕ → Result (List Entry) Denial → Type 0
Reads s (Ok es) = (length s ≤ 65536) × MeansOnly format s (Ok es)
Reads s (Err d) = IsOutOfMemory d ⊎ Refused s d

-- reading inverts writing: what some well-formed entries are written as is read as those entries, and nothing else is read
pub record InvertsWriting (s : List ℕ) (r : Result (List Entry) Denial) : Type 0 where
  pub there : (es : List Entry) → r ≡ Ok es → (all_encoded format es ≡ s) × (well_formed format es ≡ true)
  pub back : (es : List Entry) → all_encoded format es ≡ s → well_formed format es ≡ true → length s ≤ 65536 → (r ≡ Ok es) ⊎ ((d : Denial) × (r ≡ Err d) × IsOutOfMemory d)

-- why an entry may not stand behind others: it is not well formed, or a 33rd, or its key was there
abbrev pub Misplaced : List Entry → Entry → Type 0
Misplaced before e = (good e ≡ false) ⊎ (((length before ≡ 32) ⊎ (among (map (λ x. x.key) before) e.key ≡ true)))

-- the first such entry, and the byte at which it would stand
pub record FirstMisplaced (es : List Entry) (byte : ℕ) : Type 0 where
  pub before : List Entry
  pub entry : Entry
  pub after : List Entry
  pub all : before ++ (entry ∷ after) ≡ es
  pub well : well_formed format before ≡ true
  pub misplaced : Misplaced before entry
  pub is_byte : length (all_encoded format before) ≡ byte

-- entries are written if they are well formed and not too long in all
pub data Unwritable (es : List Entry) : Denial → Type 0 where
  too_large : 65536 < length (all_encoded format es) → Unwritable es (malformed_at 65536)
  misplaced : {byte : ℕ} → length (all_encoded format es) ≤ 65536 → FirstMisplaced es byte → Unwritable es (malformed_at byte)

pub record Written (es : List Entry) (s : List ℕ) : Type 0 where
  pub is : s ≡ all_encoded format es
  pub well : well_formed format es ≡ true
  pub short : length s ≤ 65536

abbrev pub Writes : List Entry → Result (List ℕ) Denial → Type 0
Writes es (Ok s) = Written es s
Writes es (Err d) = IsOutOfMemory d ⊎ Unwritable es d

-- the lengths of an entry fit their bits
pub record Fits (e : Entry) : Type 0 where
  pub key_fits : length e.key < 64
  pub payload_fits : length e.payload < 65536

-- writing refuses as reading would: where all lengths fit their bits, reading what would have been written is refused alike
abbrev pub RefusesAsReadingWould : List Entry → Result (List ℕ) Denial → Type 0
RefusesAsReadingWould es r = (d : Denial) → r ≡ Err d → ¬ IsOutOfMemory d → ((e : Entry) → Memᴰ e es → Fits e) → Refused (all_encoded format es) d
