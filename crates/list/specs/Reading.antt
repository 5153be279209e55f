-- What reading a list, and what reading its parts, answers.
use Rattle.std.specs.Prelude.{◌≡◌, ℕ, ◌<◌, MatchResult, true, ◌⊎◌, List, ◌++◌, Some, None, Ok, Err, vec_items, Option, Result, ◌≢◌}
use Rattle.std.specs.Borrow.{Bor}
use Rattle.entries.specs.Entries.{MeansOnly}
use Rattle.entries.specs.declared.stop.Stop.{Stop}
use Rattle.entries.specs.declared.stop.Stop.TheVariants.{Malformed, TooMany, Repeated}
use Rattle.record.specs.declared.denial.Cause.{Cause}
use Rattle.record.specs.declared.denial.Cause.TheVariants.{RepeatedName, OverLimit, MalformedList}
use Rattle.record.specs.declared.denial.LoadFault.{LoadFault}
use Rattle.record.specs.Memory.{memory_fault}
use Rattle.record.specs.Modules.{well_formed}
use Rattle.record.specs.Plain.{plain}
use Rattle.entries.specs.declared.fault.Fault.{Fault}
use Rattle.entries.specs.declared.fault.Fault.TheVariants.{Stopped, OutOfMemory}
use Rattle.list.specs.declared.content.Content.{Content as CodeContent}
use Rattle.list.specs.declared.content.Content.TheVariants.{Undefined as CodeUndefined, Number as CodeNumber}
use Rattle.list.specs.declared.content.ValueKind.{ValueKind}
use Rattle.list.specs.declared.content.ValueKind.TheVariants.{Undefined, Number}
use Rattle.list.specs.declared.content.UnknownKind.{UnknownKind}
use Rattle.list.specs.declared.entry.Entry.{Entry as CodeEntry}
use Rattle.list.specs.declared.module.SyntheticModule.{SyntheticModule}
use Rattle.list.specs.Lists.{Entry, Content, undefined, number, kind, pattern_of, whole, list_format, values_of, module_of, HasACellForEachEntry}

-- the number that stands for a kind
abbrev pub number_of : ValueKind → ℕ
number_of Undefined = 0
number_of Number = 1

-- the kind with this number, or that no kind has it
abbrev pub Decodes : ℕ → Result ValueKind UnknownKind → Type 0
Decodes n r = MatchResult r (λ k. number_of k ≡ n) (λ _. 1 < n)

-- what the code holds, by its contents
abbrev pub content : CodeContent → Content
content CodeUndefined = undefined
content (CodeNumber p) = number p

abbrev pub entry : CodeEntry → Entry
entry e = record { name = e.name.now; content = content e.content }

-- what stands behind a name, for an entry of this kind: a content, and then the rest; or no such content
abbrev pub ReadsContent : ValueKind → List ℕ → Option (CodeContent × Bor (List ℕ)) → Type 0
ReadsContent k s None = (c : Content) (rest : List ℕ) → kind c ≡ number_of k → whole c ≡ true → pattern_of c ++ rest ≢ s
ReadsContent k s (Some x) = (kind (content x.0) ≡ number_of k) × (whole (content x.0) ≡ true) × (pattern_of (content x.0) ++ x.1.now ≡ s)

-- the bytes are exactly the list es, and this is its module
pub record IsModule (s : List ℕ) (es : List Entry) (m : SyntheticModule) : Type 0 where
  pub means : MeansOnly list_format s (Ok es)
  pub declares : plain m.«record» ≡ module_of es
  pub cells : HasACellForEachEntry es (plain m.«record»)
  pub values : vec_items m.values ≡ values_of es
  pub well : well_formed (plain m.«record») ≡ true

-- the cause of a list's refusal
abbrev pub cause_of : Stop → Cause
cause_of Malformed = MalformedList
cause_of TooMany = OverLimit
cause_of Repeated = RepeatedName

abbrev pub refused_for : Stop → ℕ → LoadFault
refused_for why byte = record { cause = cause_of why; byte = byte }

abbrev pub load_fault : Fault → LoadFault
load_fault (Stopped why byte) = refused_for why byte
load_fault (OutOfMemory e) = memory_fault

-- a module is answered exactly where the bytes are a well-formed list, and is that list's; any other byte string is refused for the one cause at the one byte; or there is no memory
abbrev pub ReadsExactly : List ℕ → Result SyntheticModule LoadFault → Type 0
ReadsExactly s (Ok m) = (es : List Entry) × IsModule s es m
ReadsExactly s (Err f) = (f ≡ memory_fault) ⊎ ((why : Stop) × (byte : ℕ) × (f ≡ refused_for why byte) × MeansOnly list_format s (Err (why, byte)))
