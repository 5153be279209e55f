-- A module made of the entries that were read.
use Rattle.std.proofs.Common.{◌≡◌, ℕ, ◌+◌, ◌<◌, ◌≤◌, List, [], ◌∷◌, ◌++◌, length, get_or, take, Ok, Err, vec_items, Vec, Result, refl, sym, ap, ◌∙◌, inl, inr, zero-add}
use Rattle.std.specs.declared.alloc.Global.{Global}
use Rattle.std.proofs.lemmas.List.{map_push, take_more, take_all}
use Rattle.entries.specs.declared.fault.Fault.{Fault}
use Rattle.entries.specs.declared.fault.Fault.TheVariants.{Stopped, OutOfMemory}
use Rattle.entries.specs.declared.placed.Placed.{Placed}
use Rattle.entries.specs.Reading.{Reads, PlacedFrom, all_contents}
use Rattle.entries.proofs.Reading.{byte_at}
use Rattle.entries.proofs.Unique.{means_only}
use Rattle.record.specs.declared.denial.LoadFault.{LoadFault}
use Rattle.record.specs.Modules.{well_formed}
use Rattle.record.specs.Plain.{plain}
use Rattle.list.specs.declared.entry.Entry.{Entry as CodeEntry}
use Rattle.list.specs.declared.module.SyntheticModule.{SyntheticModule}
use Rattle.list.specs.Lists.{Entry, list_format, value, values_of, module_of}
use Rattle.list.specs.Modules.{with_entry}
use Rattle.list.specs.Reading.{entry, content, load_fault, ReadsExactly}
use Rattle.list.proofs.Lawful.{lawful}
use Rattle.list.proofs.Modules.{module_push, module_entries, module_well_formed}

-- the entries as the statements have them
abbrev pub listed : List (Placed CodeEntry) → List Entry
listed xs = all_contents entry xs

-- a module of these entries
pub record MadeOf (xs : List (Placed CodeEntry)) (m : SyntheticModule) : Type 0 where
  pub declares : plain m.«record» ≡ module_of (listed xs)
  pub values : vec_items m.values ≡ values_of (listed xs)

-- a refusal to read
pub refuses : (s : List ℕ) (r : Result (Vec (Placed CodeEntry) Global) Fault) (f : LoadFault) → Reads list_format entry s r → (fault : Fault) × (r ≡ Err fault) × (f ≡ load_fault fault) → ReadsExactly s (Err f)
refuses s r f h (fault, is, made) = rw made (by fault (rw is at h))
  where
    by : (fault : Fault) → Reads list_format entry s (Err fault) → ReadsExactly s (Err (load_fault fault))
    by (Stopped why byte) h = inr (why, byte, refl, means_only list_format lawful s (Err (why, byte)) h)
    by (OutOfMemory e) h = inl refl

-- all entries
pub whole : (s : List ℕ) (v : Vec (Placed CodeEntry) Global) (xs : List (Placed CodeEntry)) (i : ℕ) (m : SyntheticModule) → Reads list_format entry s (Ok v) → xs ≡ vec_items v → length xs ≤ i → MadeOf (take i xs) m → ReadsExactly s (Ok m)
whole s v xs i m r is l f =
    let es = listed (vec_items v) in
    let all = ap listed (take_all i xs l ∙ is) in
    let declares = f.declares ∙ ap module_of all in (
      es,
      record {
        means = means_only list_format lawful s (Ok es) r.0;
        declares = declares;
        cells = rw declares (module_entries es);
        values = f.values ∙ ap values_of all;
        well = ap well_formed declares ∙ module_well_formed es r.0.well;
      },
    )

-- one entry more
pub one_more : (xs : List (Placed CodeEntry)) (i : ℕ) (d : Placed CodeEntry) (m m' : SyntheticModule) → PlacedFrom list_format entry 0 xs → i < length xs → MadeOf (take i xs) m → plain m'.«record» ≡ with_entry (plain m.«record») (get_or xs i d).entry.name.now (get_or xs i d).byte → vec_items m'.values ≡ vec_items m.values ++ (value (content (get_or xs i d).entry.content) ∷ []) → MadeOf (take (i + 1) xs) m'
one_more xs i d m m' placed l f p q =
    let x = get_or xs i d in
    let es = listed (take i xs) in
    let more : listed (take (i + 1) xs) ≡ es ++ (entry x.entry ∷ []) = ap listed (take_more xs i d l) ∙ map_push (λ y. entry y.entry) (take i xs) x in
    record {
      declares = p
          ∙ ap (λ k. with_entry k x.entry.name.now x.byte) f.declares
          ∙ ap (with_entry (module_of es) x.entry.name.now) (byte_at list_format entry 0 xs placed i d l ∙ zero-add _)
          ∙ sym (module_push (entry x.entry) es)
          ∙ ap module_of (sym more);
      values = q ∙ ap (λ l. l ++ (value (content x.entry.content) ∷ [])) f.values ∙ sym (map_push (λ e. value e.content) es (entry x.entry)) ∙ ap values_of (sym more);
    }
