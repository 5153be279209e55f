-- Entries being read: what is known behind those read so far.
use Rattle.std.proofs.Common.{◌≡◌, ◌<◌, ℕ, zero, suc, get_or, take, ◌+◌, ◌-◌, ◌≤◌, List, [], ◌∷◌, ◌++◌, map, length, Some, None, Ok, Err, Result, Vec, vec_items, refl, sym, ap, ◌∙◌, subst, arith, length-append}
use lib.ListN.{length-map}
use Rattle.std.specs.List.{AllZip}
use Rattle.std.specs.declared.alloc.Global.{Global}
use Rattle.entries.specs.declared.fault.Fault.{Fault}
use Rattle.entries.specs.declared.fault.Fault.TheVariants.{Stopped, OutOfMemory}
use Rattle.std.proofs.lemmas.List.{map_push, nil_from_length}
use Rattle.names.specs.Names.{Name, among}
use Rattle.entries.specs.declared.stop.Stop.{Stop}
use Rattle.entries.specs.declared.stop.Stop.TheVariants.{Malformed, TooMany, Repeated}
use Rattle.entries.specs.declared.stop.Stop.TheVariants.{TooMany, Repeated}
use Rattle.entries.specs.declared.placed.Placed.{Placed}
use Rattle.entries.specs.Seen.{refusal}
use Rattle.entries.specs.Entries.{Format, all_encoded, Front, Begins, Refused, Stops, Means}
use Rattle.entries.specs.Reading.{all_contents, PlacedFrom, TakesFirst, Reads, ReadsAs}
use Rattle.entries.proofs.Seeing.{RefusedFor, refused_since, passed_since}
use Rattle.entries.proofs.Unique.{parts, front_more}

-- the entries in front of the rest, their names and their bytes
pub record SoFar {R E : Type 0} (F : Format E) (contents : R → E) (s : List ℕ) (xs : List (Placed R)) (names : List Name) (rest : List ℕ) : Type 0 where
  pub front : Front F s (all_contents contents xs) rest
  pub are : names ≡ map F.name (all_contents contents xs)
  pub placed : PlacedFrom F contents 0 xs

module _ {R E : Type 0} (F : Format E) (contents : R → E) where
  placed_more : (byte : ℕ) (xs : List (Placed R)) (x : Placed R) → PlacedFrom F contents byte xs → x.byte ≡ byte + length (all_encoded F (all_contents contents xs)) → PlacedFrom F contents byte (xs ++ (x ∷ []))
  placed_more byte [] x h e = (omega arith, tt)
  placed_more byte (y ∷ xs) x (b, h) e =
      let n = length-append (F.encoded (contents y.entry)) (all_encoded F (all_contents contents xs)) in
      (b, placed_more (byte + length (F.encoded (contents y.entry))) xs x h (omega arith))

  -- the byte of an entry is the size of those before it
  pub byte_at : (byte : ℕ) (xs : List (Placed R)) → PlacedFrom F contents byte xs → (i : ℕ) (d : Placed R) → i < length xs → (get_or xs i d).byte ≡ byte + length (all_encoded F (all_contents contents (take i xs)))
  byte_at byte [] h i d l = absurd (omega arith)
  byte_at byte (x ∷ xs) (b, h) zero d l = omega arith
  byte_at byte (x ∷ xs) (b, h) (suc i) d l =
      let e = byte_at (byte + length (F.encoded (contents x.entry))) xs h i d (omega arith) in
      omega (arith, length-append (F.encoded (contents x.entry)) (all_encoded F (all_contents contents (take i xs))))

  module _ (s : List ℕ) (xs : List (Placed R)) (names : List Name) (rest : List ℕ) (f : SoFar F contents s xs names rest) where
    pub byte_is : length (all_encoded F (all_contents contents xs)) ≡ length s - length rest
    byte_is = let n = length-append (all_encoded F (all_contents contents xs)) rest in let m = ap length f.front.all in omega arith

    pub fits : length rest ≤ length s
    fits = let n = length-append (all_encoded F (all_contents contents xs)) rest in let m = ap length f.front.all in omega arith

    pub stops : (why : Stop) → Refused F (all_contents contents xs) rest why → Stops F s why (length s - length rest)
    stops why r = record { before = all_contents contents xs; rest = rest; front = f.front; refused = r; is_byte = byte_is }

    pub whole : length rest ≡ 0 → Means F s (Ok (all_contents contents xs))
    whole n = subst (Front F s (all_contents contents xs)) (nil_from_length rest n) f.front

    count : length names ≡ length (all_contents contents xs)
    count = ap length f.are ∙ length-map (all_contents contents xs) F.name

    module _ (x : R) (behind : List ℕ) (t : TakesFirst F rest (Some (contents x, behind))) (n : Name) (is : n ≡ F.name (contents x)) where
      abbrev begins : Begins F rest
      begins = record { entry = contents x; rest = behind; is = t.0; well = t.1 }

      there : among names n ≡ among (map F.name (all_contents contents xs)) (F.name (contents x))
      there = ap (λ l. among l n) f.are ∙ ap (among (map F.name (all_contents contents xs))) is

      -- an entry that is refused
      pub refused : (why : Stop) → refusal names n ≡ Some why → Stops F s why (length s - length rest)
      refused why e = stops why (by why (refused_since names n why e))
        where
          by : (w : Stop) → RefusedFor names n w → Refused F (all_contents contents xs) rest w
          by Malformed h = absurd h
          by TooMany h = let few = (parts F (all_contents contents xs) f.front.well).few in (omega (arith, count), begins)
          by Repeated (l, h) = (omega (arith, count), (begins, sym there ∙ h))

      -- an entry that is read
      pub one_more : (xs' : List (Placed R)) (names' : List Name) → refusal names n ≡ None → xs' ≡ xs ++ (record { byte = length s - length rest; entry = x } ∷ []) → names' ≡ names ++ (n ∷ []) → SoFar F contents s xs' names' behind
      one_more xs' names' e p q =
          let y : Placed R = record { byte = length s - length rest; entry = x } in
          let (few, new) = passed_since names n e in
          let pushed : all_contents contents (xs ++ (y ∷ [])) ≡ all_contents contents xs ++ (contents x ∷ []) = map_push (λ z. contents z.entry) xs y in
          rw (p, q) (record {
            front = subst (λ es. Front F s es behind) (sym pushed) (front_more F s (all_contents contents xs) rest f.front (contents x) behind t.0 t.1 (omega (arith, count)) (sym there ∙ new));
            are = ap (λ l. l ++ (n ∷ [])) f.are ∙ ap (λ l. map F.name (all_contents contents xs) ++ (l ∷ [])) is ∙ sym (map_push F.name (all_contents contents xs) (contents x)) ∙ ap (map F.name) (sym pushed);
            placed = placed_more 0 xs y f.placed (omega (arith, byte_is));
          })

-- what was made of each of the entries so far
pub record MadeSoFar {R E T : Type 0} (F : Format E) (contents : R → E) (gives : Placed R → T → Type 0) (s : List ℕ) (ys : List T) (names : List Name) (rest : List ℕ) : Type 0 where
  pub xs : List (Placed R)
  pub so_far : SoFar F contents s xs names rest
  pub made : AllZip gives xs ys

module _ {R E T : Type 0} (F : Format E) (contents : R → E) (gives : Placed R → T → Type 0) where
  made_push : (xs : List (Placed R)) (ys : List T) (x : Placed R) (y : T) → AllZip gives xs ys → gives x y → AllZip gives (xs ++ (x ∷ [])) (ys ++ (y ∷ []))
  made_push [] [] x y h g = (g, tt)
  made_push [] (b ∷ ys) x y h g = absurd h
  made_push (a ∷ xs) [] x y h g = absurd h
  made_push (a ∷ xs) (b ∷ ys) x y h g = (h.0, made_push xs ys x y h.1 g)

  module _ (s : List ℕ) (ys : List T) (names : List Name) (rest : List ℕ) (f : MadeSoFar F contents gives s ys names rest) where
    -- of an entry that is read
    pub one_more_made : (x : R) (behind : List ℕ) → TakesFirst F rest (Some (contents x, behind)) → (n : Name) → n ≡ F.name (contents x) → (y : T) → gives (record { byte = length s - length rest; entry = x }) y → (ys' : List T) (names' : List Name) → refusal names n ≡ None → ys' ≡ ys ++ (y ∷ []) → names' ≡ names ++ (n ∷ []) → MadeSoFar F contents gives s ys' names' behind
    one_more_made x behind t n is y g ys' names' e p q = record {
      xs = f.xs ++ (record { byte = length s - length rest; entry = x } ∷ []);
      so_far = one_more F contents s f.xs names rest f.so_far x behind t n is _ names' e refl q;
      made = rw p (made_push f.xs ys (record { byte = length s - length rest; entry = x }) y f.made g);
    }

-- where what is made of each entry is that entry with its byte
pub as_they_are : {R E : Type 0} (F : Format E) (contents : R → E) (s : List ℕ) (r : Result (Vec (Placed R) Global) Fault) → ReadsAs F contents (λ x y. y ≡ x) s r → Reads F contents s r
as_they_are {R} F contents s (Ok v) (xs, made, means, placed) = rw (same xs (vec_items v) made) (means, placed)
  where
    same : (xs ys : List (Placed R)) → AllZip (λ x y. y ≡ x) xs ys → ys ≡ xs
    same [] [] h = refl
    same [] (y ∷ ys) h = absurd h
    same (x ∷ xs) [] h = absurd h
    same (x ∷ xs) (y ∷ ys) h = rw (h.0, same xs ys h.1) refl
as_they_are F contents s (Err (Stopped why byte)) h = h
as_they_are F contents s (Err (OutOfMemory e)) h = tt
