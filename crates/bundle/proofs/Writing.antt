-- Writing a bundle entry by entry.
use Rattle.std.proofs.Common.{◌≡◌, ℕ, ◌+◌, ◌<◌, ◌≤◌, Bool, true, false, ◌⊎◌, List, [], ◌∷◌, ◌++◌, map, length, get_or, take, drop, Some, None, Ok, Err, Result, sym, refl, ap, ◌∙◌, subst, inl, inr, append-nil, arith}
use mathlib.Core.List.{Memᴰ}
use lib.ListN.{length-map}
use Rattle.std.proofs.lemmas.List.{take_more, map-append, take-append-drop, drop_more}
use Rattle.std.proofs.lemmas.Bool.{both_ways, cases_lt}
use Rattle.names.specs.Names.{Name, among}
use Rattle.record.specs.declared.denial.Denial.{Denial}
use Rattle.entries.specs.declared.stop.Stop.{Stop}
use Rattle.entries.specs.declared.stop.Stop.TheVariants.{Malformed, TooMany, Repeated}
use Rattle.entries.specs.Entries as entries
use Rattle.entries.specs.Entries.{all_encoded, well_formed, Begins, Stops}
use Rattle.entries.specs.Seen.{refusal}
use Rattle.entries.proofs.Seeing.{RefusedFor, refused_since, passed_since}
use Rattle.entries.proofs.Unique.{all_encoded_append, parts, well_formed_more, means_only}
use Rattle.bundle.specs.declared.entry.Entry as code
use Rattle.bundle.specs.Format.{Entry, encoded, good, format, plain, plain_all}
use Rattle.record.specs.Denials.{malformed_at}
use Rattle.bundle.specs.Bundles.{Refused, stops, too_long, Misplaced, FirstMisplaced, Unwritable, too_large, misplaced, Writes, Fits, RefusesAsReadingWould}
use Rattle.bundle.proofs.Lawful.{lawful, good_fits, comes_apart}

module _ (l : List code.Entry) where
  -- the first i entries
  abbrev front : ℕ → List Entry
  front i = plain_all (take i l)

  front_more : (i : ℕ) (d : code.Entry) → i < length l → front (i + 1) ≡ front i ++ (plain (get_or l i d) ∷ [])
  front_more i d h = ap plain_all (take_more l i d h) ∙ map-append plain (take i l) (get_or l i d ∷ [])

  encoded_more : (i : ℕ) (d : code.Entry) → i < length l → all_encoded format (plain_all (take (i + 1) l)) ≡ all_encoded format (plain_all (take i l)) ++ encoded (plain (get_or l i d))
  encoded_more i d h =
      let x = plain (get_or l i d) in
      ap (all_encoded format) (front_more i d h) ∙ all_encoded_append format (front i) (x ∷ []) ∙ ap (λ r. all_encoded format (front i) ++ r) (append-nil (encoded x))

  pub written_more : (i : ℕ) (d : code.Entry) → i < length l → (out out' : List ℕ) → out ≡ all_encoded format (plain_all (take i l)) → out' ≡ out ++ encoded (plain (get_or l i d)) → out' ≡ all_encoded format (plain_all (take (i + 1) l))
  written_more i d h out out' e f = f ∙ ap (λ v. v ++ encoded (plain (get_or l i d))) e ∙ sym (encoded_more i d h)

  module _ (i : ℕ) (d : code.Entry) (in_range : i < length l) where
    all_but : plain_all (take i l) ++ (plain (get_or l i d) ∷ plain_all (drop (i + 1) l)) ≡ plain_all l
    all_but =
        ap (λ r. plain_all (take i l) ++ plain_all r) (sym (drop_more l i d in_range)) ∙ sym (map-append plain (take i l) (drop i l)) ∙ ap plain_all (take-append-drop i l)

    module _ (well : well_formed format (plain_all (take i l)) ≡ true) where
      pub unwritable_at : (out : List ℕ) (x : Denial) → out ≡ all_encoded format (plain_all (take i l)) → x ≡ malformed_at (length out) → length (all_encoded format (plain_all l)) ≤ 65536 → Misplaced (plain_all (take i l)) (plain (get_or l i d)) → Unwritable (plain_all l) x
      unwritable_at out x is at short m = subst (Unwritable (plain_all l)) (sym at) (misplaced short (record { before = plain_all (take i l); entry = plain (get_or l i d); after = plain_all (drop (i + 1) l); all = all_but; well = well; misplaced = m; is_byte = ap length (sym is) }))

      module _ (names : List Name) (is : names ≡ map (λ e. e.key) (plain_all (take i l))) where
        size : length names ≡ length (plain_all (take i l))
        size = ap length is ∙ length-map (plain_all (take i l)) (λ e. e.key)

        pub refused_place : (why : Stop) → refusal names (plain (get_or l i d)).key ≡ Some why → Misplaced (plain_all (take i l)) (plain (get_or l i d))
        refused_place why r = by why (refused_since names (plain (get_or l i d)).key why r)
          where
            by : (w : Stop) → RefusedFor names (plain (get_or l i d)).key w → Misplaced (plain_all (take i l)) (plain (get_or l i d))
            by Malformed n = absurd n
            by TooMany n = inr (inl (let k = (parts format (plain_all (take i l)) well).few in omega (arith, size)))
            by Repeated n = inr (inr (ap (λ ns. among ns (plain (get_or l i d)).key) (sym is) ∙ n.1))

        pub well_more : good (plain (get_or l i d)) ≡ true → refusal names (plain (get_or l i d)).key ≡ None → well_formed format (plain_all (take (i + 1) l)) ≡ true
        well_more g r =
            let p = passed_since names (plain (get_or l i d)).key r in
            let n = p.0 in
            let k = size in
            ap (well_formed format) (front_more i d in_range) ∙ well_formed_more format (plain_all (take i l)) (plain (get_or l i d)) well g (omega arith) (ap (λ ns. among ns (plain (get_or l i d)).key) (sym is) ∙ p.1)

        pub names_more : (names' : List Name) → names' ≡ names ++ ((plain (get_or l i d)).key ∷ []) → names' ≡ map (λ e. e.key) (plain_all (take (i + 1) l))
        names_more names' e =
            e ∙ ap (λ ns. ns ++ ((plain (get_or l i d)).key ∷ [])) is ∙ sym (map-append (λ e. e.key) (plain_all (take i l)) (plain (get_or l i d) ∷ [])) ∙ ap (map (λ e. e.key)) (sym (front_more i d in_range))

-- the refusal that reading gives
module _ (es : List Entry) (byte : ℕ) (m : FirstMisplaced es byte) (fit : (e : Entry) → Memᴰ e es → Fits e) where
  whole : all_encoded format m.before ++ (encoded m.entry ++ all_encoded format m.after) ≡ all_encoded format es
  whole = sym (all_encoded_append format m.before (m.entry ∷ m.after)) ∙ ap (all_encoded format) m.all

  abbrev begins : good m.entry ≡ true → Begins format (encoded m.entry ++ all_encoded format m.after)
  begins g = record { entry = m.entry; rest = all_encoded format m.after; is = refl; well = g }

  refused : (why : Stop) → entries.Refused format m.before (encoded m.entry ++ all_encoded format m.after) why → Stops format (all_encoded format es) why byte
  refused why r = record { before = m.before; rest = encoded m.entry ++ all_encoded format m.after; front = record { all = whole; well = m.well }; refused = r; is_byte = m.is_byte }

  malformed_entry : good m.entry ≡ false → ¬ Begins format (encoded m.entry ++ all_encoded format m.after)
  malformed_entry g b =
      let among : Memᴰ m.entry es = subst (Memᴰ m.entry) m.all (mathlib.Core.List.Memᴰ.append_right m.before (mathlib.Core.List.Memᴰ.head refl)) in
      let same = (comes_apart b.entry m.entry b.rest (all_encoded format m.after) (good_fits b.entry b.well) (fit m.entry among) b.is).0 in
      both_ways (good m.entry) g (sym (ap good same) ∙ b.well)

  by_misplaced : (g : Bool) → good m.entry ≡ g → Misplaced m.before m.entry → (why : Stop) × Stops format (all_encoded format es) why byte
  by_misplaced false g p = (Malformed, refused Malformed ((λ h. never h), malformed_entry g))
    where
      never : encoded m.entry ++ all_encoded format m.after ≡ [] → ⊥
      never h = let n = ap length h in omega arith
  by_misplaced true g (inl p) = absurd (both_ways (good m.entry) p g)
  by_misplaced true g (inr (inl p)) = (TooMany, refused TooMany (p, begins g))
  by_misplaced true g (inr (inr p)) = by (cases_lt (length m.before) 32)
    where
      by : (length m.before < 32) ⊎ (32 ≤ length m.before) → (why : Stop) × Stops format (all_encoded format es) why byte
      by (inl l) = (Repeated, refused Repeated (l, (begins g, p)))
      by (inr l) = (TooMany, refused TooMany (let k = (parts format m.before m.well).few in omega arith, begins g))

  pub read_stops : (why : Stop) × Stops format (all_encoded format es) why byte
  read_stops = by_misplaced (good m.entry) refl m.misplaced

-- writing refuses as reading would
pub refuses_alike : (es : List Entry) (r : Result (List ℕ) Denial) → Writes es r → RefusesAsReadingWould es r
refuses_alike es r h d is memory fit = by r h is
  where
    from : (x : Denial) → Unwritable es x → Refused (all_encoded format es) x
    from x (too_large l) = too_long l
    from x (misplaced {byte} short m) = let (why, s) = read_stops es byte m fit in stops why short (means_only format lawful (all_encoded format es) (Err (why, byte)) s)

    by : (r : Result (List ℕ) Denial) → Writes es r → r ≡ Err d → Refused (all_encoded format es) d
    by (Ok s) h e = cc
    by (Err x) (inl m) e = absurd (memory (let same : x ≡ d = cc in sym (ap (λ y. y.cause) same) ∙ m))
    by (Err x) (inr u) e = from d (let same : x ≡ d = cc in subst (Unwritable es) same u)
