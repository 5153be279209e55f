-- Going back over a path part by part, and what it tells at the top.
use Rattle.std.proofs.Common.{◌≡◌, ℕ, ◌+◌, ◌<◌, ◌≤◌, Bool, true, false, cond, eqb, List, [], ◌∷◌, ◌++◌, length, is_some, Some, None, MatchOption, Decides, Option, sym, ap, ◌∙◌, subst, append_assoc, append-nil, arith, length-append, Bor}
use Rattle.std.specs.Option.{option_map}
use Rattle.std.proofs.lemmas.List.{nil_from_length}
use Rattle.std.proofs.lemmas.Bool.{false≢true}
use Rattle.names.specs.Names.{Name}
use Rattle.std.specs.List.{onto_first}
use Rattle.names.specs.Keys.{parts}
use Rattle.host.specs.Paths.{segments, walked, without_last}
use Rattle.host.specs.Goals.{SplitsLast, aim, Meets, LeadsTo, GoesBack}
use Rattle.host.specs.declared.goal.Goal.{Goal}
use Rattle.host.proofs.Splitting.{splits_segments}
use Rattle.host.proofs.Walks.{back_none, back_more, back_never, back_ends, without_last_push}

-- over some parts of a path, and not yet over the rest
abbrev pub Gone : Name → Goal → List Name → Goal → Type 0
Gone path start rest goal = (done : List Name) × (parts path ≡ rest ++ done) × GoesBack done start (Some goal)

abbrev pub bytes_left : Option Name → ℕ
bytes_left None = 0
bytes_left (Some rest) = length rest

pub gone_none : (path : Name) (start : Goal) → Gone path start (parts path) start
gone_none path start = ([], sym (append-nil (parts path)), back_none (aim start) start.extra)

module _ (path rest : Name) (front : Option Name) (part : Name) (start goal : Goal) (s : SplitsLast rest front part) (g : Gone path start (parts rest) goal) where
  whole : parts path ≡ segments front ++ (part ∷ g.0)
  whole = g.1 ∙ ap (λ l. l ++ g.0) (splits_segments rest front part s) ∙ append_assoc (segments front) (part ∷ []) g.0

  pub gone_more : (h : Goal) → GoesBack (part ∷ []) goal (Some h) → Gone path start (segments front) h
  gone_more h b = (part ∷ g.0, whole, back_more (aim start) start.extra g.0 (part ∷ []) (aim goal) goal.extra (aim h) h.extra g.2 b)

  pub gone_wrong : GoesBack (part ∷ []) goal None → GoesBack (parts path) start None
  gone_wrong b =
      subst (λ l. GoesBack l start None) (sym whole)
      (back_ends (aim start) start.extra (part ∷ g.0) (segments front)
      (back_never (aim start) start.extra g.0 (part ∷ []) (aim goal) goal.extra g.2 b))

pub gone_all : (path : Name) (start goal : Goal) → Gone path start [] goal → GoesBack (parts path) start (Some goal)
gone_all path start goal (done, e, b) = subst (λ l. GoesBack l start (Some goal)) (sym e) b

pub parts_fit : (path : Name) (front : Option Name) (part : Name) → SplitsLast path front part → bytes_left front + length part ≤ length path
parts_fit path None part s = let n = ap length s.1 in omega arith
parts_fit path (Some front) part s = let n = ap length s.1 in omega (arith, length-append front (47 ∷ part))

pub parts_some : (p : Name) → 0 < length (parts p)
parts_some [] = omega arith
parts_some (b ∷ p) = by (eqb b 47) (parts p) (parts_some p)
  where
    by : (t : Bool) (l : List Name) → 0 < length l → 0 < length (cond t ([] ∷ l) (onto_first b l))
    by true l h = omega arith
    by false [] h = omega arith
    by false (x ∷ xs) h = omega arith

-- where a path's directory is
pub directory_is : (p : Name) (front : Option Name) (x : Name) → SplitsLast p front x → without_last (parts p) ≡ segments front
directory_is p front x s = ap without_last (splits_segments p front x s) ∙ without_last_push (segments front) x

module _ (ws : List Name) (start : Goal) (z : start.extra ≡ 0) where
  pub leads_so : LeadsTo ws start [] → walked [] ws ≡ Some (aim start)
  leads_so (q, e, (more, k, h)) = e ∙ ap Some (h ∙ ap (λ l. aim start ++ l) (nil_from_length more (k ∙ z)) ∙ append-nil (aim start))

  pub so_leads : walked [] ws ≡ Some (aim start) → LeadsTo ws start []
  so_leads e = (aim start, e, ([], sym z, sym (append-nil (aim start))))

  -- what the top tells
  pub decided_by : {Q : Goal → Type 0} (o : Option Goal) (r : Bool) → GoesBack ws start o → MatchOption o (r ≡ false) Q → ((g : Goal) → Q g → Decides r (Meets g [])) → Decides r (walked [] ws ≡ Some (aim start))
  decided_by None r b m f = (λ t. absurd (false≢true (sym m ∙ t)), λ e. absurd (b [] (so_leads e)))
  decided_by (Some g) r b m f = let d = f g m in (λ t. leads_so ((b []).1 (d.0 t)), λ e. d.1 ((b []).0 (so_leads e)))

-- over some parts, and from the goal found there over those before them
pub back_over : {Q : Goal → Type 0} (xs ys : List Name) (start : Goal) (o r : Option Goal) → GoesBack ys start o → MatchOption o (r ≡ None) Q → ((g : Goal) → Q g → GoesBack xs g r) → GoesBack (xs ++ ys) start r
back_over xs ys start None r b m f = subst (GoesBack (xs ++ ys) start) (sym m) (back_ends (aim start) start.extra ys xs b)
back_over xs ys start (Some g) None b m f = back_never (aim start) start.extra ys xs (aim g) g.extra b (f g m)
back_over xs ys start (Some g) (Some h) b m f = back_more (aim start) start.extra ys xs (aim g) g.extra (aim h) h.extra b (f g m)

-- a goal that has a path is not met at the top
pub not_met : (o : Option (Bor (List ℕ))) (n : ℕ) → is_some o ≡ true → ¬ ((more : List Name) × (length more ≡ n) × ([] ≡ segments (option_map (λ x. x.now) o) ++ more))
not_met None n e m = false≢true e
not_met (Some p) n e (more, k, h) = let l = ap length h in omega (arith, parts_some p.now, length-append (parts p.now) more)
