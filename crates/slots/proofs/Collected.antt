-- Names noted one by one, nine at most, are the front of all names noted.
use Rattle.std.proofs.Common.{◌≡◌, ℕ, suc, ◌+◌, ◌<◌, ◌≤◌, Bool, true, false, cond, List, [], ◌∷◌, ◌++◌, map, length, get_or, take, Some, None, Option, is_some, nat_lt, sym, refl, ap, ◌∙◌, ⊎_elim, arith, length-append, length-take}
use Rattle.std.proofs.lemmas.List.{length-map, take_all}
use Rattle.std.proofs.lemmas.List.Folds.{fold-map}
use Rattle.std.proofs.lemmas.List.Sums.{fold_more}
use Rattle.std.proofs.lemmas.Simd.{map-map}
use lib.Seq.{take-append-le}
use Rattle.std.proofs.lemmas.Bool.Decides.{leb_tells, nat_tests}
use Rattle.std.specs.List.{fold, list_any, position_or_len}
use Rattle.std.specs.Str.{bytes_eq}
use Rattle.arena.specs.Bounded.{stored}
use Rattle.arena.specs.Parts.{part}
use Rattle.arena.specs.declared.span.Span.{Span}
use Rattle.arena.proofs.Pieces.{part_map}
use Rattle.code.specs.declared.name.Name.{Name}
use Rattle.code.specs.Pieces.{Piece}
use Rattle.term.specs.declared.arenas.Arenas.{Arenas}
use Rattle.term.specs.declared.arenas.Rule.{Rule}
use Rattle.term.specs.Tables.{Term}
use Rattle.arena.specs.declared.term.Term.TheVariants as term
use Rattle.term.specs.Form.{TermTree}
use Rattle.term.specs.Tables.{entry, head, tables}
use Rattle.draft.specs.Shown.{shown_term, alternatives_of, shown_rule}
use Rattle.names.specs.Stored.{is_name, sets_entry}
use Rattle.lookup.specs.Lookup.{place_in, among, noted, noted_all, noted_in, slots_of, sets}
use Rattle.lookup.proofs.Agrees.{all_set}
use Rattle.lookup.proofs.Views.{any_seen}
use Rattle.code.specs.Names.{letters}
use Rattle.slots.specs.declared.table.Slots.{Slots}
use Rattle.slots.specs.Tables.{listed, kept}

both_more : (a b : ℕ) → nat_lt a b ≡ nat_lt (1 + a) (suc b)
both_more a b = grind (arith, nat_tests)

none_below : (n : ℕ) → nat_lt 0 (suc n) ≡ true
none_below n = grind (arith, nat_tests)

-- a name has a place exactly if it is among the names
placed : {X : Type 0} (p : X → Bool) (xs : List X) → list_any p xs ≡ nat_lt (position_or_len p xs) (length xs)
placed p [] = refl
placed p (x ∷ xs) = go (p x) refl (placed p xs)
  where
    go : (b : Bool) → p x ≡ b → list_any p xs ≡ nat_lt (position_or_len p xs) (length xs) → list_any p (x ∷ xs) ≡ nat_lt (position_or_len p (x ∷ xs)) (length (x ∷ xs))
    go true e h = simp e (sym (none_below (length xs)))
    go false e h = simp e (h ∙ both_more (position_or_len p xs) (length xs))

found : (b : Bool) (n : ℕ) → is_some (cond b (Some n) None) ≡ b
found true n = refl
found false n = refl

among_placed : (vs : List (List ℕ)) (w : List ℕ) → among (map Some vs) w ≡ is_some (place_in vs w)
among_placed vs w =
    any_seen (λ v. is_name v w) Some vs ∙ placed (λ v. bytes_eq v w) vs
    ∙ sym (found (nat_lt (position_or_len (λ v. bytes_eq v w) vs) (length vs)) (position_or_len (λ v. bytes_eq v w) vs))

-- a name that stands there is not noted again
pub stood : (seen : List (List ℕ)) (w : List ℕ) → length seen ≤ 9 → is_some (place_in seen w) ≡ true → seen ≡ kept seen (Some w)
stood seen w h e = sym (ap (λ b. take 9 (cond b seen (seen ++ w ∷ []))) (among_placed seen w ∙ e) ∙ take_all 9 seen h)

pub added : (seen : List (List ℕ)) (w : List ℕ) → length seen < 9 → is_some (place_in seen w) ≡ false → (seen ++ w ∷ []) ≡ kept seen (Some w)
added seen w h e =
    let both = length-append seen (w ∷ []) in
    sym (ap (λ b. take 9 (cond b seen (seen ++ w ∷ []))) (among_placed seen w ∙ e) ∙ take_all 9 (seen ++ w ∷ []) (omega arith))

-- a full table keeps its names
full : (seen : List (List ℕ)) (v : Option (List ℕ)) → 9 ≤ length seen → take 9 (noted seen v) ≡ take 9 seen
full seen None h = refl
full seen (Some w) h = go (among (map Some seen) w) refl
  where
    go : (b : Bool) → among (map Some seen) w ≡ b → take 9 (noted seen (Some w)) ≡ take 9 seen
    go true e = ap (λ b. take 9 (cond b seen (seen ++ w ∷ []))) e
    go false e = ap (λ b. take 9 (cond b seen (seen ++ w ∷ []))) e ∙ take-append-le 9 seen (w ∷ []) h

pub filled : (seen : List (List ℕ)) (v : Option (List ℕ)) → length seen ≡ 9 → seen ≡ kept seen v
filled seen v h = sym (full seen v (omega arith) ∙ take_all 9 seen (omega arith))

pub listed_length : (s : Slots) → length (listed s) ≡ s.len
listed_length s = omega (arith, length-map (take s.len s.names) letters, length-take s.len s.names, s.whole, s.few)

-- one name more
kept_front : (seen : List (List ℕ)) (v : Option (List ℕ)) → kept (take 9 seen) v ≡ take 9 (noted seen v)
kept_front seen v =
    ⊎_elim
    (λ t. let h = t.1 in ap (λ l. take 9 (noted l v)) (take_all 9 seen h))
    (λ t. let h = t.1 in
    let len : length (take 9 seen) ≡ 9 = simp length-take (omega arith) in
    sym (filled (take 9 seen) v len) ∙ sym (full seen v (omega arith)))
    (leb_tells (length seen) 9)

-- ---- what is noted of terms, and of the alternatives of a rule
abbrev pub note_one : List (List ℕ) → Term → List (List ℕ)
note_one seen t = noted seen (sets_entry (entry t))

abbrev pub note_part : List Term → List (List ℕ) → Span → List (List ℕ)
note_part ts seen s = fold note_one seen (part s ts)

-- a term that is no attribute sets nothing
pub unset : (t : Term) → ((a : Name × ℕ) (s : Span) → t ≡ term.Attribute a s → ⊥) → sets_entry (entry t) ≡ None
unset (term.Literal s e) other = refl
unset (term.Call n e) other = refl
unset (term.Attribute a s) other = absurd (other a s refl)
unset (term.Guard s) other = refl

module _ (seen : List (List ℕ)) (ts : List Term) (i : ℕ) (t : Term) (was : List (List ℕ)) (h : i < length ts) (is : t ≡ get_or ts i t) (front : was ≡ take 9 (fold note_one seen (take i ts))) where
  -- a table that holds the front of the names so far holds it after a term too
  pub one_more : (now : List (List ℕ)) → now ≡ kept was (sets_entry (entry t)) → now ≡ take 9 (fold note_one seen (take (i + 1) ts))
  one_more now told =
      told ∙ ap (λ l. kept l (sets_entry (entry t))) front ∙ kept_front (fold note_one seen (take i ts)) (sets_entry (entry t))
      ∙ ap (λ x. take 9 (note_one (fold note_one seen (take i ts)) x)) is ∙ ap (take 9) (sym (fold_more note_one seen ts i t h))

  pub none_more : sets_entry (entry t) ≡ None → was ≡ take 9 (fold note_one seen (take (i + 1) ts))
  none_more unset =
      front ∙ ap (λ v. take 9 (noted (fold note_one seen (take i ts)) v)) (sym unset)
      ∙ ap (λ x. take 9 (note_one (fold note_one seen (take i ts)) x)) is ∙ ap (take 9) (sym (fold_more note_one seen ts i t h))

-- ---- the trees that the tables show set what the stored terms set
part_set : (code : List Piece) (bytes : List ℕ) (ts : List Term) (s : Span) → map sets (part s (map (shown_term code bytes) (map entry ts))) ≡ map (λ t. sets_entry (entry t)) (part s ts)
part_set code bytes ts s =
    sym (part_map sets s (map (shown_term code bytes) (map entry ts)))
    ∙ ap (part s) (all_set code bytes (map entry ts) ∙ map-map sets_entry entry ts)
    ∙ part_map (λ t. sets_entry (entry t)) s ts

module _ (code : List Piece) (bytes : List ℕ) (ts : List Term) where
  abbrev alternative : Span → List TermTree
  alternative s = part s (map (shown_term code bytes) (map entry ts))

  collected : (seen : List (List ℕ)) (ss : List Span) → fold (note_part ts) seen ss ≡ noted_in seen (map alternative ss)
  collected seen [] = refl
  collected seen (s ∷ ss) =
      ap (λ l. fold (note_part ts) l ss) (sym (fold-map noted (λ t. sets_entry (entry t)) seen (part s ts)) ∙ ap (noted_all seen) (sym (part_set code bytes ts s)))
      ∙ collected (noted_all seen (map sets (alternative s))) ss

pub collected_rule : (a : Arenas) (r : Rule) → fold (note_part (stored a.terms)) [] (part r.alternatives (stored a.alternatives)) ≡ slots_of (shown_rule (alternatives_of (tables a)) (head r))
collected_rule a r =
    let T = tables a in
    collected T.code T.bytes (stored a.terms) [] (part r.alternatives (stored a.alternatives))
    ∙ ap (noted_in []) (sym (part_map (λ s. part s (map (shown_term T.code T.bytes) (map entry (stored a.terms)))) r.alternatives (stored a.alternatives)))
