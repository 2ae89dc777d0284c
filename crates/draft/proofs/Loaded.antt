-- What the tables are after a text was read, or refused.
use Rattle.std.proofs.Common.{◌≡◌, ℕ, suc, ◌+◌, ◌<◌, ◌≤◌, Bool, true, false, cond, ltb, leb, List, ◌++◌, length, take, Some, None, Ok, Err, Result, is_err, sym, refl, ap, ◌∙◌, subst, arith}
use lib.Seq.{take-append_seam}
use Rattle.std.proofs.lemmas.Bool.Decides.{nat_tests}
use Rattle.expr.specs.Reading.{Read, ok}
use Rattle.code.specs.Pieces.{Piece}
use Rattle.arena.specs.declared.span.Span.{Span}
use Rattle.term.specs.Tables.{Tables, Head, Entry, Kept, Front, tables, blank}
use Rattle.token.specs.Tokens.{Tok, tokens_at, bad_token}
use Rattle.rule.specs.Form.{RuleTree, rules_at}
use Rattle.rule.specs.Emission.{emit_all, emit_rule}
use Rattle.rule.specs.Keeping.{emit_kept, rule_kept}
use Rattle.draft.specs.declared.counts.Counts.{Counts}
use Rattle.draft.specs.declared.refused.Refused.{Refused}
use Rattle.draft.specs.declared.refused.Refused.TheVariants as refused_by
use Rattle.draft.specs.declared.store.Draft.{Draft}
use Rattle.draft.specs.Limits.{plus, counts, few_enough}
use Rattle.draft.specs.Shown.{rules_of}
use Rattle.draft.specs.Cutting.{sizes_of, cut_to}
use Rattle.draft.specs.Loading.{by_form, answer, Whole, Taken, ReadsForm, Reads}
use Rattle.draft.proofs.Shows.{Sound, Fits, rules_show}
use Rattle.draft.proofs.Sizes.{Sized, By, rules_sized, counts_both, same_counts}

pub blank_whole : Whole blank
unfolding counts
blank_whole = record { code_in = omega arith; bytes_in = omega arith; terms_in = omega arith; alternatives_in = omega arith; counted = refl }

sound_of : (T : Tables) → Whole T → Sound T
sound_of T w = record { code_in = w.code_in; bytes_in = w.bytes_in; terms_in = w.terms_in; alternatives_in = w.alternatives_in }

-- ---- limits
leb_same : (a k l b : ℕ) → By (suc l) a k b → leb b l ≡ leb (a + k) l
leb_same a k l b is = go (leb (a + k) l) refl
  where
    go : (x : Bool) → leb (a + k) l ≡ x → leb b l ≡ x
    go true h =
        let few : a + k ≤ l = grind (arith, nat_tests) in
        let same : b ≤ l = omega arith in
        grind (arith, nat_tests)
    go false h =
        let many : l < a + k = grind (arith, nat_tests) in
        let same : l < b = omega arith in
        grind (arith, nat_tests)

-- the limits are passed exactly if the tables are fuller than they may be
limits_told : (T U : Tables) (k : Counts) → Sized T U k → few_enough (sizes_of U) ≡ few_enough (plus (sizes_of T) k)
limits_told T U k s =
    let a = leb_same (length T.rules) k.rules 32 (length U.rules) s.rules_by in
    let b = leb_same (length T.alternatives) k.alternatives 96 (length U.alternatives) s.alternatives_by in
    let c = leb_same (length T.terms) k.terms 256 (length U.terms) s.terms_by in
    let d = leb_same (length T.bytes) k.bytes 512 (length U.bytes) s.bytes_by in
    let e = leb_same (length T.code) k.parts 1024 (length U.code) s.parts_by in
    rw (a, b, c, d, e) refl

fits_told : (U : Tables) → few_enough (sizes_of U) ≡ true → Fits U
fits_told U h = record { rules_fit = grind (arith, nat_tests); alternatives_fit = grind (arith, nat_tests); terms_fit = grind (arith, nat_tests); bytes_fit = grind (arith, nat_tests); code_fits = grind (arith, nat_tests) }

-- where no limit is passed all that was read stands there
sizes_told : (T U : Tables) (k : Counts) → Sized T U k → Fits U → sizes_of U ≡ plus (sizes_of T) k
sizes_told T U k s f =
    let a : length U.rules ≡ length T.rules + k.rules = omega (arith, s.rules_by, f.rules_fit) in
    let b : length U.alternatives ≡ length T.alternatives + k.alternatives = omega (arith, s.alternatives_by, f.alternatives_fit) in
    let c : length U.terms ≡ length T.terms + k.terms = omega (arith, s.terms_by, f.terms_fit) in
    let d : length U.bytes ≡ length T.bytes + k.bytes = omega (arith, s.bytes_by, f.bytes_fit) in
    let e : length U.code ≡ length T.code + k.parts = omega (arith, s.parts_by, f.code_fits) in
    same_counts a b c d e

-- ---- a text was read
module _ (T U : Tables) (rs : List RuleTree) (whole : Whole T) (is : U ≡ emit_all emit_rule T rs) where
  sized : Sized T U (counts rs)
  sized = subst (λ u. Sized T u (counts rs)) (sym is) (rules_sized T rs)

  both_counted : counts (rules_of T ++ rs) ≡ plus (sizes_of T) (counts rs)
  both_counted = counts_both (rules_of T) rs ∙ ap (λ c. plus c (counts rs)) (sym whole.counted)

  limit : few_enough (counts (rules_of T ++ rs)) ≡ few_enough (sizes_of U)
  limit = ap few_enough both_counted ∙ sym (limits_told T U (counts rs) sized)

  pub taken : few_enough (sizes_of U) ≡ true → (r : Read (List RuleTree)) (ts : List Tok) → r ≡ ok rs ts → Taken (Ok tt) (by_form (rules_of T) r) T U
  taken fit r ts read =
      let fits = fits_told U fit in
      let shows = rules_show T rs (sound_of T whole) (subst Fits is fits) in
      let rules : rules_of U ≡ rules_of T ++ rs = ap rules_of is ∙ shows.0 in
      let sound : Sound U = subst Sound (sym is) shows.1 in
      let answers : by_form (rules_of T) r ≡ Ok rs = ap (by_form (rules_of T)) read ∙ ap (λ b. cond b (Ok rs) (Err refused_by.Limit)) (limit ∙ fit) in
      rw answers record {
        told = refl;
        rules_after = rules;
        whole_after = record { code_in = sound.code_in; bytes_in = sound.bytes_in; terms_in = sound.terms_in; alternatives_in = sound.alternatives_in; counted = sizes_told T U (counts rs) sized fits ∙ sym both_counted ∙ ap counts (sym rules) };
      }

  pub passed : few_enough (sizes_of U) ≡ false → (r : Read (List RuleTree)) (ts : List Tok) → r ≡ ok rs ts → Taken (Err refused_by.Limit) (by_form (rules_of T) r) T T
  passed over r ts read =
      let answers : by_form (rules_of T) r ≡ Err refused_by.Limit = ap (by_form (rules_of T)) read ∙ ap (λ b. cond b (Ok rs) (Err refused_by.Limit)) (limit ∙ over) in
      rw answers record { told = refl; rules_after = refl; whole_after = whole }

  pub read_kept : Kept T U
  read_kept = subst (Kept T) (sym is) (emit_kept emit_rule rule_kept T rs)

-- ---- cutting back
cut_front : {X : Type 0} (xs ys : List X) → Front xs ys → take (length xs) ys ≡ xs
cut_front xs ys p = ap (take (length xs)) p.1 ∙ take-append_seam xs p.0

pub same_tables : {a a' : List Head} {b b' : List Span} {c c' : List Entry} {d d' : List ℕ} {e e' : List Piece} → a ≡ a' → b ≡ b' → c ≡ c' → d ≡ d' → e ≡ e' → ◌≡◌ {A = Tables} (record { rules = a; alternatives = b; terms = c; bytes = d; code = e }) (record { rules = a'; alternatives = b'; terms = c'; bytes = d'; code = e' })
same_tables p q r s t = cc

pub restored : (T U V : Tables) (n : Counts) → Kept T U → n ≡ sizes_of T → V ≡ cut_to U n → V ≡ T
restored T U V n k is cut =
    let a = cut_front T.rules U.rules k.rules_kept in
    let b = cut_front T.alternatives U.alternatives k.alternatives_kept in
    let c = cut_front T.terms U.terms k.terms_kept in
    let d = cut_front T.bytes U.bytes k.bytes_kept in
    let e = cut_front T.code U.code k.code_kept in
    cut ∙ ap (cut_to U) is ∙ same_tables a b c d e

-- after a refusal
pub cut_back : (text : List ℕ) (r : Result (Unit {0}) Refused) (T U V : Tables) (n : Counts) → is_err r ≡ true → Reads text r T U → n ≡ sizes_of T → V ≡ cut_to U n → ReadsForm text r T V
cut_back text (Ok u) T U V n h reads is cut = cc
cut_back text (Err e) T U V n h reads is cut = λ whole.
    let told = reads whole in
    subst (Taken (Err e) (by_form (rules_of T) (rules_at (length text) (tokens_at text 0))) T) (sym (restored T U V n told.1 is cut)) told.0

-- ---- a whole text
pub refused_long : (T : Tables) (text : List ℕ) → Whole T → ltb 65536 (length text) ≡ true → Taken (Err refused_by.TooLong) (answer (rules_of T) text) T T
unfolding answer
refused_long T text whole h = rw h record { told = refl; rules_after = refl; whole_after = whole }

pub refused_token : (T : Tables) (text : List ℕ) (p : ℕ) → Whole T → ltb 65536 (length text) ≡ false → bad_token text ≡ Some p → Taken (Err (refused_by.Token p)) (answer (rules_of T) text) T T
unfolding answer
refused_token T text p whole h e = rw (h, e) record { told = refl; rules_after = refl; whole_after = whole }

pub by_its_form : (T : Tables) (text : List ℕ) → ltb 65536 (length text) ≡ false → bad_token text ≡ None → answer (rules_of T) text ≡ by_form (rules_of T) (rules_at (length text) (tokens_at text 0))
unfolding answer
by_its_form T text h e = rw (h, e) refl

-- ---- a draft
pub whole_draft : (d : Draft) → Whole (tables d.arenas)
whole_draft d = record { code_in = d.expressions; bytes_in = d.literals; terms_in = d.alternatives; alternatives_in = d.rules; counted = same_counts d.rulecount d.branchcount d.termcount d.bytecount d.partcount }
