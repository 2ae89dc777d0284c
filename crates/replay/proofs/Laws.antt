-- Laws over whole lists of calls.
use Rattle.std.proofs.Common.{◌≡◌, ℕ, ◌-◌, cond, List, [], ◌∷◌, ◌++◌, length, take, is_ok, refl, ap, ◌∙◌, arith}
use Rattle.std.proofs.lemmas.List.{length-append, take_at}
use Rattle.input.specs.Errata.{Erratum, undone}
use Rattle.replay.specs.declared.Call.{Call}
use Rattle.replay.specs.declared.Call.TheVariants.{Patch, Undo}
use Rattle.replay.specs.Calls.{answered, errata_then, errata_from, answers_from, errata_after}
use Rattle.replay.specs.Laws.{CallByCall, UndoTakesBack}

errata_++ : (n : ℕ) (es : List Erratum) (cs ds : List Call) → errata_from n es (cs ++ ds) ≡ errata_from n (errata_from n es cs) ds
unfolding errata_from
errata_++ n es [] ds = refl
errata_++ n es (c ∷ cs) ds = errata_++ n (errata_then n es c) cs ds

answers_more : (n : ℕ) (es : List Erratum) (cs : List Call) (c : Call) → answers_from n es (cs ++ c ∷ []) ≡ answers_from n es cs ++ answered n (errata_from n es cs) c ∷ []
unfolding errata_from answers_from
answers_more n es [] c = refl
answers_more n es (d ∷ cs) c = ap (λ z. answered n es d ∷ z) (answers_more n (errata_then n es d) cs c)

pub call_by_call : CallByCall
unfolding errata_from
call_by_call n cs c = record { errata = errata_++ n [] cs (c ∷ []); answers = answers_more n [] cs c }

undone_last : (es : List Erratum) (e : Erratum) → undone (es ++ e ∷ []) ≡ es
undone_last es e =
    let n : length (es ++ e ∷ []) - 1 ≡ length es = ap (λ k. k - 1) (length-append es (e ∷ [])) ∙ omega arith in
    ap (λ k. take k (es ++ e ∷ [])) n ∙ take_at es (e ∷ []) (length es) refl

pub undo_takes_back : UndoTakesBack
unfolding errata_from
undo_takes_back n cs p bs ok =
    let es = errata_after n cs in
    errata_++ n [] cs (Patch p bs ∷ Undo ∷ [])
    ∙ ap undone (ap (λ r. cond (is_ok r) (es ++ record { place = p; bytes = bs.now } ∷ []) es) ok)
    ∙ undone_last es _
