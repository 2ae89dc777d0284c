-- Names and numbers of the built-in readers go both ways.
use Rattle.std.proofs.Common.{◌≡◌, ℕ, cond, eqb, List, Some, None, codes, Option, sym, ap, subst, arith}
use Rattle.std.proofs.lemmas.Slice.Eq.{bytes_eq-Decides}
use Rattle.std.proofs.lemmas.Bool.{cond_both, eqb-true}
use Rattle.std.specs.Str.{bytes_eq}
use Rattle.fields.specs.Names.{reader_table, number_in, name_in, TableAgrees}

-- one line of the table, or one after it
line_of_number : (n k : ℕ) (text name : List ℕ) (rest : Option (List ℕ)) (P : Type 0) → (n ≡ k → text ≡ name → P) → (rest ≡ Some name → P) → cond (eqb n k) (Some text) rest ≡ Some name → P
line_of_number n k text name rest P this later =
    cond_both (eqb n k) (Some text) rest (λ o. o ≡ Some name → P) (λ t e. this (eqb-true n k t) (cc)) (λ f e. later e)

line_of_name : (n k : ℕ) (text name : List ℕ) (rest : Option ℕ) (P : Type 0) → (k ≡ n → text ≡ name → P) → (rest ≡ Some n → P) → cond (bytes_eq text name) (Some k) rest ≡ Some n → P
line_of_name n k text name rest P this later =
    cond_both (bytes_eq text name) (Some k) rest (λ o. o ≡ Some n → P) (λ t e. this (cc) ((bytes_eq-Decides text name).0 t)) (λ f e. later e)

no_line : {X : Type 0} (x : X) (P : Type 0) → None ≡ Some x → P
no_line x P e = absurd (let z : ◌≡◌ {A = ℕ} 0 1 = cc in omega arith)

by_number : (n : ℕ) (name : List ℕ) → name_in reader_table n ≡ Some name → number_in reader_table name ≡ Some n
by_number n name =
    let P : Type 0 = number_in reader_table name ≡ Some n in
    let Q : List ℕ → Type 0 = λ text. number_in reader_table text ≡ Some n in
    line_of_number n 32 (codes "u8") name _ P (λ e t. subst Q t (ap Some (sym e)))
    (line_of_number n 33 (codes "u16le") name _ P (λ e t. subst Q t (ap Some (sym e)))
    (line_of_number n 35 (codes "u32le") name _ P (λ e t. subst Q t (ap Some (sym e)))
    (line_of_number n 37 (codes "u64le") name _ P (λ e t. subst Q t (ap Some (sym e)))
    (line_of_number n 40 (codes "raw") name _ P (λ e t. subst Q t (ap Some (sym e))) (no_line name P)))))

by_name : (n : ℕ) (name : List ℕ) → number_in reader_table name ≡ Some n → name_in reader_table n ≡ Some name
by_name n name =
    let P : Type 0 = name_in reader_table n ≡ Some name in
    let Q : ℕ → Type 0 = λ k. name_in reader_table k ≡ Some name in
    line_of_name n 32 (codes "u8") name _ P (λ e t. subst Q e (ap Some t))
    (line_of_name n 33 (codes "u16le") name _ P (λ e t. subst Q e (ap Some t))
    (line_of_name n 35 (codes "u32le") name _ P (λ e t. subst Q e (ap Some t))
    (line_of_name n 37 (codes "u64le") name _ P (λ e t. subst Q e (ap Some t))
    (line_of_name n 40 (codes "raw") name _ P (λ e t. subst Q e (ap Some t)) (no_line n P)))))

pub table_agrees : TableAgrees
table_agrees = record { by_number = by_number; by_name = by_name }
