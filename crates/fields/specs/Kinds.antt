-- The built-in readers by what they read, with their numbers and names.
use Rattle.std.specs.Prelude.{◌≡◌, ℕ, cond, List, Some, None, Ok, Err, codes, Option, Result}
use Rattle.std.specs.Str.{bytes_eq}
use Rattle.fields.specs.Names.{reader_table, name_in}
use Rattle.fields.specs.declared.kind.Kind.{Kind}
use Rattle.fields.specs.declared.kind.Kind.TheVariants.{U8, U16Le, U32Le, U64Le, Raw}
use Rattle.fields.specs.declared.kind.UnknownReader.{UnknownReader}

abbrev pub number_of : Kind → ℕ
number_of U8 = 32
number_of U16Le = 33
number_of U32Le = 35
number_of U64Le = 37
number_of Raw = 40

abbrev pub name_of : Kind → List ℕ
name_of U8 = codes "u8"
name_of U16Le = codes "u16le"
name_of U32Le = codes "u32le"
name_of U64Le = codes "u64le"
name_of Raw = codes "raw"

abbrev pub kind_named : List ℕ → Option Kind
kind_named name =
    cond (bytes_eq (name_of U8) name) (Some U8)
    (cond (bytes_eq (name_of U16Le) name) (Some U16Le)
    (cond (bytes_eq (name_of U32Le) name) (Some U32Le)
    (cond (bytes_eq (name_of U64Le) name) (Some U64Le)
    (cond (bytes_eq (name_of Raw) name) (Some Raw) None))))

-- a number gives the reader that has it; one that is not in the table gives none, and is told
abbrev pub Decodes : ℕ → Result Kind UnknownReader → Type 0
Decodes n (Ok k) = n ≡ number_of k
Decodes n (Err e) = (e.0 ≡ n) × (name_in reader_table n ≡ None)
