-- The bytes of a name.
use Rattle.std.specs.Prelude.{ℕ, List, take}
use Rattle.code.specs.declared.name.Name.{Name}

abbrev pub letters : Name → List ℕ
letters n = take n.len n.bytes
