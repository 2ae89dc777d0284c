-- The limits of a sealed grammar.
use Rattle.std.specs.Prelude.{ℕ, Bool, ◌&&◌, nat_le}

-- at most 32 rules, 96 alternatives, 256 terms, 512 literal bytes, and 1,024 parts and operators of expressions
abbrev pub in_limits : (rules alternatives terms bytes code : ℕ) → Bool
in_limits rules alternatives terms bytes code = nat_le rules 32 && nat_le alternatives 96 && nat_le terms 256 && nat_le bytes 512 && nat_le code 1024
