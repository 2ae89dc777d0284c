-- Lists that stop growing at a bound.
use Rattle.std.specs.Prelude.{ℕ, ◌-◌, List, ◌++◌, length, take, vec_items}
use Rattle.arena.specs.declared.store.Arena.{Arena}

-- what an arena holds, the oldest first
abbrev pub stored : {X : Type 0} {n : ℕ} → Arena X n → List X
stored a = vec_items a.items

-- xs and then ys, as far as n items go; what stood before stays
abbrev pub upto : {X : Type 0} → ℕ → List X → List X → List X
upto n xs ys = xs ++ take (n - length xs) ys
