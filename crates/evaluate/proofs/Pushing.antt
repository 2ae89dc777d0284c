-- A push onto a stack that has room.
use Rattle.std.proofs.Common.{◌≡◌, ◌<◌, List, ◌∷◌, length, set, ap, ◌∙◌, arith, length-set}
use Rattle.std.proofs.lemmas.Bool.Decides.{nat_tests}
use Rattle.stack.specs.Stacks.{held_after_push, room_after_push}

module _ {X : Type 0} (slots xs : List X) (x : X) (h : length xs < length slots) where
  pub pushed_held : held_after_push slots xs x ≡ x ∷ xs
  pushed_held = grind (arith, nat_tests)

  set_room : room_after_push slots xs x ≡ set slots (length xs) x
  set_room = grind (arith, nat_tests)

  pub pushed_room : length (room_after_push slots xs x) ≡ length slots
  pushed_room = ap length set_room ∙ length-set slots (length xs) x
