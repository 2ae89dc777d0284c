use Rattle.std.proofs.Common.{◌≡◌, ◌<◌, [], ◌∷◌, map, length, take, true, false, is_some, Some, sym, ap, ◌∙◌, arith}
use Rattle.std.proofs.lemmas.List.{map-append, take_more_set}
use Rattle.code.specs.Names.{letters}
use Rattle.lookup.specs.Lookup.{place_in}
use Rattle.slots.specs.Tables.{listed}
use Rattle.slots.proofs.Collected.{stood, added, filled, listed_length}
use Rattle.slots.proofs.table.Slots.note.Goals as goal
use Rattle.slots.proofs.table.Slots.note.Goals.{else-self-lt-ROOM-via-then-self-lt-ROOM+else-is_none, else-self-lt-ROOM-via-else-self-lt-ROOM}

pub returns-then-is_none : goal.returns-then-is_none
returns-then-is_none c =
    let s = c.args.self.now in
    let w = letters c.args.name.now in
    let absent : is_some (place_in (listed s) w) ≡ false = ap (λ l. is_some (place_in (listed s) l)) (sym c.bytes.ensures.value) ∙ ap is_some (sym c.slot.ensures) ∙ c.if-is_none.ensures in
    let room : s.len < length s.names = omega (arith, s.whole) in
    let len = listed_length s in
    ap (map letters) (take_more_set s.names s.len c.args.name.now room) ∙ map-append letters (take s.len s.names) (c.args.name.now ∷ []) ∙ added (listed s) w (omega arith) absent

pub returns-else-self-lt-ROOM : goal.returns-else-self-lt-ROOM
returns-else-self-lt-ROOM c =
    let s = c.args.self.now in
    let w = letters c.args.name.now in
    let len = listed_length s in
    elim c.else-self-lt-ROOM.branch [
      | else-self-lt-ROOM-via-then-self-lt-ROOM+else-is_none b ↦
          let known : is_some (place_in (listed s) w) ≡ true = ap (λ l. is_some (place_in (listed s) l)) (sym b.bytes.ensures.value) ∙ ap is_some (sym b.slot.ensures) ∙ b.if-is_none.ensures in
          stood (listed s) w (omega (arith, s.few)) known
      | else-self-lt-ROOM-via-else-self-lt-ROOM b ↦ filled (listed s) (Some w) (omega (arith, s.few))
    ]
