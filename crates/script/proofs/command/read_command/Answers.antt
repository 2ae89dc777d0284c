use Rattle.std.proofs.Common.{◌≡◌, codes, ap, ◌∙◌, rules, sym}
use Rattle.std.proofs.lemmas.Slice.Eq.{text_from_reads}
use Rattle.script.specs.Pieces.{after_word}
use Rattle.script.specs.Commands.{keyword_of, given, given_any, command_of, Second, Window, TextHex}
use Rattle.script.proofs.Words.{command_at, keyword_none, IsUnknown}
use Rattle.script.proofs.command.read_command.Goals as goal

pub returns-in-second : goal.returns-in-second
returns-in-second c =
    let line = c.args.line.now in
    let piece = c.cut_word.result.piece.now in
    let word : piece ≡ codes "second" = text_from_reads piece (codes "second") (search rules) (search rules) in
    let asked : given Second (after_word line) ≡ command_of line = ap (λ w. given_any (keyword_of w) (after_word line)) (sym word) ∙ command_at line piece (search rules) (search rules) c.cut_word.ensures.piece in
    search rules

pub returns-in_ok-window-in-window : goal.returns-in_ok-window-in-window
returns-in_ok-window-in-window c =
    let line = c.args.line.now in
    let piece = c.cut_word.result.piece.now in
    let word : piece ≡ codes "window" = text_from_reads piece (codes "window") (search rules) (search rules) in
    let asked : given Window (after_word line) ≡ command_of line = ap (λ w. given_any (keyword_of w) (after_word line)) (sym word) ∙ command_at line piece (search rules) (search rules) c.cut_word.ensures.piece in
    search rules

pub returns-in-116-2 : goal.returns-in-116-2
returns-in-116-2 c =
    let line = c.args.line.now in
    let piece = c.cut_word.result.piece.now in
    let word : piece ≡ codes "text-hex" = text_from_reads piece (codes "text-hex") (search rules) (search rules) in
    let asked : given TextHex (after_word line) ≡ command_of line = ap (λ w. given_any (keyword_of w) (after_word line)) (sym word) ∙ command_at line piece (search rules) (search rules) c.cut_word.ensures.piece in
    search rules

pub returns-in_default : goal.returns-in_default
returns-in_default c =
    let piece = c.cut_word.result.piece.now in
    let unknown : IsUnknown piece = record {
      first = λ e. search rules;
      second = λ e. search rules;
      bytes = λ e. search rules;
      file = λ e. search rules;
      window = λ e. search rules;
      patch = λ e. search rules;
      undo = λ e. search rules;
      show = λ e. search rules;
      text = λ e. search rules;
      text_hex = λ e. search rules;
      draft = λ e. search rules;
    } in
    sym (ap (λ k. given_any k (after_word c.args.line.now)) (keyword_none piece unknown))
    ∙ command_at c.args.line.now piece (search rules) (search rules) c.cut_word.ensures.piece
