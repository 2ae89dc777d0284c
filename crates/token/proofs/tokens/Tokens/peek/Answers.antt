use Rattle.std.proofs.Common.{sym, ap, ◌∙◌}
use Rattle.token.specs.Tokens.{tokens_at}
use Rattle.token.specs.Ahead.{Ahead}
use Rattle.token.proofs.tokens.Tokens.peek.Goals as goal

pub returns : goal.returns
returns c =
    let token = c.in_ok-token.ensures in
    (tokens_at c.self.inside.text.now c.in_ok-token.field-0-1, sym (ap (λ (a : Ahead). a.left) c.self.view_is) ∙ token.0, token.1)
