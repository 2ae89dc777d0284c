use Rattle.std.proofs.Common.{◌<◌, [], get_or, arith}
use Rattle.sealed.specs.Grammars.{grammar_of}
use Rattle.sealed.proofs.Grammars.{few_alternatives}
use Rattle.engine.proofs.Blanks.{zeros}
use Rattle.engine.proofs.Trying.{no_more, one_more, terms_fit, place_fits}
use Rattle.engine.proofs.tables.Tables.try_next.Goals as goal

pub returns-in_default-clause-goes : goal.returns-in_default-clause-goes
returns-in_default-clause-goes c = λ read bytes sound. no_more read _ _ bytes _ _ _ _ c.args.c c.args.i c.args.k c.in_default.ensures sound

pub overflow_add-result : goal.overflow_add-result
overflow_add-result c = omega (arith, terms_fit (get_or (grammar_of c.args.grammar.now) c.args.c.number []) c.args.i c.args.k c.in-Some.n c.in-Some.ensures c.requires.1)

pub returns-clause-goes : goal.returns-clause-goes
returns-clause-goes c = λ read bytes sound.
    let all = get_or (grammar_of c.args.grammar.now) c.args.c.number [] in
    let fits : c.args.i < 18446744073709551615 = omega (arith, place_fits all c.args.i c.in-Some.n c.in-Some.ensures, few_alternatives c.args.grammar.now c.args.c.number) in
    one_more read _ _ bytes _ _ _ _ c.args.c c.args.i c.args.k c.in-Some.n _ c.in-Some.ensures fits (zeros _ c.default.ensures.1.1.1.1.1.1) sound
