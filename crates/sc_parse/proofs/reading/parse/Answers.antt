use Rattle.sc_parse.proofs.Common.{Any, Parses, length, lexemes_of, subst, whole_line, ◌<◌, ◌≡◌}
use Rattle.sc_parse.proofs.Trees.{parsed, unparsed, line_token}
use Rattle.sc_parse.proofs.reading.parse.Goals as goal

pub returns-clause-parsed : goal.returns-clause-parsed
returns-clause-parsed c =
    let same : c.new-lexemes.result ≡ lexemes_of c.args.section.now.bytes.now c.args.tokens.now =
    c.new-lexemes.ensures in
    parsed c.args.section.now.line (lexemes_of c.args.section.now.bytes.now c.args.tokens.now) c.parse_lexemes.result
    (subst (λ l. Parses c.args.section.now.line l c.parse_lexemes.result) same c.parse_lexemes.ensures.parses)

pub returns-clause-refused : goal.returns-clause-refused
returns-clause-refused c =
    let same : c.new-lexemes.result ≡ lexemes_of c.args.section.now.bytes.now c.args.tokens.now =
    c.new-lexemes.ensures in
    unparsed c.args.section.now.line (lexemes_of c.args.section.now.bytes.now c.args.tokens.now) c.parse_lexemes.result
    (subst (λ l. Parses c.args.section.now.line l c.parse_lexemes.result) same c.parse_lexemes.ensures.parses)

pub returns-clause-line : goal.returns-clause-line
returns-clause-line c =
    λ refusal e.
    let same : c.new-lexemes.result ≡ lexemes_of c.args.section.now.bytes.now c.args.tokens.now =
    c.new-lexemes.ensures in
    line_token c.args.section.now.line c.args.section.now.bytes.now c.args.tokens.now refusal.line
    (subst (λ l. 0 < length l → Any (λ t. refusal.line ≡ whole_line c.args.section.now.line t) l) same
    (c.parse_lexemes.ensures.line refusal e))
