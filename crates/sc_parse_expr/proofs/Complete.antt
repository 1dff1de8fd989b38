-- What is spelled within the limits is read.
use Rattle.sc_parse_expr.proofs.Common.{ExprTree, Extension, IsMark, Lexeme, List, Mark, None, Option, Prefix, Some}
use Rattle.sc_parse_expr.proofs.Common.{Spells, [], ap, append_assoc, arith, arrow, cond, expr_height, extended_with}
use Rattle.sc_parse_expr.proofs.Common.{extension_by, extension_level, extension_of, extension_within, found, go_on}
use Rattle.sc_parse_expr.proofs.Common.{index, joined, joined_with, le-leb, lead_by, level_of, literal, looser, lt-leb}
use Rattle.sc_parse_expr.proofs.Common.{lt-ltb, size_of}
use Rattle.sc_parse_expr.proofs.Common.{member, most_open, none-some, operand_with, parenthesised, prefix_of, read}
use Rattle.sc_parse_expr.proofs.Common.{read_nested, refl, subst, suc, sym, variable, within, zero, «prefix», ℕ, ◌++◌}
use Rattle.sc_parse_expr.proofs.Common.{◌+◌, ◌-◌, ◌<◌, ◌∙◌, ◌∷◌, ◌≡◌, ◌≤◌}
use Rattle.std.specs.Option.{option_map}
use Rattle.sc_parse_expr.specs.declared.mark.Mark.TheVariants as mark
use Rattle.sc_parse_expr.specs.declared.lexeme.Symbol.TheVariants as symbol
use Rattle.sc_parse_expr.specs.declared.parser.Lead.TheVariants as lead
use Rattle.sc_parse_expr.proofs.Ahead.{Onward, same_some, no_unary, mark_operator}
use Rattle.sc_parse_expr.proofs.Heights.{literal_height, variable_height, prefixed_height, joined_height, index_height}
use Rattle.sc_parse_expr.proofs.Heights.{member_height, arrow_height, positive, size_height}
use Rattle.sc_parse_expr.proofs.TypeNames.{parens_complete}
use Rattle.sc_parse_expr.proofs.Balance.{Opens, Closes, says, plain_binary, plain_prefix, open_low, most_after}
use Rattle.sc_parse_expr.proofs.Balance.{most_bracketed, most_plain, most_sized}
use Rattle.sc_parse_expr.proofs.Steps.{read_goes, nested_at, turns_on, turns_end}

quiet_by : (level : ℕ) (us : List Lexeme) (o : Option Extension) →
    ((ext : Extension) → o ≡ Some ext → level < extension_level ext) → within level us o ≡ None
quiet_by level us None looser_all = refl
quiet_by level us (Some ext) looser_all = ap (λ b. cond b (Some (ext, us)) None) (lt-leb _ level (looser_all ext refl))

quiet : (level : ℕ) (rest : List Lexeme) → Onward (suc level) rest → extension_within level rest ≡ None
quiet level [] may = refl
quiet level (t ∷ ts) may = quiet_by level ts _ (λ ext at. omega (arith, may ext at))

-- a mark that no expression goes on with
closing : (t : Lexeme) (rest : List Lexeme) (m : Mark) (level : ℕ) → IsMark m t → extension_of m ≡ None →
    Onward level (t ∷ rest)
closing t rest m level is none ext at = absurd (none-some ext (sym none ∙ ap extension_by (sym is) ∙ at))

prefix_leads : (m : Mark) (p : Prefix) → prefix_of m ≡ Some p → lead_by m ≡ Some (lead.Prefix p)
prefix_leads mark.OpenParen p h = absurd (none-some p h)
prefix_leads _ p h = ap (λ o. option_map (λ x. lead.Prefix x) o) h

-- Reading these lexemes comes to the expression, and to going on after it with enough turns.
record Arrives (free room level : ℕ) (all : List Lexeme) (e : ExprTree) (rest : List Lexeme) : Type 0 where
  turns : ℕ
  enough : suc room < turns + expr_height e
  reads : read free (suc room) level all ≡ go_on (read_nested free) (read free room) room level turns
      (found e (expr_height e) rest)

-- Reading arrives at an expression of a level wherever that level or a looser one is read.
abbrev GoesOn : ℕ → List Lexeme → ExprTree → Type 0
GoesOn c ts e = (free room level n : ℕ) (rest : List Lexeme) → c ≤ level → expr_height e ≤ suc room →
    most_open n ts ≤ n + free → Onward c rest → Arrives free room level (ts ++ rest) e rest

-- Reading takes an expression and ends after it, where nothing of the level extends it.
abbrev pub Takes : ℕ → List Lexeme → ExprTree → Type 0
Takes c ts e = (free room level n : ℕ) (rest : List Lexeme) → c ≤ level → expr_height e ≤ room →
    most_open n ts ≤ n + free → Onward (suc level) rest →
    read free room level (ts ++ rest) ≡ Some (found e (expr_height e) rest)

takes : {c : ℕ} {ts : List Lexeme} {e : ExprTree} → Spells c ts e → GoesOn c ts e → Takes c ts e
takes d on free zero level n rest inside low few may = let some = positive d in absurd (omega arith)
takes d on free (suc room) level n rest inside low few may =
    let g = on free room level n rest inside low few (λ ext at. omega (arith, may ext at)) in
    g.reads ∙ turns_end _ _ room level g.turns _ (omega (arith, g.enough)) (quiet level rest may)

module _ {free room level : ℕ} where
  from_operand : {ts rest : List Lexeme} {e : ExprTree} → 1 ≤ expr_height e →
      operand_with free (read_nested free) (read free room) room ts ≡ Some (found e (expr_height e) rest) →
      Arrives free room level ts e rest
  from_operand some operand = let next : suc room ≡ room + 1 = omega arith in record {
    turns = suc room;
    enough = omega arith;
    reads = read_goes free _ room level _ _ _ next refl operand;
  }

  -- one turn more, to a higher expression: a mark and more lexemes follow the one before
  from_turn : {c : ℕ} {ts rest : List Lexeme} {e f : ExprTree} {m : Mark} {ext : Extension} (n : ℕ) (t : Lexeme)
      (more : List Lexeme) → IsMark m t → extension_of m ≡ Some ext → extension_level ext ≡ c → Spells c ts e → GoesOn c
      ts e → c ≤ level → expr_height e < expr_height f → expr_height f ≤ suc room → most_open n (ts ++ t ∷ more) ≤ n +
      free → (most_open n (t ∷ more) ≤ n + free → joined_with (read_nested free) (read free room) room e (expr_height e)
      ext (more ++ rest) ≡ Some (found f (expr_height f) rest)) → Arrives free room level ((ts ++ t ∷ more) ++ rest) f
      rest
  unfolding extended_with
  from_turn {c = c} {rest = rest} {e = e} {f = f} {ext = ext} n t more is of same d on tight higher low few grows =
      let most = most_after n (t ∷ more) d in
      let next : extension_by t.symbol ≡ Some ext = ap extension_by is ∙ of in
      let g = on free room level n (t ∷ (more ++ rest)) tight (omega arith) (omega arith)
      (λ other at. subst (λ x. c ≤ extension_level x) (same_some (sym next ∙ at)) (omega arith)) in
      let one : g.turns ≡ g.turns - 1 + 1 = omega (arith, g.enough) in
      let within_level = le-leb (extension_level ext) level (omega arith) in
      let fits = le-leb (expr_height e) room (omega arith) in
      let grown = grows (omega arith) in record {
        turns = g.turns - 1;
        enough = omega (arith, g.enough);
        reads = rw append_assoc (g.reads ∙ turns_on _ _ room level g.turns _
            (found e (expr_height e) (t ∷ (more ++ rest))) (found f (expr_height f) rest) ext (more ++ rest) one
            (rw (next, within_level)) (rw (fits, grown)));
      }

-- what stands in a bracket is read there
bracketed : (free room n : ℕ) (us rest : List Lexeme) (e : ExprTree) (t u : Lexeme) (m : Mark) → Opens t → Closes u →
    IsMark m u → extension_of m ≡ None → Spells 11 us e → GoesOn 11 us e → expr_height e ≤ room →
    most_open n (t ∷ (us ++ u ∷ [])) ≤ n + free →
    read_nested free room 11 (us ++ u ∷ rest) ≡ Some (found e (expr_height e) (u ∷ rest))
bracketed free room n us rest e t u m opens closes is none d on low few =
    let most = most_bracketed n t u [] opens closes d in
    let opened = open_low (n + 1) us in
    nested_at free (free - 1) room 11 _ (omega arith) ∙ takes d on (free - 1) room 11 (n + 1) _
    (omega arith) low (omega arith) (closing u rest m 12 is none)

-- Reading arrives at all that is spelled.
goes : {c : ℕ} {ts : List Lexeme} {e : ExprTree} (d : Spells c ts e) → GoesOn c ts e
unfolding operand_with
goes (literal t number is) free room level n rest inside low few may =
    let height = literal_height number in
    from_operand (omega arith) (rw (is, height))
goes (variable t name is) free room level n rest inside low few may =
    let height = variable_height name in
    from_operand (omega arith) (rw (is, height))
goes (parenthesised {ts = ts} {e = e} t u is closes d) free room level n rest inside low few may =
    let inner = bracketed free (room + 1) n ts rest e t u _ (says t (symbol.Mark _) is) (says u (symbol.Mark _) closes)
    closes refl d (goes d) (omega arith) few in
    rw append_assoc (from_operand (positive d) (rw (is, inner, closes)))
goes (size_of {of = of} t u v is opens closes d) free room level n rest inside low few may =
    let height = size_height of in
    let most = most_sized n t u v (says t (symbol.Keyword _) is) (says u (symbol.Mark _) opens)
    (says v (symbol.Mark _) closes) d in
    let some = lt-ltb 0 free (omega (arith, most)) in
    let named = parens_complete u v opens closes d rest in
    rw append_assoc (from_operand (omega arith) (rw (is, some, named, height)))
goes (index {us = us} {e = e} {f = f} t u is closes d g) free room level n rest inside low few may =
    let height = index_height e f in
    from_turn n t _ is refl refl d (goes d) (omega arith) (omega arith) low few (λ less.
    let inner = bracketed free room n us rest f t u _ (says t (symbol.Mark _) is) (says u (symbol.Mark _) closes)
    closes refl g (goes g) (omega arith) less in
    rw (append_assoc, inner, closes, height))
goes (member {e = e} t u name dot is d) free room level n rest inside low few may =
    let height = member_height e name in
    from_turn n t _ dot refl refl d (goes d) (omega arith) (omega arith) low few (λ less. rw (is, height))
goes (arrow {e = e} t u name points is d) free room level n rest inside low few may =
    let height = arrow_height e name in
    from_turn n t _ points refl refl d (goes d) (omega arith) (omega arith) low few (λ less. rw (is, height))
goes («prefix» {ts = ts} {e = e} t m p is of d) free room level n rest inside low few may =
    let height = prefixed_height p e in
    let most = most_plain n t ts (plain_prefix t m p is of) in
    let leads = prefix_leads m p of in
    let inner = takes d (goes d) free room 1 n rest (omega arith) (omega arith) (omega arith)
    (λ ext at. no_unary ext (may ext at)) in
    from_operand (omega arith) (rw (is, leads, inner, height))
goes (joined {level = tight} {us = us} {e = e} {f = f} t m op is of at d g) free room level n rest inside low few may =
    let height = joined_height op e f in
    from_turn n t _ is (mark_operator m op of) at d (goes d) inside (omega arith) low few (λ less.
    let most = most_plain n t us (plain_binary t m op is of) in
    let right = takes g (goes g) free room tight n rest (omega arith) (omega arith) (omega arith) may in
    let tighter : level_of op - 1 ≡ tight = omega arith in
    rw (tighter, right, height))
goes (looser d) free room level n rest inside low few may =
    goes d free room level n rest (omega arith) low few (λ ext at. omega (arith, may ext at))

-- what is spelled within the limits is read, where nothing of the level extends it
pub reads_all : {c : ℕ} {ts : List Lexeme} {e : ExprTree} (d : Spells c ts e) → Takes c ts e
reads_all d = takes d (goes d)
