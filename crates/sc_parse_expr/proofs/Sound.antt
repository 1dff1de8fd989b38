-- What is read is spelled so, and within the limits.
use Rattle.sc_parse_expr.proofs.Common.{ExprTree, Extension, Found, IsKeyword, IsMark, Lexeme, List, None, Option}
use Rattle.sc_parse_expr.proofs.Common.{append_assoc, ltb-true, nat_lt, size_of, size_within, type_in_parens}
use Rattle.sc_parse_expr.proofs.Common.{Reader, Some, Spells, Symbol, [], ap, arith, arrow, cases_lt, expr_height}
use Rattle.sc_parse_expr.proofs.Common.{extended_with, extension_at, extension_by, extension_level, extension_within}
use Rattle.sc_parse_expr.proofs.Common.{following, found, go_on, index, joined, joined_with, lead_of, lead_with}
use Rattle.sc_parse_expr.proofs.Common.{leaf_of, leb, leb-true, level_of, level_with, literal, looser, member}
use Rattle.sc_parse_expr.proofs.Common.{most_open, name_at, none-some, operand_with, parenthesised, read, read_within}
use Rattle.sc_parse_expr.proofs.Common.{refl, subst, suc, sym, true, turn_with, variable, zero, «prefix», ℕ, ⊎_elim}
use Rattle.sc_parse_expr.proofs.Common.{◌++◌, ◌+◌, ◌-◌, ◌<◌, ◌>>=◌, ◌∙◌, ◌∷◌, ◌≡◌, ◌≤◌}
use Rattle.sc_parse_expr.specs.declared.parser.Lead.{Lead}
use Rattle.sc_parse_expr.specs.declared.mark.Mark.TheVariants as mark
use Rattle.sc_parse_expr.specs.declared.mark.Keyword.TheVariants as word
use Rattle.sc_parse_expr.specs.declared.operator.Extension.TheVariants as extension
use Rattle.sc_parse_expr.specs.declared.lexeme.Symbol.TheVariants as symbol
use Rattle.sc_parse_expr.specs.declared.parser.Lead.TheVariants as lead
use Rattle.sc_parse_expr.proofs.Ahead.{same_some, bound, cond_is, glued, operator_low, operator_mark, extension_mark}
use Rattle.sc_parse_expr.proofs.Ahead.{Ahead, ahead, Onward, nothing_within, first_mark, name_ahead, paren_lead}
use Rattle.sc_parse_expr.proofs.Ahead.{prefix_lead, size_lead}
use Rattle.sc_parse_expr.proofs.TypeNames.{parens_sound}
use Rattle.sc_parse_expr.proofs.Heights.{literal_height, variable_height, prefixed_height, joined_height, index_height}
use Rattle.sc_parse_expr.proofs.Heights.{member_height, arrow_height, size_height}
use Rattle.sc_parse_expr.proofs.Balance.{IsPlain, says, plain_binary, plain_prefix, most_after, most_bracketed}
use Rattle.sc_parse_expr.proofs.Balance.{most_plain, most_sized}

-- The lexemes begin with an expression: it is spelled at this level within the limits, and an extension after it is of
-- level `least` or a looser one.
pub record Stands (free room level least : ℕ) (ts : List Lexeme) (x : Found) : Type 0 where
  pub taken : List Lexeme
  pub split : ts ≡ taken ++ x.rest
  pub spelled : Spells level taken x.tree
  pub measured : x.height ≡ expr_height x.tree
  pub low : x.height ≤ room
  pub few : (n : ℕ) → most_open n taken ≤ n + free
  pub onward : Onward least x.rest

-- an expression of a level was read as far as it goes
abbrev pub Reads : ℕ → ℕ → ℕ → List Lexeme → Found → Type 0
Reads free room level ts x = Stands free room level (suc level) ts x

-- each level holds all that are tighter
raise : (level c : ℕ) (ts : List Lexeme) (e : ExprTree) → c ≤ level → Spells c ts e → Spells level ts e
raise zero c ts e h d = let same : c ≡ 0 = omega arith in subst (λ k. Spells k ts e) same d
raise (suc level) c ts e h d =
    ⊎_elim (λ less. looser (raise level c ts e (omega arith) d))
    (λ more. let same : c ≡ suc level = omega arith in subst (λ k. Spells k ts e) same d) (cases_lt c (suc level))

loosened : {free room c before level least : ℕ} {ts : List Lexeme} {x : Found} → Stands free room c before ts x →
    c ≤ level → Onward least x.rest → Stands free room level least ts x
loosened {c = c} {level = level} {x = x} s low onward = record {
  taken = s.taken;
  split = s.split;
  spelled = raise level c s.taken x.tree low s.spelled;
  measured = s.measured;
  low = s.low;
  few = s.few;
  onward = onward;
}

module _ (free room : ℕ) (nested : ℕ → ℕ → Reader) (below : ℕ → Reader)
    (in_brackets : (levels level : ℕ) (ts : List Lexeme) (x : Found) → 0 < level → nested levels level ts ≡ Some x →
    (0 < free) × Reads (free - 1) levels level ts x)
    (one_less : (level : ℕ) (ts : List Lexeme) (x : Found) → 0 < level → below level ts ≡ Some x →
    Reads free room level ts x) where
  -- the lexemes begin with an expression of this level
  abbrev At : ℕ → List Lexeme → Found → Type 0
  At level ts x = Stands free (suc room) level level ts x

  one_stands : (t : Lexeme) (ts : List Lexeme) (e : ExprTree) → IsPlain t → Spells 0 (t ∷ []) e → expr_height e ≡ 1 →
      At 0 (t ∷ ts) (found e 1 ts)
  one_stands t ts e plain spelled height = record {
    taken = t ∷ [];
    split = refl;
    spelled = spelled;
    measured = sym height;
    low = omega arith;
    few = λ n. omega (arith, most_plain n t [] plain);
    onward = λ ext at. omega arith;
  }

  leaf_sound : (t : Lexeme) (ts : List Lexeme) (x : Found) (s : Symbol) → t.symbol ≡ s →
      leaf_of s >>= (λ e. Some (found e 1 ts)) ≡ Some x → At 0 (t ∷ ts) x
  leaf_sound t ts x (symbol.Integer number) is h = subst (At 0 (t ∷ ts)) (same_some h)
      (one_stands t ts _ (says t (symbol.Integer number) is) (literal t number is) (literal_height number))
  leaf_sound t ts x (symbol.Ident name) is h = subst (At 0 (t ∷ ts)) (same_some h)
      (one_stands t ts _ (says t (symbol.Ident name) is) (variable t name is) (variable_height name))
  leaf_sound t ts x _ is h = absurd (none-some x h)

  size_sound : (t : Lexeme) (ts : List Lexeme) (x : Found) → IsKeyword word.Sizeof t → size_within free ts ≡ Some x →
      At 0 (t ∷ ts) x
  size_sound t ts x is h =
      let some = cond_is (nat_lt 0 free) _ x h in
      let b = bound _ (type_in_parens ts) x some.1 in
      let p = parens_sound ts b.0.1 b.0.0 b.1 in
      let plain = says t (symbol.Keyword _) is in
      let u = p.opening in
      let v = p.closing in
      subst (At 0 (t ∷ ts)) (same_some b.2) (record {
        taken = t ∷ u ∷ (p.taken ++ v ∷ []);
        split = ap (λ rest. t ∷ rest) p.split ∙ ap (λ rest. t ∷ u ∷ rest) (sym (append_assoc p.taken (v ∷ []) b.0.1));
        spelled = size_of t u v is p.opens p.closes p.spelled;
        measured = sym (size_height b.0.0);
        low = omega arith;
        few = λ n. let most = most_sized n t u v plain (says u (symbol.Mark _) p.opens) (says v (symbol.Mark _)
            p.closes) p.spelled in omega (arith, most, ltb-true 0 free some.0);
        onward = λ ext at. omega arith;
      })

  lead_sound : (t : Lexeme) (ts : List Lexeme) (x : Found) (o : Option Lead) → lead_of t.symbol ≡ o →
      lead_with free nested below room o t ts ≡ Some x → (c : ℕ) × (c ≤ 1) × At c (t ∷ ts) x
  lead_sound t ts x (Some lead.Paren) first h =
      let is : IsMark _ t = paren_lead _ first in
      let b = bound _ (nested (room + 1) 11 ts) x h in
      let c = bound _ (following mark.CloseParen b.0.rest) x b.2 in
      let u = first_mark mark.CloseParen b.0.rest c.0 c.1 in
      let r = in_brackets (room + 1) 11 ts b.0 (omega arith) b.1 in
      let inner = r.1 in (
        0,
        omega arith,
        subst (At 0 (t ∷ ts)) (same_some c.2) (record {
          taken = t ∷ (inner.taken ++ u.0 ∷ []);
          split = ap (λ rest. t ∷ rest) (glued c.0 inner.taken (u.0 ∷ []) inner.split u.1);
          spelled = parenthesised t u.0 is u.2 inner.spelled;
          measured = inner.measured;
          low = omega (arith, inner.low);
          few = λ n. let most = most_bracketed n t u.0 [] (says t _ is) (says u.0 _ u.2) inner.spelled in
              omega (arith, most, inner.few (n + 1), r.0);
          onward = λ ext at. omega arith;
        }),
      )
  lead_sound t ts x (Some (lead.Prefix p)) first h =
      let q = prefix_lead _ p first in
      let b = bound _ (below 1 ts) x h in
      let inner = one_less 1 ts b.0 (omega arith) b.1 in
      let plain = plain_prefix t q.0 p q.1 q.2 in (
        1,
        omega arith,
        subst (At 1 (t ∷ ts)) (same_some b.2) (record {
          taken = t ∷ inner.taken;
          split = ap (λ rest. t ∷ rest) inner.split;
          spelled = «prefix» t q.0 p q.1 q.2 inner.spelled;
          measured = ap (λ k. k + 1) inner.measured ∙ sym (prefixed_height p b.0.tree);
          low = omega (arith, inner.low);
          few = λ n. omega (arith, most_plain n t inner.taken plain, inner.few n);
          onward = λ ext at. omega (arith, inner.onward ext at);
        }),
      )
  lead_sound t ts x (Some lead.SizeOf) first h = (0, omega arith, size_sound t ts x (size_lead _ first) h)
  lead_sound t ts x None first h = (0, omega arith, leaf_sound t ts x _ refl h)

  operand_sound : (ts : List Lexeme) (x : Found) → operand_with free nested below room ts ≡ Some x →
      (c : ℕ) × (c ≤ 1) × At c ts x
  unfolding operand_with
  operand_sound [] x h = absurd (none-some x h)
  operand_sound (t ∷ ts) x h = lead_sound t ts x _ refl h

  -- an expression with a mark after it, and more
  grown : {c level : ℕ} {ts us : List Lexeme} {x y : Found} {ext : Extension} (more : List Lexeme) (s : At c ts x)
      (a : Ahead level x.rest ext us) → us ≡ more ++ y.rest → Spells c (s.taken ++ a.first ∷ more) y.tree →
      y.height ≡ expr_height y.tree → y.height ≤ suc room → ((n : ℕ) → most_open n (a.first ∷ more) ≤ n + free) →
      Onward c y.rest → At c ts y
  grown {y = y} more s a split spelled measured low few onward = record {
    taken = s.taken ++ a.first ∷ more;
    split = glued y.rest s.taken (a.first ∷ more) s.split (a.split ∙ ap (λ rest. a.first ∷ rest) split);
    spelled = spelled;
    measured = measured;
    low = low;
    few = λ n. omega (arith, most_after n (a.first ∷ more) s.spelled, s.few n, few n);
    onward = onward;
  }

  -- what an expression goes on to, of the level of what it goes on with
  joined_sound : {level : ℕ} (ext : Extension) (ts us : List Lexeme) (x y : Found) → At (extension_level ext) ts x →
      Ahead level x.rest ext us → x.height ≤ room → joined_with nested below room x.tree x.height ext us ≡ Some y →
      At (extension_level ext) ts y
  joined_sound (extension.Operator op) ts us x y s a low h =
      let b = bound _ (below (level_of op - 1) us) y h in
      let two = operator_low op in
      let right = one_less (level_of op - 1) us b.0 (omega arith) b.1 in
      let at : suc (level_of op - 1) ≡ level_of op = omega arith in
      let of = operator_mark a.m op a.of in
      let height = joined_height op x.tree b.0.tree in
      let whole = joined {level = level_of op - 1} a.first a.m op a.is of (sym at)
      (subst (λ k. Spells k s.taken x.tree) (sym at) s.spelled) right.spelled in
      subst (At (level_of op) ts) (same_some b.2) (grown right.taken s a right.split (rw at at whole)
      (omega (arith, s.measured, right.measured)) (omega (arith, right.low))
      (λ n. omega (arith, most_plain n a.first right.taken (plain_binary a.first a.m op a.is of), right.few n))
      (λ other next. omega (arith, right.onward other next)))
  joined_sound extension.Index ts us x y s a low h =
      let b = bound _ (nested room 11 us) y h in
      let c = bound _ (following mark.CloseSquare b.0.rest) y b.2 in
      let u = first_mark mark.CloseSquare b.0.rest c.0 c.1 in
      let r = in_brackets room 11 us b.0 (omega arith) b.1 in
      let inner = r.1 in
      let is : IsMark _ a.first = a.is ∙ ap symbol.Mark (extension_mark a.m _ _ a.of refl) in
      let height = index_height x.tree b.0.tree in
      subst (At 0 ts) (same_some c.2) (grown (inner.taken ++ u.0 ∷ []) s a
      (glued c.0 inner.taken (u.0 ∷ []) inner.split u.1) (index a.first u.0 is u.2 s.spelled inner.spelled)
      (omega (arith, s.measured, inner.measured)) (omega (arith, inner.low)) (λ n.
      let most = most_bracketed n a.first u.0 [] (says a.first _ is) (says u.0 _ u.2) inner.spelled in
      omega (arith, most, inner.few (n + 1), r.0)) (λ other at. omega arith))
  joined_sound extension.Member ts us x y s a low h =
      let b = bound _ (name_at us) y h in
      let u = name_ahead us b.0.1 b.0.0 b.1 in
      let is : IsMark _ a.first = a.is ∙ ap symbol.Mark (extension_mark a.m _ _ a.of refl) in
      let height = member_height x.tree b.0.0 in
      subst (At 0 ts) (same_some b.2) (grown (u.0 ∷ []) s a u.1 (member a.first u.0 b.0.0 is u.2 s.spelled)
      (omega (arith, s.measured)) (omega arith) (λ n. rw (is, u.2) (omega arith)) (λ other at. omega arith))
  joined_sound extension.Arrow ts us x y s a low h =
      let b = bound _ (name_at us) y h in
      let u = name_ahead us b.0.1 b.0.0 b.1 in
      let is : IsMark _ a.first = a.is ∙ ap symbol.Mark (extension_mark a.m _ _ a.of refl) in
      let height = arrow_height x.tree b.0.0 in
      subst (At 0 ts) (same_some b.2) (grown (u.0 ∷ []) s a u.1 (arrow a.first u.0 b.0.0 is u.2 s.spelled)
      (omega (arith, s.measured)) (omega arith) (λ n. rw (is, u.2) (omega arith)) (λ other at. omega arith))

  extended_sound : {level c : ℕ} {ext : Extension} {ts us : List Lexeme} (x y : Found) → At c ts x →
      Ahead level x.rest ext us → extended_with nested below room x.tree x.height ext us ≡ Some y →
      At (extension_level ext) ts y
  unfolding extended_with
  extended_sound {ext = ext} {ts = ts} {us = us} x y s a h =
      let at : extension_at x.rest ≡ Some ext = ap extension_at a.split ∙ ap extension_by a.is ∙ a.of in
      let fits : (leb _ room ≡ true) × (joined_with nested below room x.tree _ ext us ≡ Some y) =
      cond_is (leb _ room) _ y h in
      joined_sound ext ts us x y (loosened s (s.onward ext at) (λ other next.
      subst (λ o. extension_level ext ≤ extension_level o) (same_some (sym at ∙ next)) (omega arith))) a
      (leb-true x.height room fits.0) fits.1

  turn_sound : (level turns c : ℕ) (ts : List Lexeme) (x y : Found) (o : Option (Extension × List Lexeme)) →
      ((l : ℕ) (z : Found) → l ≤ level → At l ts z → go_on nested below room level turns z ≡ Some y →
      Reads free (suc room) level ts y) → c ≤ level → At c ts x → extension_within level x.rest ≡ o →
      turn_with nested below room (λ z. go_on nested below room level turns z) x o ≡ Some y →
      Reads free (suc room) level ts y
  turn_sound level turns c ts x y None further low s none h = subst (Reads free (suc room) level ts) (same_some h)
      (loosened s low (λ ext at. omega (arith, nothing_within level x.rest none ext at)))
  turn_sound level turns c ts x y (Some next) further low s some h =
      let b = bound _ (extended_with nested below room x.tree _ next.0 next.1) y h in
      let a = ahead level x.rest next.1 next.0 some in
      further _ b.0 a.low (extended_sound x b.0 s a b.1) b.2

  loop_sound : (level turns c : ℕ) (ts : List Lexeme) (x y : Found) → c ≤ level → At c ts x →
      go_on nested below room level turns x ≡ Some y → Reads free (suc room) level ts y
  unfolding go_on
  loop_sound level zero c ts x y low s h = absurd (none-some y h)
  loop_sound level (suc turns) c ts x y low s h =
      turn_sound level turns c ts x y _ (λ l z. loop_sound level turns l ts z y) low s refl h

  level_sound : (level : ℕ) (ts : List Lexeme) (x : Found) → 0 < level →
      level_with free nested below room level ts ≡ Some x → Reads free (suc room) level ts x
  level_sound level ts x some h =
      let b = bound _ (operand_with free nested below room ts) x h in
      let first = operand_sound ts b.0 b.1 in
      let tight = first.1 in
      loop_sound level _ first.0 ts b.0 x (omega arith) first.2 b.2

within_sound : (free : ℕ) (nested : ℕ → ℕ → Reader) →
    ((levels level : ℕ) (ts : List Lexeme) (x : Found) → 0 < level → nested levels level ts ≡ Some x →
    (0 < free) × Reads (free - 1) levels level ts x) →
    (room level : ℕ) (ts : List Lexeme) (x : Found) → 0 < level → read_within free nested room level ts ≡ Some x →
    Reads free room level ts x
unfolding read_within
within_sound free nested inside zero level ts x some h = absurd (none-some x h)
within_sound free nested inside (suc room) level ts x some h =
    level_sound free room nested _ inside (within_sound free nested inside room) level ts x some h

-- what is read at a level is spelled at it, within the limits, as far as it goes
pub read_sound : (free room level : ℕ) (ts : List Lexeme) (x : Found) → 0 < level → read free room level ts ≡ Some x →
    Reads free room level ts x
unfolding read
read_sound zero room level ts x some h = within_sound 0 _ (λ levels l us y p q. absurd (none-some y q)) room level ts x
    some h
read_sound (suc free) room level ts x some h =
    let same : free ≡ suc free - 1 = omega arith in
    within_sound _ _ (λ levels l us y p q. (
      omega arith,
      subst (λ k. Reads k levels l us y) same
          (read_sound free levels l us y p q),
    )) room level ts x some h
