-- What an answer that is there came from, and what the lexemes begin with, where reading says so.
use Rattle.sc_parse_expr.proofs.Common.{BinaryOp, Bool, Extension, IsIdent, IsMark, Lexeme, List, Mark, None, Option}
use Rattle.sc_parse_expr.proofs.Common.{Prefix, Some, Symbol, [], ap, append_assoc, arith, binary_of, cases_lt, cond}
use Rattle.sc_parse_expr.proofs.Common.{cond_some, extension_at, extension_by, extension_level, extension_of}
use Rattle.sc_parse_expr.proofs.Common.{extension_within, false, following, is_mark, le-leb, lead_of, leb-true}
use Rattle.sc_parse_expr.proofs.Common.{level_of, name_at, name_by, none-some, prefix_of, refl, rules, subst, sym, true}
use Rattle.sc_parse_expr.proofs.Common.{within, ℕ, ⊎_elim, ◌++◌, ◌<◌, ◌>>=◌, ◌∙◌, ◌∷◌, ◌≡◌, ◌≤◌}
use Rattle.sc_base.specs.declared.op.BinaryOp.TheVariants as binary
use Rattle.sc_parse_expr.specs.contracts.mark.Mark.{the_type}
use denote.Enum.Bare.{same_true}
use Rattle.sc_parse_expr.specs.declared.mark.Mark.TheVariants as mark
use Rattle.sc_parse_expr.specs.declared.mark.Keyword.TheVariants as word
use Rattle.sc_parse_expr.specs.declared.operator.Extension.TheVariants as extension
use Rattle.sc_parse_expr.specs.declared.lexeme.Symbol.TheVariants as symbol
use Rattle.sc_parse_expr.specs.declared.parser.Lead.TheVariants as lead

abbrev out : {A : Type 0} → A → Option A → A
out other None = other
out other (Some x) = x

pub same_some : {A : Type 0} {x y : A} → Some x ≡ Some y → x ≡ y
same_some {x = x} h = ap (out x) h

-- where the whole gives something, so does the first part
pub bound : {A B : Type 0} (f : A → Option B) (first : Option A) (y : B) → first >>= f ≡ Some y →
    (x : A) × (first ≡ Some x) × (f x ≡ Some y)
bound f None y h = absurd (none-some y h)
bound f (Some x) y h = (x, refl, h)

-- what is there only under a condition
pub cond_is : {A : Type 0} (b : Bool) (o : Option A) (x : A) → cond b o None ≡ Some x → (b ≡ true) × (o ≡ Some x)
cond_is true o x h = (refl, h)
cond_is false o x h = absurd (none-some x h)

-- two prefixes, one after the other, are one prefix
pub glued : {A : Type 0} {ts us : List A} (rest first second : List A) → ts ≡ first ++ us → us ≡ second ++ rest →
    ts ≡ (first ++ second) ++ rest
glued rest first second p q = p ∙ ap (λ l. first ++ l) q ∙ sym (append_assoc first second rest)

-- an extension at the start of the lexemes is of this level or a looser one
abbrev pub Onward : ℕ → List Lexeme → Type 0
Onward level rest = (ext : Extension) → extension_at rest ≡ Some ext → level ≤ extension_level ext

-- every operator between operands is looser than the prefix operators
pub operator_low : (op : BinaryOp) → 2 ≤ level_of op
operator_low binary.Mul = omega arith
operator_low _ = omega arith

-- no extension of an expression has the level of the unary operators
pub no_unary : (ext : Extension) → 1 ≤ extension_level ext → 2 ≤ extension_level ext
no_unary (extension.Operator op) h = operator_low op
no_unary _ h = absurd (omega arith)

pub operator_mark : (m : Mark) (op : BinaryOp) → extension_of m ≡ Some (extension.Operator op) → binary_of m ≡ Some op
operator_mark mark.Dot op h = absurd cc
operator_mark _ op h = cc

pub mark_operator : (m : Mark) (op : BinaryOp) → binary_of m ≡ Some op → extension_of m ≡ Some (extension.Operator op)
mark_operator mark.Dot op h = absurd cc
mark_operator _ op h = cc

-- the mark of an extension that is no operator
abbrev pub tight_mark : Extension → Option Mark
tight_mark extension.Index = Some mark.OpenSquare
tight_mark extension.Member = Some mark.Dot
tight_mark extension.Arrow = Some mark.Arrow
tight_mark _ = None

pub extension_mark : (m : Mark) (ext : Extension) (k : Mark) → extension_of m ≡ Some ext → tight_mark ext ≡ Some k →
    m ≡ k
extension_mark mark.Dot ext k h is = let same = ap (λ (o : Option Extension). o >>= tight_mark) h ∙ is in cc
extension_mark _ ext k h is = let same = ap (λ (o : Option Extension). o >>= tight_mark) h ∙ is in cc

-- The first lexeme is a mark that extends an expression, at this level or a tighter one.
pub record Ahead (level : ℕ) (ts : List Lexeme) (ext : Extension) (us : List Lexeme) : Type 0 where
  pub first : Lexeme
  pub m : Mark
  pub split : ts ≡ first ∷ us
  pub is : IsMark m first
  pub of : extension_of m ≡ Some ext
  pub low : extension_level ext ≤ level

within_some : (level : ℕ) (us vs : List Lexeme) (ext : Extension) (o : Option Extension) →
    within level us o ≡ Some (ext, vs) → (o ≡ Some ext) × (us ≡ vs) × (extension_level ext ≤ level)
within_some level us vs ext None h = absurd (none-some _ h)
within_some level us vs ext (Some e) h =
    let c = cond_some _ _ _ h in
    let same = ap (λ x. x.0) c.1 in (
      ap (λ x. Some x) same,
      ap (λ x. x.1) c.1,
      subst (λ x. extension_level x ≤ level) same (leb-true _ level c.0),
    )

by_mark : (s : Symbol) (ext : Extension) → extension_by s ≡ Some ext →
    (m : Mark) × (s ≡ symbol.Mark m) × (extension_of m ≡ Some ext)
by_mark (symbol.Mark m) ext h = (m, refl, h)
by_mark _ ext h = absurd (none-some ext h)

pub ahead : (level : ℕ) (ts us : List Lexeme) (ext : Extension) → extension_within level ts ≡ Some (ext, us) →
    Ahead level ts ext us
ahead level [] us ext h = absurd (none-some _ h)
ahead level (t ∷ ts) us ext h =
    let w = within_some level ts us ext _ h in
    let b = by_mark _ ext w.0 in
    record { first = t; m = b.0; split = ap (λ rest. t ∷ rest) w.1; is = b.1; of = b.2; low = w.2 }

within_none : (level : ℕ) (us : List Lexeme) (ext : Extension) → within level us (Some ext) ≡ None →
    level < extension_level ext
within_none level us ext h =
    ⊎_elim (λ more. more) (λ low. absurd (none-some _
    (sym h ∙ ap (λ b. cond b (Some (ext, us)) None) (le-leb _ level low)))) (cases_lt level _)

-- where nothing of a level goes on, what does is looser
pub nothing_within : (level : ℕ) (ts : List Lexeme) → extension_within level ts ≡ None → (ext : Extension) →
    extension_at ts ≡ Some ext → level < extension_level ext
nothing_within level [] h ext at = absurd (none-some ext at)
nothing_within level (t ∷ ts) h ext at = within_none level ts ext (ap (λ o. within level ts o) (sym at) ∙ h)

marked : (m : Mark) (s : Symbol) → is_mark m s ≡ true → s ≡ symbol.Mark m
marked m (symbol.Mark other) h = ap (λ x. symbol.Mark x) (same_true the_type (search rules) other m h)
marked m _ h = absurd cc

pub first_mark : (m : Mark) (ts us : List Lexeme) → following m ts ≡ Some us → (t : Lexeme) × (ts ≡ t ∷ us) × IsMark m t
first_mark m [] us h = absurd (none-some us h)
first_mark m (t ∷ ts) us h =
    let c = cond_some _ ts us h in
    (t, ap (λ rest. t ∷ rest) c.1, marked m _ c.0)

named : (s : Symbol) (name : List ℕ) → name_by s ≡ Some name → s ≡ symbol.Ident name
named (symbol.Ident other) name h = ap (λ x. symbol.Ident x) (same_some h)
named _ name h = absurd (none-some name h)

pub name_ahead : (ts us : List Lexeme) (name : List ℕ) → name_at ts ≡ Some (name, us) →
    (t : Lexeme) × (ts ≡ t ∷ us) × IsIdent name t
name_ahead [] us name h = absurd (none-some _ h)
name_ahead (t ∷ ts) us name h =
    let b = bound (λ x. Some _) (name_by _) _ h in
    let same = same_some b.2 in
    (t, ap (λ x. t ∷ x.1) same, named _ name (b.1 ∙ ap (λ x. Some x.0) same))

pub paren_lead : (s : Symbol) → lead_of s ≡ Some lead.Paren → s ≡ symbol.Mark mark.OpenParen
paren_lead (symbol.Mark mark.OpenParen) h = refl
paren_lead (symbol.Keyword word.Sizeof) h = absurd cc
paren_lead _ h = absurd cc

pub size_lead : (s : Symbol) → lead_of s ≡ Some lead.SizeOf → s ≡ symbol.Keyword word.Sizeof
size_lead (symbol.Keyword word.Sizeof) h = refl
size_lead (symbol.Mark mark.OpenParen) h = absurd cc
size_lead _ h = absurd cc

pub prefix_lead : (s : Symbol) (p : Prefix) → lead_of s ≡ Some (lead.Prefix p) →
    (m : Mark) × (s ≡ symbol.Mark m) × (prefix_of m ≡ Some p)
prefix_lead (symbol.Mark mark.OpenParen) p h = absurd cc
prefix_lead (symbol.Keyword word.Sizeof) p h = absurd cc
prefix_lead (symbol.Mark m) p h = (m, refl, cc)
prefix_lead _ p h = absurd cc
