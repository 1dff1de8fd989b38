-- The words of types spell them.
use Rattle.sc_parse_print_laws.proofs.Common.{[], BaseTree, Bool, IsTrue, List, Piece, SpellsBase, SpellsStars}
use Rattle.sc_parse_print_laws.proofs.Common.{SpellsTypeName, TypeName, ap, arith, base_words, blank_if, false}
use Rattle.sc_parse_print_laws.proofs.Common.{kept_base, nat_lt, refl, star_words, subst, suc, sym, symbols, true}
use Rattle.sc_parse_print_laws.proofs.Common.{type_name, type_words, zero, ℕ, ◌++◌, ◌+◌, ◌∙◌, ◌∷◌, ◌≡◌}
use Rattle.sc_base.specs.declared.op.BinaryOp.TheVariants as binary
use Rattle.sc_ast.specs.declared.types.BaseTree.TheVariants as base
use Rattle.sc_parse_expr.specs.Types as types
use Rattle.sc_parse_print_laws.proofs.Tables as tables
use Rattle.sc_parse_print_laws.proofs.Literals.{name_says}
use Rattle.sc_parse_print_laws.proofs.Reading.{Reading, part, reads, written, joined_symbols}

pub base_reads : (b : BaseTree) → IsTrue (kept_base b) → Reading (base_words b) (λ ts. SpellsBase ts b)
base_reads base.Int k = reads (written _ ∷ []) _ (λ t is. types.int t (is ∙ tables.keyword_says _))
base_reads base.Unsigned k = reads (written _ ∷ written _ ∷ []) _
    (λ t is u so. types.unsigned_int t u (is ∙ tables.keyword_says _) (so ∙ tables.keyword_says _))
base_reads (base.Struct tag) k = reads (written _ ∷ written tag ∷ []) _
    (λ t is u named. types.struct t u tag (is ∙ tables.keyword_says _) (named ∙ name_says tag k))

pub stars_read : (stars : ℕ) → Reading (star_words stars) (λ ts. SpellsStars ts stars)
stars_read zero = reads [] _ types.none
stars_read (suc n) =
    let plus : n + 1 ≡ suc n = omega arith in
    reads (written _ ∷ part (star_words n) ∷ []) _
    (λ t is ts said. subst (λ m. SpellsStars (t ∷ ts) m) plus
    (types.star t (is ∙ tables.binary_says binary.Mul) (stars_read n ts said)))

-- a blank says nothing
gap_symbols : (wanted : Bool) (pieces : List Piece) → symbols (blank_if wanted ++ pieces) ≡ symbols pieces
gap_symbols true pieces = refl
gap_symbols false pieces = refl

pub type_reads : (ty : TypeName) → IsTrue (kept_base ty.base) → Reading (type_words ty) (λ ts. SpellsTypeName ts ty)
type_reads ty k ts h =
    let stars = star_words ty.stars in
    let gap = joined_symbols (base_words ty.base) (blank_if (nat_lt 0 ty.stars) ++ stars) ∙
    ap (λ ss. symbols (base_words ty.base) ++ ss) (gap_symbols (nat_lt 0 ty.stars) stars) ∙
    sym (joined_symbols (base_words ty.base) stars) in
    reads (part (base_words ty.base) ∷ part stars ∷ []) (λ ts. SpellsTypeName ts ty)
    (λ ts said us following. type_name (base_reads ty.base k ts said) (stars_read ty.stars us following)) ts (h ∙ gap)
