-- Helping: reading declarators, lists and declarations from left to right.
use Rattle.sc_parse.specs.Common.{BaseTree, ConstTree, Decl, Declarator, HeadTree, InitTree, Keyword, Lexeme}
use Rattle.sc_parse.specs.Common.{MemberTree, Number, ParamTree, StructTree, TypeName, TypeTree, array_length}
use Rattle.sc_parse.specs.Common.{following, name_at, non_empty, ◌>>=◌}
use Rattle.std.specs.Prelude.{ℕ, zero, suc, ◌+◌, Bool, true, false, ◌||◌, List, [], ◌∷◌, ◌++◌, length, drop, Option}
use Rattle.std.specs.Prelude.{Some, None, is_some, if◌then◌else◌}
use Rattle.std.specs.Option.{option_map_or}
use Rattle.sc_ast.specs.declared.section.InitTree.TheVariants as init
use Rattle.sc_ast.specs.declared.section.Decl.TheVariants as decl
use Rattle.sc_parse_expr.specs.declared.mark.Keyword.TheVariants as word
use Rattle.sc_parse_expr.specs.declared.mark.Mark.TheVariants as mark
use Rattle.sc_parse.specs.Lists.{first_line}
use Rattle.sc_parse.specs.Lookahead.{Reader, past_int, is_void, keyword_at, integer_by, begins_with, begins_call}
use Rattle.sc_parse.specs.Lookahead.{star_count, after_inner_comma}
pub use Rattle.sc_parse_expr.specs.TypeReaders.{base_by}
unfoldable pub use Rattle.sc_parse_expr.specs.TypeReaders.{base_at, type_name_at}

-- an integer that an array may have as its length
abbrev pub elements_at : Reader ℕ
elements_at [] = None
elements_at (t ∷ ts) = integer_by t.symbol >>= (λ number.
    array_length number.value >>= (λ elements. Some (elements, ts)))

abbrev pub bracketed_length : Reader (Option ℕ)
bracketed_length ts = elements_at ts >>= (λ x. following mark.CloseSquare x.1 >>= (λ rest. Some (Some x.0, rest)))

-- the length in brackets, if there is one
unfoldable pub length_at : Reader (Option ℕ)
length_at ts = option_map_or bracketed_length (following mark.OpenSquare ts) (Some (None, ts))

abbrev pub declarator : ℕ → List ℕ → Option ℕ → Declarator
declarator stars name elements = record { stars = stars; name = name; length = elements }

-- a declarator after its base
unfoldable pub declarator_at : Reader Declarator
declarator_at ts =
    name_at (drop (star_count ts) ts) >>= (λ x. length_at x.1 >>= (λ y. Some (declarator (star_count ts) x.0 y.0, y.1)))

-- the type that a declarator makes of a base
abbrev pub type_of : BaseTree → Declarator → TypeTree
type_of base x = record { base = base; stars = x.stars; length = x.length }

-- What adds to a list that was read.
abbrev pub Adder : Type 0 → Type 0
Adder A = List A → Reader (List A)

-- one more item at the end
unfoldable pub adds : {A : Type 0} → Reader A → Adder A
adds item xs ts = item ts >>= (λ x. Some (xs ++ x.0 ∷ [], x.1))

-- One or more with commas between them, in at most this number of turns.
unfoldable pub separated : {A : Type 0} → (List Lexeme → Option (List Lexeme)) → Adder A → ℕ → Adder A
separated comma adder zero xs ts = None
separated comma adder (suc turns) xs ts =
    adder xs ts >>= (λ x. option_map_or (λ rest. separated comma adder turns x.0 rest) (comma x.1) (Some x))

abbrev pub all_separated : {A : Type 0} → Adder A → Adder A
all_separated adder xs ts = separated (following mark.Comma) adder (length ts + 1) xs ts

-- Groups up to where they end, in at most this number of turns.
unfoldable pub grouped : {A : Type 0} → (List Lexeme → Bool) → Adder A → ℕ → Adder A
grouped ends group zero xs ts = None
grouped ends group (suc turns) xs ts = if ends ts then Some (xs, ts) else
    (group xs ts >>= (λ x. grouped ends group turns x.0 x.1))

-- a base, the items after it, and `;`
unfoldable pub declaration_at : {A : Type 0} → (BaseTree → ℕ → Adder A) → Adder A
declaration_at adder xs ts =
    base_at ts >>= (λ x. all_separated (adder x.0 (first_line ts)) xs x.1 >>=
    (λ y. following mark.Semicolon y.1 >>= (λ rest. Some (y.0, rest))))

unfoldable pub member_at : BaseTree → Reader MemberTree
member_at base ts = declarator_at ts >>= (λ x. Some (record { ty = type_of base x.0; name = x.0.name }, x.1))

abbrev pub add_member : BaseTree → ℕ → Adder MemberTree
add_member base line = adds (member_at base)

unfoldable pub members_at : Reader (List MemberTree)
members_at ts = grouped (begins_with mark.CloseCurly) (declaration_at add_member) (length ts + 1) [] ts >>=
    (λ x. non_empty x.0 >>= (λ members. Some (members, x.1)))

abbrev pub struct_tree : List ℕ → List MemberTree → ℕ → StructTree
struct_tree tag members line = record { name = tag; members = members; line = line }

abbrev pub members_in_braces : Reader (List MemberTree)
members_in_braces ts = following mark.OpenCurly ts >>= (λ us.
    members_at us >>= (λ x. following mark.CloseCurly x.1 >>= (λ rest. Some (x.0, rest))))

-- a struct, whose first word was looked at before
unfoldable pub struct_at : Reader StructTree
struct_at ts = name_at (drop 1 ts) >>= (λ x. members_in_braces x.1 >>=
    (λ y. following mark.Semicolon y.1 >>= (λ rest. Some (struct_tree x.0 y.0 (first_line ts), rest))))

abbrev pub const_tree : Bool → Number → ConstTree
const_tree negative number = record { negative = negative; literal = number }

abbrev pub literal_at : Bool → Reader ConstTree
literal_at negative [] = None
literal_at negative (t ∷ ts) = integer_by t.symbol >>= (λ number. Some (const_tree negative number, ts))

unfoldable pub const_at : Reader ConstTree
const_at ts = option_map_or (literal_at true) (following mark.Minus ts) (literal_at false ts)

abbrev pub past_comma : List Lexeme → List Lexeme
past_comma ts = option_map_or (λ rest. rest) (following mark.Comma ts) ts

abbrev pub all_consts : Reader (List ConstTree)
all_consts ts = separated after_inner_comma (adds const_at) (length ts + 1) [] ts

unfoldable pub consts_at : Reader InitTree
consts_at ts =
    all_consts ts
    >>= (λ x. following mark.CloseCurly (past_comma x.1) >>=
    (λ rest. non_empty x.0 >>= (λ values. Some (init.Many values, rest))))

abbrev pub one_at : Reader InitTree
one_at ts = const_at ts >>= (λ x. Some (init.One x.0, x.1))

-- what follows `=`
unfoldable pub initialiser_at : Reader InitTree
initialiser_at ts = option_map_or consts_at (following mark.OpenCurly ts) (one_at ts)

unfoldable pub init_at : Reader InitTree
init_at ts = option_map_or initialiser_at (following mark.Equal ts) (Some (init.Absent, ts))

abbrev pub global_decl : BaseTree → Declarator → InitTree → ℕ → Decl
global_decl base x value line = decl.Global (record { ty = type_of base x; name = x.name; init = value; line = line })

unfoldable pub global_at : BaseTree → ℕ → Reader Decl
global_at base line ts = declarator_at ts >>= (λ x. init_at x.1 >>= (λ y. Some (global_decl base x.0 y.0 line, y.1)))

abbrev pub add_global : BaseTree → ℕ → Adder Decl
add_global base line = adds (global_at base line)

abbrev pub param_tree : TypeName → Option (List ℕ) → ParamTree
param_tree ty name = record { ty = ty; name = name }

-- a parameter's type, and its name if one stands there
unfoldable pub param_at : Reader ParamTree
param_at ts = type_name_at ts >>= (λ x. option_map_or (λ y. Some (param_tree x.0 (Some y.0), y.1)) (name_at x.1)
    (Some (param_tree x.0 None, x.1)))

unfoldable pub params_at : Reader (List ParamTree)
params_at ts = if is_void (keyword_at ts) then Some ([], drop 1 ts) else all_separated (adds param_at) [] ts

unfoldable pub result_at : Reader (Option TypeName)
result_at ts = if is_void (keyword_at ts) then Some (None, drop 1 ts) else
    (type_name_at ts >>= (λ x. Some (Some x.0, x.1)))

abbrev pub params_in_parens : Reader (List ParamTree)
params_in_parens ts = following mark.OpenParen ts >>= (λ us.
    params_at us >>= (λ x. following mark.CloseParen x.1 >>= (λ rest. Some (x.0, rest))))

abbrev pub head_tree : Option TypeName → List ℕ → List ParamTree → ℕ → HeadTree
head_tree result name params line = record { result = result; name = name; params = params; line = line }

unfoldable pub head_at : Reader HeadTree
head_at ts = result_at ts >>= (λ x. name_at x.1 >>= (λ y.
    params_in_parens y.1 >>= (λ z. Some (head_tree x.0 y.0 z.0 (first_line ts), z.1))))

-- the lexemes begin with `struct`, an identifier and `{`
abbrev pub names_struct : List Lexeme → Bool
names_struct [] = false
names_struct (t ∷ ts) = if is_some (name_at (t ∷ ts)) then begins_with mark.OpenCurly ts else false

abbrev pub is_struct_word : Option Keyword → Bool
is_struct_word (Some word.Struct) = true
is_struct_word _ = false

abbrev pub begins_struct : List Lexeme → Bool
begins_struct ts = if is_struct_word (keyword_at ts) then names_struct (drop 1 ts) else false

-- the lexemes after a base, where they begin with one
abbrev pub past_base_by : Option Keyword → List Lexeme → List Lexeme
past_base_by (Some word.Signed) ts = past_int ts
past_base_by (Some word.Unsigned) ts = past_int ts
past_base_by (Some word.Struct) ts = drop 1 ts
past_base_by _ ts = ts

abbrev pub past_base : List Lexeme → List Lexeme
past_base ts = past_base_by (keyword_at ts) (drop 1 ts)

abbrev pub past_stars : List Lexeme → List Lexeme
past_stars ts = drop (star_count ts) ts

-- a declaration at the start begins with the head of a function or a prototype
unfoldable pub begins_head : List Lexeme → Bool
begins_head ts = is_void (keyword_at ts) || begins_call (past_stars (past_base ts))
