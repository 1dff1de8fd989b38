-- How declarations are spelled (C11 6.7, 6.9). Each declarator gives an entry, at the line of its declaration.
use Rattle.sc_parse.specs.Common.{BaseTree, ConstTree, Decl, ExprTree, FunctionHead, FunctionTree, HeadTree, InitTree}
use Rattle.sc_parse.specs.Common.{IsIdent, IsMark, Lexeme, LocalTree, MemberTree, Number, ParamTree, Spells, StmtTree}
use Rattle.sc_parse.specs.Common.{StructTree, TypeName, TypeTree, head_of, loosest_level}
use Rattle.std.specs.Prelude.{ℕ, true, false, List, [], ◌∷◌, ◌++◌, map, Option, Some, None}
use Rattle.sc_ast.specs.declared.section.InitTree.TheVariants as init
use Rattle.sc_ast.specs.declared.section.GlobalTree.{GlobalTree}
use Rattle.sc_ast.specs.declared.section.Decl.TheVariants as decl
use Rattle.sc_parse_expr.specs.declared.mark.Keyword.TheVariants as word
use Rattle.sc_parse_expr.specs.declared.mark.Mark.TheVariants as mark
use Rattle.sc_parse.specs.Lists.{IsKeyword, IsInteger, first_line, Separated, Grouped}
use Rattle.sc_parse.specs.Types.{SpellsBase, SpellsTypeName, SpellsDeclarator}
use Rattle.sc_parse.specs.Statements.{SpellsStmts}

-- a base, then what Item says of each declarator after it, with commas between them, then `;`
pub data Declares {A : Type 0} (Item : BaseTree → ℕ → List Lexeme → A → Type 0) : List Lexeme → List A → Type 0 where
  declares : {ts us : List Lexeme} {base : BaseTree} {xs : List A} (t : Lexeme) → IsMark mark.Semicolon t →
      SpellsBase ts base → Separated (Item base (first_line ts)) us xs → Declares Item (ts ++ (us ++ t ∷ [])) xs

abbrev pub IsMember : BaseTree → ℕ → List Lexeme → MemberTree → Type 0
IsMember base line ts tree = SpellsDeclarator base ts tree.ty tree.name

pub data SpellsStruct : List Lexeme → StructTree → Type 0 where
  struct : {ts us : List Lexeme} {members others : List MemberTree} (t u v w x : Lexeme) (tag : List ℕ) →
      IsKeyword word.Struct t → IsIdent tag u → IsMark mark.OpenCurly v → IsMark mark.CloseCurly w →
      IsMark mark.Semicolon x → Declares IsMember ts members → Grouped (Declares IsMember) us others →
      SpellsStruct (t ∷ u ∷ v ∷ (ts ++ (us ++ w ∷ x ∷ [])))
      (record { name = tag; members = members ++ others; line = t.line })

-- An integer constant, with or without a `-` before it.
pub data SpellsConst : List Lexeme → ConstTree → Type 0 where
  plain : (t : Lexeme) (number : Number) → IsInteger number t →
      SpellsConst (t ∷ []) (record { negative = false; literal = number })
  negated : (t u : Lexeme) (number : Number) → IsMark mark.Minus t → IsInteger number u →
      SpellsConst (t ∷ u ∷ []) (record { negative = true; literal = number })

-- The initialiser of a global; a comma may follow the last constant of a list.
pub data SpellsInit : List Lexeme → InitTree → Type 0 where
  absent : SpellsInit [] init.Absent
  one : {ts : List Lexeme} {value : ConstTree} (t : Lexeme) → IsMark mark.Equal t → SpellsConst ts value →
      SpellsInit (t ∷ ts) (init.One value)
  many : {ts : List Lexeme} {values : List ConstTree} (t u v : Lexeme) → IsMark mark.Equal t → IsMark mark.OpenCurly u →
      IsMark mark.CloseCurly v → Separated SpellsConst ts values →
      SpellsInit (t ∷ u ∷ (ts ++ v ∷ [])) (init.Many values)
  many_comma : {ts : List Lexeme} {values : List ConstTree} (t u v w : Lexeme) → IsMark mark.Equal t →
      IsMark mark.OpenCurly u → IsMark mark.Comma v → IsMark mark.CloseCurly w → Separated SpellsConst ts values →
      SpellsInit (t ∷ u ∷ (ts ++ v ∷ w ∷ [])) (init.Many values)

pub data IsGlobal (base : BaseTree) (line : ℕ) : List Lexeme → GlobalTree → Type 0 where
  global : {ts us : List Lexeme} {ty : TypeTree} {name : List ℕ} {value : InitTree} → SpellsDeclarator base ts ty name →
      SpellsInit us value → IsGlobal base line (ts ++ us) (record { ty = ty; name = name; init = value; line = line })

-- A parameter, whose name may be left out.
pub data SpellsParam : List Lexeme → ParamTree → Type 0 where
  named : {ts : List Lexeme} {ty : TypeName} (t : Lexeme) (name : List ℕ) → IsIdent name t → SpellsTypeName ts ty →
      SpellsParam (ts ++ t ∷ []) (record { ty = ty; name = Some name })
  nameless : {ts : List Lexeme} {ty : TypeName} → SpellsTypeName ts ty →
      SpellsParam ts (record { ty = ty; name = None })

-- Parameters, or `void` for none.
pub data SpellsParams : List Lexeme → List ParamTree → Type 0 where
  no_params : (t : Lexeme) → IsKeyword word.Void t → SpellsParams (t ∷ []) []
  some_params : {ts : List Lexeme} {params : List ParamTree} → Separated SpellsParam ts params → SpellsParams ts params

-- The type of a result, or `void` for none.
pub data SpellsResult : List Lexeme → Option TypeName → Type 0 where
  no_result : (t : Lexeme) → IsKeyword word.Void t → SpellsResult (t ∷ []) None
  a_result : {ts : List Lexeme} {ty : TypeName} → SpellsTypeName ts ty → SpellsResult ts (Some ty)

pub data SpellsHead : List Lexeme → HeadTree → Type 0 where
  head : {ts us : List Lexeme} {result : Option TypeName} {params : List ParamTree} (t u v : Lexeme) (name : List ℕ) →
      IsIdent name t → IsMark mark.OpenParen u → IsMark mark.CloseParen v → SpellsResult ts result →
      SpellsParams us params → SpellsHead (ts ++ t ∷ u ∷ (us ++ v ∷ []))
      (record { result = result; name = name; params = params; line = first_line ts })

-- What a local begins with.
pub data SpellsValue : List Lexeme → Option ExprTree → Type 0 where
  no_value : SpellsValue [] None
  a_value : {ts : List Lexeme} {value : ExprTree} (t : Lexeme) → IsMark mark.Equal t → Spells loosest_level ts value →
      SpellsValue (t ∷ ts) (Some value)

pub data IsLocal (base : BaseTree) (line : ℕ) : List Lexeme → LocalTree → Type 0 where
  local : {ts us : List Lexeme} {ty : TypeTree} {name : List ℕ} {value : Option ExprTree} →
      SpellsDeclarator base ts ty name → SpellsValue us value →
      IsLocal base line (ts ++ us) (record { ty = ty; name = name; init = value; line = line })

-- A function: its head, whose parameters all have names, and in braces its locals and its statements.
pub data SpellsFunction : List Lexeme → FunctionTree → Type 0 where
  function : {ts us vs : List Lexeme} {head : FunctionHead} {locals : List LocalTree} {body : List StmtTree}
      (t u : Lexeme) → IsMark mark.OpenCurly t → IsMark mark.CloseCurly u → SpellsHead ts (head_of head) →
      Grouped (Declares IsLocal) us locals → SpellsStmts vs body →
      SpellsFunction (ts ++ t ∷ (us ++ (vs ++ u ∷ [])))
      (record { head = head; locals = locals; body = body; close_line = u.line })

-- A declaration, which gives one entry, or one for each global.
pub data SpellsDecl : List Lexeme → List Decl → Type 0 where
  a_struct : {ts : List Lexeme} {tree : StructTree} → SpellsStruct ts tree → SpellsDecl ts (decl.Struct tree ∷ [])
  globals : {ts : List Lexeme} {trees : List GlobalTree} → Declares IsGlobal ts trees →
      SpellsDecl ts (map (λ tree. decl.Global tree) trees)
  prototype : {ts : List Lexeme} {tree : HeadTree} (t : Lexeme) → IsMark mark.Semicolon t → SpellsHead ts tree →
      SpellsDecl (ts ++ t ∷ []) (decl.Proto tree ∷ [])
  a_function : {ts : List Lexeme} {tree : FunctionTree} → SpellsFunction ts tree →
      SpellsDecl ts (decl.Function tree ∷ [])
