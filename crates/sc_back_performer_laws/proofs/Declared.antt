-- What is found among the declarations of a performing section: prototypes, the counter and functions.
use Rattle.sc_back_performer_laws.proofs.Common.{Decl, Function, FunctionTree, Global, GlobalTree, HeadTree, List, []}
use Rattle.sc_back_performer_laws.proofs.Common.{ap, function_decls, globals_in, head_of, heads_in, map, protos_in}
use Rattle.sc_back_performer_laws.proofs.Common.{refl}
use Rattle.sc_back_performer_laws.proofs.Common.{structs_in, ◌++◌, ◌∷◌, ◌≡◌}
use Rattle.sc_ast.specs.declared.section.Decl.TheVariants.{Proto}

-- prototypes, a global and functions
abbrev pub decls_of : List HeadTree → GlobalTree → List FunctionTree → List Decl
decls_of heads global functions = map Proto heads ++ Global global ∷ map Function functions

-- only prototypes

pub protos_structs : (heads : List HeadTree) → structs_in (map Proto heads) ≡ []
protos_structs [] = refl
protos_structs (h ∷ heads) = protos_structs heads

pub protos_globals : (heads : List HeadTree) → globals_in (map Proto heads) ≡ []
protos_globals [] = refl
protos_globals (h ∷ heads) = protos_globals heads

pub protos_functions : (heads : List HeadTree) → function_decls (map Proto heads) ≡ []
protos_functions [] = refl
protos_functions (h ∷ heads) = protos_functions heads

pub protos_protos : (heads : List HeadTree) → protos_in (map Proto heads) ≡ heads
protos_protos [] = refl
protos_protos (h ∷ heads) = ap (λ x. h ∷ x) (protos_protos heads)

-- only functions

functions_structs : (trees : List FunctionTree) → structs_in (map Function trees) ≡ []
functions_structs [] = refl
functions_structs (t ∷ trees) = functions_structs trees

functions_globals : (trees : List FunctionTree) → globals_in (map Function trees) ≡ []
functions_globals [] = refl
functions_globals (t ∷ trees) = functions_globals trees

functions_functions : (trees : List FunctionTree) → function_decls (map Function trees) ≡ trees
functions_functions [] = refl
functions_functions (t ∷ trees) = ap (λ x. t ∷ x) (functions_functions trees)

functions_protos : (trees : List FunctionTree) → protos_in (map Function trees) ≡ []
functions_protos [] = refl
functions_protos (t ∷ trees) = functions_protos trees

abbrev pub heads_of : List FunctionTree → List HeadTree
heads_of trees = map (λ tree. head_of tree.head) trees

functions_heads : (trees : List FunctionTree) → heads_in (map Function trees) ≡ heads_of trees
functions_heads [] = refl
functions_heads (t ∷ trees) = ap (λ x. head_of t.head ∷ x) (functions_heads trees)

-- all of them

pub all_structs : (heads : List HeadTree) (global : GlobalTree) (trees : List FunctionTree) →
    structs_in (decls_of heads global trees) ≡ []
all_structs [] global trees = functions_structs trees
all_structs (h ∷ heads) global trees = all_structs heads global trees

pub all_globals : (heads : List HeadTree) (global : GlobalTree) (trees : List FunctionTree) →
    globals_in (decls_of heads global trees) ≡ global ∷ []
all_globals [] global trees = ap (λ x. global ∷ x) (functions_globals trees)
all_globals (h ∷ heads) global trees = all_globals heads global trees

pub all_functions : (heads : List HeadTree) (global : GlobalTree) (trees : List FunctionTree) →
    function_decls (decls_of heads global trees) ≡ trees
all_functions [] global trees = functions_functions trees
all_functions (h ∷ heads) global trees = all_functions heads global trees

pub all_protos : (heads : List HeadTree) (global : GlobalTree) (trees : List FunctionTree) →
    protos_in (decls_of heads global trees) ≡ heads
all_protos [] global trees = functions_protos trees
all_protos (h ∷ heads) global trees = ap (λ x. h ∷ x) (all_protos heads global trees)

pub all_heads : (heads : List HeadTree) (global : GlobalTree) (trees : List FunctionTree) →
    heads_in (decls_of heads global trees) ≡ heads ++ heads_of trees
all_heads [] global trees = functions_heads trees
all_heads (h ∷ heads) global trees = ap (λ x. h ∷ x) (all_heads heads global trees)
