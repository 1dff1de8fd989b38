-- Structs and their members, one after another.
use Rattle.sc_types_elab.proofs.Common.{Decl, List, None, Option, StructTree, TypedStruct, [], ap, cons_option, drop}
use Rattle.sc_types_elab.proofs.Common.{drop-step, drop_all, get_or, length, refl, structs_in, sym, typed_struct}
use Rattle.sc_types_elab.proofs.Common.{typed_structs, ℕ, ◌++◌, ◌+◌, ◌<◌, ◌∙◌, ◌∷◌, ◌≡◌, ◌≤◌}

module _ (tags : List (List ℕ)) where
  pub no_structs : (structs : List TypedStruct) → typed_structs tags structs [] ≡ structs
  unfolding typed_structs
  no_structs structs = refl

  pub one_struct : (structs : List TypedStruct) (tree : StructTree) →
      typed_structs tags structs (tree ∷ []) ≡ structs ++ typed_struct tags structs tree ∷ []
  unfolding typed_structs
  one_struct structs tree = refl

  structs-cons : (structs : List TypedStruct) (decl : Decl) (decls : List Decl) →
      typed_structs tags structs (structs_in (decl ∷ decls)) ≡
      typed_structs tags (typed_structs tags structs (structs_in (decl ∷ []))) (structs_in decls)
  unfolding typed_structs
  structs-cons structs decl decls = by _ where
    by : (o : Option StructTree) → typed_structs tags structs (cons_option o (structs_in decls)) ≡
        typed_structs tags (typed_structs tags structs (cons_option o [])) (structs_in decls)
    by None = refl
    by _ = refl

  -- one more declaration is looked at
  pub structs_more : (decls : List Decl) (i : ℕ) (decl : Decl) (done more whole : List TypedStruct) → i < length decls →
      decl ≡ get_or decls i decl → more ≡ typed_structs tags done (structs_in (decl ∷ [])) → typed_structs tags done
      (structs_in (drop i decls)) ≡ whole → typed_structs tags more (structs_in (drop (i + 1) decls)) ≡ whole
  structs_more decls i decl done more whole h e m k =
      ap (λ s. typed_structs tags s (structs_in (drop (i + 1) decls))) m ∙ sym (structs-cons done decl
      (drop (i + 1) decls)) ∙ sym (ap (λ l. typed_structs tags done (structs_in l)) (drop-step decls i decl h e)) ∙ k

  -- all are looked at
  pub structs_end : (decls : List Decl) (i : ℕ) (done whole : List TypedStruct) → length decls ≤ i →
      typed_structs tags done (structs_in (drop i decls)) ≡ whole → done ≡ whole
  structs_end decls i done whole h k =
      sym (no_structs done) ∙ sym (ap (λ l. typed_structs tags done (structs_in l)) (drop_all i decls h)) ∙ k

pub ruleset few_structs = (no_structs, one_struct)
