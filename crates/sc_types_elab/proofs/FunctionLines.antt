-- The lines of a function: those of its locals, and those of its body.
use Rattle.sc_types_elab.proofs.Common.{BrokenLines, ExprTree, FunctionScope, FunctionTree, GlobalTree, List, LocalTree}
use Rattle.sc_types_elab.proofs.Common.{None, OnOk, Option, Result, SectionScope, SectionTree, Some, Stands, StandsIn}
use Rattle.sc_types_elab.proofs.Common.{Suits, Ty, add-one, ap, arith, concat, drop, drop-step, drop_all}
use Rattle.sc_types_elab.proofs.Common.{function_type_lines, get_or, global_type_lines, init_fits, init_goes}
use Rattle.sc_types_elab.proofs.Common.{init_holds}
use Rattle.sc_types_elab.proofs.Common.{is_sized, length, typed_locals_from, map, on_ok, refl, scope_in}
use Rattle.sc_types_elab.proofs.Common.{stmt_type_lines, subst}
use Rattle.sc_types_elab.proofs.Common.{suc, sym, tags, then, type_of, typed_init, unless, visible, with_lines}
use Rattle.sc_types_elab.proofs.Common.{with_lines-append, with_lines-nil, ℕ, ◌&&◌, ◌+◌, ◌<◌, ◌∙◌, ◌≡◌, ◌≤◌}
use Rattle.sc_types_elab_expr.specs.Calls as calls
use Rattle.sc_types_elab.proofs.Functions.{seen}
use Rattle.sc_types_elab.proofs.Suiting.{suiting}

module _ (scope : SectionScope) (section : SectionTree) (stands : Stands scope section) where
  pub global_noted : (tree : GlobalTree) (a b : BrokenLines) → b ≡ with_lines a (unless (is_sized tree.ty &&
      init_holds (type_of scope.tags tree.ty) tree.init) tree.line) → b ≡ with_lines a (global_type_lines section tree)
  global_noted tree a b is = is ∙ ap (λ t. with_lines a
      (unless (is_sized tree.ty && init_holds (type_of t tree.ty) tree.init) tree.line)) stands.tags

module _ (scope : SectionScope) (section : SectionTree) (stands : Stands scope section) (tree : FunctionTree) where
  pub suits : (count : ℕ) (function : FunctionScope) → StandsIn section tree count function →
      Suits (visible scope function) (scope_in section tree)
  suits count function within = subst (λ v. Suits v (scope_in section tree))
      (sym (seen scope section stands tree count _ within)) (suiting section tree count)

  module _ (callees : calls.Callees) where
    abbrev after : ℕ → List ℕ
    after i = typed_locals_from section callees tree i (drop i tree.locals)

    begins : (i : ℕ) (function : FunctionScope) → StandsIn section tree (suc i) function →
        (t : Ty) (init : Option ExprTree) → init_goes (visible scope function) (scope_in section tree) t init ≡
        init_fits (scope_in section tree) t (typed_init section tree i t init)
    begins i function within t None = refl
    begins i function within t (Some init) =
        ap (λ v. init_goes v (scope_in section tree) t (Some init)) (seen scope section stands tree _ _ within)

    pub local_noted : (i : ℕ) (local : LocalTree) (function : FunctionScope) →
        i < length tree.locals → local ≡ get_or tree.locals i local → StandsIn section tree (i + 1) function →
        (a b whole : BrokenLines) → b ≡ with_lines a (unless (is_sized local.ty && init_goes (visible scope function)
        (scope_in section tree) (type_of scope.tags local.ty) local.init) local.line) →
        with_lines a (after i) ≡ whole → with_lines b (after (i + 1)) ≡ whole
    local_noted i local function h e within a b whole noted so =
        grind (arith, with_lines-append, add-one i, drop-step tree.locals i local h e, holds)
      where
        at : StandsIn section tree (suc i) function
        at = subst (λ n. StandsIn section tree n function) (add-one i) within

        holds : init_goes (visible scope function) (scope_in section tree) (type_of scope.tags local.ty) local.init ≡
            init_fits (scope_in section tree) (type_of (tags section) local.ty)
            (typed_init section tree i (type_of (tags section) local.ty) local.init)
        holds = ap (λ t. init_goes (visible scope function)
            (scope_in section tree) (type_of t local.ty) local.init) stands.tags
            ∙ begins i function at (type_of (tags section) local.ty) local.init

    pub locals_noted : (i : ℕ) (a whole : BrokenLines) → length tree.locals ≤ i → with_lines a (after i) ≡ whole →
        a ≡ whole
    locals_noted i a whole done so = cc (with_lines-nil a, drop_all i tree.locals done)

    pub function_noted : {E T : Type 0} (r : Result T E) (function : FunctionScope) →
        StandsIn section tree (length tree.locals) function → (a b c : BrokenLines) →
        b ≡ with_lines a (typed_locals_from section callees tree 0 tree.locals) →
        OnOk r (c ≡ with_lines b (concat (map (stmt_type_lines (visible scope function) callees
        (scope_in section tree) function.result) tree.body))) →
        OnOk r (c ≡ with_lines a (function_type_lines section callees tree))
    function_noted r function within a b c first = on_ok r (λ second. then a b c _ _ first
        (second ∙ (λ j. with_lines b (concat (map (stmt_type_lines (seen scope section stands tree _ _ within j) callees
        (scope_in section tree) (within.result j)) tree.body)))))
