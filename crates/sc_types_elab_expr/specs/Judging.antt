-- Helping: how expressions are judged while they are built.
use Rattle.sc_types_elab_expr.specs.Common.{Scope, has_member, is_type, variable_ty}
use Rattle.std.specs.Prelude.{◌≡◌, ℕ, true, false, List, Some, slice_get}
use Rattle.sc_types_elab_expr.specs.Scopes.{Visible, Found, variable_named}
use Rattle.sc_types_elab_expr.specs.Expressions.{no_ty}

-- The scope says of what is visible what was declared, and nothing there has the type of what isn't there.
pub record Suits (visible : Visible) (scope : Scope) : Type 0 where
  pub known : (name : List ℕ) (f : Found) → variable_named visible name ≡ Some f →
      is_type (variable_ty scope f.variable) f.ty ≡ true
  pub unknown : is_type (slice_get scope.globals 0) no_ty ≡ false
  pub structs : scope.structs ≡ visible.structs
  pub nothing : (n : ℕ) → has_member (slice_get visible.structs n) 0 no_ty ≡ false
