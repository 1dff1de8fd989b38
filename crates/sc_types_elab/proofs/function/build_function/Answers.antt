-- The function over its parts.
use Rattle.sc_types_elab.proofs.Functions.{function_kept}
use Rattle.sc_types_elab.proofs.function.build_function.Goals as goal

pub returns : goal.returns
returns c =
    function_kept c.args.scope.now c.args.section.now c.requires c.args.tree.now c.in_ok-function.function
    c.in_ok-function.ensures.stands _ (λ j. record {
      name = c.name.ensures.value j;
      params = c.into_list.ensures j;
      locals = c.in_ok-function.ensures.locals j;
      result = c.in_ok-function.function.result;
      body = c.in_ok-body.ensures j;
      close_line = c.args.tree.now.close_line;
    })
