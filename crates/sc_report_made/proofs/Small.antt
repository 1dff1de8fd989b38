-- The sections of a made text are small.
use Rattle.sc_report_made.proofs.Common.{AllByRecursion, AreSmall, Callees, FunctionLines, FunctionTree, IsAsked}
use Rattle.sc_report_made.proofs.Common.{IsSmall, List, SectionTree, StmtTree, all_functions, ap, arith, callees_of}
use Rattle.sc_report_made.proofs.Common.{cells_of, frame_bound, function-nodes, function_at, worker_functions, main_at}
use Rattle.sc_report_made.proofs.Common.{map}
use Rattle.sc_report_made.proofs.Common.{nodes, numbers_from, program_of, refl, sections_from, structs, subst, suc, sym}
use Rattle.sc_report_made.proofs.Common.{tags, total, typed_function, typed_global, typed_section, variables, workers}
use Rattle.sc_report_made.proofs.Common.{ℕ, ◌≡◌, ◌≤◌}
use Rattle.std.proofs.lemmas.List.Elements.{All-from_recursion}
use Rattle.sc_core.specs.declared.section.TypedFunction.{TypedFunction}
use Rattle.sc_core.specs.declared.section.TypedGlobal.{TypedGlobal}
unfoldable use Rattle.sc_types_elab.specs.Prelude.{typed_locals}
use Rattle.sc_report_made.proofs.MainCounts as main_counts
use Rattle.sc_report_made.proofs.Shapes.{AreFunctions, AreMade, AreWorkers, IsMain, IsWorker, and_function, and_worker}
use Rattle.sc_report_made.proofs.Shapes.{no_functions, no_workers}
use Rattle.sc_report_made.proofs.Shares.{numbers_length}
use Rattle.sc_report_made.proofs.Signatures as signatures
use Rattle.sc_report_made.proofs.TreeNodes.{main_nodes, worker_nodes}
use Rattle.sc_report_made.proofs.WorkerCounts.{nodes_within}
use Rattle.sc_report_made.proofs.WorkerSections.{functions_are, one_global}

module _ (section : SectionTree) (callees : Callees) where
  abbrev typed : FunctionTree → TypedFunction
  typed = typed_function section callees

  abbrev HasSmallFrame : TypedFunction → Type 0
  HasSmallFrame f = frame_bound (variables (structs section) f) (nodes f) ≤ 32768

  -- `main` has one local, a function of a worker a parameter and two locals
  main_cells : (head local close : ℕ) (body : List StmtTree) →
      total (variables (structs section) (typed (main_at head local close body))) ≡ 1
  unfolding typed_locals
  main_cells head local close body = refl

  worker_cells : (seed j : ℕ) (lines : FunctionLines) →
      total (variables (structs section) (typed (function_at seed j lines))) ≡ 3
  unfolding typed_locals
  worker_cells seed j lines = refl

  worker_frame : (seed j : ℕ) (lines : FunctionLines) → HasSmallFrame (typed (function_at seed j lines))
  worker_frame seed j lines =
      omega (
        arith,
        worker_cells seed j lines,
        function-nodes section callees (function_at seed j lines),
        worker_nodes seed j lines,
      )

  worker_frames : (seed : ℕ) (js : List ℕ) (trees : List FunctionTree) → AreFunctions seed js trees →
      AllByRecursion HasSmallFrame (map typed trees)
  worker_frames seed js trees no_functions = tt
  worker_frames seed js trees (and_function j lines others more rest) =
      (worker_frame seed j lines, worker_frames seed others more rest)

  -- the cells of the globals of a section with these
  abbrev cells : List TypedGlobal → ℕ
  cells globals = total (map {A = TypedGlobal} (λ global. cells_of (structs section) global.ty) globals)

module _ (size seed : ℕ) (few : size ≤ 1000) where
  module _ (section : SectionTree) (main : IsMain size seed section) (callees : Callees) where
    abbrev tree : FunctionTree
    tree = signatures.tree_of size seed section main

    main_frame : HasSmallFrame section callees (typed section callees tree)
    main_frame =
        omega (
          arith,
          few,
          main_cells section callees main.head_line main.local_line main.close_line main.body,
          function-nodes section callees tree,
          main_nodes seed (all_functions size) main.head_line main.local_line main.close_line main.body main.body_is,
          numbers_length 0 size,
        )

    main_small : IsSmall (typed_section section callees)
    main_small = record {
      cells =
          let none = ap (λ x. cells section callees (map (typed_global (tags section)) x))
          (signatures.no_globals size seed section main) in omega (arith, none);
      frames = All-from_recursion (HasSmallFrame section callees) _ (subst (λ x. AllByRecursion
          (HasSmallFrame section callees) (map (typed section callees) x))
          (sym (signatures.functions_are size seed section main)) (main_frame, tt));
      nodes = let is = main_counts.nodes_are size seed few section main callees in omega (arith, is, few);
    }

  module _ (i : ℕ) (section : SectionTree) (worker : IsWorker size seed i section) (callees : Callees) where
    worker_small : IsSmall (typed_section section callees)
    worker_small = record {
      cells =
          let one = ap (λ x. cells section callees (map (typed_global (tags section)) x))
          (one_global size seed i section worker) in omega (arith, one);
      frames = All-from_recursion (HasSmallFrame section callees) _ (subst (λ x. AllByRecursion
          (HasSmallFrame section callees) (map (typed section callees) x))
          (sym (functions_are size seed i section worker))
          (worker_frames section callees seed (worker_functions size i) worker.functions worker.functions_are));
      nodes = let is = nodes_within size seed i few section worker callees in omega (arith, is);
    }

  module _ (sections : List SectionTree) where
    workers_small : (k : ℕ) (is : List ℕ) (others : List SectionTree) → AreWorkers size seed is others →
        AllByRecursion IsSmall (sections_from sections k others)
    workers_small k is others no_workers = tt
    workers_small k is others (and_worker i section more rest worker are) =
        (worker_small i section worker (callees_of sections k section), workers_small (suc k) more rest are)

    all_small : AreMade size seed sections → AllByRecursion IsSmall (sections_from sections 0 sections)
    all_small made =
        subst (λ x. AllByRecursion IsSmall (sections_from sections 0 x)) (sym made.are) (
          main_small made.main made.main_is (callees_of sections 0 made.main),
          workers_small 1 (numbers_from 0 (workers size)) made.others made.others_are,
        )

pub are_small : (size seed : ℕ) → IsAsked size seed → (sections : List SectionTree) → AreMade size seed sections →
    AreSmall (program_of sections)
are_small size seed asked sections made =
    All-from_recursion IsSmall (sections_from sections 0 sections) (all_small size seed asked.few sections made)
