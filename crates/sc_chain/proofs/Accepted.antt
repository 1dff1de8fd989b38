-- A text in which compartments perform their parts of a trace is accepted, and means what their scripts say.
use Rattle.sc_chain.proofs.Common.{Accepts, All, All-from_recursion, AllByRecursion, Blamed, Bool, Cause, Event}
use Rattle.sc_chain.proofs.Common.{HasWords, Interfaces, IsRecomposed, IsReplay, IsSource, IsSplitInto, IsTyped}
use Rattle.sc_chain.proofs.Common.{IsWellTyped, List, ProgramTree, Reads, Row, SourceParts, [], ap, concat}
use Rattle.sc_chain.proofs.Common.{false, legal, length, meaning, new_texts, part, performing, recomposed}
use Rattle.sc_chain.proofs.Common.{recursion_from_All, refl, scripted_meaning, subst, sym, true, ℕ, ◌++◌, ◌<◌, ◌∙◌, ◌∷◌}
use Rattle.sc_chain.proofs.Common.{◌≡◌, ◌≤◌}
use Rattle.sc_types_elab.specs.Prelude.{program_of}
use Rattle.sc_ast.specs.declared.section.ImportLine.{ImportLine}
use Rattle.sc_ast.specs.declared.section.SectionTree.{SectionTree}
use Rattle.sc_types.proofs.Whole.{well_typed}
use Rattle.sc_back_replay_laws.proofs.Replays.{texts_perform}
use Rattle.sc_back_reread_laws.specs.Names.{IsNamedImport, IsNamedSection}
use Rattle.sc_back_reread_laws.specs.Replaced.{IsReplacement, IsReread, texts_of}
use Rattle.sc_back_reread_laws.proofs.Names.{names_are_identifiers}
use Rattle.sc_back_reread_laws.proofs.Replaced.{replaced_texts}
use Rattle.sc_back_performer_laws.specs.Performing.{IsFromSo, IsNamed, PerformsPart}
use Rattle.sc_back_performer_laws.specs.Recomposed.{IsPerformable}
use Rattle.sc_back_performer_laws.proofs.PartsPerform.{parts_perform}
use Rattle.sc_back_performer_laws.proofs.Recomposed.{recomposed_hold}
use Rattle.sc_types.proofs.Sources.{interfaces_length}
use Rattle.sc_types.proofs.Verdicts.{reads_low}

-- what names of trees that were read are
from_so : (lines : List ImportLine) → AllByRecursion IsNamedImport lines → AllByRecursion IsFromSo lines
from_so [] h = tt
from_so (line ∷ lines) h = (h.0.comp, from_so lines h.1)

named_so : (trees : List SectionTree) → AllByRecursion IsNamedSection trees → AllByRecursion IsNamed trees
named_so [] h = tt
named_so (tree ∷ trees) h = (
  record {
    name = h.0.name;
    comps = All-from_recursion IsFromSo tree.imports
        (from_so tree.imports (recursion_from_All IsNamedImport tree.imports h.0.imports));
    heads = h.0.heads;
  },
  named_so trees h.1,
)

module _ (source : SourceParts) (trace : List Event) (is : IsSource source)
    (allowed : legal source.program.interfaces trace ≡ true) (few : length trace ≤ 4096)
    (words : All HasWords trace) where
  abbrev trees : List SectionTree
  trees = is.accepted.sections

  abbrev interfaces : Interfaces
  interfaces = source.program.interfaces

  abbrev rows : ℕ → List Row
  rows comp = part interfaces.main comp trace

  pub performable : IsPerformable source.program trace
  performable = record { is_legal = allowed; words = words; few = few }

  pub named : All IsNamed trees
  named =
      All-from_recursion IsNamed trees (named_so trees
      (recursion_from_All IsNamedSection trees (names_are_identifiers source.bytes trees is.accepted.reads)))

  pub typed : IsWellTyped source.program
  typed =
      subst IsWellTyped (sym is.accepted.typed.is)
      (well_typed trees (reads_low source.bytes trees is.accepted.reads) is.accepted.typed.names
      is.accepted.typed.types is.accepted.typed.interfaces is.accepted.typed.counts)

  pub as_many : length interfaces.comps ≡ length trees
  as_many = ap (λ (p : ProgramTree). length p.interfaces.comps) is.accepted.typed.is ∙ interfaces_length trees 0 trees

  module _ (set : ℕ → Bool) (within : (comp : ℕ) → set comp ≡ true → comp < length interfaces.comps) where
    pub replacement : IsReplacement interfaces rows set (performing interfaces trace set) (length trees)
    replacement = record {
      texts = λ comp. refl;
      can = λ comp below own.
          (let p : PerformsPart source.program trace comp =
          parts_perform trees source.program trace is.accepted.typed named performable comp below in
          record { interface = p.interface; at = p.at; can = p.can });
    }

    pub reread : IsReread source.preamble
        (new_texts (performing interfaces trace set) 0 (texts_of is.split.found)) interfaces rows set trees
    reread =
        replaced_texts source.bytes source.preamble is.split.found trees is.split.split is.accepted.reads interfaces
        rows set (performing interfaces trace set) replacement

    pub hold : IsTyped reread.others (program_of reread.others) ×
        IsRecomposed source.program (program_of reread.others) set trace
    hold =
        recomposed_hold trees reread.others source.program set trace (record {
          typed = is.accepted.typed;
          performable = performable;
          within = λ comp own. subst (λ n. comp < n) as_many (within comp own);
          become = reread.become;
        })

    abbrev pub program : ProgramTree
    program = program_of reread.others

    pub accepted : Accepts (recomposed source trace set) program
    accepted = record {
      sections = reread.others;
      reads = subst (λ s. Reads (source.preamble ++ concat (new_texts (performing interfaces trace set) 0 s))
          reread.others) (sym is.split.bytes) reread.reads;
      typed = hold.0;
    }

    pub split_so : IsSplitInto (recomposed source trace set) source.preamble
        (new_texts (performing interfaces trace set) 0 source.sections)
    split_so =
        subst (λ s. IsSplitInto (source.preamble ++ concat (new_texts (performing interfaces trace set) 0 s))
        source.preamble (new_texts (performing interfaces trace set) 0 s)) (sym is.split.bytes)
        (record { found = reread.found; split = reread.split; bytes = sym reread.bytes })

    pub replay : IsReplay source.program program set trace
    replay = record { typed = typed; is_legal = allowed; words = words; recomposed = hold.1 }

    pub same_interfaces : program.interfaces ≡ interfaces
    same_interfaces = hold.1.interfaces

    pub means : (inputs : List ℕ) (turns events : ℕ) →
        meaning program inputs turns events ≡ scripted_meaning source.program set trace inputs turns events
    means = texts_perform.replays source.program program set trace replay

    pub blames : (inputs : List ℕ) (turns events comp : ℕ) (cause : Cause) (line : ℕ) →
        (meaning program inputs turns events).end ≡ Blamed comp cause line → set comp ≡ false
    blames = texts_perform.blame source.program program set trace replay

-- for every set of the program's compartments
pub recomposed_means : (source : SourceParts) (trace : List Event) → IsSource source →
    legal source.program.interfaces trace ≡ true → length trace ≤ 4096 → All HasWords trace → (set : ℕ → Bool) →
    ((comp : ℕ) → set comp ≡ true → comp < length source.program.interfaces.comps) →
    (program : ProgramTree) × Accepts (recomposed source trace set) program ×
    ((inputs : List ℕ) (turns events : ℕ) →
    meaning program inputs turns events ≡ scripted_meaning source.program set trace inputs turns events)
recomposed_means source trace is allowed few words set within = (
  program source trace is allowed few words set within,
  accepted source trace is allowed few words set within,
  means source trace is allowed few words set within,
)
