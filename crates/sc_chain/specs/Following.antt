-- Helping: the next link of a chain, where there is one.
use Rattle.sc_chain.specs.Common.{Blamed, Cause, Event, Interfaces, Link}
use Rattle.std.specs.Prelude.{◌≡◌, ℕ, ◌<◌, ◌≤◌, List, length, Option, None, Some}
use Rattle.sc_core.specs.declared.run.SourceRun.{SourceRun}
use Rattle.sc_chain.specs.Recompose.{performing_text}

-- the run is blamed so, before the end of the trace
pub record IsNextLink (interfaces : Interfaces) (trace : List Event) (run : SourceRun) (link : Link) : Type 0 where
  pub blamed : run.end ≡ Blamed link.comp link.cause link.line
  pub after : length run.trace ≡ link.after
  pub proper : link.after < length trace
  pub performs : link.text ≡ performing_text interfaces trace link.comp

-- the link, or none where the run isn't blamed before the end of the trace
abbrev pub IsNextOf : Interfaces → List Event → SourceRun → Option Link → Type 0
IsNextOf interfaces trace run None =
    (comp : ℕ) (cause : Cause) (line : ℕ) → run.end ≡ Blamed comp cause line → length trace ≤ length run.trace
IsNextOf interfaces trace run (Some link) = IsNextLink interfaces trace run link
