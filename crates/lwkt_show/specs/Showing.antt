-- What is shown of a run (own).
use Rattle.std.specs.Prelude.{◌≡◌, ◌<◌, ◌≤◌, ℕ, length, List, Option, None, Some}
use Rattle.lwkt_base.specs.declared.faults.Fault.{Fault}
use Rattle.lwkt_run.specs.Run.{DeclinesAlong, DeclinesRun, IsOrderRun, IsTurnsRun, end_of_closing}
use Rattle.lwkt_run.specs.Threaded.{IsThreadRecord, lets_all}
use Rattle.lwkt_run.specs.declared.runs.End.{End}
use Rattle.lwkt_run.specs.declared.runs.TurnsRun.{TurnsRun}
use Rattle.lwkt_run.specs.declared.threaded.ThreadRecord.{ThreadRecord}
use Rattle.lwkt_script.specs.declared.scripts.Script.{Script}
use Rattle.lwkt_text.specs.declared.tables.Names.{Names}
use Rattle.lwkt_show.specs.Lines.{AreLinesOf}
use Rattle.lwkt_show.specs.Shown.{first_turn}
use Rattle.lwkt_trace.specs.Written.{trace_text}
use Rattle.lwkt_show.specs.declared.options.Options.{Options}
use Rattle.lwkt_show.specs.declared.options.Rendering.{Rendering}
use Rattle.lwkt_show.specs.declared.options.Rendering.TheVariants.{Lines, Trace, Picture, Chains, Player, Timeline}

-- the lines of a run in rounds, or along an order, in the names of a text or in numbers: of each turn that the options choose its line, one behind another, then some words,
-- and then the run's report
abbrev pub ShowsLines : Option Names → Options → Option (List ℕ) → Script → TurnsRun → List ℕ → Type 0
ShowsLines names options order script run text = AreLinesOf names options order script run.polls.items run.turns.items run.closing text

-- what is said of a text that shows what was kept: it has the lines of the chosen turns, and ends with the report; a trace is the text of
-- the script's opening, of all events and of what the report closes with; of the other views nothing is said
abbrev pub ShowsBy : Option Names → Rendering → Options → Option (List ℕ) → Script → TurnsRun → List ℕ → Type 0
ShowsBy names Lines options order script run text = ShowsLines names options order script run text
ShowsBy names Trace options order script run text = text ≡ trace_text script run.trace.items run.closing
ShowsBy names Picture options order script run text = Unit {0}
ShowsBy names Chains options order script run text = Unit {0}
ShowsBy names Player options order script run text = Unit {0}
ShowsBy names Timeline options order script run text = Unit {0}

-- the same of the view that the options name
abbrev pub ShowsAs : Option Names → Options → Option (List ℕ) → Script → TurnsRun → List ℕ → Type 0
ShowsAs names options order script run text = ShowsBy names options.rendering options order script run text

-- all that was kept of a run of the script, in rounds or along this order
abbrev pub IsRunOf : Script → Option (List ℕ) → TurnsRun → Type 0
IsRunOf script None run = IsTurnsRun script run
IsRunOf script (Some order) run = IsOrderRun script order run

-- why such a run is refused
abbrev pub DeclinesShow : Script → Option (List ℕ) → Fault → Type 0
DeclinesShow script None fault = DeclinesRun script fault
DeclinesShow script (Some order) fault = DeclinesAlong script order fault

-- a run made no more turns than stand before the first one that was chosen
abbrev pub IsPast : Options → Script → TurnsRun → Type 0
IsPast options script run = length run.turns.items ≤ first_turn options.counted options.first script.cpus

-- a run ended before the first turn that was chosen; along an order this isn't said of the first turn of all
abbrev pub EndsBefore : Options → Option (List ℕ) → Script → TurnsRun → Type 0
EndsBefore options None script run = IsPast options script run
EndsBefore options (Some order) script run = (0 < options.first) × IsPast options script run

-- there is a run of the script, in rounds or along this order, with all that was kept of it, that ends so, and the text shows it as the
-- options say; it hadn't ended before the first turn that was chosen
pub record IsShown (names : Option Names) (options : Options) (order : Option (List ℕ)) (script : Script) (end : End) (text : List ℕ) : Type 0 where
  pub run : TurnsRun
  pub is_run : IsRunOf script order run
  pub not_before : ¬ EndsBefore options order script run
  pub is_end : end ≡ end_of_closing run.closing
  pub shows : ShowsAs names options order script run text

-- there is a run of the script, in rounds or along this order, that ended before the first turn that was chosen
pub record EndsBeforeChosen (options : Options) (order : Option (List ℕ)) (script : Script) : Type 0 where
  pub run : TurnsRun
  pub is_run : IsRunOf script order run
  pub before : EndsBefore options order script run

-- there is a run of the script on threads, with the written sections that were named of it in order, that ends so; that the text shows
-- these sections is not said
pub record IsShownOnThreads (script : Script) (end : End) (text : List ℕ) : Type 0 where
  pub kept : ThreadRecord
  pub is_run : IsThreadRecord lets_all script kept
  pub is_end : end ≡ end_of_closing kept.closing
